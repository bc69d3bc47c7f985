-- worlds in which one thing is changed
use Rattle.std.proofs.Common.{◌≡◌, ℕ, ◌<◌, ◌≤◌, Bool, List, Option, length, get_or, refl, ap, ◌∙◌}
use Rattle.std.proofs.lemmas.List.{take_more}
use Rattle.std.proofs.Common.{take, ◌++◌, ◌∷◌, []}
use Rattle.std.proofs.Common.{sym, subst, ◌+◌, arith, inl, inr}
use Rattle.std.proofs.lemmas.Bool.{cases_eq, cases_lt}
use Rattle.std.specs.Prelude.{slice_set, unwrap_or}
use Rattle.std.proofs.lemmas.List.{get_or_default, get_or_past, set-get_or, set_past}
use Rattle.walk_rules.specs.Scene.{Group, no_group}
use Rattle.walk_rules.specs.declared.walk.Walk.{Walk}
use Rattle.walk_rules.specs.declared.walk.WalkKind.{WalkKind}
use Rattle.walk_rules.specs.declared.walk.WalkKind.TheVariants as kinds
use Rattle.walk_rules.specs.declared.walk.Stage.TheVariants as stages
use Rattle.tm_base.specs.declared.names.Class.{Class}
use Rattle.wheel_core.specs.declared.item.Item.{Item}
use Rattle.std.proofs.Common.{zero, suc, Some}
use Rattle.core_world.specs.Steps.{first_moved, giver, moved_with, taker}
use Rattle.core_world.specs.Steps.{begins, finished, with_walk}
use Rattle.core_world.specs.World.{CpuRecord, World, cpu_of, group_of, moved, no_cpu, own, stale_if}
use Rattle.core_parts.specs.declared.change.GroupChange.{GroupChange}
use Rattle.core_parts.specs.declared.status.CpuStatus.{CpuStatus}
use Rattle.core_parts.specs.Changes.{changed}
use Rattle.core_parts.specs.Status.{finished_status, record_of, status_of, with_status}
use Rattle.core_parts.proofs.Readings.{same_timers}
use Rattle.plain_world.specs.Worlds.{with_group, with_stale}

-- what is read at an index in range
pub cpu_read : (cpus : List CpuRecord) (c i : ℕ) (x : CpuRecord) → i ≡ c → c < length cpus
    → x ≡ get_or cpus i x → get_or cpus c no_cpu ≡ x
cpu_read cpus c i x same low is =
    get_or_default cpus c no_cpu x low ∙ (ap (λ k. get_or cpus k x) (sym same) ∙ sym is)

pub group_read : (groups : List Group) (g i : ℕ) (x : Group) → i ≡ g → g < length groups
    → x ≡ get_or groups i x → get_or groups g no_group ≡ x
group_read groups g i x same low is =
    get_or_default groups g no_group x low ∙ (ap (λ k. get_or groups k x) (sym same) ∙ sym is)

-- a CPU that isn't there
pub cpu_past : (w : World) (d : ℕ) → length w.cpus ≤ d → cpu_of w d ≡ no_cpu
cpu_past w d past = get_or_past w.cpus d no_cpu past

-- what is known of each CPU below a number, with one more
pub one_more_each : (P : ℕ → Type 0) (n d : ℕ) → d < n + 1 → ((k : ℕ) → k < n → P k) → P n → P d
one_more_each P n d low before here = elim (cases_eq d n) [
  | inl is ↦ subst P (sym is) here
  | inr apart ↦ before d (omega (arith, low, apart))
]

-- what is known of each CPU that there is, and of one that isn't
pub each_and_past : (P : CpuRecord → ℕ → Type 0) (w : World) (n d : ℕ) → n ≡ length w.cpus
    → ((k : ℕ) → k < n → P (cpu_of w k) k) → P no_cpu d → P (cpu_of w d) d
each_and_past P w n d all before past = elim (cases_lt d n) [
  | inl low ↦ before d low
  | inr high ↦ subst (λ y. P y d) (sym (cpu_past w d (omega (arith, high, all)))) past
]

-- copies of one more CPU
pub copied_more : (cpus : List CpuRecord) (i : ℕ) (d : CpuRecord) (xs : List CpuRecord)
    (x : CpuRecord) → i < length cpus → xs ≡ take i cpus → x ≡ get_or cpus i d
    → xs ++ x ∷ [] ≡ take (i + 1) cpus
copied_more cpus i d xs x within so_far is =
    (λ j. so_far j ++ is j ∷ []) ∙ sym (take_more cpus i d within)

-- a step that changes no group, in short
pub own_is : (w : World) (c : ℕ) (y : CpuRecord)
    → record w { cpus = slice_set w.cpus c y } ≡ own w c y
own_is w c y =
    ap (λ groups. record w { groups = groups; cpus = slice_set w.cpus c y })
    (sym (set-get_or w.groups 0 no_group))

-- a CPU that isn't there isn't written
pub own_past : (v w : World) (c : ℕ) (y : CpuRecord) → v ≡ w → length w.cpus ≤ c → v ≡ own w c y
own_past v w c y seen past =
    seen ∙ (ap (λ cpus. record w { cpus = cpus }) (sym (set_past w.cpus c y past)) ∙ own_is w c y)

-- nor is a group
pub group_past : (v w : World) (g : ℕ) (x : Group) → v ≡ w → length w.groups ≤ g
    → v ≡ with_group w g x
group_past v w g x seen past =
    seen ∙ ap (λ groups. record w { groups = groups }) (sym (set_past w.groups g x past))

-- what the code writes at an index in range
pub cpu_written : (v w : World) (c i : ℕ) (x z : CpuRecord) (f : CpuRecord → CpuRecord) → v ≡ w
    → i ≡ c → c < length v.cpus → x ≡ get_or v.cpus i x → z ≡ f x
    → record v { cpus = slice_set v.cpus i z } ≡ own w c (f (cpu_of w c))
cpu_written v w c i x z f seen same low is made =
    let read = cpu_read v.cpus c i x same low is in
    ap (λ k. record v { cpus = slice_set v.cpus k z }) same
    ∙ (ap (λ y. record v { cpus = slice_set v.cpus c y }) (made ∙ ap f (sym read))
    ∙ (own_is v c (f (cpu_of v c)) ∙ ap (λ (u : World). own u c (f (cpu_of u c))) seen))

pub group_written : (v w : World) (g i : ℕ) (x z : Group) (f : Group → Group) → v ≡ w
    → i ≡ g → g < length v.groups → x ≡ get_or v.groups i x → z ≡ f x
    → record v { groups = slice_set v.groups i z } ≡ with_group w g (f (group_of w g))
group_written v w g i x z f seen same low is made =
    let read = group_read v.groups g i x same low is in
    ap (λ k. record v { groups = slice_set v.groups k z }) same
    ∙ (ap (λ y. record v { groups = slice_set v.groups g y }) (made ∙ ap f (sym read))
    ∙ ap (λ (u : World). with_group u g (f (group_of u g))) seen)

-- a status that is known to be another one
pub status_made : (w after : World) (c : ℕ) (status wanted : CpuStatus) → status ≡ wanted
    → after ≡ own w c (with_status (cpu_of w c) status)
    → after ≡ own w c (with_status (cpu_of w c) wanted)
status_made w after c status wanted is made =
    made ∙ ap (λ s. own w c (with_status (cpu_of w c) s)) is

-- a walk, a group and a change that are known to be others
pub walk_moved : (w : World) (c : ℕ) (exchanges : Bool) (g h : ℕ) (change wanted : GroupChange)
    (k j : Option Walk) → g ≡ h → change ≡ wanted → k ≡ j
    → moved w g (changed change (group_of w g)) c (with_walk (cpu_of w c) k) exchanges
    ≡ moved w h (changed wanted (group_of w h)) c (with_walk (cpu_of w c) j) exchanges
walk_moved w c exchanges g h change wanted k j at is walk =
    λ i. moved w (at i) (changed (is i) (group_of w (at i))) c (with_walk (cpu_of w c) (walk i))
    exchanges

-- what a walk leaves as it ends is another status
finished_is : (y : CpuRecord) (k : Walk) (kind : WalkKind)
    → finished y k kind ≡ with_status y (finished_status (status_of y) k kind)
finished_is y k kinds.Activate = refl
finished_is y k kinds.Deactivate = refl
finished_is y k kinds.Offline = refl
finished_is y k kinds.Reeval = refl
finished_is y k (kinds.Remote by) = refl

pub finish_made : (w after : World) (c : ℕ) (k : Walk) (status read : CpuStatus)
    → status ≡ finished_status read k k.kind → read ≡ status_of (cpu_of w c)
    → after ≡ own w c (with_status (cpu_of w c) status)
    → after ≡ own w c (finished (cpu_of w c) k k.kind)
finish_made w after c k status read is same made =
    status_made w after c status (finished_status (status_of (cpu_of w c)) k k.kind)
    (is ∙ ap (λ s. finished_status s k k.kind) same) made
    ∙ ap (own w c) (sym (finished_is (cpu_of w c) k k.kind))

-- the walk of a marked CPU names its marker
pub carry_made : (w after : World) (c by : ℕ) (status : CpuStatus) (walk : Option Walk)
    → status ≡ status_of (cpu_of w c) → by ≡ unwrap_or status.mark 0
    → walk ≡ begins w c (kinds.Remote (record { 0 = by })) stages.LockGroup
    → after ≡ own w c (with_status (cpu_of w c) (record status { walk = walk }))
    → after ≡ own w c (with_walk (cpu_of w c)
    (begins w c (kinds.Remote (record { 0 = unwrap_or (cpu_of w c).mark 0 })) stages.LockGroup))
carry_made w after c by status walk seen marker begun made =
    let by_is = marker ∙ ap (λ (s : CpuStatus). unwrap_or s.mark 0) seen in
    let walk_is = begun
    ∙ ap (λ n. begins w c (kinds.Remote (record { 0 = n })) stages.LockGroup) by_is in
    made ∙ (λ i. own w c (with_status (cpu_of w c) (record (seen i) { walk = walk_is i })))

-- a step of a walk, as the code makes it: the group, the readings of others, and then the CPU
pub moved_made : (w v u after : World) (g : ℕ) (x : Group) (c : ℕ) (status : CpuStatus)
    (exchanges : Bool) (walk : Option Walk) → v ≡ with_group w g x → u ≡ with_stale v exchanges g
    → status ≡ status_of (cpu_of w c)
    → after ≡ own u c (with_status (cpu_of u c) (record status { walk = walk }))
    → after ≡ moved w g x c (with_walk (cpu_of w c) walk) exchanges
moved_made w v u after g x c status exchanges walk is_v is_u seen made =
    let step : World → CpuStatus → World =
    λ (y : World) s. record y {
      cpus = slice_set y.cpus c (with_status (cpu_of y c) (record s { walk = walk }));
    } in
    let same = same_timers w.tree exchanges g w.cpus c in
    made
    ∙ (sym (own_is u c (with_status (cpu_of u c) (record status { walk = walk })))
    ∙ ((λ i. step ((is_u ∙ ap (λ (y : World). with_stale y exchanges g) is_v) i) (seen i))
    ∙ ap (λ bases. record (with_group w g x) {
      cpus = slice_set (stale_if w.tree exchanges g w.cpus) c
          (record_of (record (status_of (cpu_of w c)) { walk = walk }) bases);
    }) same))

-- what is written twice
set_twice : {A : Type 0} (xs : List A) (i : ℕ) (a b : A)
    → slice_set (slice_set xs i a) i b ≡ slice_set xs i b
set_twice [] i a b = refl
set_twice (x ∷ xs) zero a b = refl
set_twice (x ∷ xs) (suc i) a b = ap (λ ys. x ∷ ys) (set_twice xs i a b)

-- a timer that moves from a CPU to itself
pub moved_again : (w after : World) (from to : ℕ) (class : Class) (item : Item) → from ≡ to
    → Some (class, item) ≡ first_moved (cpu_of w from).bases
    → after ≡ record w { cpus = slice_set w.cpus to (taker w to class item) }
    → after ≡ moved_with w from to (first_moved (cpu_of w from).bases)
moved_again w after from to class item same found made =
    let gone = giver w from to class in
    let come = taker w to class item in
    let once : slice_set (slice_set w.cpus from gone) to come ≡ slice_set w.cpus to come =
    ap (λ k. slice_set (slice_set w.cpus k gone) to come) same
    ∙ set_twice w.cpus to gone come in
    made
    ∙ (ap (λ cpus. record w { cpus = cpus }) (sym once) ∙ ap (moved_with w from to) found)
