-- part 7b, the first event so far, is kept by every step
use Rattle.std.proofs.Common.{◌≡◌, ◌≢◌, inl, inr, ℕ, zero, suc, ◌+◌, ◌<◌, ◌≤◌, Bool, true, false}
use Rattle.std.proofs.Common.{true≢false, cond, length, Option, Some, None, refl, sym, ap, ◌∙◌}
use Rattle.std.proofs.Common.{subst, arith}
use Rattle.std.specs.Prelude.{◌==◌, ◌&&◌, not, nat_lt, option_map, unwrap_or}
use Rattle.std.proofs.lemmas.Bool.{cases_eq}
use Rattle.std.proofs.lemmas.Bool.Decides.{nat_tests}
use Rattle.std.proofs.lemmas.Option.{none-some, same_Some}
use Rattle.tm_base.specs.declared.names.TheConstants.{NEVER}
use Rattle.event_queue.specs.declared.event.Event.{Event}
use Rattle.event_queue.specs.EventMap.{Counts, event_at}
use Rattle.tree_plan.specs.Paths.{group_at_of}
use Rattle.walk_rules.specs.declared.walk.Walk.{Walk}
use Rattle.walk_rules.specs.declared.walk.WalkKind.{WalkKind}
use Rattle.walk_rules.specs.declared.walk.WalkKind.TheVariants as kinds
use Rattle.walk_rules.specs.declared.walk.Stage.{Stage}
use Rattle.walk_rules.specs.declared.walk.Stage.TheVariants as stages
use Rattle.walk_rules.specs.Hierarchy.{at_top, side}
use Rattle.walk_rules.specs.Locks.{HoldsBy, LocksHold, group_lock}
use Rattle.walk_rules.specs.Scene.{Group}
use Rattle.walk_rules.specs.Stages.{after_sight, at_stage, first_lock, first_next, first_of}
use Rattle.walk_rules.specs.Stages.{first_sight, first_stage, forget, free_group_next, freed_next}
use Rattle.walk_rules.specs.Stages.{is_remote, mark_next, see_child_next, store_next}
use Rattle.walk_rules.specs.Stages.{stored_event, swap_next, up_next, with_event, with_mark}
use Rattle.core_world.specs.declared.step.Step.{Step}
use Rattle.core_world.specs.declared.step.Step.TheVariants as steps
use Rattle.core_world.specs.Enabled.{Enabled, MayGoOn}
use Rattle.core_world.specs.Frames.{is_quiet}
use Rattle.core_world.specs.IdleTop.{FirstHolds}
use Rattle.core_world.specs.Steps.{child_on, finished, here, stepped, swapped}
use Rattle.walk_rules.specs.Stages.{begun_where}
use Rattle.core_world.specs.Steps.{walk_made, walked, with_walk}
use Rattle.core_world.specs.World.{CpuRecord, World, cpu_of, group_of, moved, own, scene_of}
use Rattle.core_world.proofs.Moves.{moved_laws}
use Rattle.core_world.proofs.Quiet.{quiet_steps}
use Rattle.core_world.proofs.Sizes.{sizes_stay}
use Rattle.core_laws.specs.Walks.Fit.{WalksFit}
use Rattle.core_laws.proofs.Walks.Stands.{stands_in}
use Rattle.core_laws.proofs.Tops.Slots.{found_in, group_cases, left_events, marked_counts}

-- it is so of what walks see
quiet : (w v : World) → v.tree ≡ w.tree → scene_of v ≡ scene_of w → FirstHolds w → FirstHolds v
quiet w v tree same f c g n i k e is at there low event counts =
    let j = found_in (cpu_of v c).walk (cpu_of w c).walk k (λ z. (same z).walk c) is in
    subst (λ (z : Walk). z.first ≤ e.expiry) j.2
    (f c g n i j.0 e j.1 (ap (λ (z : Walk). z.stage) j.2 ∙ at)
    (ap (λ (z : Walk). group_at_of w.tree c z.level) j.2
    ∙ (ap (λ t. group_at_of t c k.level) (sym tree) ∙ there)) low
    (sym (λ z. event_at ((same z).group g).events i) ∙ event) counts)

-- the walk of CPU c has read of the slots of its group
abbrev ReadFirst : World → ℕ → Option Walk → Type 0
ReadFirst w c m = (g n i : ℕ) (k : Walk) (e : Event) → m ≡ Some k → k.stage ≡ stages.First n →
    group_at_of w.tree c k.level ≡ Some g → i < n → event_at (group_of w g).events i ≡ Some e →
    Counts e → k.first ≤ e.expiry

-- A STEP OF THE GENERAL FORM
module _ (w : World) (g : ℕ) (x : Group) (c : ℕ) (y : CpuRecord) (r : Bool) (hc : c < length w.cpus)
    (f : FirstHolds w) where
  general : ((d h n i : ℕ) (k : Walk) (e : Event) → d ≢ c → (cpu_of w d).walk ≡ Some k →
      k.stage ≡ stages.First n → group_at_of w.tree d k.level ≡ Some h
      → event_at (group_of (moved w g x c y r) h).events i ≡ Some e → Counts e →
      event_at (group_of w h).events i ≡ Some e) → ReadFirst (moved w g x c y r) c y.walk →
      FirstHolds (moved w g x c y r)
  general back mine d h n i k e is at there low event counts = elim (cases_eq d c) [
    | inl same ↦ mine h n i k e
        (sym (ap (λ (z : CpuRecord). z.walk) ((moved_laws w g x c y r).cpu hc))
        ∙ (ap (λ n. (cpu_of (moved w g x c y r) n).walk) (sym same) ∙ is)) at
        (ap (λ n. group_at_of w.tree n k.level) (sym same) ∙ there) low event counts
    | inr ne ↦
        let j = found_in (cpu_of (moved w g x c y r) d).walk (cpu_of w d).walk k
        ((moved_laws w g x c y r).changes.walk d ne) is in
        let at_j = ap (λ (z : Walk). z.stage) j.2 ∙ at in
        let there_j = ap (λ (z : Walk). group_at_of w.tree d z.level) j.2 ∙ there in
        subst (λ (z : Walk). z.first ≤ e.expiry) j.2
        (f d h n i j.0 e j.1 at_j there_j low
        (back d h n i j.0 e ne j.1 at_j there_j event counts) counts)
  ]

  -- events that count after the step stood there before
  tame : ((i : ℕ) (e : Event) → event_at x.events i ≡ Some e → Counts e →
      event_at (group_of w g).events i ≡ Some e) → (h i : ℕ) (e : Event)
      → event_at (group_of (moved w g x c y r) h).events i ≡ Some e → Counts e →
      event_at (group_of w h).events i ≡ Some e
  tame kept h i e event counts = elim (group_cases w g x c y r h) [
    | inl p ↦ ap (λ n. event_at (group_of w n).events i) p.0
        ∙ kept i e (sym (ap (λ (z : Group). event_at z.events i) p.1) ∙ event) counts
    | inr same ↦ sym (ap (λ (z : Group). event_at z.events i) same) ∙ event
  ]

-- stages that aren't First
abbrev is_first : Stage → Bool
is_first stages.Own = false
is_first stages.Up = false
is_first (stages.Mark more) = false
is_first stages.Read = false
is_first stages.Child = false
is_first stages.Swap = false
is_first stages.LockChild = false
is_first stages.LockGroup = false
is_first stages.SeeChild = false
is_first stages.SeeGroup = false
is_first (stages.Scan k) = false
is_first stages.Store = false
is_first (stages.First k) = true
is_first stages.FreeGroup = false
is_first stages.FreeChild = false
is_first stages.Finish = false
is_first stages.Handing = false

-- a walk that isn't at First, or just comes there
abbrev Fresh : Option Walk → Type 0
Fresh m = (k : Walk) (n : ℕ) → m ≡ Some k → k.stage ≡ stages.First n → n ≡ 0

elsewhere : (j : Walk) → is_first j.stage ≡ false → Fresh (Some j)
elsewhere j other k n is at =
    absurd (true≢false
    (sym (ap is_first at) ∙ (ap (λ (z : Walk). is_first z.stage) (sym (same_Some _ _ is)) ∙ other)))

no_walk : Fresh None
no_walk k n is at = absurd (none-some k is)

first_lock_else : (l : ℕ) → is_first (first_lock l) ≡ false
first_lock_else zero = refl
first_lock_else (suc l) = refl

first_sight_else : (l : ℕ) → is_first (first_sight l) ≡ false
first_sight_else zero = refl
first_sight_else (suc l) = refl

after_sight_else : (l : ℕ) → is_first (after_sight l) ≡ false
after_sight_else zero = refl
after_sight_else (suc l) = refl

first_stage_else : (kind : WalkKind) → is_first (first_stage kind) ≡ false
first_stage_else kinds.Activate = refl
first_stage_else kinds.Deactivate = refl
first_stage_else kinds.Offline = refl
first_stage_else kinds.Reeval = refl
first_stage_else (kinds.Remote by) = refl

cond_else : (q : Bool) (a b : Stage) → is_first a ≡ false → is_first b ≡ false →
    is_first (cond q a b) ≡ false
cond_else true a b ha hb = ha
cond_else false a b ha hb = hb

up_else : (top more : Bool) (k : Walk) → Fresh (up_next top more k)
up_else true more k = no_walk
up_else false more k = elsewhere _ refl

mark_else : (more : Bool) (k : Walk) → Fresh (mark_next more k)
mark_else true k = elsewhere _ refl
mark_else false k = no_walk

see_else : (on : Bool) (k : Walk) → Fresh (Some (see_child_next on k))
see_else true k = elsewhere _ refl
see_else false k = elsewhere _ refl

freed_else : (over : Bool) (k : Walk) → Fresh (Some (freed_next over k))
freed_else true k = elsewhere _ refl
freed_else false k = elsewhere (freed_next false k) (first_stage_else k.kind)

free_else : (l : ℕ) (k : Walk) → Fresh (Some (free_group_next l k))
free_else zero k = freed_else k.over k
free_else (suc l) k = elsewhere _ refl

handing_else : (q : Bool) (k : Walk) → Fresh (cond q None (Some (at_stage k stages.Handing)))
handing_else true k = no_walk
handing_else false k = elsewhere _ refl

begun_else : (q : Bool) (kind : WalkKind) (stage : Stage) (pin next : ℕ) → is_first stage ≡ false →
    Fresh (begun_where q kind stage pin next)
begun_else true kind stage pin next e = elsewhere _ e
begun_else false kinds.Activate stage pin next e = no_walk
begun_else false kinds.Deactivate stage pin next e = elsewhere _ refl
begun_else false kinds.Offline stage pin next e = elsewhere _ refl
begun_else false kinds.Reeval stage pin next e = elsewhere _ refl
begun_else false (kinds.Remote by) stage pin next e = elsewhere _ refl

first_number : (a b : ℕ) → stages.First a ≡ stages.First b → a ≡ b
first_number a b e = cc

store_else : (q : Bool) (k : Walk) →
    Fresh (Some (at_stage k (cond q (stages.First 0) stages.FreeGroup)))
store_else true k =
    λ j n is at. first_number n 0 (sym at ∙ ap (λ (z : Walk). z.stage) (sym (same_Some _ _ is)))
store_else false k = elsewhere _ refl

unread : (w : World) (c : ℕ) (m : Option Walk) → Fresh m → ReadFirst w c m
unread w c m fresh g n i k e is at there low event counts = let none = fresh k n is at in
    absurd (omega (arith, none, low))

-- what First takes up
pub first_low : (first : ℕ) (m : Option Event) → first_of first m ≤ first
first_low first None = omega arith
first_low first (Some e) = by_mark e.ignored
  where
    by_time : (q : Bool) → nat_lt e.expiry first ≡ q → cond q e.expiry first ≤ first
    by_time true t = grind (arith, nat_tests)
    by_time false t = omega arith

    by_mark : (q : Bool) → cond q first (cond (nat_lt e.expiry first) e.expiry first) ≤ first
    by_mark true = omega arith
    by_mark false = by_time (nat_lt e.expiry first) refl

pub first_takes : (first : ℕ) (m : Option Event) (e : Event) → m ≡ Some e → Counts e →
    first_of first m ≤ e.expiry
first_takes first m e is counts =
    subst (λ z. first_of first z ≤ e.expiry) (sym is) (by_mark e.ignored counts)
  where
    by_time : (q : Bool) → nat_lt e.expiry first ≡ q → cond q e.expiry first ≤ e.expiry
    by_time true t = omega arith
    by_time false t = grind (arith, nat_tests)

    by_mark : (q : Bool) → q ≡ false →
        cond q first (cond (nat_lt e.expiry first) e.expiry first) ≤ e.expiry
    by_mark true none = absurd (true≢false none)
    by_mark false none = by_time (nat_lt e.expiry first) refl

-- STEPS OF WALKS
module _ (w : World) (c : ℕ) (k : Walk) (hc : c < length w.cpus)
    (fit : WalksFit w.tree (scene_of w)) (locks : LocksHold w.tree (scene_of w)) (f : FirstHolds w)
    (is : (cpu_of w c).walk ≡ Some k) where
  goes : (g : ℕ) (x : Group) (y : CpuRecord) (r : Bool) →
      ((i : ℕ) (e : Event) → event_at x.events i ≡ Some e → Counts e →
      event_at (group_of w g).events i ≡ Some e) → Fresh y.walk → FirstHolds (moved w g x c y r)
  goes g x y r kept fresh =
      general w g x c y r hc f (λ d h n i j e ne at stage there. tame w g x c y r hc f kept h i e)
      (unread (moved w g x c y r) c y.walk fresh)

  walks : (y : CpuRecord) → Fresh y.walk → FirstHolds (own w c y)
  walks y fresh = goes 0 (group_of w 0) y false (λ i e at counts. at) fresh

  same_events : (g : ℕ) (x : Group) (y : CpuRecord) (r : Bool) → x.events ≡ (group_of w g).events →
      Fresh y.walk → FirstHolds (moved w g x c y r)
  same_events g x y r events fresh =
      goes g x y r (λ i e at counts. ap (λ z. event_at z i) (sym events) ∙ at) fresh

  swap : (fresh : Bool) → FirstHolds (swapped w c k fresh)
  swap true =
      same_events _ _ _ true (left_events k.child_on _ _)
      (elsewhere (swap_next true k) (first_lock_else k.level))
  swap false = walks _ (elsewhere (swap_next false k) refl)

  -- the group of the walk's level
  named : (g : ℕ) → group_at_of w.tree c k.level ≡ Some g → here w c k ≡ g
  named g at = ap (λ m. unwrap_or m 0) at

  -- under the group's lock no other walk reads its slots
  alone : k.stage ≡ stages.Store → (d n : ℕ) (j : Walk) → d ≢ c → (cpu_of w d).walk ≡ Some j →
      j.stage ≡ stages.First n → group_at_of w.tree d j.level ≡ Some (here w c k) → ⊥
  alone at d n j ne jis jat there =
      let walk_is = ap (option_map forget) is in
      let g = stands_in w.tree (scene_of w) fit c (forget k) walk_is
      (λ z. store_only (sym at ∙ z)) in
      let mine =
      locks.holds (here w c k) c (subst (λ m. HoldsBy w.tree c m (here w c k)) (sym walk_is)
      (inl (ap (group_lock w.tree c k.level) at ∙ (g.1 ∙ ap Some (sym (named g.0 g.1)))))) in
      let theirs =
      locks.holds (here w c k) d
      (subst (λ m. HoldsBy w.tree d m (here w c k)) (sym (ap (option_map forget) jis))
      (inl (ap (group_lock w.tree d j.level) jat ∙ there))) in
      ne (same_Some _ _ (sym theirs ∙ mine))
    where
      store_only : stages.Store ≡ stages.Finish → ⊥
      store_only z = cc

  store : k.stage ≡ stages.Store → FirstHolds (walked w c k stages.Store)
  store at = general w (here w c k) _ c _ false hc f
      (λ d h n i j e ne jis jat there event counts. elim (cases_eq h (here w c k)) [
        | inl same ↦ absurd (alone at d n j ne jis jat (there ∙ ap Some same))
        | inr other ↦
            sym (ap (λ (z : Group). event_at z.events i)
            ((moved_laws w (here w c k)
            (with_event (group_of w (here w c k)) (side w.tree c k.level)
            (stored_event k.level c k)) c
            (with_walk (cpu_of w c) (Some (store_next (at_top w.tree c k.level) k)))
            false).changes.group h other)) ∙ event
      ])
      (unread (walked w c k stages.Store) c _
      (store_else (at_top w.tree c k.level && (not k.on && not (is_remote k.kind))) k))

  -- one slot more
  next_number : (q : Bool) (a n : ℕ) → cond q stages.FreeGroup (stages.First a) ≡ stages.First n →
      n ≡ a
  next_number true a n e = absurd (true≢false (sym (ap is_first e)))
  next_number false a n e = first_number n a (sym e)

  first : (j : ℕ) → k.stage ≡ stages.First j → FirstHolds (walked w c k (stages.First j))
  first j at =
      general w 0 (group_of w 0) c _ false hc f
      (λ d h n i z e ne zis zat there.
      tame w 0 (group_of w 0) c (with_walk (cpu_of w c) (Some after)) false hc f
      (λ u v same counts. same) h i e)
      (λ g n i z e zis zat there low event counts.
      let num =
      next_number (j == 7) (j + 1) n (ap (λ (u : Walk). u.stage) (same_Some _ _ zis) ∙ zat) in
      let there_k = ap (λ (u : Walk). group_at_of w.tree c u.level) (same_Some _ _ zis) ∙ there in
      let was = tame w 0 (group_of w 0) c (with_walk (cpu_of w c) (Some after)) false hc f
      (λ u v same q. same) g i e event counts in
      subst (λ (u : Walk). u.first ≤ e.expiry) (same_Some _ _ zis) (elim (cases_eq i j) [
        | inl same ↦ first_takes k.first (event_at (group_of w (here w c k)).events j) e
            (ap (λ u. event_at (group_of w u).events j) (named g there_k)
            ∙ (ap (event_at (group_of w g).events) (sym same) ∙ was)) counts
        | inr ne ↦
            (let old = f c g j i k e is at there_k (omega (arith, num, low, ne)) was counts in
            let low_is = first_low k.first (event_at (group_of w (here w c k)).events j) in
            omega (arith, old, low_is))
      ]))
    where
      after : Walk
      after = first_next (event_at (group_of w (here w c k)).events j) j k

  finish : (kind : WalkKind) → FirstHolds (own w c (finished (cpu_of w c) k kind))
  finish kinds.Activate = walks _ no_walk
  finish kinds.Deactivate = walks _ no_walk
  finish kinds.Offline = walks _ (handing_else (k.first == NEVER) k)
  finish kinds.Reeval = walks _ no_walk
  finish (kinds.Remote by) = walks _ no_walk

  marks : (g j : ℕ) (m : Option Walk) → Fresh m →
      FirstHolds (moved w g (with_mark (group_of w g) j) c (with_walk (cpu_of w c) m) false)
  marks g j m fresh =
      goes g (with_mark (group_of w g) j) (with_walk (cpu_of w c) m) false
      (λ i e at counts. marked_counts (group_of w g).events j i e at counts) fresh

  by_stage : (st : Stage) → k.stage ≡ st → MayGoOn w c k st → FirstHolds (walked w c k st)
  by_stage stages.Own at may = marks _ _ _ (elsewhere (at_stage k stages.Up) refl)
  by_stage stages.Up at may = same_events _ _ _ true refl (up_else _ _ k)
  by_stage (stages.Mark more) at may = marks _ _ _ (mark_else more k)
  by_stage stages.Read at may = walks _ (elsewhere _ refl)
  by_stage stages.Child at may = walks _ (elsewhere _ refl)
  by_stage stages.Swap at may = swap k.fresh
  by_stage stages.LockChild at may = same_events _ _ _ false refl (elsewhere _ refl)
  by_stage stages.LockGroup at may =
      same_events _ _ _ false refl (elsewhere _ (first_sight_else k.level))
  by_stage stages.SeeChild at may = walks _ (see_else (child_on w c k.level) k)
  by_stage stages.SeeGroup at may = walks _ (elsewhere _ (after_sight_else k.level))
  by_stage (stages.Scan j) at may =
      walks _ (elsewhere _ (cond_else (j == 7) stages.Store (stages.Scan (j + 1)) refl refl))
  by_stage stages.Store at may = store at
  by_stage (stages.First j) at may = first j at
  by_stage stages.FreeGroup at may = same_events _ _ _ false refl (free_else k.level k)
  by_stage stages.FreeChild at may = same_events _ _ _ false refl (freed_else k.over k)
  by_stage stages.Finish at may = finish k.kind
  by_stage stages.Handing at may = absurd may

-- a walk begins
begins : (w : World) (c : ℕ) (y : CpuRecord) → c < length w.cpus → FirstHolds w → Fresh y.walk →
    FirstHolds (own w c y)
begins w c y hc f fresh = general w 0 (group_of w 0) c y false hc f
    (λ d h n i k e ne at stage there.
    tame w 0 (group_of w 0) c y false hc f (λ u v same counts. same) h i e)
    (unread (own w c y) c y.walk fresh)

same_tree : (w : World) (step : Step) → (stepped w step).tree ≡ w.tree
same_tree w step = (sizes_stay w step).tree

resting : (w : World) (step : Step) → FirstHolds w → Enabled w step → is_quiet step ≡ true →
    FirstHolds (stepped w step)
resting w step f e q = quiet w (stepped w step) (same_tree w step) (quiet_steps w step e q) f

pub first_stays : (w : World) (step : Step) → WalksFit w.tree (scene_of w) →
    LocksHold w.tree (scene_of w) → FirstHolds w → Enabled w step → FirstHolds (stepped w step)
first_stays w (steps.Idle cpu) fit locks f e =
    begins w cpu.0 _ e.is_free.in_range f (begun_else _ kinds.Deactivate _ _ _ refl)
first_stays w (steps.Wake cpu) fit locks f e =
    begins w cpu.0 _ e.is_free.in_range f (begun_else _ kinds.Activate _ _ _ refl)
first_stays w (steps.Offline cpu) fit locks f e =
    begins w cpu.0 _ e.is_free.in_range f (begun_else _ kinds.Offline _ _ _ refl)
first_stays w (steps.Online cpu) fit locks f e =
    begins w cpu.0 _ e.is_free.in_range f (begun_else _ kinds.Activate _ _ _ refl)
first_stays w (steps.Reeval cpu) fit locks f e =
    begins w cpu.0 _ e.is_free.in_range f (begun_else _ kinds.Reeval _ _ _ refl)
first_stays w (steps.Carry cpu) fit locks f e =
    begins w cpu.0 _ e.is_free.in_range f (begun_else _ (kinds.Remote _) _ _ _ refl)
first_stays w (steps.HandOn cpu to) fit locks f e =
    walks w cpu.0 e.made e.in_range fit locks f e.walk _ no_walk
first_stays w (steps.Walk cpu) fit locks f e =
    subst (λ m. FirstHolds (walk_made w cpu.0 m)) (sym e.walk)
    (by_stage w cpu.0 e.made e.in_range fit locks f e.walk e.made.stage refl e.may_go_on)
first_stays w (steps.Clock now) fit locks f e = resting w (steps.Clock now) f e refl
first_stays w (steps.Enter cpu) fit locks f e = resting w (steps.Enter cpu) f e refl
first_stays w (steps.Leave cpu) fit locks f e = resting w (steps.Leave cpu) f e refl
first_stays w (steps.Arm cpu timer class expires job arg line) fit locks f e =
    resting w (steps.Arm cpu timer class expires job arg line) f e refl
first_stays w (steps.Cancel cpu timer by line) fit locks f e =
    resting w (steps.Cancel cpu timer by line) f e refl
first_stays w (steps.Hand cpu timer runner) fit locks f e =
    resting w (steps.Hand cpu timer runner) f e refl
first_stays w (steps.Ticked cpu class runner) fit locks f e =
    resting w (steps.Ticked cpu class runner) f e refl
first_stays w (steps.Move from to timer) fit locks f e =
    resting w (steps.Move from to timer) f e refl
first_stays w (steps.Take cpu by) fit locks f e = resting w (steps.Take cpu by) f e refl
first_stays w (steps.Release cpu) fit locks f e = resting w (steps.Release cpu) f e refl
