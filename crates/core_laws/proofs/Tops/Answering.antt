-- which CPU answers, and how answers go on from step to step
use Rattle.std.proofs.Common.{◌≡◌, ◌≢◌, ◌⊎◌, inl, inr, ℕ, ◌<◌, ◌≤◌, Bool, true, false, length}
use Rattle.std.proofs.Common.{Option, Some, None, refl, sym, ap, ◌∙◌, subst}
use Rattle.std.specs.Prelude.{option_map}
use Rattle.std.proofs.lemmas.Bool.{cases_eq}
use Rattle.event_queue.specs.declared.event.Event.{Event}
use Rattle.event_queue.specs.EventMap.{Counts, event_at}
use Rattle.tree_plan.specs.Shape.{Shape}
use Rattle.walk_rules.specs.declared.walk.Walk.{Walk}
use Rattle.walk_rules.specs.declared.walk.WalkKind.TheVariants as kinds
use Rattle.walk_rules.specs.Hierarchy.{HasGroup, at_top}
use Rattle.walk_rules.specs.Scene.{Group}
use Rattle.walk_rules.specs.Stages.{forget}
use Rattle.core_world.specs.IdleTop.{Answered, IsTopGroup, ReadsYet, TopAnswered, is_climbing}
use Rattle.core_world.specs.IdleTop.Answered.{by_activation, by_climbing, by_first, by_interrupt}
use Rattle.core_world.specs.IdleTop.Answered.{by_reading, by_wakeup}
use Rattle.core_world.specs.Wakeups.{Keeps, is_undisturbed}
use Rattle.core_world.specs.World.{CpuRecord, World, cpu_of, group_of, moved}
use Rattle.core_world.proofs.Moves.{beside, cpu_else, moved_laws}
use Rattle.core_laws.proofs.Tops.Slots.{found_in, group_cases}

-- what answers by CPU d of this record
pub data By (t : Shape) (d : ℕ) (y : CpuRecord) (child time : ℕ) : Type 0 where
  activation : (k : Walk) → y.walk ≡ Some k → k.kind ≡ kinds.Activate → By t d y child time
  wakeup : Keeps y → y.wakeup ≤ time → By t d y child time
  interrupt : y.online ≡ true → y.idle ≡ true → y.inside ≡ true →
      ((k : Walk) → y.walk ≡ Some k → k.kind ≡ kinds.Reeval → ⊥) → By t d y child time
  climbing : (k : Walk) → y.walk ≡ Some k → is_climbing k.kind ≡ true → k.over ≡ false →
      By t d y child time
  reading : (k : Walk) → y.walk ≡ Some k → is_climbing k.kind ≡ true → at_top t d k.level ≡ true →
      k.on ≡ false → ReadsYet child k.stage → By t d y child time
  first : (k : Walk) → y.walk ≡ Some k → is_climbing k.kind ≡ true → k.first ≤ time →
      By t d y child time

pub answered : (w : World) (d child time : ℕ) → HasGroup w.tree d →
    By w.tree d (cpu_of w d) child time → Answered w child time
answered w d child time has (activation k is kind) = by_activation d k has is kind
answered w d child time has (wakeup keeps low) = by_wakeup d has keeps low
answered w d child time has (interrupt on idle in_it goes) =
    by_interrupt d has on idle in_it (λ r. goes r.made r.walk r.kind)
answered w d child time has (climbing k is kind over) =
    by_climbing d k (record { has_group = has; walk = is; climbing = kind }) over
answered w d child time has (reading k is kind top on reads) =
    by_reading d k (record { has_group = has; walk = is; climbing = kind }) top on reads
answered w d child time has (first k is kind low) =
    by_first d k (record { has_group = has; walk = is; climbing = kind }) low

pub answerer : (w : World) (child time : ℕ) → Answered w child time →
    (d : ℕ) × HasGroup w.tree d × By w.tree d (cpu_of w d) child time
answerer w child time (by_activation d k has is kind) = (d, has, activation k is kind)
answerer w child time (by_wakeup d has keeps low) = (d, has, wakeup keeps low)
answerer w child time (by_interrupt d has on idle in_it goes) = (
  d,
  has,
  interrupt on idle in_it
      (λ k is kind. goes (record { made = k; walk = is; kind = kind })),
)
answerer w child time (by_climbing d k climbs over) =
    (d, climbs.has_group, climbing k climbs.walk climbs.climbing over)
answerer w child time (by_reading d k climbs top on reads) =
    (d, climbs.has_group, reading k climbs.walk climbs.climbing top on reads)
answerer w child time (by_first d k climbs low) =
    (d, climbs.has_group, first k climbs.walk climbs.climbing low)

-- what answers is the same of two records, but for mark, timers and reading
pub record SameCpu (y z : CpuRecord) : Type 0 where
  pub online : z.online ≡ y.online
  pub idle : z.idle ≡ y.idle
  pub inside : z.inside ≡ y.inside
  pub wakeup : z.wakeup ≡ y.wakeup
  pub walk : option_map forget z.walk ≡ option_map forget y.walk

undisturbed_forget : (m : Option Walk) → is_undisturbed (option_map forget m) ≡ is_undisturbed m
undisturbed_forget None = refl
undisturbed_forget (Some k) = refl

undisturbed_same : (a b : Option Walk) → option_map forget a ≡ option_map forget b →
    is_undisturbed a ≡ is_undisturbed b
undisturbed_same a b e = sym (undisturbed_forget a) ∙ (ap is_undisturbed e ∙ undisturbed_forget b)

pub by_same : (t : Shape) (d : ℕ) (y z : CpuRecord) (child time : ℕ) → SameCpu y z →
    By t d y child time → By t d z child time
by_same t d y z child time s (activation k is kind) =
    let j = found_in y.walk z.walk k (sym s.walk) is in
    activation j.0 j.1 (ap (λ (u : Walk). u.kind) j.2 ∙ kind)
by_same t d y z child time s (wakeup keeps low) =
    wakeup (record {
      online = s.online ∙ keeps.online;
      idle = s.idle ∙ keeps.idle;
      outside =
          s.inside ∙ keeps.outside;
      undisturbed = undisturbed_same z.walk y.walk s.walk
          ∙ keeps.undisturbed;
    })
    (subst (λ n. n ≤ time) (sym s.wakeup) low)
by_same t d y z child time s (interrupt on idle in_it goes) =
    interrupt (s.online ∙ on) (s.idle ∙ idle) (s.inside ∙ in_it)
    (λ k is kind.
    (let j = found_in z.walk y.walk k s.walk is in
    goes j.0 j.1 (ap (λ (u : Walk). u.kind) j.2 ∙ kind)))
by_same t d y z child time s (climbing k is kind over) =
    let j = found_in y.walk z.walk k (sym s.walk) is in
    climbing j.0 j.1 (ap (λ (u : Walk). is_climbing u.kind) j.2 ∙ kind)
    (ap (λ (u : Walk). u.over) j.2 ∙ over)
by_same t d y z child time s (reading k is kind top on reads) =
    let j = found_in y.walk z.walk k (sym s.walk) is in
    reading j.0 j.1 (ap (λ (u : Walk). is_climbing u.kind) j.2 ∙ kind)
    (ap (λ (u : Walk). at_top t d u.level) j.2 ∙ top) (ap (λ (u : Walk). u.on) j.2 ∙ on)
    (subst (λ (u : Walk). ReadsYet child u.stage) (sym j.2) reads)
by_same t d y z child time s (first k is kind low) =
    let j = found_in y.walk z.walk k (sym s.walk) is in
    first j.0 j.1 (ap (λ (u : Walk). is_climbing u.kind) j.2 ∙ kind)
    (subst (λ (u : Walk). u.first ≤ time) (sym j.2) low)

beside_inside : (t : Shape) (r : Bool) (g d : ℕ) (y : CpuRecord) →
    (beside t r g d y).inside ≡ y.inside
beside_inside t true g d y = refl
beside_inside t false g d y = refl

beside_wakeup : (t : Shape) (r : Bool) (g d : ℕ) (y : CpuRecord) →
    (beside t r g d y).wakeup ≡ y.wakeup
beside_wakeup t true g d y = refl
beside_wakeup t false g d y = refl

-- A STEP OF THE GENERAL FORM: what other CPUs answer for they go on answering for
module _ (w : World) (g : ℕ) (x : Group) (c : ℕ) (y : CpuRecord) (r : Bool) (hc : c < length w.cpus)
  where
    same_else : (d : ℕ) → d ≢ c → SameCpu (cpu_of w d) (cpu_of (moved w g x c y r) d)
    same_else d ne = record {
      online = (moved_laws w g x c y r).changes.online d ne;
      idle = (moved_laws w g x c y r).changes.idle d ne;
      inside = ap (λ (z : CpuRecord). z.inside) (cpu_else w g x c y r d ne)
          ∙ beside_inside w.tree r g d (cpu_of w d);
      wakeup = ap (λ (z : CpuRecord). z.wakeup) (cpu_else w g x c y r d ne)
          ∙ beside_wakeup w.tree r g d (cpu_of w d);
      walk = (moved_laws w g x c y r).changes.walk d ne;
    }

    pub answered_else : (d child time : ℕ) → d ≢ c → HasGroup w.tree d →
        By w.tree d (cpu_of w d) child time → Answered (moved w g x c y r) child time
    answered_else d child time ne has by =
        answered (moved w g x c y r) d child time has
        (by_same w.tree d (cpu_of w d) _ child time (same_else d ne) by)

    pub answered_own : (child time : ℕ) → HasGroup w.tree c → By w.tree c y child time →
        Answered (moved w g x c y r) child time
    answered_own child time has by =
        answered (moved w g x c y r) c child time has
        (subst (λ z. By w.tree c z child time) (sym ((moved_laws w g x c y r).cpu hc)) by)

    -- of an answer by any CPU, where that of the one that steps is its own business
    pub answered_by : (d child time : ℕ) → HasGroup w.tree d → By w.tree d (cpu_of w d) child time
        → (HasGroup w.tree c → By w.tree c (cpu_of w c) child time →
        Answered (moved w g x c y r) child time) → Answered (moved w g x c y r) child time
    answered_by d child time has by own = elim (cases_eq d c) [
      | inl same ↦
          own (subst (HasGroup w.tree) same has)
          (subst (λ n. By w.tree n (cpu_of w n) child time) same by)
      | inr ne ↦ answered_else d child time ne has by
    ]

    -- what a top has after the step was there before, or is answered
    abbrev pub WasThere : Type 0
    WasThere = (h child : ℕ) (e : Event) → IsTopGroup w h →
        (group_of (moved w g x c y r) h).migrator ≡ None →
        event_at (group_of (moved w g x c y r) h).events child ≡ Some e → Counts e
        → (((group_of w h).migrator ≡ None) × (event_at (group_of w h).events child ≡ Some e))
        ⊎ Answered (moved w g x c y r) child e.expiry

    -- what the CPU that steps answered for goes on
    abbrev pub OwnGoesOn : Type 0
    OwnGoesOn = (h child : ℕ) (e : Event) → IsTopGroup w h → (group_of w h).migrator ≡ None →
        (group_of (moved w g x c y r) h).migrator ≡ None →
        event_at (group_of w h).events child ≡ Some e
        → Counts e → HasGroup w.tree c → By w.tree c (cpu_of w c) child e.expiry →
        Answered (moved w g x c y r) child e.expiry

    as_before : (h : ℕ) → IsTopGroup (moved w g x c y r) h → IsTopGroup w h
    as_before h top =
        record { cpu = top.cpu; level = top.level; there = top.there; last = top.last }

    pub tops_step : TopAnswered w → WasThere → OwnGoesOn → TopAnswered (moved w g x c y r)
    tops_step f back own h child e top off event counts =
        elim (back h child e (as_before h top) off event counts) [
          | inl was ↦
              (let a = answerer w child e.expiry
              (f h child e (as_before h top) was.0 was.1 counts) in
              answered_by a.0 child e.expiry a.1 a.2
              (own h child e (as_before h top) was.0 off was.1 counts))
          | inr new ↦ new
        ]

    -- migrators stay, and events that count after the step stood there before
    pub tame : x.migrator ≡ (group_of w g).migrator →
        ((i : ℕ) (e : Event) → event_at x.events i ≡ Some e → Counts e →
        event_at (group_of w g).events i ≡ Some e) → WasThere
    tame migrator kept h child e top off event counts = elim (group_cases w g x c y r h) [
      | inl p ↦ inl (
        ap (λ n. (group_of w n).migrator) p.0
            ∙ (sym migrator ∙ (sym (ap (λ (z : Group). z.migrator) p.1) ∙ off)),
        ap (λ n. event_at (group_of w n).events child) p.0
            ∙ kept child e (sym (ap (λ (z : Group). event_at z.events child) p.1) ∙ event) counts,
      )
      | inr same ↦
          inl (
            sym (ap (λ (z : Group). z.migrator) same) ∙ off,
            sym (ap (λ (z : Group). event_at z.events child) same) ∙ event,
          )
    ]
