-- for crates above: a change of one CPU, and what stays of its timers
use Rattle.std.proofs.Common.{◌≡◌, ℕ, ◌<◌, List, Option, length, refl, sym, ap, ◌∙◌, subst, inl}
use Rattle.std.proofs.Common.{inr, get_or, get_or-set_other, get_or-set_same}
use Rattle.std.specs.Prelude.{slice_set}
use Rattle.std.proofs.lemmas.Bool.{cases_eq}
use Rattle.std.proofs.lemmas.List.{get_or_default, set-get_or}
use Rattle.tm_base.specs.declared.names.CpuId.{CpuId}
use Rattle.core_facts.specs.walk_rules.Scene.{no_group}
use Rattle.core_parts.specs.core_world.declared.step.Step.TheVariants as steps
use Rattle.core_parts.specs.core_world.Enabled.{Enabled}
use Rattle.core_facts.specs.walk_rules.declared.walk.Walk.{Walk}
use Rattle.core_facts.specs.walk_rules.declared.walk.WalkKind.{WalkKind}
use Rattle.core_facts.specs.walk_rules.declared.walk.WalkKind.TheVariants as kinds
use Rattle.core_parts.specs.core_world.Steps.{finished}
use Rattle.core_parts.specs.core_world.World.{CpuRecord, World, cpu_of, no_cpu, own}
use Rattle.core_parts.specs.declared.status.CpuStatus.{CpuStatus}
use Rattle.core_state.specs.Kept.{IsHeld, IsKept, WorldFits, WorldsStayFit, is_queued}
use Rattle.core_state.specs.Tally.{CpuTally, IsTallied}
use Rattle.core_parts.specs.Status.{finished_status, status_of, with_cpu_status, with_status}

pub cpu_read : (cpus : List CpuRecord) (c i : ℕ) (x : CpuRecord) → i ≡ c → c < length cpus
    → x ≡ get_or cpus i x → get_or cpus c no_cpu ≡ x
cpu_read cpus c i x same low is =
    get_or_default cpus c no_cpu x low ∙ (ap (λ k. get_or cpus k x) (sym same) ∙ sym is)

-- a world with CPU c changed
abbrev pub with_change : World → (c : ℕ) → (CpuRecord → CpuRecord) → World
with_change w c f = record w { cpus = slice_set w.cpus c (f (cpu_of w c)) }

-- what the code writes at an index
pub written : (v w : World) (c i : ℕ) (x z : CpuRecord) (f : CpuRecord → CpuRecord) → v ≡ w → i ≡ c
    → c < length w.cpus → x ≡ get_or v.cpus i x → z ≡ f x
    → record v { cpus = slice_set v.cpus i z } ≡ with_change w c f
written v w c i x z f seen same low is made =
    let low' : c < length v.cpus = subst (λ (u : World). c < length u.cpus) (sym seen) low in
    let read = cpu_read v.cpus c i x same low' is in
    ap (λ k. record v { cpus = slice_set v.cpus k z }) same
    ∙ (ap (λ y. record v { cpus = slice_set v.cpus c y }) (made ∙ ap f (sym read))
    ∙ ap (λ (u : World). with_change u c f) seen)

-- a change that leaves the timers
pub same_bases : (w : World) (c : ℕ) (f : CpuRecord → CpuRecord)
    → ((y : CpuRecord) → (f y).bases ≡ y.bases) → c < length w.cpus → (d : ℕ)
    → (cpu_of (with_change w c f) d).bases ≡ (cpu_of w d).bases
same_bases w c f leaves low d = elim (cases_eq d c) [
  | inl is ↦
      subst (λ k. (cpu_of (with_change w c f) k).bases ≡ (cpu_of w k).bases) (sym is)
      (ap (λ (y : CpuRecord). y.bases) (get_or-set_same w.cpus c (f (cpu_of w c)) no_cpu low)
      ∙ leaves (cpu_of w c))
  | inr apart ↦
      ap (λ (y : CpuRecord). y.bases) (get_or-set_other w.cpus c d (f (cpu_of w c)) no_cpu apart)
]

pub held_on : (v w : World) (holders : List (Option CpuId))
    → ((d : ℕ) → (cpu_of w d).bases ≡ (cpu_of v d).bases) → IsHeld v holders → IsHeld w holders
held_on v w holders same held = λ timer d. ap (is_queued timer) (same d) ∙ held timer d

-- another status of a CPU
pub set_kept : (v w : World) (holders : List (Option CpuId)) (tally later : CpuTally) (c i : ℕ)
    (x z : CpuRecord) (status : CpuStatus) → v ≡ w → IsKept v holders tally → i ≡ c
    → c < length w.cpus → x ≡ get_or v.cpus i x → z ≡ with_status x status
    → IsTallied v.tree (slice_set v.cpus c (with_status (cpu_of v c) status)) later
    → WorldFits (with_cpu_status w c status)
    → IsKept (record v { cpus = slice_set v.cpus i z }) holders later
set_kept v w holders tally later c i x z status seen kept same low is made tallied fits =
    let f : CpuRecord → CpuRecord = λ y. with_status y status in
    let now = written v w c i x z f seen same low is made in
    subst (λ u. IsKept u holders later) (sym now)
    (record {
      fits = fits;
      held = held_on w (with_change w c f) holders
          (same_bases w c f (λ y. refl) low)
          (subst (λ u. IsHeld u holders) seen kept.held);
      tallied = subst (λ (u : World). IsTallied u.tree (with_change u c f).cpus later) seen tallied;
    })

-- a step that changes no group
pub own_is : (w : World) (c : ℕ) (y : CpuRecord)
    → own w c y ≡ record w { cpus = slice_set w.cpus c y }
own_is w c y = ap (λ gs. record w { groups = gs; cpus = slice_set w.cpus c y })
    (set-get_or w.groups 0 no_group)

pub status_fits : (w : World) (c : ℕ) (status wanted : CpuStatus) → status ≡ wanted
    → WorldFits (own w c (with_status (cpu_of w c) wanted)) → WorldFits (with_cpu_status w c status)
status_fits w c status wanted is fits =
    subst WorldFits
    (own_is w c (with_status (cpu_of w c) wanted) ∙ ap (with_cpu_status w c) (sym is)) fits

pub status_made : (w after : World) (c : ℕ) (status wanted : CpuStatus) → status ≡ wanted
    → after ≡ with_cpu_status w c status → after ≡ own w c (with_status (cpu_of w c) wanted)
status_made w after c status wanted is made =
    made ∙ (ap (with_cpu_status w c) is ∙ sym (own_is w c (with_status (cpu_of w c) wanted)))

-- another time
pub clock_kept : (v w : World) (holders : List (Option CpuId)) (tally : CpuTally) (now : ℕ) → v ≡ w
    → WorldsStayFit → IsKept v holders tally → Enabled w (steps.Clock now)
    → IsKept (record v { clock = now }) holders tally
clock_kept v w holders tally now seen law kept enabled = record {
  fits = law v kept.fits (steps.Clock now)
      (subst (λ u. Enabled u (steps.Clock now)) (sym seen) enabled);
  held = kept.held;
  tallied = kept.tallied;
}

-- what a walk leaves as it ends is another status
finished_is : (y : CpuRecord) (k : Walk) (kind : WalkKind)
    → finished y k kind ≡ with_status y (finished_status (status_of y) k kind)
finished_is y k kinds.Activate = refl
finished_is y k kinds.Deactivate = refl
finished_is y k kinds.Offline = refl
finished_is y k kinds.Reeval = refl
finished_is y k (kinds.Remote by) = refl

pub finish_fits : (w : World) (c : ℕ) (k : Walk) (status read : CpuStatus)
    → status ≡ finished_status read k k.kind → read ≡ status_of (cpu_of w c)
    → WorldFits (own w c (finished (cpu_of w c) k k.kind)) → WorldFits (with_cpu_status w c status)
finish_fits w c k status read is same fits =
    status_fits w c status (finished_status (status_of (cpu_of w c)) k k.kind)
    (is ∙ ap (λ s. finished_status s k k.kind) same)
    (subst (λ y. WorldFits (own w c y)) (finished_is (cpu_of w c) k k.kind) fits)

pub finish_made : (w after : World) (c : ℕ) (k : Walk) (status read : CpuStatus)
    → status ≡ finished_status read k k.kind → read ≡ status_of (cpu_of w c)
    → after ≡ with_cpu_status w c status → after ≡ own w c (finished (cpu_of w c) k k.kind)
finish_made w after c k status read is same made =
    status_made w after c status (finished_status (status_of (cpu_of w c)) k k.kind)
    (is ∙ ap (λ s. finished_status s k k.kind) same) made
    ∙ ap (own w c) (sym (finished_is (cpu_of w c) k k.kind))
