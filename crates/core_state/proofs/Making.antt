-- for crates above: a step of a walk, as the code makes it
use Rattle.std.proofs.Common.{◌≡◌, ℕ, ◌<◌, Bool, List, Option, length, refl, sym, ap, ◌∙◌, subst}
use Rattle.std.proofs.Common.{arith, inl, inr, get_or, get_or-set_other, get_or-set_same}
use Rattle.std.specs.Prelude.{slice_set}
use Rattle.std.proofs.lemmas.Bool.{cases_eq}
use Rattle.std.proofs.lemmas.List.{get_or_default}
use Rattle.tm_base.specs.declared.names.CpuId.{CpuId}
use Rattle.core_facts.specs.walk_rules.Scene.{Group, no_group}
use Rattle.core_facts.specs.walk_rules.declared.walk.Walk.{Walk}
use Rattle.core_parts.specs.core_world.Steps.{with_walk}
use Rattle.core_parts.specs.core_world.World.{CpuRecord, World, cpu_of, group_of, moved, no_cpu}
use Rattle.core_parts.specs.core_world.World.{stale_if}
use Rattle.core_parts.specs.declared.change.GroupChange.{GroupChange}
use Rattle.core_parts.specs.declared.status.CpuStatus.{CpuStatus}
use Rattle.core_parts.specs.Changes.{changed}
use Rattle.core_state.specs.Kept.{IsHeld, IsKept, WorldFits}
use Rattle.core_parts.specs.Status.{with_status}
use Rattle.core_state.specs.Tally.{CpuTally, IsTallied}
use Rattle.core_state.proofs.Changes.{cpu_read, held_on}
use Rattle.core_parts.proofs.core_world.Moves.{stale_if_length}
use Rattle.core_parts.proofs.Readings.{same_part, same_timers}
use Rattle.core_state.proofs.Tallies.{set_alike}

group_read : (groups : List Group) (g i : ℕ) (x : Group) → i ≡ g → g < length groups
    → x ≡ get_or groups i x → get_or groups g no_group ≡ x
group_read groups g i x same low is =
    get_or_default groups g no_group x low ∙ (ap (λ k. get_or groups k x) (sym same) ∙ sym is)

module _ (v w : World) (g i c j : ℕ) (x y : Group) (cs : List CpuRecord) (a b : CpuRecord)
    (change : GroupChange) (status : CpuStatus) (exchanges : Bool) (seen : v ≡ w) (at_g : i ≡ g)
    (g_low : g < length w.groups) (read_g : x ≡ get_or v.groups i x) (made_g : y ≡ changed change x)
    (are : cs ≡ stale_if v.tree exchanges g v.cpus) (at_c : j ≡ c) (c_low : c < length w.cpus)
    (read_c : a ≡ get_or cs j a) (made_c : b ≡ with_status a status) where
  abbrev pub after : World
  after = moved w g (changed change (group_of w g)) c (with_status (cpu_of w c) status) exchanges

  group_made : changed change (group_of v g) ≡ y
  group_made =
      let low : g < length v.groups = subst (λ (u : World). g < length u.groups) (sym seen) g_low in
      ap (changed change) (group_read v.groups g i x at_g low read_g) ∙ sym made_g

  same_timers_here : a.bases ≡ (cpu_of v c).bases
  same_timers_here =
      let low : c < length v.cpus = subst (λ (u : World). c < length u.cpus) (sym seen) c_low in
      let len = stale_if_length v.tree exchanges g v.cpus in
      let low' : c < length cs = subst (λ ys. c < length ys) (sym are) (omega (arith, low, len)) in
      ap (λ (z : CpuRecord). z.bases) (sym (cpu_read cs c j a at_c low' read_c))
      ∙ (ap (λ ys. (get_or ys c no_cpu).bases) are ∙ same_timers v.tree exchanges g v.cpus c)

  cpu_made : with_status (cpu_of v c) status ≡ b
  cpu_made =
      (λ k. record {
        online = status.online;
        idle = status.idle;
        inside = status.inside;
        mark = status.mark;
        wakeup = status.wakeup;
        bases = sym same_timers_here k;
        walk = status.walk;
      })
      ∙ sym made_c

  pub made : record v { groups = slice_set v.groups i y; cpus = slice_set cs j b } ≡ after
  made =
      (λ k. record v {
        groups = slice_set v.groups (at_g k) (sym group_made k);
        cpus = slice_set (are k) (at_c k) (sym cpu_made k);
      })
      ∙ ap (λ (u : World). moved u g (changed change (group_of u g)) c
      (with_status (cpu_of u c) status) exchanges) seen

  same_after : (d : ℕ) → (cpu_of after d).bases ≡ (cpu_of w d).bases
  same_after d =
      let cs' = stale_if w.tree exchanges g w.cpus in
      let z = with_status (cpu_of w c) status in
      let len = stale_if_length w.tree exchanges g w.cpus in
      elim (cases_eq d c) [
        | inl is ↦
            subst (λ k. (cpu_of after k).bases ≡ (cpu_of w k).bases) (sym is)
            (ap (λ (u : CpuRecord). u.bases)
            (get_or-set_same cs' c z no_cpu (omega (arith, c_low, len))))
        | inr apart ↦
            ap (λ (u : CpuRecord). u.bases) (get_or-set_other cs' c d z no_cpu apart)
            ∙ same_timers w.tree exchanges g w.cpus d
      ]

  -- readings are neither marks nor CPUs online
  tallied_after : (tally : CpuTally)
      → IsTallied v.tree (slice_set v.cpus c (with_status (cpu_of v c) status)) tally
      → IsTallied after.tree after.cpus tally
  tallied_after tally tallied =
      set_alike w.tree w.cpus (stale_if w.tree exchanges g w.cpus) c
      (with_status (cpu_of w c) status) tally (stale_if_length w.tree exchanges g w.cpus) c_low
      (λ d. same_part (λ (z : CpuRecord). z.mark) w.tree exchanges g w.cpus d (λ e z. refl))
      (λ d. same_part (λ (z : CpuRecord). z.online) w.tree exchanges g w.cpus d (λ e z. refl))
      (subst (λ (u : World).
      IsTallied u.tree (slice_set u.cpus c (with_status (cpu_of u c) status)) tally) seen tallied)

  pub made_kept : (holders : List (Option CpuId)) (tally later : CpuTally) → IsKept v holders tally
      → IsTallied v.tree (slice_set v.cpus c (with_status (cpu_of v c) status)) later
      → WorldFits after
      → IsKept (record v { groups = slice_set v.groups i y; cpus = slice_set cs j b }) holders later
  made_kept holders tally later kept tallied fits =
      subst (λ u. IsKept u holders later) (sym made)
      (record {
        fits = fits;
        held = held_on w after holders same_after (subst (λ u. IsHeld u holders) seen kept.held);
        tallied = tallied_after later tallied;
      })

-- and with a status that is known to be another one
pub status_moved : (w : World) (g : ℕ) (change : GroupChange) (c : ℕ) (exchanges : Bool)
    (status wanted : CpuStatus) → status ≡ wanted
    → moved w g (changed change (group_of w g)) c (with_status (cpu_of w c) status) exchanges
    ≡ moved w g (changed change (group_of w g)) c (with_status (cpu_of w c) wanted) exchanges
status_moved w g change c exchanges status wanted is =
    ap (λ s. moved w g (changed change (group_of w g)) c (with_status (cpu_of w c) s) exchanges) is

pub walk_moved : (w : World) (c : ℕ) (exchanges : Bool) (g h : ℕ) (change wanted : GroupChange)
    (k j : Option Walk) → g ≡ h → change ≡ wanted → k ≡ j
    → moved w g (changed change (group_of w g)) c (with_walk (cpu_of w c) k) exchanges
    ≡ moved w h (changed wanted (group_of w h)) c (with_walk (cpu_of w c) j) exchanges
walk_moved w c exchanges g h change wanted k j at is walk =
    λ i. moved w (at i) (changed (is i) (group_of w (at i))) c (with_walk (cpu_of w c) (walk i))
    exchanges
