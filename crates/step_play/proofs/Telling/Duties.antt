-- what a walk found to wake for is its CPU's duty
use Rattle.std.proofs.Common.{◌≡◌, inl, inr, ℕ, ◌<◌, Bool, true, false, cond, length, min, refl}
use Rattle.std.proofs.Common.{sym, ap, ◌∙◌, arith}
use Rattle.std.specs.Prelude.{◌&&◌, ◌||◌, is_none, is_some, not}
use Rattle.std.specs.List.{fold, list_any, range_with_len}
use Rattle.std.proofs.lemmas.Bool.{and_from, and_left, and_right, cases_lt, cond-false, cond-true}
use Rattle.std.proofs.lemmas.List.{get_or_past}
use Rattle.tm_base.specs.declared.names.TheConstants.{NEVER}
use Rattle.tm_base.specs.declared.names.Child.{Child}
use Rattle.tree_plan.specs.Paths.{is_placed_in, is_under}
use Rattle.tree_plan.proofs.Below.{below_laws}
use Rattle.play_rules.specs.State.{Cpu, State, cpu_at, cpu_count, new_cpu}
use Rattle.play_rules.specs.State as play
use Rattle.play_rules.specs.Hierarchy.{child_active, common_duty, some_placed_active}
use Rattle.walk_rules.specs.declared.walk.Walk.{Walk}
use Rattle.walk_rules.specs.Hierarchy.{at_top}
use Rattle.walk_rules.specs.Scene.{is_on}
use Rattle.walk_rules.specs.Stages.{is_remote}
use Rattle.core_world.specs.Steps.{here}
use Rattle.core_world.specs.World.{World, cpu_of, group_of, scene_of}
use Rattle.step_play.specs.Rules.Live.{told_by}
use Rattle.step_play.specs.Rules.Seen.{cpu_seen, state_of}
use Rattle.step_play.specs.Queues.AtRest.{AtRest}
use Rattle.step_play.proofs.Queues.Active.{runs}
use Rattle.step_play.proofs.Queues.Ranges.{any_at}
use Rattle.step_play.proofs.Queues.Sights.{active_seen, child_seen, count_seen, past_at, runs_within}
use Rattle.step_play.proofs.Queues.Sights.{seen_at}
use Rattle.step_play.proofs.Queues.Tops.{found_is_duty}
use Rattle.step_play.proofs.Telling.Ending.{EndsAt}
use Rattle.step_play.proofs.Telling.Slots.{least_live}
use Rattle.step_play.proofs.Telling.Telling.{looks}

-- of the CPUs a state has what Play sees in a core, but for wakeups and bases
pub record IsLike (s : State) (w : World) : Type 0 where
  pub tree : s.tree ≡ w.tree
  pub count : cpu_count s ≡ length w.cpus
  pub online : (d : ℕ) → d < length w.cpus → (cpu_at s d).online ≡ (cpu_of w d).online
  pub idle : (d : ℕ) → d < length w.cpus → (cpu_at s d).idle ≡ (cpu_of w d).idle
  pub told : (d : ℕ) → d < length w.cpus → (cpu_at s d).told ≡ told_by w d

module _ {s : State} {w : World} (like : IsLike s w) where
  -- the same of each CPU
  field : {X : Type 0} (f : Cpu → X) →
      ((d : ℕ) → d < length w.cpus → f (cpu_at s d) ≡ f (cpu_seen w d)) → (d : ℕ) →
      f (cpu_at s d) ≡ f (cpu_at (state_of w) d)
  field f same d = elim (cases_lt d (length w.cpus)) [
    | inl low ↦ same d low ∙ sym (ap f (seen_at w d low))
    | inr high ↦ ap f (get_or_past s.cpus d new_cpu
        (let count = like.count in omega (arith, count, high)) ∙ sym (past_at w d high))
  ]

  same_count : cpu_count s ≡ cpu_count (state_of w)
  same_count = like.count ∙ sym (count_seen w)

  same_active : (d : ℕ) → play.is_active s d ≡ play.is_active (state_of w) d
  same_active d = λ i.
      field (λ y. y.online) like.online d i && not (field (λ y. y.idle) like.idle d i)

  same_child : (m : Child) → child_active s m ≡ child_active (state_of w) m
  same_child m = λ i. list_any (λ d. same_active d i && is_under (like.tree i) d m)
      (range_with_len 0 (same_count i))

  pub same_duty : common_duty s ≡ common_duty (state_of w)
  same_duty = λ i.
      cond (list_any (λ d. is_placed_in (like.tree i) d && same_active d i)
      (range_with_len 0 (same_count i))) NEVER
      (fold (λ least d. min least (field (λ y. y.told) like.told d i)) NEVER
      (range_with_len 0 (same_count i)))

  pub child_on : AtRest w → (m : Child) → child_active s m ≡ is_on (scene_of w) m
  child_on r m = same_child m ∙ sym (child_seen w r m)

module _ {w : World} (r : AtRest w) where
  -- as long as a group is active some placed CPU is
  busy : (g : ℕ) → is_some (group_of w g).migrator ≡ true → common_duty (state_of w) ≡ NEVER
  busy g on =
      let run = runs w r g on in
      let low = runs_within w run.runner run.active in
      let count = count_seen w in
      cond-true (some_placed_active (state_of w)) NEVER _
      (any_at (λ d. is_placed_in w.tree d && play.is_active (state_of w) d) 0
      (cpu_count (state_of w)) run.runner (omega arith) (omega (arith, low, count))
      (and_from (is_placed_in w.tree run.runner) (play.is_active (state_of w) run.runner)
      ((below_laws w.tree r.planned).placed run.runner g run.below)
      (active_seen w run.runner low ∙ run.active)))

  -- WHAT IT FOUND at the top
  pub found : (c : ℕ) (k : Walk) → is_remote k.kind ≡ false → EndsAt w c k →
      k.first ≡ common_duty (state_of w)
  found c k own e = e.found.first ∙ by_on k.on refl
    where
      by_on : (b : Bool) → k.on ≡ b →
          cond (looks w c k) (least_live (group_of w (here w c k)).events) NEVER
          ≡ common_duty (state_of w)
      by_on true on =
          cond-false (looks w c k) (least_live (group_of w (here w c k)).events) NEVER
          (and_right (at_top w.tree c k.level) (not k.on && not (is_remote k.kind))
          (and_left (not k.on) (not (is_remote k.kind)) (ap not on)))
          ∙ sym (busy (here w c k) (sym e.found.sees.on ∙ on))
      by_on false off =
          let top : at_top w.tree c k.level ≡ true = (λ i. sym off i || at_top w.tree c k.level)
          ∙ (sym e.found.sees.over ∙ e.over) in
          let sees : looks w c k ≡ true =
          and_from (at_top w.tree c k.level) (not k.on && not (is_remote k.kind)) top
          (and_from (not k.on) (not (is_remote k.kind)) (ap not off) (ap not own)) in
          cond-true (looks w c k) (least_live (group_of w (here w c k)).events) NEVER sees
          ∙ (sym (cond-true (is_none (group_of w (here w c k)).migrator)
          (least_live (group_of w (here w c k)).events) NEVER
          (ap not (sym e.found.sees.on ∙ off)))
          ∙ found_is_duty w r c k.level (here w c k) e.there top)
