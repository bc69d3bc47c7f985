-- for crates above: what the queue of the top says
use Rattle.std.proofs.Common.{◌≡◌, ◌⊎◌, inl, inr, ℕ, suc, ◌<◌, cond, Bool, true, length}
use Rattle.std.proofs.Common.{Option, Some, None, refl, sym, ap, ◌∙◌, arith, true≢false}
use Rattle.std.specs.Prelude.{◌&&◌, IfSome, filter, is_none, is_some, not}
use Rattle.std.specs.List.{fold, list_any, range_with_len}
use Rattle.std.proofs.lemmas.Bool.{and_from, and_parts, cases_Bool, cases_lt}
use Rattle.std.proofs.lemmas.Option.{none-some}
use Rattle.tm_base.specs.declared.names.TheConstants.{NEVER}
use Rattle.tm_base.specs.Children.{of_group}
use Rattle.event_queue.specs.declared.event.Event.{Event}
use Rattle.event_queue.specs.EventMap.{Counts, event_at}
use Rattle.tree_plan.specs.Paths.{IsBelow, IsTop, group_at_of, group_count_of, is_placed_in}
use Rattle.tree_plan.specs.Paths.{parent_of}
use Rattle.tree_plan.proofs.Below.{below_laws, paths}
use Rattle.tree_plan.proofs.Trees.{edge_laws}
use Rattle.play_rules.specs.State.{all_cpus, cpu_at}
use Rattle.play_rules.specs.Hierarchy.{common_duty, least_told, some_placed_active}
use Rattle.walk_rules.specs.Hierarchy.{at_top}
use Rattle.walk_rules.specs.Stages.{first_of}
use Rattle.core_world.specs.World.{World, group_of}
use Rattle.step_play.specs.Rules.Live.{expiry_of, first, told_by}
use Rattle.step_play.specs.Rules.Seen.{state_of}
use Rattle.step_play.specs.Queues.AtRest.{AtRest}
use Rattle.step_play.specs.Queues.Choices.{EachTop, FoundIsDuty, found_in}
use Rattle.step_play.specs.Queues.Leftmost.{Leftmost}
use Rattle.step_play.proofs.Queues.Active.{path_on, runs}
use Rattle.step_play.proofs.Queues.Dues.{found_first}
use Rattle.step_play.proofs.Queues.Firsts.{in_time, quiet_first}
use Rattle.step_play.proofs.Queues.Leftmosts.{widened}
use Rattle.step_play.proofs.Queues.Looks.{below_within}
use Rattle.step_play.proofs.Queues.Ranges.{InRun, all_pass, any_is, least_is}
use Rattle.step_play.proofs.Queues.Sights.{active_seen, cpus_seen, runs_within, told_seen}
use Rattle.step_play.proofs.Queues.Sights.{unplaced_told}

module _ (w : World) (r : AtRest w) where
  -- what the leftmost of some CPUs told is the least that Play sees of them
  pub least_from : (Among : ℕ → Type 0) (q : ℕ → Bool) (o : Option Event) →
      ((d : ℕ) → d < length w.cpus → q d ≡ true → Among d) →
      ((d : ℕ) → Among d → (d < length w.cpus) × (q d ≡ true)) →
      Leftmost (told_by w) Among o →
      least_told (state_of w) (filter q (all_cpus (state_of w))) ≡ expiry_of o
  least_from Among q o to from one =
      ap (λ cpus. least_told (state_of w) (filter q cpus)) (cpus_seen w) ∙ by_event o one
    where
      by_event : (m : Option Event) → Leftmost (told_by w) Among m →
          least_told (state_of w) (filter q (range_with_len 0 (length w.cpus))) ≡ expiry_of m
      by_event None none =
          least_is (λ d. (cpu_at (state_of w) d).told) q (length w.cpus) NEVER NEVER (omega arith)
          (λ d low is. let never = none d (to d low is) in let same = told_seen w r d in
          omega (arith, never, same))
          (inl refl)
      by_event (Some e) first =
          let at = from e.cpu.0 first.among in
          least_is (λ d. (cpu_at (state_of w) d).told) q (length w.cpus) NEVER e.expiry
          (let comes = first.comes in omega (arith, comes))
          (λ d low is. let less = first.least d (to d low is) in let same = told_seen w r d in
          omega (arith, less, same))
          (inr (e.cpu.0, at.0, at.1, told_seen w r e.cpu.0 ∙ sym first.expiry))

  module _ (top : ℕ) (last : IsTop w.tree top) where
    abbrev placed_runs : ℕ → Bool
    placed_runs d =
        is_placed_in w.tree d
        && ((cpu_at (state_of w) d).online && not (cpu_at (state_of w) d).idle)

    to : InRun placed_runs 0 (length w.cpus) → is_some (group_of w top).migrator ≡ true
    to at =
        let low : at.number < length w.cpus = omega (arith, at.within) in
        let parts = and_parts (is_placed_in w.tree at.number)
        ((cpu_at (state_of w) at.number).online && not (cpu_at (state_of w) at.number).idle)
        at.passes in
        let below = (below_laws w.tree r.planned).top at.number top last parts.0 in
        path_on w r at.number below.0 top (sym (active_seen w at.number low) ∙ parts.1) below.1

    from : is_some (group_of w top).migrator ≡ true → InRun placed_runs 0 (length w.cpus)
    from on =
        let run = runs w r top on in
        let low = runs_within w run.runner run.active in
        record {
          number = run.runner;
          from = omega arith;
          within = omega (arith, low);
          passes = and_from (is_placed_in w.tree run.runner)
              ((cpu_at (state_of w) run.runner).online
              && not (cpu_at (state_of w) run.runner).idle)
              ((below_laws w.tree r.planned).placed run.runner top run.below)
              (active_seen w run.runner low ∙ run.active);
        }

    pub top_active : some_placed_active (state_of w) ≡ is_some (group_of w top).migrator
    top_active =
        ap (list_any placed_runs) (cpus_seen w)
        ∙ sym (any_is placed_runs (length w.cpus) (is_some (group_of w top).migrator) to from)

    -- all that anybody told was told below the top
    below_or_never : (d : ℕ) → d < length w.cpus →
        IsBelow w.tree d top ⊎ (told_by w d ≡ NEVER)
    below_or_never d low = elim (cases_Bool (is_placed_in w.tree d)) [
      | inl placed ↦ inl ((below_laws w.tree r.planned).top d top last placed)
      | inr out ↦ inr (unplaced_told w r d out)
    ]

    pub top_first : (group_of w top).migrator ≡ None →
        expiry_of (first w top) ≡ least_told (state_of w) (all_cpus (state_of w))
    top_first off =
        sym (ap (least_told (state_of w)) (sym (all_pass (all_cpus (state_of w))))
        ∙ least_from (λ d. d < length w.cpus) (λ d. true) (first w top)
        (λ d low is. low) (λ d low. (low, refl))
        (widened (told_by w) (λ d. IsBelow w.tree d top) (λ d. d < length w.cpus) (first w top)
        (λ d below. below_within w r top d below) below_or_never (quiet_first w r top off)))

    -- WHAT A WALK FINDS
    comes : (k : ℕ) (o : Option Event) → event_at (group_of w top).events k ≡ o →
        IfSome o (λ e. Counts e → e.expiry < NEVER)
    comes k None is = tt
    comes k (Some e) is = λ counts. in_time w r top k e is

    found_at : (m : Option ℕ) → (group_of w top).migrator ≡ m →
        found_in w top ≡ common_duty (state_of w)
    found_at None off =
        ap (λ m. cond (is_none m) (fold first_of NEVER (group_of w top).events) NEVER) off
        ∙ (found_first None (group_of w top).events
        (λ k. comes k (event_at (group_of w top).events k) refl)
        ∙ (top_first off
        ∙ sym (ap (λ b. cond b NEVER (least_told (state_of w) (all_cpus (state_of w))))
        (top_active ∙ ap is_some off))))
    found_at (Some k) on =
        ap (λ m. cond (is_none m) (fold first_of NEVER (group_of w top).events) NEVER) on
        ∙ sym (ap (λ b. cond b NEVER (least_told (state_of w) (all_cpus (state_of w))))
        (top_active ∙ ap is_some on))

  -- where a path ends is the top
  no_parent : (o : Option ℕ) → is_none o ≡ true → o ≡ None
  no_parent None e = refl
  no_parent (Some p) e = absurd (true≢false (sym e))

  pub path_ends : (c level g : ℕ) → group_at_of w.tree c level ≡ Some g →
      at_top w.tree c level ≡ true → IsTop w.tree g
  path_ends c level g here last = elim (cases_lt (suc g) (group_count_of w.tree)) [
    | inl low ↦
        let parent = (edge_laws w.tree r.planned).group_parent g low in
        let none : parent_of w.tree (of_group g) ≡ None =
        sym ((paths w.tree r.planned).climb c level g here)
        ∙ no_parent (group_at_of w.tree c (suc level)) last in
        absurd (none-some parent.0 (sym none ∙ parent.1))
    | inr high ↦
        let within = (paths w.tree r.planned).group_within c level g here in
        omega (arith, high, within)
  ]

pub each_top : EachTop
each_top w r top last = record {
  active = top_active w r top last;
  first = top_first w r top last;
}

pub found_is_duty : FoundIsDuty
found_is_duty w r c level g here last =
    found_at w r g (path_ends w r c level g here last) (group_of w g).migrator refl
