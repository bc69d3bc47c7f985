-- for crates above: the first timer of a CPU, and its move in a core in play
use Rattle.std.proofs.Common.{◌≡◌, ℕ, ◌<◌, false, true, length, Option, Some, None, refl, sym, ap}
use Rattle.std.proofs.Common.{◌∙◌, subst}
use Rattle.std.specs.Prelude.{option_map}
use Rattle.std.proofs.lemmas.Option.{none-some, same_Some}
use Rattle.tm_base.specs.declared.names.Class.{Class}
use Rattle.tm_base.specs.declared.names.TimerId.{TimerId}
use Rattle.wheel_core.specs.declared.item.Item.{Item}
use Rattle.play_rules.specs.Machines.{Same, SameFlags}
use Rattle.play_rules.specs.Phases.{IsUp}
use Rattle.play_rules.specs.Rules.{Moved}
use Rattle.play_rules.specs.Timers.{first_to_move}
use Rattle.tree_plan.specs.Paths.{is_placed_in}
use Rattle.core_world.specs.declared.step.Step.TheVariants as steps
use Rattle.core_world.specs.Enabled.{MayMove}
use Rattle.core_world.specs.Steps.{first_moved, stepped}
use Rattle.core_world.specs.World.{World, cpu_of, is_active}
use Rattle.core_steps.specs.core_laws.Laws.{StepsStayLawful}
use Rattle.core_steps.specs.core_state.Moves.{wheel_in, wheel_moved}
use Rattle.step_play.specs.Rules.Seen.{InPlay, InRun, resting}
use Rattle.step_play.specs.Rules.StepRules.{moved_by_steps, step_rules}
use Rattle.step_play.proofs.Hotplug.{runs}
use Rattle.step_play.proofs.Moves.{first_alike, may_move, move_idle, move_online, move_plays}
use Rattle.step_play.proofs.Moves.{move_stays, move_wheel}
use Rattle.core_machine.specs.Draining.Turns.{mover_at, timer_found}
use Rattle.core_machine.proofs.Draining.Sames.{moved_same}

-- what was found first, where its timer was
module _ (w : World) (from : ℕ) (t : TimerId) where
  pub record Found : Type 0 where
    pub found : Class × Item
    pub first : first_to_move (cpu_of w from).bases ≡ Some found
    pub timer : t ≡ timer_found found

  found_by : (o : Option (Class × Item)) → first_to_move (cpu_of w from).bases ≡ o →
      Some t ≡ option_map timer_found o → Found
  found_by None first none = absurd (none-some t (sym none))
  found_by (Some found) first same = record {
    found = found;
    first = first;
    timer = same_Some t (timer_found found) same;
  }

  pub found_first : Some t ≡ option_map timer_found (first_to_move (cpu_of w from).bases) → Found
  found_first is = found_by (first_to_move (cpu_of w from).bases) refl is

module _ (law : StepsStayLawful) (w : World) (i : InRun resting w) (from to : ℕ)
    (low : from < length w.cpus) (offline : (cpu_of w from).online ≡ false)
    (placed : is_placed_in w.tree to ≡ true) (up : IsUp step_rules w to false) (t : TimerId)
    (is : Some t ≡ option_map timer_found (first_to_move (cpu_of w from).bases)) where
  active : is_active (cpu_of w to) ≡ true
  active = runs w to up.online up.idles

  f : Found w from t
  f = found_first w from t is

  pub move_enabled : MayMove w from to t.0
  move_enabled =
      subst (λ (x : TimerId). MayMove w from to x.0) (sym f.timer)
      (may_move law w i from to low offline placed active f.found.0 f.found.1 f.first)

  abbrev v : World
  v = stepped w (steps.Move (record { 0 = from }) (record { 0 = to }) t)

  pub move_fits : InRun resting v
  move_fits = move_stays law w i from to low offline placed active f.found.0 f.found.1 f.first

  pub move_in_play : InPlay resting w → InPlay resting v
  move_in_play p =
      (move_plays law w p from to low offline placed active f.found.0 f.found.1 f.first).in_play

  pub move_same : Same step_rules w v
  move_same = moved_same w from to (first_moved (cpu_of w from).bases)

  pub move_flags : SameFlags step_rules w v
  move_flags = record {
    online = move_online law w i from to low offline placed active f.found.0 f.found.1 f.first;
    idle = move_idle law w i from to low offline placed active f.found.0 f.found.1 f.first;
  }

  pub move_told : (wheel : Option ℕ) → wheel ≡ wheel_moved w from to →
      option_map (mover_at t) wheel
      ≡ option_map (λ (m : Moved World). m.mover) (step_rules.moved w from to)
  move_told wheel told =
      let there : wheel ≡ Some (wheel_in w.clock f.found.0 (cpu_of w to).bases f.found.1) =
      told
      ∙ ap (option_map (λ (x : Class × Item). wheel_in w.clock x.0 (cpu_of w to).bases x.1))
      (first_alike (cpu_of w from).bases ∙ f.first) in
      let same =
      move_wheel law w i from to low offline placed active f.found.0 f.found.1 f.first in
      let last : Some (mover_at t (wheel_in w.clock f.found.0 (cpu_of w to).bases f.found.1))
      ≡ Some (moved_by_steps w from to f.found).mover =
      λ j. Some (record { timer = f.timer j; wheel = sym same j }) in
      ap (option_map (mover_at t)) there
      ∙ (last
      ∙ sym (ap (λ o. option_map (λ (m : Moved World). m.mover)
      (option_map (moved_by_steps w from to) o)) f.first))
