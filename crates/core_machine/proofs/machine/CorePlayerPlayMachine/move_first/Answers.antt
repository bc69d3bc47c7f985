use Rattle.std.proofs.Common.{false, length, refl, subst, sym, true, ◌<◌, ◌≡◌}
use Rattle.std.specs.Prelude.{option_map}
use Rattle.std.specs.Result.{IfOk, OnErr, OnOk}
use Rattle.play_rules.specs.Machines.{Same, SameFlags, after_move}
use Rattle.play_rules.specs.Phases.{IsUp}
use Rattle.core_world.specs.World.{World}
use Rattle.step_play.specs.Rules.Seen.{resting}
use Rattle.step_play.specs.Rules.StepRules.{step_rules}
use Rattle.core_machine.proofs.Calls.InTime.{stays_in_time}
use Rattle.core_machine.specs.Fitting.{CoreFits}
use Rattle.core_machine.proofs.Calls.Fitting.{goes_ok, in_run}
use Rattle.core_machine.proofs.machine.CorePlayerPlayMachine.move_first.Goals as goal

pub move_first-requires-clause-offline : goal.move_first-requires-clause-offline
move_first-requires-clause-offline g c =
    subst (λ (w : World). step_rules.is_online w c.args.from.0 ≡ false) (sym c.self.view_is)
    c.requires.offline

pub move_first-requires-clause-placed : goal.move_first-requires-clause-placed
move_first-requires-clause-placed g c =
    subst (λ (w : World). step_rules.is_placed w c.args.to.0 ≡ true) (sym c.self.view_is)
    c.requires.placed

pub move_first-requires-clause-active : goal.move_first-requires-clause-active
move_first-requires-clause-active g c =
    subst (λ (w : World). IsUp step_rules w c.args.to.0 false) (sym c.self.view_is)
    c.requires.active

pub returns-clause-moved : goal.returns-clause-moved
returns-clause-moved g c =
    subst (λ (w : World). IfOk c.move_first.result (λ mover. mover
    ≡ option_map (λ m. m.mover) (step_rules.moved w c.args.from.0 c.args.to.0))) c.self.view_is
    c.move_first.ensures.moved

pub returns-clause-state : goal.returns-clause-state
returns-clause-state g c =
    subst (λ (w : World). OnOk c.move_first.result (c.move_first.new.core
    ≡ after_move (step_rules.moved w c.args.from.0 c.args.to.0) w)) c.self.view_is
    c.move_first.ensures.state

pub returns-clause-same : goal.returns-clause-same
returns-clause-same g c =
    subst (λ (w : World). OnOk c.move_first.result (Same step_rules w c.move_first.new.core))
    c.self.view_is c.move_first.ensures.same

pub returns-clause-flags : goal.returns-clause-flags
returns-clause-flags g c =
    subst (λ (w : World). OnOk c.move_first.result
    (SameFlags step_rules w c.move_first.new.core)) c.self.view_is c.move_first.ensures.flags

pub returns-clause-kept : goal.returns-clause-kept
returns-clause-kept g c =
    subst (λ (w : World). OnErr c.move_first.result (c.move_first.new.core ≡ w)) c.self.view_is
    c.move_first.ensures.err

pub move_first-requires-clause-fit : goal.move_first-requires-clause-fit
move_first-requires-clause-fit g c =
    in_run g.F.CoreFit.exact resting c.self.inside.core
    (subst (CoreFits g.F.CoreFit.exact resting) (sym c.self.view_is) c.requires.fit)

pub returns-clause-fit : goal.returns-clause-fit
returns-clause-fit g c =
    goes_ok g.F.CoreFit.exact c.move_first.result resting resting c.self.inside.core
    c.move_first.new.core c.move_first.ensures.fit c.move_first.ensures.play
    (subst (CoreFits g.F.CoreFit.exact resting) (sym c.self.view_is) c.requires.fit)

pub move_first-requires-clause-from : goal.move_first-requires-clause-from
move_first-requires-clause-from g c =
    subst (λ (w : World). c.args.from.0 < length w.cpus) (sym c.self.view_is) c.requires.from

pub move_first-requires-clause-to : goal.move_first-requires-clause-to
move_first-requires-clause-to g c =
    subst (λ (w : World). c.args.to.0 < length w.cpus) (sym c.self.view_is) c.requires.to

pub move_first-requires-clause-other : goal.move_first-requires-clause-other
move_first-requires-clause-other g c = c.requires.other

pub invariant_of-self : goal.invariant_of-self
invariant_of-self g c =
    stays_in_time c.move_first.result c.move_first.new.core refl c.self.invariant
    c.move_first.ensures.same c.move_first.ensures.err
