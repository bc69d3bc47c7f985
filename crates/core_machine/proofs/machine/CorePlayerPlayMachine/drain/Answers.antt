use Rattle.std.proofs.Common.{length, subst, sym, ◌<◌, ◌≡◌}
use Rattle.std.specs.Prelude.{All}
use Rattle.std.specs.Result.{IfOk, OnErr, OnOk}
use Rattle.tm_base.specs.declared.limits.TheConstants.{SCRIPT_TIME_LIMIT}
use Rattle.play_rules.specs.Machines.{IsTimerOf, PartDrained, Same, SameOnline}
use Rattle.play_rules.specs.Phases.{FitsSome, MayDrain, StaysFit}
use Rattle.core_world.specs.World.{World}
use Rattle.step_play.specs.Rules.StepRules.{step_rules}
use Rattle.core_machine.specs.Fitting.{CoreFits}
use Rattle.core_machine.proofs.Calls.Fitting.{some_in_run, stays_ok}
use Rattle.core_machine.proofs.machine.CorePlayerPlayMachine.drain.Goals as goal

pub drain-requires-clause-fit : goal.drain-requires-clause-fit
drain-requires-clause-fit g c =
    some_in_run g.F.CoreFit.exact (λ ph. MayDrain ph c.args.home.0 c.args.class c.args.runner.0) c.self.inside.core
    (subst (λ (w : World). FitsSome (CoreFits g.F.CoreFit.exact) (λ ph. MayDrain ph c.args.home.0 c.args.class c.args.runner.0) w) (sym c.self.view_is)
    c.requires.fit)

pub drain-requires-clause-home : goal.drain-requires-clause-home
drain-requires-clause-home g c =
    subst (λ (w : World). c.args.home.0 < length w.cpus) (sym c.self.view_is) c.requires.home

pub drain-requires-clause-runner : goal.drain-requires-clause-runner
drain-requires-clause-runner g c =
    subst (λ (w : World). c.args.runner.0 < length w.cpus) (sym c.self.view_is) c.requires.runner

pub invariant_of-self : goal.invariant_of-self
invariant_of-self g c =
    subst (λ t. t < SCRIPT_TIME_LIMIT) (sym c.drain.ensures.clock) c.self.invariant

pub returns-clause-fit : goal.returns-clause-fit
returns-clause-fit g c =
    subst (λ (w : World). OnOk c.drain.result (StaysFit (CoreFits g.F.CoreFit.exact) (λ ph. MayDrain ph c.args.home.0 c.args.class c.args.runner.0) w
    c.drain.new.core)) c.self.view_is
    (stays_ok g.F.CoreFit.exact c.drain.result (λ ph. MayDrain ph c.args.home.0 c.args.class c.args.runner.0) c.self.inside.core c.drain.new.core
    c.drain.ensures.fit c.drain.ensures.play)

pub returns-clause-items : goal.returns-clause-items
returns-clause-items g c =
    subst (λ (w : World). IfOk c.drain.result (λ out. out.items ≡ (step_rules.drained w
    c.args.home.0 c.args.class c.args.runner.0).items)) c.self.view_is c.drain.ensures.items

pub returns-clause-timers : goal.returns-clause-timers
returns-clause-timers g c =
    subst (λ (w : World). IfOk c.drain.result (λ out. All (IsTimerOf (step_rules.timers w))
    out.items)) c.self.view_is c.drain.ensures.timers

pub returns-clause-state : goal.returns-clause-state
returns-clause-state g c =
    subst (λ (w : World). OnOk c.drain.result (c.drain.new.core ≡ (step_rules.drained w
    c.args.home.0 c.args.class c.args.runner.0).state)) c.self.view_is c.drain.ensures.state

pub returns-clause-same : goal.returns-clause-same
returns-clause-same g c =
    subst (λ (w : World). OnOk c.drain.result (Same step_rules w c.drain.new.core)) c.self.view_is
    c.drain.ensures.same

pub returns-clause-online : goal.returns-clause-online
returns-clause-online g c =
    subst (λ (w : World). OnOk c.drain.result (SameOnline step_rules w c.drain.new.core))
    c.self.view_is c.drain.ensures.online

pub returns-clause-kept : goal.returns-clause-kept
returns-clause-kept g c =
    subst (λ (w : World). OnErr c.drain.result (PartDrained step_rules w c.args.home.0
    c.args.class c.args.runner.0 c.drain.new.core)) c.self.view_is c.drain.ensures.part
