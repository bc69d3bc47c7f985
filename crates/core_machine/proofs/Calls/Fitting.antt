-- a core that fits a machine is in a run, and what keeps a run, and play too, keeps what fits
use Rattle.std.specs.Prelude.{ℕ, ◌<◌, ◌≤◌, Bool, true, false, Result}
use Rattle.std.specs.Result.{OnOk}
use Rattle.std.proofs.lemmas.Result.{on_ok_weaker}
use Rattle.tm_base.specs.declared.limits.TheConstants.{SCRIPT_TIME_LIMIT}
use Rattle.play_rules.specs.Phases.{FitsSome, Phase, StaysFit}
use Rattle.core_steps.specs.core_laws.Laws.{StepsStayLawful}
use Rattle.core_world.specs.declared.step.Step.TheVariants as steps
use Rattle.core_world.specs.Steps.{stepped}
use Rattle.core_world.specs.World.{World}
use Rattle.step_play.specs.Rules.Seen.{InPlay, InRun, resting}
use Rattle.step_play.proofs.Interrupted.{time_goes, time_runs}
use Rattle.core_machine.specs.Fitting.{CoreFits}
use Rattle.core_machine.proofs.Calls.Leaves.{Leaves}

pub in_run : (exact : Bool) (ph : Phase) (w : World) → CoreFits exact ph w → InRun ph w
in_run true ph w fit = fit.in_run
in_run false ph w fit = fit

pub some_in_run : (exact : Bool) (Allows : Phase → Type 0) (w : World) →
    FitsSome (CoreFits exact) Allows w → FitsSome InRun Allows w
some_in_run true Allows w some = record {
  phase = some.phase;
  allowed = some.allowed;
  fit = some.fit.in_run;
}
some_in_run false Allows w some = some

pub fits : {ph now : Phase} {w v : World} (exact : Bool) → Leaves ph now w v →
    CoreFits exact ph w → CoreFits exact now v
fits true left fit = left.play fit
fits false left fit = left.fit

-- the clock comes to a later moment
pub time_fits : (exact : Bool) → StepsStayLawful → (now : ℕ) (w : World) → w.clock ≤ now →
    now < SCRIPT_TIME_LIMIT → CoreFits exact resting w →
    CoreFits exact resting (stepped w (steps.Clock now))
time_fits true law now w later early fit = time_goes law now w later early fit
time_fits false law now w later early fit = time_runs law now w later early fit

pub goes_ok : {A E : Type 0} (exact : Bool) (r : Result A E) (p q : Phase) (w v : World) →
    OnOk r (InRun q v) → OnOk r (InPlay p w → InPlay q v) → CoreFits exact p w →
    OnOk r (CoreFits exact q v)
goes_ok true r p q w v run play fit = on_ok_weaker r (λ goes. goes fit) play
goes_ok false r p q w v run play fit = run

pub stays_ok : {A E : Type 0} (exact : Bool) (r : Result A E) (Allows : Phase → Type 0)
    (w v : World) → OnOk r (StaysFit InRun Allows w v) → OnOk r (StaysFit InPlay Allows w v) →
    OnOk r (StaysFit (CoreFits exact) Allows w v)
stays_ok true r Allows w v run play = play
stays_ok false r Allows w v run play = run
