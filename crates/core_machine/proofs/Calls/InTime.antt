-- a call leaves the clock as it was, so within a script's times
use Rattle.std.proofs.Common.{◌≡◌, ◌<◌, ◌∙◌, subst, sym}
use Rattle.std.specs.Prelude.{Result, Ok, Err}
use Rattle.std.specs.Result.{OnErr, OnOk}
use Rattle.tm_base.specs.declared.limits.TheConstants.{SCRIPT_TIME_LIMIT}
use Rattle.play_rules.specs.Machines.{Same}
use Rattle.core_world.specs.World.{World}
use Rattle.step_play.specs.Rules.Seen.{Phase}
use Rattle.step_play.specs.Rules.StepRules.{step_rules}
use Rattle.core_machine.proofs.Calls.Leaves.{Leaves}

-- the core is what the call is seen to begin with
pub in_time : {ph now : Phase} {core w v : World} → core ≡ w → core.clock < SCRIPT_TIME_LIMIT →
    Leaves ph now w v → v.clock < SCRIPT_TIME_LIMIT
in_time is low left =
    subst (λ t. t < SCRIPT_TIME_LIMIT) (sym left.same.clock)
    (subst (λ (w : World). w.clock < SCRIPT_TIME_LIMIT) is low)

-- also one that may want memory
pub stays_in_time : {A E : Type 0} {core w : World} (r : Result A E) (v : World) → core ≡ w →
    core.clock < SCRIPT_TIME_LIMIT → OnOk r (Same step_rules w v) → OnErr r (v ≡ w) →
    v.clock < SCRIPT_TIME_LIMIT
stays_in_time (Ok a) v is low same kept =
    subst (λ t. t < SCRIPT_TIME_LIMIT) (sym same.clock)
    (subst (λ (w : World). w.clock < SCRIPT_TIME_LIMIT) is low)
stays_in_time (Err e) v is low same kept =
    subst (λ (w : World). w.clock < SCRIPT_TIME_LIMIT) (is ∙ sym kept) low
