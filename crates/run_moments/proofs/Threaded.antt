-- the operations of a moment with a round: they are in range, and no more than a script may have
use Rattle.std.proofs.Common.{◌≡◌, ℕ, ◌<◌, ◌≤◌, List, Option, Some, None, false, refl, arith}
use Rattle.std.proofs.Common.{length, subst, sym}
use Rattle.std.specs.Prelude.{All, slice_index_or}
use Rattle.std.specs.FinSet.{FinSet}
use Rattle.std.specs.List.{list_any}
use Rattle.std.specs.Option.{ForSome}
use Rattle.std.specs.Ordering.{nat_cmp}
use Rattle.std.proofs.lemmas.List.Elements.{All-nil}
use Rattle.tm_base.specs.declared.limits.TheConstants.{MOST_OPS, SCRIPT_TIME_LIMIT}
use Rattle.tm_script.specs.declared.syntax.Moment.{Moment}
use Rattle.tm_script.specs.declared.syntax.Op.{Op}
use Rattle.tm_script.specs.declared.syntax.What.{What}
use Rattle.tm_script.specs.declared.syntax.What.TheVariants as whats
use Rattle.core_world.specs.World.{World}
use Rattle.run_plain.specs.step_play.Rules.Seen.{InRun, resting}
use Rattle.run_plain.specs.step_play.Rules.StepRules.{step_rules}
use Rattle.run_plain.specs.run_story.Asked.{AsksRound, IsRoundOp, IsTimerThere}
use Rattle.run_plain.specs.run_story.Stories.{is_hotplug, ops_of}
use Rattle.play_driver.specs.Conditions.{AreOnline, IsOpInRange, IsTimerInRange}
use Rattle.run_moments.specs.Runs.{IsRunMoment}
use Rattle.run_moments.proofs.Plain.{none_of}

-- of the operations that the script has for a moment holds what holds of the moment's
ops_in_range : (cpus timers : ℕ) (m : Option Moment) → ForSome m (IsRunMoment cpus timers) →
    All (IsOpInRange cpus timers) (ops_of m)
ops_in_range cpus timers None is = All-nil (IsOpInRange cpus timers)
ops_in_range cpus timers (Some m) is = (is m refl).in_range

few_ops : (cpus timers : ℕ) (m : Option Moment) → ForSome m (IsRunMoment cpus timers) →
    length (ops_of m) ≤ MOST_OPS
few_ops cpus timers None is = omega arith
few_ops cpus timers (Some m) is = (is m refl).few

-- the timer that an operation names, where the operation is in range
there : (timers : ℕ) (w : What) → IsTimerInRange timers w → IsTimerThere timers w
there timers (whats.Arm timer class delay job arg) is = is
there timers (whats.Cancel timer) is = is
there timers whats.Idle is = tt
there timers whats.Wake is = tt
there timers whats.Offline is = tt
there timers whats.Online is = tt

-- the operations of a round: those in range, of which none takes a CPU offline or online
round_ops : (cpus timers : ℕ) (ops : List Op) → All (IsOpInRange cpus timers) ops →
    list_any (λ o. is_hotplug o.what) ops ≡ false → All (IsRoundOp cpus timers) ops
round_ops cpus timers ops fit stay = λ k d few. record {
  cpu = (fit k d few).cpu;
  timer = there timers (slice_index_or ops k d).what (fit k d few).timer;
  stays = none_of (λ (x : Op). is_hotplug x.what) ops stay k d few;
}

-- a moment that is no plain one asks for its round
pub asks : (o core : World) (due : FinSet nat_cmp) (m : Option Moment) (ops : List Op) → core ≡ o →
    ops ≡ ops_of m → InRun resting o → o.clock < SCRIPT_TIME_LIMIT → AreOnline step_rules o due →
    ForSome m (IsRunMoment (length o.cpus) o.timers) →
    list_any (λ p. is_hotplug p.what) (ops_of m) ≡ false → AsksRound core due ops
asks o core due m ops at is in_run in_time online in_range stay =
    let given : AsksRound o due (ops_of m) = record {
      in_run = in_run;
      in_time = omega (arith, in_time);
      online = online;
      may = round_ops _ _ _ (ops_in_range _ _ m in_range) stay;
      few = few_ops _ _ m in_range;
    } in
    subst (λ (w : World). AsksRound w due ops) (sym at)
    (subst (λ (os : List Op). AsksRound o due os) (sym is) given)
