-- for crates above: a core in a run may have a round
use Rattle.std.proofs.Common.{◌≡◌, ℕ, ◌-◌, ◌^◌, ◌≤◌, true, List, length, refl, sym, subst}
use Rattle.std.specs.Prelude.{All}
use Rattle.std.specs.FinSet.{contains}
use Rattle.tm_base.specs.CpuSet.{Cpus}
use Rattle.tm_base.specs.declared.limits.TheConstants.{MOST_OPS}
use Rattle.tm_base.specs.declared.names.TheConstants.{TIME_LIMIT}
use Rattle.tm_script.specs.declared.syntax.Op.{Op}
use Rattle.core_world.specs.World.{World, cpu_of}
use Rattle.run_story.specs.step_play.Rules.Seen.{InRun, resting}
use Rattle.run_story.proofs.step_play.Worlds.{no_walk}
use Rattle.run_story.specs.Asked.{IsRoundOp}
use Rattle.run_shares.specs.Progress.{MayRound}

pub may_round : (o w : World) (now : ℕ) (due : Cpus) (ops : List Op) → w ≡ o → now ≡ o.clock
    → InRun resting o → o.clock ≤ TIME_LIMIT - 2 ^ 32
    → ((c : ℕ) → contains due c ≡ true → (cpu_of o c).online ≡ true)
    → All (IsRoundOp (length o.cpus) o.timers) ops → length ops ≤ MOST_OPS
    → MayRound w now (record { due = due; ops = ops })
may_round o w now due ops same at in_run in_time online each few =
    subst (λ v. MayRound v now (record { due = due; ops = ops })) (sym same) (record {
      settled = record { free = λ d. no_walk resting o d in_run refl; outside = in_run.inside };
      now_is = at;
      in_time = subst (λ t. t ≤ TIME_LIMIT - 2 ^ 32) (sym at) in_time;
      online = online;
      ops = each;
      few = few;
    })
