-- a play made of steps is a run from the start of the script's machine
use Rattle.std.proofs.Common.{◌+◌, List, [], ◌∷◌, refl, arith}
use Rattle.std.proofs.lemmas.List.Elements.{All-cons, All-nil}
use Rattle.tm_script.specs.declared.syntax.Script.{Script}
use Rattle.tm_script.specs.Grammar.{IsScript}
use Rattle.play_rules.specs.Interrupts.{Replies}
use Rattle.play_rules.specs.Moments.{AfterEach, Turn}
use Rattle.play_laws.proofs.Answered.Scripts.{moments_in, moments_rise, planned_for, tree_for}
use Rattle.core_world.specs.declared.step.Step.TheVariants as steps
use Rattle.core_world.specs.Frames.{SizesStay}
use Rattle.core_world.specs.World.{World}
use Rattle.core_facts.specs.core_laws.Laws.{StepsStayLawful}
use Rattle.core_facts.specs.core_laws.Start.Layer.{StartsLawful}
use Rattle.core_facts.specs.Cover.Runs.{AlwaysAnswered}
use Rattle.step_play.specs.Rules.Lone.{Reaches}
use Rattle.step_play.specs.Rules.Runs.{IsReached, TurnsAreRuns}
use Rattle.step_play.specs.SamePlay.{IsPlayedByRuns, PlayIsARun, Walks, core_start, step_turns}
use Rattle.step_play.proofs.KeptRuns.{turns_run}
use Rattle.step_play.proofs.Plays.{first}
use Rattle.step_play.proofs.Reached.{onwards, turn_reaches}
use Rattle.step_play.proofs.Running.{one_run}

module _ (law : StepsStayLawful) (starts : StartsLawful) (sizes : SizesStay)
    (answered : AlwaysAnswered) (walks : Walks) (jobs : Replies) (script : Script)
    (is : IsScript script) where
  abbrev w : World
  w = core_start script

  each_turn : TurnsAreRuns w (step_turns jobs script)
  each_turn =
      turns_run law sizes walks (tree_for script) script.timers script.end is.early_end jobs
      (script.end + 1) 0 script.moments w (record {
        known = moments_in script is;
        rise = moments_rise script is;
        low = omega arith;
        due = first law starts walks jobs script is;
        clock = one_run (steps.Clock 0) w
            (record { not_back = omega arith; in_time = omega arith });
      })

  -- a run from the start has the headline after each of its steps
  reached : (v : World) → Reaches w v → IsReached w v
  reached v (steps, run) = record {
    steps = steps;
    run = run;
    answered = answered script.nodes script.cpus script.timers script.isolated
        (planned_for script is).limits
        (let few = is.few_timers in omega (arith, few)) steps run.enabled;
  }

  each_reached : (v : World) → Reaches w v → (ts : List (Turn World)) → TurnsAreRuns v ts →
      AfterEach (IsReached w) ts
  each_reached v here [] none = All-nil (λ (u : Turn World). IsReached w u.played.state)
  each_reached v here (t ∷ ts) (run, rest) =
      let there = onwards w v t.played.state here (turn_reaches v t run) in
      All-cons (λ (u : Turn World). IsReached w u.played.state) t ts
      (reached t.played.state there) (each_reached t.played.state there ts rest)

  pub played_by_runs : IsPlayedByRuns jobs script
  played_by_runs = record {
    turns = each_turn;
    reached = each_reached w ([], record { enabled = tt; done = refl }) (step_turns jobs script)
        each_turn;
  }

pub play_is_a_run : StepsStayLawful → StartsLawful → SizesStay → AlwaysAnswered → Walks → PlayIsARun
play_is_a_run law starts sizes answered walks jobs script is =
    played_by_runs law starts sizes answered walks jobs script is
