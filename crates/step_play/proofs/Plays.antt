-- a play made of steps is Play
use Rattle.std.proofs.Common.{◌≡◌, ℕ, ◌+◌, map, refl, sym, ap, ◌∙◌, subst, arith}
use Rattle.std.proofs.lemmas.List.Elements.{All-weaker}
use Rattle.tm_report.specs.Lines.{report_text}
use Rattle.tm_script.specs.declared.syntax.Script.{Script}
use Rattle.tm_script.specs.Grammar.{IsScript}
use Rattle.tree_plan.specs.Shape.{Shape}
use Rattle.tree_plan.specs.Paths.{cpu_count_of, level_count_of}
use Rattle.play_rules.specs.Interrupts.{Replies, having_interrupt}
use Rattle.play_rules.specs.Moments.{Turn, last_state, spent_at, turns, whole_lines}
use Rattle.play_rules.specs.Play.{plain_rules, play_start, play_turns}
use Rattle.play_laws.proofs.Answered.Scripts.{moments_in, moments_rise, planned_for, tree_for}
use Rattle.play_laws.proofs.Answered.Settles.{AreOnline, due_online}
use Rattle.play_laws.proofs.Answered.Starts.{start_kept}
use Rattle.play_laws.proofs.Answered.States.{IsKept, Nobody}
use Rattle.play_laws.proofs.Shape.AlikeTurns.{last_seen, spent_seen, turns_alike, whole_alike}
use Rattle.play_laws.proofs.Shape.Shape.{begun, between}
use Rattle.play_laws.proofs.Shape.ShapeTurns.{turns_kept}
use Rattle.core_world.specs.World.{World}
use Rattle.core_facts.specs.core_laws.Laws.{StepsStayLawful}
use Rattle.core_facts.specs.core_laws.Start.Layer.{StartsLawful}
use Rattle.step_play.specs.Rules.Seen.{InPlay, resting, state_of}
use Rattle.step_play.specs.Rules.StepRules.{step_rules}
use Rattle.step_play.specs.SamePlay.{IsPlayOfSteps, PlayIsARun, StepsArePlay, Walks, core_start}
use Rattle.step_play.specs.SamePlay.{play_lines, step_lines, step_turns, turn_seen}
use Rattle.step_play.proofs.AlikeRules.{steps_alike}
use Rattle.step_play.proofs.Interrupted.{having_seen}
use Rattle.step_play.proofs.Kept.{steps_keep}
use Rattle.step_play.proofs.Stages.{At, MayArm, Stands}
use Rattle.step_play.proofs.Starts.{core_starts, start_seen}

module _ (law : StepsStayLawful) (starts : StartsLawful) (walks : Walks)
    (jobs : Replies) (script : Script) (is : IsScript script) where
  abbrev t : Shape
  t = tree_for script

  abbrev w : World
  w = core_start script

  seen : state_of w ≡ play_start script
  seen = start_seen t script.timers

  in_play : InPlay resting w
  in_play = core_starts starts script is

  pub first : At t script.timers 0 (begun (having_interrupt step_rules (step_rules.at_clock 0 w)) 0)
      resting (step_rules.at_clock 0 w)
  first = record {
    tree = refl;
    clock = refl;
    many = refl;
    early = omega arith;
    in_play = in_play;
    settles = record {
      whole = record {
        at = record { tree = refl; clock = refl };
        kept = subst (IsKept Nobody (Unit {0})) (sym seen)
            (start_kept t script.timers (planned_for script is));
      };
      online = subst (λ due. AreOnline due (state_of w)) (sym (having_seen w))
          (due_online (state_of w));
    };
  }

  -- moment by moment
  same_turns : map turn_seen (step_turns jobs script) ≡ play_turns jobs script
  same_turns =
      turns_alike jobs step_rules plain_rules state_of (cpu_count_of t) script.timers
      (level_count_of t) script.end (Stands t script.timers) (MayArm script.timers)
      (steps_keep law walks t script.timers script.end is.early_end)
      (steps_alike law walks t script.timers script.end is.early_end)
      (λ now u was. was.in_play.in_run.lawful.sized.cpus ∙ ap cpu_count_of was.tree)
      (script.end + 1) 0 script.moments w (moments_in script is) (moments_rise script is)
      (omega arith) first
      ∙ ap (turns jobs plain_rules (script.end + 1) script.end 0 script.moments) seen

  same_lines : step_lines jobs script ≡ play_lines jobs script
  same_lines =
      whole_alike step_rules plain_rules state_of (λ u timer. refl) (λ u. refl) script.end w
      (step_turns jobs script) (play_turns jobs script) same_turns
      ∙ ap (λ s. whole_lines plain_rules script.end s (play_turns jobs script)) seen

  pub steps_play : PlayIsARun → IsPlayOfSteps jobs script
  steps_play run = record {
    turns = same_turns;
    lines = same_lines;
    text = ap report_text same_lines;
    spent = λ limit.
        sym (spent_seen state_of limit 0 (step_turns jobs script))
        ∙ ap (spent_at limit 0) same_turns;
    last =
        sym (last_seen state_of w (step_turns jobs script))
        ∙ (λ i. last_state (seen i) (same_turns i));
    in_play =
        All-weaker
        (λ (u : Turn World). (now : ℕ) × Stands t script.timers now between u.played.state)
        (λ u. InPlay resting u.played.state) (λ u here. here.1.in_play) (step_turns jobs script)
        (turns_kept jobs step_rules (cpu_count_of t) script.timers (level_count_of t) script.end
        (Stands t script.timers) (MayArm script.timers)
        (steps_keep law walks t script.timers script.end is.early_end)
        (script.end + 1) 0 script.moments w (moments_in script is) (moments_rise script is)
        (omega arith) first);
    by_runs = run jobs script is;
  }

pub steps_are_play : StepsStayLawful → StartsLawful → Walks → PlayIsARun → StepsArePlay
steps_are_play law starts walks run jobs script is =
    steps_play law starts walks jobs script is run
