-- WALKS REFINE PLAY: what Play sees of the play made of steps is Play's, moment by moment
use Rattle.std.specs.Prelude.{◌≡◌, ℕ, ◌+◌, List, map}
use Rattle.tm_script.specs.declared.syntax.Script.{Script}
use Rattle.tm_script.specs.Grammar.{IsScript}
use Rattle.tm_report.specs.declared.lines.Line.{Line}
use Rattle.tm_report.specs.Lines.{report_text}
use Rattle.tree_plan.specs.Shape.{tree_of}
use Rattle.play_rules.specs.Interrupts.{Replies}
use Rattle.play_rules.specs.Moments.{AfterEach, Turn, last_state, spent_at, turns, whole_lines}
use Rattle.play_rules.specs.Parts.{Played}
use Rattle.play_rules.specs.Play.{plain_rules, play_spent, play_start, play_text, play_turns}
use Rattle.play_rules.specs.State.{State}
use Rattle.core_world.specs.Start.{start_of}
use Rattle.core_world.specs.World.{World}
use Rattle.step_play.specs.Rules.Alike.{ComesAlike, EndsAlike, IdlesAlike, LetsGoAlike}
use Rattle.step_play.specs.Rules.Alike.{OfflinesAlike}
use Rattle.step_play.specs.Rules.Alike.{WakesAlike}
use Rattle.step_play.specs.Rules.Runs.{IsReached, TurnsAreRuns}
use Rattle.step_play.specs.Rules.Seen.{InPlay, resting, state_of}
use Rattle.step_play.specs.Rules.StepRules.{step_rules}

-- the start of a script's play on a core, and its moments under the rules of steps
abbrev pub core_start : Script → World
core_start script = start_of (tree_of script.nodes script.cpus script.isolated) script.timers

-- the moments of a script's play by the rules of steps
abbrev pub step_turns : Replies → Script → List (Turn World)
step_turns jobs script =
    turns jobs step_rules (script.end + 1) script.end 0 script.moments (core_start script)

-- the lines and the text of the whole play
abbrev pub step_lines : Replies → Script → List Line
step_lines jobs script =
    whole_lines step_rules script.end (core_start script) (step_turns jobs script)

-- the lines of a script's Play
abbrev pub play_lines : Replies → Script → List Line
play_lines jobs script =
    whole_lines plain_rules script.end (play_start script) (play_turns jobs script)

-- a moment as Play sees it
abbrev pub part_seen : Played World → Played State
part_seen p = record { lines = p.lines; work = p.work; state = state_of p.state }

-- a moment of the play by steps, as Play sees it
abbrev pub turn_seen : Turn World → Turn State
turn_seen t = record { at = t.at; played = part_seen t.played }

-- BY RUNS: from the start of the script's machine on each moment of the play made of steps has its
-- run, from the core that the one before it left; and after each moment all these steps are a run
-- from that start, with the headline after each of them
pub record IsPlayedByRuns (jobs : Replies) (script : Script) : Type 0 where
  pub turns : TurnsAreRuns (core_start script) (step_turns jobs script)
  pub reached : AfterEach (IsReached (core_start script)) (step_turns jobs script)

-- THE PLAY IS A RUN: the play of every script by the rules of steps goes by runs
abbrev pub PlayIsARun : Type 0
PlayIsARun = (jobs : Replies) (script : Script) → IsScript script → IsPlayedByRuns jobs script

-- what Play sees of the play made of steps is Play's, moment by moment; so are the text, the count
-- of work, and the last state; after each moment the core is in play and at rest; and the
-- play goes by runs, whose steps are enabled where they stand
pub record IsPlayOfSteps (jobs : Replies) (script : Script) : Type 0 where
  pub turns : map turn_seen (step_turns jobs script) ≡ play_turns jobs script
  pub lines : step_lines jobs script ≡ play_lines jobs script
  pub text : report_text (step_lines jobs script) ≡ play_text jobs script
  pub spent : (limit : ℕ) → spent_at limit 0 (step_turns jobs script) ≡ play_spent jobs limit script
  pub last : state_of (last_state (core_start script) (step_turns jobs script))
      ≡ last_state (play_start script) (play_turns jobs script)
  pub in_play : AfterEach (InPlay resting) (step_turns jobs script)
  pub by_runs : IsPlayedByRuns jobs script

-- THE LAW
abbrev pub StepsArePlay : Type 0
StepsArePlay = (jobs : Replies) (script : Script) → IsScript script → IsPlayOfSteps jobs script

-- what the walks owe it: those of CPUs that become active, and those that tell (no public clause
-- cites it)
pub record WalksTell : Type 0 where
  pub idles : IdlesAlike
  pub goes : OfflinesAlike
  pub ends : EndsAlike
  pub lets_go : LetsGoAlike

-- what the six kinds of walks owe the play by steps (no public clause cites it)
pub record Walks : Type 0 where
  pub wakes : WakesAlike
  pub comes : ComesAlike
  pub tell : WalksTell
