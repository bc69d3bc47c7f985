-- what was counted in a play that is watched, told of the play that isn't
use Rattle.std.proofs.Common.{◌≡◌, ℕ, List, [], map, sym, ap, ◌∙◌}
use Rattle.std.specs.Prelude.{option_map}
use Rattle.tm_script.specs.declared.syntax.Script.{Script}
use Rattle.play_rules.specs.Interrupts.{Replies}
use Rattle.play_rules.specs.Moments.{last_state, spent_at}
use Rattle.play_rules.specs.Parts.{counted}
use Rattle.core_machine.proofs.play_laws.Shape.AlikeTurns.{spent_seen}
use Rattle.core_machine.specs.step_play.Rules.StepRules.{step_rules}
use Rattle.core_world.specs.World.{World}
use Rattle.play_driver.specs.Outcomes.{PlaysWhole, SaysFault, script_turns, work_limit}
use Rattle.play_driver.specs.declared.outcomes.Counts.{Counts}
use Rattle.play_driver.specs.declared.outcomes.DriveFault.{DriveFault}
use Rattle.play_driver.specs.declared.outcomes.DriveFault.TheVariants.{BadJob, NoMemory, WorkSpent}
use Rattle.view_counts.specs.Wakeups.{counted as counted_wakeups}
use Rattle.view_counts.specs.declared.counts.CpuCounts.{CpuCounts}
use Rattle.view_counts.specs.declared.wakeups.Wakeup.{Wakeup}
use Rattle.view_stat.specs.Laws.{WatchedIsPlay}
use Rattle.view_stat.specs.Stats.{IsCountedOn, IsUncountedOn, core_rules, plain_turns, watched_end}
use Rattle.view_stat.specs.Stats.{watched_start}
use Rattle.view_stat.specs.Watched.{Watched, unwatched_turn}

module _ (law : WatchedIsPlay) (jobs : Replies) (table : ℕ) (machine script : Script)
    (start : Watched World) (is : start ≡ watched_start machine) where
  same_turns : map unwatched_turn (script_turns jobs core_rules script start)
      ≡ plain_turns jobs machine script
  same_turns =
      law jobs script start
      ∙ ap (λ (s : Watched World). script_turns jobs step_rules script s.world) is

  same_work : (limit : ℕ) → spent_at limit 0 (script_turns jobs core_rules script start)
      ≡ spent_at limit 0 (plain_turns jobs machine script)
  same_work limit =
      sym (spent_seen (λ (s : Watched World). s.world) limit 0
      (script_turns jobs core_rules script start))
      ∙ ap (spent_at limit 0) same_turns

  pub counted_on : (new : List ℕ) (counts : Counts) (after : Watched World)
      (cpus : List CpuCounts) (wakeups : List Wakeup)
      → PlaysWhole core_rules jobs table script start [] new counts after
      → cpus ≡ counted_wakeups after.cpus after.wakeups → wakeups ≡ after.wakeups
      → IsCountedOn jobs table machine script cpus wakeups
  counted_on new counts after cpus wakeups whole cpus_are wakeups_are =
      let ends : after ≡ watched_end jobs machine script =
      whole.state
      ∙ ap (λ (s : Watched World). last_state s (script_turns jobs core_rules script s)) is in
      record {
        counts =
            cpus_are
            ∙ ap (λ (s : Watched World). counted_wakeups s.cpus s.wakeups) ends;
        wakeups_are = wakeups_are ∙ ap (λ (s : Watched World). s.wakeups) ends;
        same_play = law jobs script (watched_start machine);
        known = whole.known;
        within = sym (same_work (work_limit script.version)) ∙ whole.within;
      }

  pub uncounted_on : (fault : DriveFault) (new : List ℕ)
      → SaysFault core_rules jobs table script start fault [] new
      → IsUncountedOn jobs table machine script fault
  uncounted_on (BadJob line job) new says = says.0
  uncounted_on (WorkSpent count) new says =
      (says.0, ap (option_map counted) (sym (same_work (work_limit script.version))) ∙ says.1.spent)
  uncounted_on NoMemory new says = tt
