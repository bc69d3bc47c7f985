-- for crates above: what playing by the rules of steps does, as Play has it
use Rattle.std.proofs.Common.{◌≡◌, ℕ, ◌+◌, ◌++◌, List, [], ◌∷◌, length, map, true, false, Option}
use Rattle.std.proofs.Common.{Some, None, refl, sym, ap, ◌∙◌, subst}
use Rattle.std.specs.Prelude.{if◌then◌else◌, nat_le, option_map}
use Rattle.std.proofs.lemmas.Bool.{both_ways}
use Rattle.std.proofs.lemmas.List.{length-map}
use Rattle.std.proofs.lemmas.List.Elements.{All-weaker}
use Rattle.tm_report.specs.Lines.{report_text}
use Rattle.tm_script.specs.declared.syntax.Script.{Script}
use Rattle.walk_rules.specs.declared.walk.Walk.{Walk}
use Rattle.play_rules.specs.Interrupts.{Replies}
use Rattle.play_rules.specs.Moments.{Turn, finished, turn_lines}
use Rattle.play_rules.specs.Parts.{counted}
use Rattle.play_rules.specs.Play.{plain_rules, play_start}
use Rattle.play_rules.specs.Tallies.{no_lines, tallied_all}
use Rattle.core_world.specs.Covered.{IsSettled}
use Rattle.core_world.specs.World.{World, cpu_of}
use Rattle.step_core.specs.core_facts.Cover.Headline.{EachSettled}
use Rattle.core_machine.specs.step_play.Rules.Seen.{InPlay, InRun, WalkFits, resting, state_of}
use Rattle.core_machine.specs.step_play.Rules.StepRules.{step_rules}
use Rattle.core_machine.specs.step_play.SamePlay.{IsPlayOfSteps, core_start, step_turns, turn_seen}
use Rattle.play_driver.specs.declared.outcomes.Counts.{Counts}
use Rattle.play_driver.specs.declared.outcomes.DriveFault.{DriveFault}
use Rattle.play_driver.specs.declared.outcomes.DriveFault.TheVariants.{BadJob, NoMemory, WorkSpent}
use Rattle.core_plays.specs.OnCore.{EachIsAnsweredFor, IsPlayedBySteps, core_end}
use Rattle.play_driver.specs.Outcomes.{PlaysWhole, SaysFault, work_limit}
use Rattle.core_plays.specs.Plays.{BreaksPlay}

-- the moments that are finished by a count of work have the same lines
pub finished_seen : (limit work : ℕ) (ts : List (Turn World)) →
    turn_lines (finished limit work (map turn_seen ts)) ≡ turn_lines (finished limit work ts)
finished_seen limit work [] = refl
finished_seen limit work (t ∷ ts) =
    let more = work + t.played.work in
    elim (nat_le limit more)
    as (λ b.
    turn_lines
    (if b then turn_seen t ∷ [] else turn_seen t ∷ finished limit more (map turn_seen ts))
    ≡ turn_lines (if b then t ∷ [] else t ∷ finished limit more ts)) [
      | true ↦ refl
      | false ↦ ap (λ ls. t.played.lines ++ ls) (finished_seen limit more ts)
    ]

-- AT REST a core in a run is settled, so its own law answers for each of its timers
no_walk : (c : ℕ) (o : Option Walk) → WalkFits resting c o → o ≡ None
no_walk c None fits = refl
no_walk c (Some k) fits = absurd (both_ways false refl fits.0)

pub at_rest : (w : World) → InRun resting w → IsSettled w
at_rest w run = record {
  free = λ c. no_walk c (cpu_of w c).walk (run.walks c);
  outside = run.inside;
}

module _ (jobs : Replies) (script : Script) (is : IsPlayOfSteps jobs script) where
  pub by_steps : EachSettled → IsPlayedBySteps jobs script
  by_steps law = record {
    is_play = is;
    answered =
        All-weaker (λ (t : Turn World). InPlay resting t.played.state)
        (λ t. EachIsAnsweredFor t.played.state)
        (λ t play. law t.played.state play.in_run.lawful (at_rest t.played.state play.in_run))
        (step_turns jobs script) is.in_play;
  }

  -- THE WHOLE play from a start
  module _ (table : ℕ) (start : World) (at_start : start ≡ core_start script)
      (old new : List ℕ) (counts : Counts) (last : World) where
    from_start : PlaysWhole step_rules jobs table script start old new counts last →
        PlaysWhole step_rules jobs table script (core_start script) old new counts last
    from_start whole =
        subst (λ w. PlaysWhole step_rules jobs table script w old new counts last) at_start whole

    pub last_core : PlaysWhole step_rules jobs table script start old new counts last →
        last ≡ core_end jobs script
    last_core whole = (from_start whole).state

    pub whole_seen : PlaysWhole step_rules jobs table script start old new counts last →
        PlaysWhole plain_rules jobs table script (play_start script) old new counts
        (state_of last)
    whole_seen was = let whole = from_start was in record {
      text = whole.text ∙ ap (λ ls. old ++ report_text ls) is.lines;
      moments = whole.moments
          ∙ ap counted (sym (length-map (step_turns jobs script) turn_seen) ∙ ap length is.turns);
      lines = whole.lines ∙ ap (tallied_all no_lines) is.lines;
      state = ap state_of whole.state ∙ is.last;
      known = whole.known;
      within = sym (is.spent (work_limit script.version)) ∙ whole.within;
    }

  -- and where it is broken off
  at_fault : (table : ℕ) (fault : DriveFault) (old new : List ℕ) →
      SaysFault step_rules jobs table script (core_start script) fault old new →
      SaysFault plain_rules jobs table script (play_start script) fault old new
  at_fault table (BadJob line job) old new says = says
  at_fault table (WorkSpent count) old new says =
      let limit = work_limit script.version in (
        says.0,
        record {
          spent = ap (option_map counted) (sym (is.spent limit)) ∙ says.1.spent;
          text = says.1.text
              ∙ ap (λ ls. old ++ report_text ls)
              (sym (finished_seen limit 0 (step_turns jobs script))
              ∙ ap (λ ts. turn_lines (finished limit 0 ts)) is.turns);
        },
      )
  at_fault table NoMemory old new says = says

  pub fault_seen : (table : ℕ) (start : World) → start ≡ core_start script →
      (fault : DriveFault) (old new : List ℕ) →
      SaysFault step_rules jobs table script start fault old new →
      BreaksPlay jobs table script fault old new
  fault_seen table start at_start fault old new says =
      at_fault table fault old new
      (subst (λ w. SaysFault step_rules jobs table script w fault old new) at_start says)
