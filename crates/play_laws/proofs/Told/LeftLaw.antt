-- for crates above: the `left` lines of every report are the timers that are still queued
use Rattle.std.proofs.Common.{◌≡◌, ℕ, ◌+◌, List, [], ◌∷◌, ◌++◌, true, false, refl, sym, ap}
use Rattle.std.proofs.Common.{◌∙◌, arith, length, subst}
use Rattle.std.specs.Prelude.{filter}
use Rattle.std.proofs.Math.Seq.{take-length}
use Rattle.std.proofs.lemmas.Bool.{false≢true}
use Rattle.std.proofs.lemmas.List.{append-nil}
use Rattle.std.proofs.lemmas.List.Elements.{filter-append}
use Rattle.tm_report.specs.declared.lines.Line.{Line}
use Rattle.tm_report.specs.declared.lines.Line.TheVariants as lines
use Rattle.tm_script.specs.declared.syntax.Script.{Script}
use Rattle.tm_script.specs.Grammar.{IsScript}
use Rattle.tree_plan.specs.Paths.{cpu_count_of, level_count_of}
use Rattle.play_rules.specs.Interrupts.{Replies}
use Rattle.play_rules.specs.Moments.{AfterEach, Turn, last_state, left, turn_lines, whole_lines}
use Rattle.play_rules.specs.State.{State, start}
use Rattle.play_rules.specs.Play.{plain_rules, play_start, play_turns}
use Rattle.play_laws.specs.Told.Journals.{is_hand_out}
use Rattle.play_laws.specs.Told.Kinds.{is_left}
use Rattle.play_laws.specs.Told.Left.{LeftAreQueued, TellLeft}
use Rattle.play_laws.specs.Work.Course.{GoFrom, times_of}
use Rattle.play_laws.proofs.Answered.Scripts.{moments_in, moments_rise, tree_for}
use Rattle.play_laws.proofs.Shape.ShapeTurns.{turns_kept}
use Rattle.play_laws.proofs.Work.Courses.{each_comes}
use Rattle.play_laws.proofs.Work.Whole.{AtTime, Fits, Stands, rules_keep, start_homes}
use Rattle.play_laws.proofs.Told.Filters.{after_last, all_flat, all_pass, none_pass}
use Rattle.play_laws.proofs.Told.Journals.{goes_to, runs_swap}
use Rattle.play_laws.proofs.Told.Left.{are_left, left_are_told}
use Rattle.play_laws.proofs.Told.Printed.{is_of_operation}
use Rattle.play_laws.proofs.Told.PrintedTurns.{turns_print}

-- no operation tells of a timer that is left
pub not_left : (line : Line) → is_of_operation line ≡ true → is_left line ≡ false
not_left (lines.Left timer cpu class wheel) is = absurd (false≢true is)
not_left (lines.Arm now cpu timer class wheel) is = refl
not_left (lines.Run now runner timer home wheel reply) is = refl
not_left (lines.Cancel now cpu timer home) is = refl
not_left (lines.NotQueued now cpu timer) is = refl
not_left (lines.Idle now cpu until) is = refl
not_left (lines.Stay now cpu first) is = refl
not_left (lines.Wake now cpu) is = refl
not_left (lines.Offline now cpu) is = refl
not_left (lines.Handed now cpu to) is = refl
not_left (lines.Online now cpu) is = refl
not_left (lines.Control now cpu) is = refl
not_left (lines.Moved now timer from to wheel) is = refl
not_left (lines.Cover now cpu wheel cover) is = refl
not_left (lines.Refused now cpu line number) is = refl
not_left (lines.RefusedQueued now cpu line number holder) is = refl
not_left (lines.End now) is = refl
not_left (lines.Why steps cpu timer shown) is = refl
not_left (lines.Yes steps) is = refl
not_left (lines.No index) is = refl
not_left (lines.Device now until) is = refl

goes_from : (end : ℕ) (ts : List (Turn State)) → GoFrom 0 end (times_of ts) → ts ≡ [] → ⊥
goes_from end ts goes none =
    subst (λ (x : List (Turn State)). GoFrom 0 end (times_of x)) none goes

module _ (jobs : Replies) (script : Script) (is : IsScript script) where
  abbrev first : State
  first = play_start script

  abbrev ts : List (Turn State)
  ts = play_turns jobs script

  abbrev last : State
  last = last_state first ts

  -- a play has a moment
  pub some_turn : ts ≡ [] → ⊥
  some_turn = goes_from script.end ts (each_comes jobs script is).goes

  abbrev cpus : ℕ
  cpus = cpu_count_of (tree_for script)

  abbrev levels : ℕ
  levels = level_count_of (tree_for script)

  abbrev OnceQueued : State → Type 0
  OnceQueued s = (now : ℕ) × AtTime script.timers cpus levels script.end is.early_end now s

  -- each timer has one home at most
  pub homes_after_each : AfterEach OnceQueued ts
  homes_after_each =
      turns_kept jobs plain_rules cpus script.timers levels script.end
      (Stands script.timers cpus levels script.end is.early_end) (Fits script.timers)
      (rules_keep script.timers cpus levels script.end is.early_end) (script.end + 1) 0
      script.moments (start (tree_for script) script.timers) (moments_in script is)
      (moments_rise script is) (omega arith)
      (record { at = refl; homes = start_homes (tree_for script) script.timers })

  pub last_timers : last.timers ≡ script.timers
  last_timers =
      ap (λ us. (last_state first us).timers) (sym (take-length ts))
      ∙ (goes_to is_hand_out runs_swap jobs script is (length ts)).timers

  abbrev Not : Line → Type 0
  Not line = is_left line ≡ false

  none_before : filter is_left (turn_lines ts) ≡ []
  none_before =
      none_pass is_left (turn_lines ts)
      (all_flat Not (λ (t : Turn State). t.played.lines) ts
      (turns_print jobs plain_rules Not (λ c now timer home wheel reply. refl) not_left
      (λ now cpu wheel cover. refl) (script.end + 1) script.end 0 script.moments first))

  abbrev lefts : List Line
  lefts = left plain_rules last.timers 0 last

  lines_are : filter is_left (whole_lines plain_rules script.end first ts) ≡ lefts
  lines_are =
      filter-append is_left (turn_lines ts) (lefts ++ lines.End script.end ∷ [])
      ∙ (ap (λ x. x ++ filter is_left (lefts ++ lines.End script.end ∷ [])) none_before
      ∙ (filter-append is_left lefts (lines.End script.end ∷ [])
      ∙ (append-nil (filter is_left lefts)
      ∙ all_pass is_left lefts (are_left last last.timers 0))))

  law : TellLeft last (filter is_left (whole_lines plain_rules script.end first ts))
  law =
      let at = after_last OnceQueued first ts some_turn homes_after_each in
      subst (TellLeft last) (sym lines_are)
      (left_are_told script.timers cpus levels last last_timers at.1.homes)

pub left_are_queued : LeftAreQueued
left_are_queued jobs script is = law jobs script is
