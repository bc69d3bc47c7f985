-- for crates above: each arming that a report tells of has its run
use Rattle.std.proofs.Common.{◌≡◌, ℕ, zero, suc, ◌+◌, ◌<◌, List, [], ◌∷◌, ◌++◌, true, false}
use Rattle.std.proofs.Common.{Option, Some, None, refl, sym, ap, ◌∙◌, arith, inl, inr, length}
use Rattle.std.proofs.Common.{subst, take}
use Rattle.std.specs.Prelude.{All, filter}
use Rattle.std.proofs.Math.Seq.{take-length}
use Rattle.std.proofs.lemmas.Bool.{both_ways, cases_Bool}
use Rattle.std.proofs.lemmas.List.{append-nil}
use Rattle.std.proofs.lemmas.List.Elements.{All-weaker}
use Rattle.std.proofs.lemmas.Grind.{flat_map-append}
use Rattle.std.proofs.lemmas.Option.{none-some}
use Rattle.tm_base.specs.Classes.{same_class}
use Rattle.tm_base.specs.declared.names.Class.{Class}
use Rattle.tm_base.specs.declared.names.Class.TheVariants.{Pinned, Global, Deferrable}
use Rattle.tm_report.specs.declared.lines.Line.TheVariants as lines
use Rattle.tm_script.specs.declared.syntax.Script.{Script}
use Rattle.tm_script.specs.Grammar.{IsScript}
use Rattle.tree_plan.specs.Paths.{cpu_count_of, level_count_of}
use Rattle.wheel_core.specs.declared.item.Item.{Item}
use Rattle.wheel_core.specs.PlainBase.{item_of}
use Rattle.wheel_core.proofs.Ids.{item_holds}
use Rattle.cpu_bases.specs.declared.entry.Entry.{Entry}
use Rattle.cpu_bases.specs.CpuBases.{base_of}
use Rattle.cpu_bases.specs.Journals.{QueuedTimer, arming_of, entries_of, queued_by}
use Rattle.cpu_bases.proofs.Agreeing.{agreed_armed}
use Rattle.cpu_bases.proofs.Classes.{class_itself}
use Rattle.cpu_bases.proofs.Keyed.{found_part}
use Rattle.play_rules.specs.declared.asks.Queued.{Queued}
use Rattle.play_rules.specs.Interrupts.{Replies}
use Rattle.play_rules.specs.Moments.{Turn, last_state, left, left_or, turn_lines, whole_lines}
use Rattle.play_rules.specs.State.{State, cpu_at, cpu_count, start}
use Rattle.play_rules.specs.Timers.{bases_at}
use Rattle.play_rules.specs.Play.{plain_rules, play_start, play_turns}
use Rattle.play_laws.specs.Jiffies.Jiffies.{InItsJiffy, OfWaking, wakes}
use Rattle.play_laws.specs.Told.Journals.{by_journal, by_line, by_lines, is_of}
use Rattle.play_laws.specs.Told.Runs.{EachHasItsRun, AreArmingsAndEnds, IsToCome}
use Rattle.play_laws.proofs.Answered.Scripts.{moments_in, moments_rise, tree_for}
use Rattle.play_laws.proofs.Jiffies.Jiffies.{in_its_jiffy_after_each}
use Rattle.play_laws.proofs.Work.Courses.{each_comes}
use Rattle.play_laws.proofs.Work.Whole.{AtTime, Fits, Stands, rules_keep, start_homes}
use Rattle.play_laws.proofs.Told.AtTurns.{IsAtTime, last_at, turns_hold}
use Rattle.play_laws.proofs.Told.Filters.{after_last}
use Rattle.play_laws.proofs.Told.Journals.{each_timer_is_told}
use Rattle.play_laws.proofs.Told.LeftLaw.{some_turn}
use Rattle.play_laws.proofs.Told.ArmingsAndEnds.{told_its, turns_from}

-- WHAT IS STILL QUEUED in a state is to come
module _ (s : State) (jiffy : InItsJiffy s) (c : ℕ) (low : c < cpu_count s) where
  waking : (class : Class) → wakes class ≡ true → OfWaking (λ item. s.clock < item.wheel)
      (bases_at s c) → All (λ item. s.clock < item.wheel) (base_of class (bases_at s c)).items
  waking Pinned is all = all.pinned
  waking Global is all = all.global
  waking Deferrable is all = absurd (both_ways false refl is)

  item_to_come : (class : Class) (id : ℕ) (item : Item) → wakes class ≡ true
      → item_of id (base_of class (bases_at s c)).items ≡ Some item → s.clock < item.wheel
  item_to_come class id item is there =
      elim (cases_Bool (cpu_at s c).online) [
        | inl online ↦
            item_holds (λ i. s.clock < i.wheel) id (base_of class (bases_at s c)).items item
            (waking class is (jiffy.none_due c low online)) there
        | inr offline ↦
            absurd
            (none-some item
            (sym (ap (item_of id) (jiffy.none_offline c class low offline)) ∙ there))
      ]

  pub still_to_come : (timer : ℕ) (arming : Entry)
      → arming_of timer (queued_by (bases_at s c).journal) ≡ Some arming
      → IsToCome s.clock arming
  still_to_come timer arming queues is =
      let b = bases_at s c in
      let class = arming.class in
      let queued = queued_by b.journal in
      let item =
      agreed_armed (base_of class b).items (entries_of class queued)
      ((jiffy.journals.recorded c low).consistent.agrees class) timer arming
      (found_part (λ (e : Entry). e.timer.0) (λ e. same_class e.class class) timer queued arming
      queues (class_itself class)) in
      let later = item_to_come class timer item.0 is item.1 in
      let same : item.0.wheel ≡ arming.wheel = ap (λ (t : QueuedTimer). t.wheel) item.2 in
      omega (arith, later, same)

-- the last lines tell of no timer
left_quiet : (c n t : ℕ) (s : State) → by_lines c (left plain_rules n t s) ≡ []
unfolding left
left_quiet c zero t s = refl
left_quiet c (suc n) t s = by (plain_rules.queued s t) (left_quiet c n (t + 1) s)
  where
    by : (o : Option Queued) → by_lines c (left plain_rules n (t + 1) s) ≡ []
        → by_lines c (left_or t o (left plain_rules n (t + 1) s)) ≡ []
    by None rest = rest
    by (Some held) rest = rest

module _ (jobs : Replies) (script : Script) (is : IsScript script) where
  abbrev first : State
  first = play_start script

  abbrev ts : List (Turn State)
  ts = play_turns jobs script

  abbrev last : State
  last = last_state first ts

  abbrev cpus : ℕ
  cpus = cpu_count_of (tree_for script)

  abbrev levels : ℕ
  levels = level_count_of (tree_for script)

  in_jiffy : InItsJiffy last
  in_jiffy =
      after_last InItsJiffy first ts (some_turn jobs script is)
      (in_its_jiffy_after_each jobs script is)

  at_times : All IsAtTime ts
  at_times =
      All-weaker
      (λ (t : Turn State).
      AtTime script.timers cpus levels script.end is.early_end t.at t.played.state)
      IsAtTime (λ t at. at.at) ts
      (turns_hold jobs plain_rules cpus script.timers levels script.end
      (Stands script.timers cpus levels script.end is.early_end) (Fits script.timers)
      (rules_keep script.timers cpus levels script.end is.early_end) (script.end + 1) 0
      script.moments (start (tree_for script) script.timers) (
        moments_in script is,
        moments_rise script is,
        omega arith,
        record { at = refl; homes = start_homes (tree_for script) script.timers },
      ))

  at_end : last.clock ≡ script.end
  at_end = last_at 0 script.end first ts (each_comes jobs script is).goes at_times

  closing_quiet : (c : ℕ)
      → by_lines c (whole_lines plain_rules script.end first ts) ≡ by_lines c (turn_lines ts)
  closing_quiet c =
      let lefts = left plain_rules last.timers 0 last in
      flat_map-append (by_line c) (turn_lines ts) (lefts ++ lines.End script.end ∷ [])
      ∙ (ap (λ x. by_lines c (turn_lines ts) ++ x)
      (flat_map-append (by_line c) lefts (lines.End script.end ∷ [])
      ∙ (append-nil (by_lines c lefts) ∙ left_quiet c last.timers 0 last))
      ∙ append-nil (by_lines c (turn_lines ts)))

  told_there : (timer c : ℕ)
      → filter (is_of timer) (by_lines c (turn_lines ts))
      ≡ filter (is_of timer) (by_journal (bases_at last c).journal)
  told_there timer c =
      let all : take (length ts) ts ≡ ts = take-length ts in
      subst
      (λ us. filter (is_of timer) (by_lines c (turn_lines us))
      ≡ filter (is_of timer) (by_journal (bases_at (last_state first us) c).journal))
      all (each_timer_is_told timer jobs script (length ts) is c)

  law : (timer c : ℕ) → c < cpu_count last
      → AreArmingsAndEnds script.end timer (bases_at last c).journal
      (filter (is_of timer) (by_lines c (whole_lines plain_rules script.end first ts)))
  law timer c low =
      let journal = (bases_at last c).journal in
      let recorded = in_jiffy.journals.recorded c low in
      record {
        told_is =
            ap (filter (is_of timer)) (closing_quiet c)
            ∙ (told_there timer c ∙ told_its timer journal);
        alternate =
            turns_from timer script.end [] journal tt recorded.consistent.each_may_follow
            recorded.on_time
            (λ a queues. subst (λ end. IsToCome end a) at_end
            (still_to_come last in_jiffy c low timer a queues))
            None refl;
      }

pub each_has_its_run : EachHasItsRun
each_has_its_run jobs script timer c is low = law jobs script is timer c low
