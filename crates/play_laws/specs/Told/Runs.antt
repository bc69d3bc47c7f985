-- each arming that a report tells of has its run: what the lines tell of a timer on a CPU are
-- armings, and each is followed by its end
use Rattle.std.specs.Prelude.{◌&&◌, ◌||◌, ◌==◌}
use Rattle.std.specs.Prelude.{◌≡◌, ℕ, ◌<◌, List, [], ◌∷◌, true, Option, Some, None, filter}
use Rattle.tm_script.specs.declared.syntax.Script.{Script}
use Rattle.tm_script.specs.Grammar.{IsScript}
use Rattle.cpu_bases.specs.declared.entry.Act.TheVariants as acts
use Rattle.cpu_bases.specs.declared.entry.Entry.{Entry}
use Rattle.cpu_bases.specs.Laws.{is_arming, is_end}
use Rattle.play_rules.specs.Interrupts.{Replies}
use Rattle.play_rules.specs.Moments.{last_state, whole_lines}
use Rattle.play_rules.specs.State.{cpu_count}
use Rattle.play_rules.specs.Timers.{bases_at}
use Rattle.play_rules.specs.Play.{plain_rules, play_start, play_turns}
use Rattle.play_laws.specs.Jiffies.Jiffies.{IsOnTime, wakes}
use Rattle.play_laws.specs.Told.Journals.{Deed, by_journal, by_lines, is_of}

-- AN END of an arming: it was handed out, cancelled or moved away, in its class and at its wheel
-- expiry. Where it was handed out, it was so in that jiffy; a deferrable timer not before it
pub record Ends (arming ending : Entry) : Type 0 where
  pub ends : is_end ending.act ≡ true
  pub class : ending.class ≡ arming.class
  pub wheel : ending.wheel ≡ arming.wheel
  pub on_time : ending.act ≡ acts.Handed → IsOnTime arming.class ending.at arming.wheel

-- an arming without an end: its wheel expiry hasn't come by the end of the play, unless it is
-- deferrable
abbrev pub IsToCome : (end : ℕ) → Entry → Type 0
IsToCome end arming = wakes arming.class ≡ true → end < arming.wheel

-- ARMINGS AND ENDS alternate: behind an arming that has no end yet, if there is one, these entries
-- are its end, an arming, its end, and so on. Only the last arming may have none, where it is still
-- to come
abbrev pub Alternate : (end : ℕ) → Option Entry → List Entry → Type 0
Alternate end None [] = Unit {0}
Alternate end (Some arming) [] = IsToCome end arming
Alternate end None (entry ∷ entries) =
    (is_arming entry.act ≡ true) × Alternate end (Some entry) entries
Alternate end (Some arming) (entry ∷ entries) = Ends arming entry × Alternate end None entries

-- the armings of a timer and their ends in a journal, in order
abbrev pub entries_of_timer : (timer : ℕ) → List Entry → List Entry
entries_of_timer timer journal =
    filter (λ entry. (is_arming entry.act || is_end entry.act) && entry.timer.0 == timer) journal

-- what is told of a timer on a CPU is what its entries in that CPU's journal tell: armings and
-- their ends, which alternate
pub record AreArmingsAndEnds (end timer : ℕ) (journal : List Entry) (told : List Deed)
    : Type 0 where
  pub told_is : told ≡ by_journal (entries_of_timer timer journal)
  pub alternate : Alternate end None (entries_of_timer timer journal)

-- what the lines of a script's play tell of a timer on CPU c are such armings and ends
abbrev pub LinesAlternate : Replies → Script → (timer c : ℕ) → Type 0
LinesAlternate jobs script timer c =
    let turns = play_turns jobs script in
    let start = play_start script in
    let last = last_state start turns in
    c < cpu_count last
    → AreArmingsAndEnds script.end timer (bases_at last c).journal
    (filter (is_of timer) (by_lines c (whole_lines plain_rules script.end start turns)))

-- EACH ARMING HAS ITS RUN: in the report of every script's play, whatever its jobs answer, what
-- the lines tell of a timer on a CPU are such armings and ends. So each arming (`arm`, `again`,
-- `moved`) of a pinned or global timer whose wheel expiry comes by the end has a `run` line in that
-- jiffy, and no other, unless a `cancel` or `moved` line comes before it; and each `run` line ends
-- an arming
abbrev pub EachHasItsRun : Type 0
EachHasItsRun = (jobs : Replies) (script : Script) (timer c : ℕ) → IsScript script
    → LinesAlternate jobs script timer c
