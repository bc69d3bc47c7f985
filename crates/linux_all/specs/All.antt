-- all that is wrong with a trace
use Rattle.std.specs.Prelude.{◌≡◌, ℕ, List, [], ◌∷◌, ◌++◌, Option, Some, None}
use Rattle.linux_seen.specs.Counts.{counted}
use Rattle.linux_timers.specs.Seen.{no_timers}
use Rattle.linux_rules.specs.declared.judge.Course.{Course}
use Rattle.linux_rules.specs.declared.judge.Misfit.{Misfit}
use Rattle.linux_rules.specs.declared.judge.Tally.{Tally}
use Rattle.linux_rules.specs.declared.judge.Verdict.{Verdict}
use Rattle.linux_rules.specs.declared.judge.Verdict.TheVariants.{Fits, Broken, NoTrace}
use Rattle.linux_rules.specs.Judge.{no_sight, open_at, start, text_after, text_verdict}
use Rattle.linux_rules.specs.Marks.{kept_lines}

-- the misfits of a trace, in order, and how it ends
pub record AllSaid : Type 0 where
  pub misfits : List Misfit
  pub end : Verdict

-- LEARNT AGAIN: after a misfit nothing is known, as after lost lines; its line is counted
abbrev pub forgotten : Tally → Course
forgotten t = record {
  seen = no_sight;
  timers = no_timers;
  tally = record t { lines = counted t.lines };
}

-- what a line's verdict leaves, where the rest goes on so
abbrev pub all_by : Option Verdict → Course → List Misfit → (after : Course)
    → (Course → List Misfit → AllSaid) → AllSaid
all_by None k ms after rest = rest after ms
all_by (Some (Fits tally late)) k ms after rest = record { misfits = ms; end = Fits tally late }
all_by (Some (Broken m)) k ms after rest = rest (forgotten k.tally) (ms ++ m ∷ [])
all_by (Some (NoTrace line fault)) k ms after rest =
    record { misfits = ms; end = NoTrace line fault }

-- ALL that is said of a trace whose lines are these, from here on, behind these misfits
abbrev pub all_of : Course → List Misfit → List (List ℕ) → AllSaid
all_of k ms [] = record { misfits = ms; end = Fits k.tally (open_at k.seen) }
all_of k ms (text ∷ texts) =
    all_by (text_verdict k text) k ms (text_after k text) (λ c found. all_of c found texts)

-- ALL that is said of a trace of these lines: of those that count
abbrev pub all_said : List (List ℕ) → AllSaid
all_said texts = all_of (start texts) [] (kept_lines texts)

-- what comes first: a misfit, or the end
abbrev pub first_said : List Misfit → Verdict → Verdict
first_said [] end = end
first_said (m ∷ ms) end = Broken m

-- what is left once a line was taken whose verdict is this (no public clause cites it)
abbrev pub HasTaken : Course → List Misfit → Option Verdict → (text : List ℕ) → Course
    → List Misfit → Option Verdict → Type 0
HasTaken k ms verdict text after found (Some end) =
    (found ≡ ms) × ((rest : Course → List Misfit → AllSaid) →
    all_by verdict k ms (text_after k text) rest ≡ record { misfits = ms; end = end })
HasTaken k ms verdict text after found None =
    (rest : Course → List Misfit → AllSaid) →
    all_by verdict k ms (text_after k text) rest ≡ rest after found
