-- the lines of a plain moment of a run, told CPU by CPU (no public clause cites it)
use Rattle.std.specs.Prelude.{◌≡◌, ℕ, ◌+◌, ◌<◌, List, ◌++◌, OnOk, Result, filter, length}
use Rattle.std.specs.Prelude.{slice_index_or}
use Rattle.std.specs.List.{flat_map, range_with_len, sum_by}
use Rattle.tm_report.specs.declared.lines.Line.{Line}
use Rattle.tm_report.specs.Lines.{report_text}
use Rattle.play_rules.specs.Parts.{Played, Progress, counted}
use Rattle.run_story.specs.Stories.{is_told_by}

-- TOLD APART: each of so many CPUs has told those of these lines that are its own, and all of them
-- together have done so much work
pub record ToldApart (cpus : ℕ) (own : List Progress) (ls : List Line) (work : ℕ) : Type 0 where
  pub count : length own ≡ cpus
  pub each : (c : ℕ) (none : Progress) → c < cpus →
      (slice_index_or own c none).text ≡ report_text (filter (is_told_by c) ls)
  pub work_is : counted (sum_by (λ (t : Progress). t.work) own) ≡ counted work

-- a part of a moment was told apart: its lines came behind those that were told before
pub record Spreads {S : Type 0} (cpus : ℕ) (p : Played S) (old new : List Progress) (after : S)
    : Type 0 where
  pub apart : (ls : List Line) (work : ℕ) → ToldApart cpus old ls work →
      ToldApart cpus new (ls ++ p.lines) (work + p.work)
  pub state : after ≡ p.state

-- WHAT A PART THAT IS TOLD APART LEAVES: where it came to its end the CPUs have told it, each in
-- the report that it had; the machine has stayed what it stays, and fits again
pub record PartLeavesApart {S E : Type 0} (Says : (old new : List Progress) → S → Type 0)
    (Stays : S → S → Type 0) (Fits : S → Type 0) (result : Result (Unit {0}) E)
    (before after : S) (old new : List Progress) : Type 0 where
  pub spreads : OnOk result (Says old new after)
  pub count : OnOk result (length new ≡ length old)
  pub same : OnOk result (Stays before after)
  pub fit : OnOk result (Fits after)

-- what is left of a whole tells the whole
abbrev pub GoesOnApart : {S : Type 0} → (cpus : ℕ) → Played S → List Progress → Played S
    → List Progress → Type 0
GoesOnApart {S} cpus rest now whole first =
    (new : List Progress) (after : S) → Spreads cpus rest now new after
    → Spreads cpus whole first new after

-- the lines of each of so many CPUs, one CPU behind the other
abbrev pub gathered : (cpus : ℕ) → List Line → List Line
gathered cpus ls = flat_map (λ c. filter (is_told_by c) ls) (range_with_len 0 cpus)
