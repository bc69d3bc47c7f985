-- parts of a play, one after the other
use Rattle.std.specs.Prelude.{◌≡◌, ℕ, ◌+◌, ◌^◌, ◌-◌, List, [], ◌∷◌, ◌++◌, min}
use Rattle.tm_report.specs.declared.lines.Line.{Line}
use Rattle.tm_report.specs.Lines.{report_text}
use Rattle.play_rules.specs.declared.tally.Tally.{Tally}
use Rattle.play_rules.specs.Tallies.{tallied_all}

-- the lines of a part; its work, which counts moments, interrupts and timers handed out; and the
-- state after it
pub record Played (S : Type 0) : Type 0 where
  pub lines : List Line
  pub work : ℕ
  pub state : S

module _ {S : Type 0} where
  -- nothing is printed
  abbrev pub silent : S → Played S
  silent s = record { lines = []; work = 0; state = s }

  -- a part of a play that tells one line and is no work
  abbrev pub printing : Line → S → Played S
  printing line s = record { lines = line ∷ []; work = 0; state = s }

  -- lines are printed with no change of the state
  abbrev pub lines_told : List Line → S → Played S
  lines_told ls s = record { lines = ls; work = 0; state = s }

  -- nothing is printed, and one moment or interrupt is counted
  abbrev pub counting : S → Played S
  counting s = record { lines = []; work = 1; state = s }

  -- one part, and then another from the state that it leaves
  abbrev pub and_then : Played S → (S → Played S) → Played S
  and_then first second = record {
    lines = first.lines ++ (second first.state).lines;
    work = first.work + (second first.state).work;
    state = (second first.state).state;
  }

-- a count of 32 bits stands still at its greatest value
abbrev pub counted : ℕ → ℕ
counted n = min (2 ^ 32 - 1) n

-- what was told so far: the report's text, how many lines of each kind it has, and the work that
-- was done for it
pub record Progress : Type 0 where
  pub text : List ℕ
  pub tally : Tally
  pub work : ℕ

-- the report has gained the lines of this part, the work is counted, and the machine is in the
-- state that it leaves
pub record Prints {S : Type 0} (p : Played S) (old new : Progress) (after : S) : Type 0 where
  pub text : new.text ≡ old.text ++ report_text p.lines
  pub tally : new.tally ≡ tallied_all old.tally p.lines
  pub work : counted new.work ≡ counted (old.work + p.work)
  pub state : after ≡ p.state

-- a report has only gained text
abbrev pub Gains : (old new : List ℕ) → Type 0
Gains old new = (more : List ℕ) × (new ≡ old ++ more)
