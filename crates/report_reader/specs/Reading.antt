-- reading a line as the code does it; no public clause speaks of this
use Rattle.std.specs.Prelude.{◌≡◌, ℕ, List, true, false, Result, Ok, Err}
use Rattle.tm_report.specs.Lines.{words_text}
use Rattle.tm_report.specs.declared.lines.Line.{Line}
use Rattle.report_reader.specs.declared.faults.Kind.{Kind}
use Rattle.report_reader.specs.declared.faults.Kind.TheVariants.{UnknownName, WrongWords}
use Rattle.report_reader.specs.declared.faults.Kind.TheVariants.{NoLineFeed}
use Rattle.report_reader.specs.Reader.{IsNoLine, is_named}
use Rattle.report_reader.specs.Widths.{FitsWidths}

-- the line has these words, and no other has
pub record IsLineOf (text : List ℕ) (line : Line) : Type 0 where
  pub fits : FitsWidths line
  pub words : words_text line ≡ text
  pub only : (other : Line) → FitsWidths other → words_text other ≡ text → other ≡ line

-- the line that has these words, or why none has
abbrev pub ReadsLine : List ℕ → Result Line Kind → Type 0
ReadsLine text (Ok line) = IsLineOf text line
ReadsLine text (Err UnknownName) = IsNoLine text × (is_named text ≡ false)
ReadsLine text (Err WrongWords) = IsNoLine text × (is_named text ≡ true)
ReadsLine text (Err NoLineFeed) = ⊥
