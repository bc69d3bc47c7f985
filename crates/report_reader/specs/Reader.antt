-- What the reader answers: the lines whose texts these bytes are, or the first line at fault.
use Rattle.std.specs.Prelude.{◌≡◌, ◌≢◌, ℕ, ◌+◌, List, [], ◌∷◌, ◌++◌, length, map, All}
use Rattle.std.specs.Prelude.{is_some, Bool, true, false}
use Rattle.text_words.specs.Words.{lines_of, words_of}
use Rattle.tm_report.specs.Lines.{words_text, report_text}
use Rattle.tm_report.specs.declared.lines.Line.{Line}
use Rattle.report_reader.specs.declared.faults.Kind.{Kind}
use Rattle.report_reader.specs.declared.faults.Kind.TheVariants.{UnknownName, WrongWords}
use Rattle.report_reader.specs.declared.faults.Kind.TheVariants.{NoLineFeed}
use Rattle.report_reader.specs.declared.faults.ReportFault.{ReportFault}
use Rattle.report_reader.specs.declared.faults.ReadReport.{ReadReport}
use Rattle.report_reader.specs.declared.faults.ReadReport.TheVariants.{Refused, NoMemory}
use Rattle.report_reader.specs.Names.{head_word, line_name_of}
use Rattle.report_reader.specs.Widths.{FitsWidths}

-- these bytes are the texts of these lines
pub record IsReportOf (bytes : List ℕ) (lines : List Line) : Type 0 where
  pub fit : All FitsWidths lines
  pub text : report_text lines ≡ bytes

-- these bytes are the texts of no other lines
abbrev pub AreOnlyLinesOf : List ℕ → List Line → Type 0
AreOnlyLinesOf bytes lines = (others : List Line) → IsReportOf bytes others → others ≡ lines

-- no line has these words
unfoldable pub IsNoLine : List ℕ → Type 0
IsNoLine text = (line : Line) → FitsWidths line → words_text line ≢ text

-- whether the first word of a text is the name of a line
unfoldable pub is_named : List ℕ → Bool
is_named text = is_some (line_name_of (head_word (words_of text)))

-- What is wrong with a part of the bytes, where these parts stand behind the line feed that ends
-- it. Behind a part that no line feed ends stands none.
abbrev pub IsFaultCause : Kind → List ℕ → List (List ℕ) → Type 0
IsFaultCause NoLineFeed text behind = (behind ≡ []) × (text ≢ [])
IsFaultCause UnknownName text behind = (behind ≢ []) × IsNoLine text × (is_named text ≡ false)
IsFaultCause WrongWords text behind = (behind ≢ []) × IsNoLine text × (is_named text ≡ true)

-- the lines before the first fault are lines of a report, and the next part is none
pub record IsFirstFault (bytes : List ℕ) (fault : ReportFault) : Type 0 where
  pub before : List Line
  pub fit : All FitsWidths before
  pub text : List ℕ
  pub behind : List (List ℕ)
  pub parted : lines_of bytes ≡ map words_text before ++ text ∷ behind
  pub number : fault.line ≡ length before + 1
  pub cause : IsFaultCause fault.kind text behind

-- A refusal tells the first fault, and the bytes are the texts of no lines. Want of memory says
-- nothing of them.
abbrev pub IsReportRefusalOf : List ℕ → ReadReport → Type 0
IsReportRefusalOf bytes (Refused fault) =
    IsFirstFault bytes fault × ((lines : List Line) → IsReportOf bytes lines → ⊥)
IsReportRefusalOf bytes NoMemory = Unit {0}
