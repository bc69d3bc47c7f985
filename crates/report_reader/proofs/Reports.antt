-- what is read of whole bytes, part by part
use Rattle.std.proofs.Common.{◌≡◌, ◌≢◌, ℕ, ◌+◌, List, [], ◌∷◌, ◌++◌, length, map, Err, refl, sym, ap, ◌∙◌, append_assoc, inl, inr, ◌⊎◌}
use Rattle.std.specs.Prelude.{All}
use Rattle.std.specs.List.{flat_map, AllByRecursion}
use Rattle.std.proofs.lemmas.List.{map-append}
use Rattle.std.proofs.lemmas.List.Elements.{All-from_recursion, recursion_from_All}
use Rattle.text_words.specs.Words.{lines_of, ended}
use Rattle.text_words.proofs.Cuts.{AreClear, lines_found, lines_again, split_some}
use Rattle.tm_report.specs.Lines.{words_text, line_text, report_text}
use Rattle.tm_report.specs.declared.lines.Line.{Line}
use Rattle.report_reader.specs.declared.faults.Kind.{Kind}
use Rattle.report_reader.specs.declared.faults.Kind.TheVariants.{UnknownName, WrongWords, NoLineFeed}
use Rattle.report_reader.specs.Candidates.{later_of}
use Rattle.report_reader.specs.Names.{head_word}
use Rattle.report_reader.specs.Widths.{FitsWidths}
use Rattle.report_reader.specs.Reader.{IsReportOf, AreOnlyLinesOf, IsNoLine, IsFaultCause, IsFirstFault}
use Rattle.report_reader.specs.Reading.{IsLineOf, ReadsLine}
use Rattle.report_reader.proofs.Spelled.{line_clear}

-- each of these is the one line that has its words
abbrev pub AreRead : List Line → Type 0
AreRead lines = AllByRecursion (λ (l : Line). IsLineOf (words_text l) l) lines

-- what is read so far, and what is left
pub record ReadSoFar (bytes : List ℕ) (lines : List Line) (rest : List ℕ) : Type 0 where
  pub parted : lines_of bytes ≡ map words_text lines ++ lines_of rest
  pub read : AreRead lines

are_more : (ls : List Line) (l : Line) → AreRead ls → IsLineOf (words_text l) l → AreRead (ls ++ l ∷ [])
are_more [] l h g = (g, tt)
are_more (k ∷ ks) l h g = (h.0, are_more ks l h.1 g)

own_line : (text : List ℕ) (l : Line) → IsLineOf text l → IsLineOf (words_text l) l
own_line text l is = record { fits = is.fits; words = refl; only = λ k h e. is.only k h (e ∙ is.words) }

-- a line more
pub read_more : (bytes : List ℕ) (lines : List Line) (rest text after : List ℕ) (l : Line) → ReadSoFar bytes lines rest → lines_of rest ≡ text ∷ lines_of after → IsLineOf text l → ReadSoFar bytes (lines ++ l ∷ []) after
read_more bytes lines rest text after l so_far cut is =
    record {
      parted =
          so_far.parted ∙ ap (λ (ts : List (List ℕ)). map words_text lines ++ ts) cut
          ∙ ap (λ (t : List ℕ). map words_text lines ++ t ∷ lines_of after) (sym is.words)
          ∙ sym (append_assoc (map words_text lines) (words_text l ∷ []) (lines_of after))
          ∙ ap (λ (ts : List (List ℕ)). ts ++ lines_of after) (sym (map-append words_text lines (l ∷ [])));
      read = are_more lines l so_far.read (own_line text l is);
    }

fit_read : (ls : List Line) → AreRead ls → AllByRecursion FitsWidths ls
fit_read [] h = tt
fit_read (l ∷ ls) h = (h.0.fits, fit_read ls h.1)

pub all_fit : (ls : List Line) → AreRead ls → All FitsWidths ls
all_fit ls h = All-from_recursion FitsWidths ls (fit_read ls h)

-- the text of a report is its lines, each ended
ended_lines : (ls : List Line) → flat_map ended (map words_text ls) ≡ report_text ls
unfolding line_text
ended_lines [] = refl
ended_lines (l ∷ ls) = ap (λ (r : List ℕ). (words_text l ++ 10 ∷ []) ++ r) (ended_lines ls)

clear_lines : (ls : List Line) → AllByRecursion FitsWidths ls → AreClear 10 (map words_text ls)
clear_lines [] h = tt
clear_lines (l ∷ ls) h = (line_clear l h.0, clear_lines ls h.1)

-- the parts of a report
parts : (bytes : List ℕ) (ls : List Line) → IsReportOf bytes ls → lines_of bytes ≡ map words_text ls ++ [] ∷ []
parts bytes ls is =
    ap lines_of (sym is.text ∙ sym (ended_lines ls))
    ∙ lines_again (map words_text ls) (clear_lines ls (recursion_from_All FitsWidths ls is.fit))

pub report_read : (bytes : List ℕ) (lines : List Line) → ReadSoFar bytes lines [] → IsReportOf bytes lines
report_read bytes lines so_far =
    record {
      fit = all_fit lines so_far.read;
      text = sym (ended_lines lines) ∙ sym (lines_found bytes (map words_text lines) so_far.parted);
    }

no_end : (xs : List (List ℕ)) (y : List ℕ) (ys : List (List ℕ)) → [] ≢ xs ++ y ∷ ys
no_end [] y ys e = absurd cc
no_end (x ∷ xs) y ys e = absurd cc

same_lines : (ks ls : List Line) → AllByRecursion FitsWidths ks → AreRead ls → map words_text ks ++ [] ∷ [] ≡ map words_text ls ++ [] ∷ [] → ks ≡ ls
same_lines [] [] h g e = refl
same_lines [] (l ∷ ls) h g e = absurd (no_end (map words_text ls) [] [] (ap later_of e))
same_lines (k ∷ ks) [] h g e = absurd (no_end (map words_text ks) [] [] (sym (ap later_of e)))
same_lines (k ∷ ks) (l ∷ ls) h g e =
    let same = g.0.only k h.0 (ap head_word e) in
    let more = same_lines ks ls h.1 g.1 (ap later_of e) in
    λ i. same i ∷ more i

pub only_lines : (bytes : List ℕ) (lines : List Line) → ReadSoFar bytes lines [] → AreOnlyLinesOf bytes lines
only_lines bytes lines so_far ks is =
    same_lines ks lines (recursion_from_All FitsWidths ks is.fit) so_far.read (sym (parts bytes ks is) ∙ so_far.parted)

-- ---- refusals

abbrev pub Stops : List ℕ → List (List ℕ) → Type 0
Stops text behind = (IsNoLine text × (behind ≢ [])) ⊎ ((behind ≡ []) × (text ≢ []))

stopped : (ks ls : List Line) (text : List ℕ) (behind : List (List ℕ)) → Stops text behind → AllByRecursion FitsWidths ks → map words_text ks ++ [] ∷ [] ≢ map words_text ls ++ text ∷ behind
unfolding IsNoLine
stopped [] [] text behind (inl h) fit e = h.1 (sym (ap later_of e))
stopped [] [] text behind (inr h) fit e = h.1 (sym (ap head_word e))
stopped [] (l ∷ ls) text behind h fit e = no_end (map words_text ls) text behind (ap later_of e)
stopped (k ∷ ks) [] text behind (inl h) fit e = h.0 k fit.0 (ap head_word e)
stopped (k ∷ ks) [] text behind (inr h) fit e = no_end (map words_text ks) [] [] (sym (ap later_of e ∙ h.0))
stopped (k ∷ ks) (l ∷ ls) text behind h fit e = stopped ks ls text behind h fit.1 (ap later_of e)

stops : (kind : Kind) (text : List ℕ) (behind : List (List ℕ)) → IsFaultCause kind text behind → Stops text behind
stops UnknownName text behind h = inl (h.1, h.0)
stops WrongWords text behind h = inl (h.1, h.0)
stops NoLineFeed text behind h = inr h

-- a fault behind the lines read so far
pub fault_behind : (bytes : List ℕ) (lines : List Line) (rest text : List ℕ) (behind : List (List ℕ)) (kind : Kind) → ReadSoFar bytes lines rest → lines_of rest ≡ text ∷ behind → IsFaultCause kind text behind
    → IsFirstFault bytes (record { line = length lines + 1; kind = kind }) × ((ks : List Line) → IsReportOf bytes ks → ⊥)
fault_behind bytes lines rest text behind kind so_far cut cause =
    let parted = so_far.parted ∙ ap (λ (ts : List (List ℕ)). map words_text lines ++ ts) cut in (
      record { before = lines; fit = all_fit lines so_far.read; text = text; behind = behind; parted = parted; number = refl; cause = cause },
      λ ks is. stopped ks lines text behind (stops kind text behind cause) (recursion_from_All FitsWidths ks is.fit) (sym (parts bytes ks is) ∙ parted),
    )

some_behind : (after : List ℕ) → lines_of after ≢ []
some_behind after e = let some = split_some 10 after in let clash = sym e ∙ some.2 in absurd cc

-- why a line isn't read, where a line feed ends it
pub cause_of : (kind : Kind) (text after : List ℕ) → ReadsLine text (Err kind) → IsFaultCause kind text (lines_of after)
cause_of UnknownName text after h = (some_behind after, h.0, h.1)
cause_of WrongWords text after h = (some_behind after, h.0, h.1)
cause_of NoLineFeed text after h = absurd h

pub none_of_length : (xs : List ℕ) → length xs ≡ 0 → xs ≡ []
none_of_length [] e = refl
none_of_length (x ∷ xs) e = absurd cc
