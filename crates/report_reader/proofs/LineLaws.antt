-- what is read of a line
use Rattle.std.proofs.Common.{◌≡◌, ℕ, ◌-◌, true, false, List, [], ◌∷◌, ◌++◌, length, take, Option, Some, None, is_some, sym, ap, ◌∙◌, arith}
use Rattle.std.specs.Str.{bytes_eq}
use Rattle.std.proofs.lemmas.Bool.{false≢true}
use Rattle.std.proofs.lemmas.List.{take_at, length-append}
use Rattle.std.proofs.lemmas.Slice.Eq.{bytes_eq-Decides}
use Rattle.text_words.specs.Words.{words_of}
use Rattle.text_words.proofs.Cuts.{split_some}
use Rattle.tm_report.specs.Lines.{words_text}
use Rattle.tm_report.specs.declared.lines.Line.{Line}
use Rattle.report_reader.specs.declared.names.Name.{Name}
use Rattle.report_reader.specs.Names.{line_name_of}
use Rattle.report_reader.specs.Candidates.{later_of, line_for, is_over, words_left}
use Rattle.report_reader.specs.Names.{head_word}
use Rattle.report_reader.specs.Widths.{FitsWidths}
use Rattle.report_reader.specs.Reader.{IsNoLine, is_named}
use Rattle.report_reader.specs.Reading.{IsLineOf}
use Rattle.report_reader.proofs.Spelled.{words_cut}
use Rattle.report_reader.proofs.Named.{name, name_again, line_again}
use Rattle.report_reader.proofs.Widths.{line_fits}

-- a line with these words has the name that the first word spells, and is what they are read as
named : (text : List ℕ) (l : Line) → FitsWidths l → words_text l ≡ text → line_name_of (head_word (words_of text)) ≡ Some (name l)
named text l h e = ap (λ (t : List ℕ). line_name_of (head_word (words_of t))) (sym e) ∙ ap (λ (ws : List (List ℕ)). line_name_of (head_word ws)) (words_cut l h) ∙ name_again l

read_as : (text : List ℕ) (l : Line) → FitsWidths l → words_text l ≡ text → line_for (name l) (later_of (words_of text)) ≡ l
read_as text l h e =
    ap (λ (t : List ℕ). line_for (name l) (later_of (words_of t))) (sym e)
    ∙ ap (λ (ws : List (List ℕ)). line_for (name l) (later_of ws)) (words_cut l h) ∙ line_again l h

pub unnamed : (text : List ℕ) → line_name_of (head_word (words_of text)) ≡ None → IsNoLine text × (is_named text ≡ false)
unfolding IsNoLine is_named
unnamed text none = (λ l h e. let clash = sym none ∙ named text l h e in absurd cc, ap (λ (o : Option Name). is_some o) none)

module _ (text : List ℕ) (n : Name) (found : line_name_of (head_word (words_of text)) ≡ Some n) where
  only : (l : Line) → FitsWidths l → words_text l ≡ text → l ≡ line_for n (later_of (words_of text))
  only l h e =
      let same : name l ≡ n = let both = sym (named text l h e) ∙ found in cc in
      sym (read_as text l h e) ∙ ap (λ (m : Name). line_for m (later_of (words_of text))) same

  pub is_line : bytes_eq text (words_text (line_for n (later_of (words_of text)))) ≡ true → IsLineOf text (line_for n (later_of (words_of text)))
  is_line same = record { fits = line_fits n (later_of (words_of text)); words = sym ((bytes_eq-Decides text (words_text (line_for n (later_of (words_of text))))).0 same); only = only }

  pub no_line : bytes_eq text (words_text (line_for n (later_of (words_of text)))) ≡ false → IsNoLine text × (is_named text ≡ true)
  unfolding IsNoLine is_named
  no_line other = (
    λ l h e. false≢true (sym other ∙ (bytes_eq-Decides text (words_text (line_for n (later_of (words_of text))))).1 (sym e ∙ ap words_text (only l h e))),
    ap (λ (o : Option Name). is_some o) found,
  )

-- a text without its last byte
pub without_last : (xs : List ℕ) → take (length (xs ++ 10 ∷ []) - 1) (xs ++ 10 ∷ []) ≡ xs
without_last xs = take_at xs (10 ∷ []) (length (xs ++ 10 ∷ []) - 1) (omega (arith, length-append xs (10 ∷ [])))

-- a text has a first word
pub some_left : (rest : Option (List ℕ)) (text : List ℕ) → rest ≡ Some text → false ≡ is_over (words_left rest)
some_left rest text e =
    let some = split_some 32 text in
    sym (ap (λ (r : Option (List ℕ)). is_over (words_left r)) e ∙ ap is_over some.2)
