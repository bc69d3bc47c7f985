-- going over words and lines
use Rattle.std.proofs.Common.{◌≡◌, ℕ, ◌+◌, List, ◌∷◌, length, Option, Some, None, Result, Ok, Err, sym, ap, ◌∙◌}
use Rattle.text_words.specs.Words.{words_of}
use Rattle.text_words.proofs.Cuts.{split_some}
use Rattle.tm_script.specs.declared.faults.Kind.{Kind}
use Rattle.tm_script.specs.declared.faults.Kind.TheVariants.{BadLine}
use Rattle.tm_script.specs.declared.isolated.Named.{Named}
use Rattle.tm_script.specs.Reading.{◌>>=◌, words_behind, only, front, number_in, with_number, isolated_by, isolated_from}

pub only_two : (o : Option (List ℕ)) (ws x y : List ℕ) → o ≡ Some ws → words_of ws ≡ x ∷ words_of y → only (words_behind o) ≡ Err BadLine
only_two o ws x y is cut =
    let more = split_some 32 y in
    ap (λ (o : Option (List ℕ)). only (words_behind o)) is ∙ ap only cut ∙ ap (λ (r : List (List ℕ)). only (x ∷ r)) more.2

pub front_two : (o : Option (List ℕ)) (ws x y : List ℕ) → o ≡ Some ws → words_of ws ≡ x ∷ words_of y → front (words_behind o) ≡ Ok (x, words_of y)
front_two o ws x y is cut =
    let more = split_some 32 y in
    ap (λ (o : Option (List ℕ)). front (words_behind o)) is ∙ ap front cut ∙ ap (λ (r : List (List ℕ)). front (x ∷ r)) more.2
    ∙ ap (λ (r : List (List ℕ)). Ok (x, r)) (sym more.2)

-- how many bytes are left, and one more for the space before them
abbrev pub bytes_left : Option (List ℕ) → ℕ
bytes_left None = 0
bytes_left (Some bytes) = length bytes + 1

pub isolated_step : (count : ℕ) (s : Named) (o : Option (List ℕ)) (ws w : List ℕ) (after : List (List ℕ)) (n : ℕ) → o ≡ Some ws → words_of ws ≡ w ∷ after → number_in w ≡ Ok n
    → isolated_from count s (words_behind o) ≡ isolated_from count (with_number count s n) after
unfolding isolated_from
isolated_step count s o ws w after n is cut read =
    ap (λ (o : Option (List ℕ)). isolated_from count s (words_behind o)) is ∙ ap (isolated_from count s) cut
    ∙ ap (λ (r : Result ℕ Kind). r >>= λ n. isolated_from count (with_number count s n) after) read

pub isolated_fails : (count : ℕ) (s : Named) (o : Option (List ℕ)) (ws w : List ℕ) (after : List (List ℕ)) (kind : Kind) → o ≡ Some ws → words_of ws ≡ w ∷ after → number_in w ≡ Err kind
    → isolated_from count s (words_behind o) ≡ Err kind
unfolding isolated_from
isolated_fails count s o ws w after kind is cut read =
    ap (λ (o : Option (List ℕ)). isolated_from count s (words_behind o)) is ∙ ap (isolated_from count s) cut
    ∙ ap (λ (r : Result ℕ Kind). r >>= λ n. isolated_from count (with_number count s n) after) read

pub isolated_done : (count : ℕ) (s : Named) (o : Option (List ℕ)) → o ≡ None → isolated_from count s (words_behind o) ≡ isolated_by count s
unfolding isolated_from
isolated_done count s o is = ap (λ (o : Option (List ℕ)). isolated_from count s (words_behind o)) is
