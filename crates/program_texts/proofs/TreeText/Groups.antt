-- the lines of groups, one after the other
use Rattle.std.proofs.Common.{◌≡◌, ℕ, ◌+◌, List, [], ◌∷◌, ◌++◌, map, ap, sym, ◌∙◌, append_assoc}
use Rattle.std.proofs.Common.{arith}
use Rattle.std.specs.List.{flat_map, range_with_len}
use Rattle.std.proofs.lemmas.Grind.{flat_map-append}
use Rattle.std.proofs.lemmas.List.{append-nil}
use Rattle.std.proofs.lemmas.List.FromFn.{map-range_with_len_more}
use Rattle.text_words.specs.Words.{ended}

-- the first n of these lines, each ended
abbrev pub lines_below : (line : ℕ → List ℕ) (n : ℕ) → List ℕ
lines_below line n = flat_map ended (map line (range_with_len 0 n))

module _ (line : ℕ → List ℕ) (n : ℕ) where
  -- one line more
  lines_more : lines_below line (n + 1) ≡ lines_below line n ++ ended (line n)
  lines_more =
      ap (λ (ls : List (List ℕ)). flat_map ended ls)
      (map-range_with_len_more line 0 n n (omega arith))
      ∙ flat_map-append ended (map line (range_with_len 0 n)) (line n ∷ [])
      ∙ ap (λ (t : List ℕ). lines_below line n ++ t) (append-nil (ended (line n)))

  pub text_more : (old so_far now : List ℕ) → so_far ≡ old ++ lines_below line n
      → now ≡ so_far ++ ended (line n) → now ≡ old ++ lines_below line (n + 1)
  text_more old so_far now was is =
      is ∙ ap (λ (t : List ℕ). t ++ ended (line n)) was
      ∙ append_assoc old (lines_below line n) (ended (line n))
      ∙ ap (λ (t : List ℕ). old ++ t) (sym lines_more)
