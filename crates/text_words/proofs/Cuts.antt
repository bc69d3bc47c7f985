-- for crates above: what a cut at the first of some byte gives, and how parts are joined
use Rattle.std.proofs.Common.{◌≡◌, ℕ, suc, ◌+◌, Bool, true, false, cond, eqb, ltb, not, ◌&&◌, List, [], ◌∷◌, ◌++◌, length, take, drop, Some, None, refl, sym, ap, ◌∙◌, append_assoc, arith}
use Rattle.std.specs.List.{position, position_or_len, prefix_len, onto_first, list_all, flat_map, join_with_byte, AllByRecursion}
use Rattle.std.proofs.lemmas.Bool.{ltb-true, ltb-false, lt-ltb, le-ltb, eq-eqb, and_parts, not-true, cond-true, cond-false, true≢false}
use Rattle.std.proofs.lemmas.List.{append-nil}
use Rattle.std.proofs.lemmas.List.Splits.{slice_split_first, join_with_byte-slice_split}
use Rattle.std.proofs.lemmas.Option.{cond_some}
use Rattle.text_words.specs.Words.{split, lines_of, words_of, spaced, ended}

-- a cut takes the first part off
pub split-cut : (c : ℕ) (bytes : List ℕ) (at : ℕ) → Some at ≡ position (λ b. eqb b c) bytes → split c bytes ≡ take at bytes ∷ split c (drop (at + 1) bytes)
split-cut c bytes at e =
    let place = position_or_len (λ b. eqb b c) bytes in
    let found = cond_some (ltb place (length bytes)) place at (sym e) in
    slice_split_first (λ b. eqb b c) bytes 0 (ltb-true _ _ found.0) ∙ (λ i. take (found.1 i) bytes ∷ split c (drop (found.1 i + 1) bytes))

-- the byte c isn't among these
abbrev pub is_clear : ℕ → List ℕ → Bool
is_clear c bytes = list_all (λ b. not (eqb b c)) bytes

all_within : (test : ℕ → Bool) (bytes : List ℕ) → ltb (prefix_len test bytes) (length bytes) ≡ false → list_all test bytes ≡ true
all_within test [] e = refl
all_within test (b ∷ bs) e =
    let n = prefix_len test bs in
    elim (test b) as (λ t. ltb (cond t (1 + n) 0) (suc (length bs)) ≡ false → (t && list_all test bs) ≡ true) [
      | true ↦ λ h. all_within test bs (le-ltb n (length bs) (omega (arith, ltb-false (1 + n) (suc (length bs)) h)))
      | false ↦ λ h. absurd (true≢false (sym (lt-ltb 0 (suc (length bs)) (omega arith)) ∙ h))
    ] e

none_cond : (t : Bool) (n : ℕ) → None ≡ cond t (Some n) None → t ≡ false
none_cond true n e = absurd cc
none_cond false n e = refl

-- where nothing is cut there is one part
pub split_clear : (c : ℕ) (bytes : List ℕ) → is_clear c bytes ≡ true → split c bytes ≡ bytes ∷ []
split_clear c [] h = refl
split_clear c (b ∷ bs) h =
    let both = and_parts _ _ h in
    cond-false (eqb b c) _ _ (not-true (eqb b c) both.0) ∙ ap (onto_first b) (split_clear c bs both.1)

pub split-uncut : (c : ℕ) (bytes : List ℕ) → None ≡ position (λ b. eqb b c) bytes → split c bytes ≡ bytes ∷ []
split-uncut c bytes e = split_clear c bytes (all_within _ bytes (none_cond _ _ e))

-- what stands before the byte and behind it is cut
pub split_again : (c : ℕ) (x y : List ℕ) → is_clear c x ≡ true → split c (x ++ c ∷ y) ≡ x ∷ split c y
split_again c [] y h = cond-true (eqb c c) _ _ (eq-eqb c c refl)
split_again c (b ∷ bs) y h =
    let both = and_parts _ _ h in
    cond-false (eqb b c) _ _ (not-true (eqb b c) both.0) ∙ ap (onto_first b) (split_again c bs y both.1)

-- the byte c is in none of these
abbrev pub AreClear : ℕ → List (List ℕ) → Type 0
AreClear c ls = AllByRecursion (λ (l : List ℕ). is_clear c l ≡ true) ls

pub AreClear-append : (c : ℕ) (ls ks : List (List ℕ)) → AreClear c ls → AreClear c ks → AreClear c (ls ++ ks)
AreClear-append c [] ks h g = g
AreClear-append c (l ∷ ls) ks h g = (h.0, AreClear-append c ls ks h.1 g)

-- words that are joined are found
pub words_again : (first : List ℕ) (ws : List (List ℕ)) → AreClear 32 (first ∷ ws) → words_of (spaced (first ∷ ws)) ≡ first ∷ ws
words_again first [] h = split_clear 32 first h.0
words_again first (w ∷ ws) h = split_again 32 first (spaced (w ∷ ws)) h.0 ∙ ap (λ (r : List (List ℕ)). first ∷ r) (words_again w ws h.1)

-- the words of a line, joined, give the line
pub words_joined : (line : List ℕ) → spaced (words_of line) ≡ line
words_joined line = join_with_byte-slice_split 32 line

lines_joined : (ls : List (List ℕ)) → join_with_byte 10 (ls ++ [] ∷ []) ≡ flat_map ended ls
lines_joined [] = refl
lines_joined (l ∷ []) = sym (append-nil (ended l))
lines_joined (l ∷ k ∷ ls) = ap (λ (r : List ℕ). l ++ 10 ∷ r) (lines_joined (k ∷ ls)) ∙ sym (append_assoc l (10 ∷ []) (flat_map ended (k ∷ ls)))

-- a text whose last part is empty is its lines, each ended
pub lines_found : (bytes : List ℕ) (ls : List (List ℕ)) → lines_of bytes ≡ ls ++ [] ∷ [] → bytes ≡ flat_map ended ls
lines_found bytes ls e = sym (join_with_byte-slice_split 10 bytes) ∙ ap (join_with_byte 10) e ∙ lines_joined ls

-- lines that are ended are found
pub lines_again : (ls : List (List ℕ)) → AreClear 10 ls → lines_of (flat_map ended ls) ≡ ls ++ [] ∷ []
lines_again [] h = refl
lines_again (l ∷ ls) h =
    ap lines_of (append_assoc l (10 ∷ []) (flat_map ended ls))
    ∙ split_again 10 l (flat_map ended ls) h.0
    ∙ ap (λ (r : List (List ℕ)). l ∷ r) (lines_again ls h.1)

-- there is always a first part
pub split_some : (c : ℕ) (bytes : List ℕ) → (first : List ℕ) × (rest : List (List ℕ)) × (split c bytes ≡ first ∷ rest)
split_some c [] = ([], [], refl)
split_some c (b ∷ bs) =
    let more = split_some c bs in
    elim (eqb b c) as (λ t. (first : List ℕ) × (rest : List (List ℕ)) × (cond t ([] ∷ split c bs) (onto_first b (split c bs)) ≡ first ∷ rest)) [
      | true ↦ ([], split c bs, refl)
      | false ↦ (b ∷ more.0, more.1, ap (onto_first b) more.2)
    ]
