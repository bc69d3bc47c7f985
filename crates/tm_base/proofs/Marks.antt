-- the words of a set and the numbers that they mark
use Rattle.std.proofs.Common.{◌≡◌, ◌≢◌, ◌<◌, ◌≤◌, ◌/◌, ◌%◌, ◌*◌, ◌^◌, ◌||◌, ◌&&◌, ℕ, suc, zero, Bool, true, false, List, [], ◌∷◌, nat_eq, nat_lt, length, get_or, set, replicate, bit_or, bit_and, if◌then◌else◌, refl, sym, ◌∙◌, ap, inl, inr, eq-eqb, ne_eqb, arith}
use Rattle.std.specs.Int.{bit_at, w64}
use Rattle.std.specs.Ordering.{nat_cmp}
use Rattle.std.specs.Cmp.{nat_cmp_total, unsigned_tied}
use Rattle.std.specs.FinSet.{empty, insert, contains, contains-empty, contains-insert, same_set, nat_cmp-IsAntisymmetric}
use Rattle.std.proofs.lemmas.Bool.{cases_eq}
use Rattle.std.proofs.lemmas.Bool.Decides.{nat_tests}
use Rattle.std.proofs.lemmas.List.{get_or-set_same, get_or-set_other}
use Rattle.std.proofs.lemmas.Nat.Bits.{bit_at-zero, bit_at_set_same, bit_at_set_other}
use Rattle.std.proofs.lemmas.Nat.{and_mask}
use Rattle.tm_base.specs.CpuSet.{Cpus, FitsSet, is_marked, marked_below, set_of}

step : (b : Bool) (s : Cpus) (n q : ℕ) → contains (if b then insert s n else s) q ≡ ((b && nat_eq q n) || contains s q)
step true s n q = contains-insert nat_cmp_total s n q ∙ ap (λ t. t || contains s q) (unsigned_tied q n)
step false s n q = refl

widen : (m : ℕ → Bool) (n q : ℕ) → ((m n && nat_eq q n) || (nat_lt q n && m q)) ≡ (nat_lt q (suc n) && m q)
widen m n q = grind (arith, nat_tests)

below_none : (m : Bool) (q : ℕ) → false ≡ (nat_lt q 0 && m)
below_none m q = grind (arith, nat_tests)

contains-marked_below : (words : List ℕ) (n q : ℕ) → contains (marked_below words n) q ≡ (nat_lt q n && is_marked words q)
unfolding marked_below
contains-marked_below words zero q = contains-empty nat_cmp q ∙ below_none (is_marked words q) q
contains-marked_below words (suc n) q =
    step (is_marked words n) _ n q
    ∙ ap (λ t. (is_marked words n && nat_eq q n) || t) (contains-marked_below words n q)
    ∙ widen (is_marked words) n q

pub contains-set_of : (words : List ℕ) (q : ℕ) → contains (set_of words) q ≡ (nat_lt q 512 && is_marked words q)
unfolding set_of
contains-set_of words q = contains-marked_below words 512 q

pub set_fits : (words : List ℕ) → FitsSet (set_of words)
set_fits words k there = let is = sym (contains-set_of words k) ∙ there in grind (arith, nat_tests)

zeros : (n i : ℕ) → let none : ℕ = 0 in get_or (replicate n none) i none ≡ none
zeros zero i = refl
zeros (suc n) zero = refl
zeros (suc n) (suc i) = zeros n i

none_marked : (n q : ℕ) → is_marked (replicate n 0) q ≡ false
none_marked n q =
    ap (λ w. nat_eq (bit_at w (q % 64)) 1) (zeros n (q / 64)) ∙ ap (λ b. nat_eq b 1) (bit_at-zero (q % 64))

and-false : (b : Bool) → (b && false) ≡ false
and-false true = refl
and-false false = refl

pub no_words : set_of (0 ∷ 0 ∷ 0 ∷ 0 ∷ 0 ∷ 0 ∷ 0 ∷ 0 ∷ []) ≡ empty {R = nat_cmp}
no_words =
    same_set nat_cmp_total nat_cmp-IsAntisymmetric _ _
    (λ q. contains-set_of _ q ∙ ap (λ t. nat_lt q 512 && t) (none_marked 8 q) ∙ and-false _ ∙ sym (contains-empty nat_cmp q))

module _ (words : List ℕ) (k : ℕ) (eight : length words ≡ 8) (small : k < 512) where
  abbrev pub with_mark : List ℕ
  with_mark = set words (k / 64) (bit_or (get_or words (k / 64) 0) (1 * 2 ^ (k % 64) % 2 ^ 64))

  here : get_or with_mark (k / 64) 0 ≡ bit_or (get_or words (k / 64) 0) (1 * 2 ^ (k % 64) % 2 ^ 64)
  here = get_or-set_same words (k / 64) _ 0 (omega arith)

  at_k : is_marked with_mark k ≡ true
  at_k = ap (λ w. nat_eq (bit_at w (k % 64)) 1) here ∙ ap (λ b. nat_eq b 1) (bit_at_set_same w64 _ (k % 64) (omega arith))

  other_bit : (q : ℕ) → q ≢ k → q / 64 ≡ k / 64 → bit_at (get_or with_mark (q / 64) 0) (q % 64) ≡ bit_at (get_or words (q / 64) 0) (q % 64)
  other_bit q other same_word =
      ap (λ i. bit_at (get_or with_mark i 0) (q % 64)) same_word
      ∙ ap (λ w. bit_at w (q % 64)) here
      ∙ bit_at_set_other w64 _ (k % 64) (omega arith) (q % 64) (λ same_bit. other (omega (arith, same_word, same_bit)))
      ∙ sym (ap (λ i. bit_at (get_or words i 0) (q % 64)) same_word)

  at_other : (q : ℕ) → q ≢ k → is_marked with_mark q ≡ is_marked words q
  at_other q other =
      ap (λ b. nat_eq b 1) (elim (cases_eq (q / 64) (k / 64)) [
        | inl same ↦ other_bit q other same
        | inr apart ↦ ap (λ w. bit_at w (q % 64)) (get_or-set_other words (k / 64) (q / 64) _ 0 apart)
      ])

  marked : (q : ℕ) → is_marked with_mark q ≡ (nat_eq q k || is_marked words q)
  marked q =
      elim (cases_eq q k) [
        | inl e ↦ ap (is_marked with_mark) e ∙ at_k ∙ sym (ap (λ b. b || is_marked words q) (eq-eqb q k e))
        | inr other ↦ at_other q other ∙ sym (ap (λ b. b || is_marked words q) (ne_eqb q k other))
      ]

  small_or : (b : Bool) (q : ℕ) → (nat_lt q 512 && (nat_eq q k || b)) ≡ (nat_eq q k || (nat_lt q 512 && b))
  small_or b q = grind (small, arith, nat_tests)

  pub mark_added : set_of with_mark ≡ insert (set_of words) k
  mark_added =
      same_set nat_cmp_total nat_cmp-IsAntisymmetric _ _ (λ q.
      contains-set_of _ q
      ∙ ap (λ b. nat_lt q 512 && b) (marked q)
      ∙ small_or (is_marked words q) q
      ∙ sym (contains-insert nat_cmp_total _ k q ∙ (λ i. unsigned_tied q k i || contains-set_of words q i)))

-- the test of a bit is the test of the set, for a number that a set can hold, and no other is in it
module _ (words : List ℕ) (k : ℕ) where
  inside : (b : Bool) → k < 512 → b ≡ (nat_lt k 512 && b)
  inside b small = grind (small, arith, nat_tests)

  outside : (b : Bool) → 512 ≤ k → nat_lt k 512 ≡ (nat_lt k 512 && b)
  outside b large = grind (large, arith, nat_tests)

  pub has_bit : k < 512 → nat_eq (bit_and (get_or words (k / 64) 0 / 2 ^ (k % 64)) 1) 1 ≡ contains (set_of words) k
  has_bit small =
      ap (λ b. nat_eq b 1) (and_mask (get_or words (k / 64) 0 / 2 ^ (k % 64)) 1)
      ∙ inside (is_marked words k) small
      ∙ sym (contains-set_of words k)

  pub past_end : 512 ≤ k → nat_lt k 512 ≡ contains (set_of words) k
  past_end large = outside (is_marked words k) large ∙ sym (contains-set_of words k)
