-- for crates above: what joining and leaving do to a group's set and migrator
use Rattle.std.proofs.Common.{◌≡◌, ◌≢◌, ◌⊎◌, inl, inr, ℕ, zero, suc, ◌^◌, ◌*◌, ◌%◌, ◌<◌, Bool, true, false, true≢false, Option, Some, None, refl, sym, ◌∙◌, subst, arith, bit_or, bit_and}
use Rattle.std.specs.Prelude.{is_some, ◌==◌, if◌then◌else◌}
use Rattle.std.specs.Int.{bit_at, bit_not, trailing_zeros, w8}
use Rattle.std.specs.Option.{option_or}
use Rattle.std.proofs.lemmas.Bool.{cases_eq, cases_lt, eq-eqb, eqb-true}
use Rattle.std.proofs.lemmas.Nat.{and_le_l, or_lt}
use Rattle.std.proofs.lemmas.Nat.Bits.{bit_at_or, bit_at-pow_same, bit_at-pow_other, bit_at_clear_same, bit_at_clear_other, bit_at_above, bit_at-zero, bit_at-lt, bit_at-trailing_zeros}
use Rattle.group_word.specs.Group.{IsActive, NoneActive, GroupLaw}
use Rattle.group_word.specs.State.{with_child, without_child, lowest_child, migrator_without}

-- the set with a child
pub set_now : (a k : ℕ) → IsActive (with_child a k) k
set_now a k = omega (arith, bit_at_or a (2 ^ k) k, bit_at-pow_same k, bit_at-lt a k)

pub set_keeps : (a k j : ℕ) → IsActive a j → IsActive (with_child a k) j
set_keeps a k j h = omega (arith, bit_at_or a (2 ^ k) j, bit_at-lt (2 ^ k) j)

pub set_was : (a k j : ℕ) → IsActive (with_child a k) j → (j ≡ k) ⊎ IsActive a j
set_was a k j h = elim (cases_eq j k) [
  | inl same ↦ inl same
  | inr ne ↦ let apart = bit_at-pow_other k j ne in inr (omega (arith, bit_at_or a (2 ^ k) j, apart))
]

small : (k : ℕ) → k < 8 → 1 * 2 ^ k % 256 ≡ 2 ^ k
small zero h = refl
small (suc zero) h = refl
small (suc (suc zero)) h = refl
small (suc (suc (suc zero))) h = refl
small (suc (suc (suc (suc zero)))) h = refl
small (suc (suc (suc (suc (suc zero))))) h = refl
small (suc (suc (suc (suc (suc (suc zero)))))) h = refl
small (suc (suc (suc (suc (suc (suc (suc zero))))))) h = refl
small (suc (suc (suc (suc (suc (suc (suc (suc k)))))))) h = absurd (omega arith)

pub set_small : (a k : ℕ) → a < 2 ^ 8 → k < 8 → with_child a k < 2 ^ 8
set_small a k h child = subst (λ p. bit_or a p < 2 ^ 8) (small k child) (or_lt 8 _ _ h (omega arith))

-- the set without a child
pub left_gone : (a k : ℕ) → k < 8 → IsActive (without_child a k) k → ⊥
left_gone a k child h =
    let clear : bit_at (without_child a k) k ≡ 0 = subst (λ p. bit_at (bit_and a (bit_not w8 p)) k ≡ 0) (small k child) (bit_at_clear_same w8 a k child) in
    absurd (omega (arith, clear))

left_same : (a k j : ℕ) → a < 2 ^ 8 → k < 8 → j ≢ k → bit_at (without_child a k) j ≡ bit_at a j
left_same a k j eight child ne = elim (cases_lt j 8) [
  | inl low ↦ subst (λ p. bit_at (bit_and a (bit_not w8 p)) j ≡ bit_at a j) (small k child) (bit_at_clear_other w8 a k child j low ne)
  | inr high ↦ bit_at_above _ 8 j (omega (arith, and_le_l a (bit_not w8 (2 ^ k)))) high ∙ sym (bit_at_above a 8 j eight high)
]

pub left_keeps : (a k j : ℕ) → a < 2 ^ 8 → k < 8 → j ≢ k → IsActive a j → IsActive (without_child a k) j
left_keeps a k j eight child ne h = left_same a k j eight child ne ∙ h

pub left_was : (a k j : ℕ) → a < 2 ^ 8 → k < 8 → IsActive (without_child a k) j → IsActive a j
left_was a k j eight child h = elim (cases_eq j k) [
  | inl same ↦ absurd (left_gone a k child (subst (λ n. IsActive (without_child a k) n) same h))
  | inr ne ↦ sym (left_same a k j eight child ne) ∙ h
]

pub left_small : (a k : ℕ) → a < 2 ^ 8 → without_child a k < 2 ^ 8
left_small a k h = omega (arith, and_le_l a (bit_not w8 (2 ^ k)))

-- the migrator
pub joined_on : (m : Option ℕ) (k : ℕ) → is_some (option_or m (Some k)) ≡ true
joined_on None k = refl
joined_on (Some m) k = refl

pub joined_law : (a k : ℕ) (m : Option ℕ) → GroupLaw a m → GroupLaw (with_child a k) (option_or m (Some k))
joined_law a k None law = set_now a k
joined_law a k (Some m) law = set_keeps a k m law

none_in_zero : NoneActive 0
none_in_zero k h = omega (arith, bit_at-zero k)

lowest_law : (r : ℕ) (b : Bool) → (r == 0) ≡ b → r < 2 ^ 8 → GroupLaw r (if b then None else Some (trailing_zeros w8 r))
lowest_law r true e h = subst NoneActive (sym (eqb-true r 0 e)) none_in_zero
lowest_law r false e h =
    let some : r ≢ 0 = λ z. true≢false (sym (eq-eqb r 0 z) ∙ e) in
    (bit_at-trailing_zeros w8 r (omega arith) h).1

passes_law : (a k i : ℕ) (b : Bool) → (i == k) ≡ b → a < 2 ^ 8 → k < 8 → IsActive a i → GroupLaw (without_child a k) (if b then lowest_child (without_child a k) else Some i)
passes_law a k i true e eight child h = lowest_law (without_child a k) (without_child a k == 0) refl (left_small a k eight)
passes_law a k i false e eight child h = left_keeps a k i eight child (λ z. true≢false (sym (eq-eqb i k z) ∙ e)) h

pub left_law : (a k : ℕ) (m : Option ℕ) → a < 2 ^ 8 → k < 8 → GroupLaw a m → GroupLaw (without_child a k) (migrator_without m k (without_child a k))
left_law a k None eight child law = λ j h. law j (left_was a k j eight child h)
left_law a k (Some i) eight child law = passes_law a k i (i == k) refl eight child law

pub left_off : (a k r : ℕ) (m : Option ℕ) → is_some m ≡ false → is_some (migrator_without m k r) ≡ false
left_off a k r None e = refl
left_off a k r (Some i) e = absurd (true≢false e)

no_migrator : (m : Option ℕ) → is_some m ≡ false → m ≡ None
no_migrator None e = refl
no_migrator (Some m) e = absurd (true≢false e)

-- where nobody is left, the child was the only one
pub left_alone : (a k j : ℕ) (m : Option ℕ) → a < 2 ^ 8 → k < 8 → GroupLaw (without_child a k) m → is_some m ≡ false → IsActive a j → j ≡ k
left_alone a k j m eight child law off h = elim (cases_eq j k) [
  | inl same ↦ same
  | inr ne ↦ absurd (subst (GroupLaw (without_child a k)) (no_migrator m off) law j (left_keeps a k j eight child ne h))
]
