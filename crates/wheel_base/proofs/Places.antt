-- places in the wheel
use Rattle.std.proofs.Common.{◌≡◌, ℕ, zero, suc, ◌*◌, ◌/◌, ◌%◌, ◌^◌, ◌<◌, ◌≤◌, min, ap, ◌∙◌, sym, inl, inr, arith, w64}
use Rattle.std.specs.Int.{bit_at, trailing_zeros}
use Rattle.std.specs.Int.Count.{trailing_of_zero}
use Rattle.std.proofs.lemmas.Bool.{cases_lt}
use Rattle.std.proofs.lemmas.Nat.{shr_split}
use Rattle.std.proofs.lemmas.Nat.Bits.{bit_at-trailing_zeros, bit_at-zero, bit_at_cat_low}
use Rattle.wheel_core.specs.WheelExpiry.{granularity}
use Rattle.wheel_base.specs.Files.{place_at}

pub place_by_shift : (level wheel : ℕ) → level < 9 → wheel / 2 ^ (3 * level) % 64 ≡ place_at level wheel
place_by_shift zero wheel l = omega arith
place_by_shift (suc zero) wheel l = omega arith
place_by_shift (suc (suc zero)) wheel l = omega arith
place_by_shift (suc (suc (suc zero))) wheel l = omega arith
place_by_shift (suc (suc (suc (suc zero)))) wheel l = omega arith
place_by_shift (suc (suc (suc (suc (suc zero))))) wheel l = omega arith
place_by_shift (suc (suc (suc (suc (suc (suc zero)))))) wheel l = omega arith
place_by_shift (suc (suc (suc (suc (suc (suc (suc zero))))))) wheel l = omega arith
place_by_shift (suc (suc (suc (suc (suc (suc (suc (suc zero)))))))) wheel l = omega arith
place_by_shift (suc (suc (suc (suc (suc (suc (suc (suc (suc more))))))))) wheel l = absurd (omega arith)

-- THE HIGHEST LEVEL OF AN EXPIRY
low_bits : (level wheel : ℕ) → level < 9 → wheel % granularity level ≡ 0 → wheel % 2 ^ (3 * level) ≡ 0
low_bits zero wheel l granule = omega arith
low_bits (suc zero) wheel l granule = omega arith
low_bits (suc (suc zero)) wheel l granule = omega arith
low_bits (suc (suc (suc zero))) wheel l granule = omega arith
low_bits (suc (suc (suc (suc zero)))) wheel l granule = omega arith
low_bits (suc (suc (suc (suc (suc zero))))) wheel l granule = omega arith
low_bits (suc (suc (suc (suc (suc (suc zero)))))) wheel l granule = omega arith
low_bits (suc (suc (suc (suc (suc (suc (suc zero))))))) wheel l granule = omega arith
low_bits (suc (suc (suc (suc (suc (suc (suc (suc zero)))))))) wheel l granule = omega arith
low_bits (suc (suc (suc (suc (suc (suc (suc (suc (suc more))))))))) wheel l granule = absurd (omega arith)

no_low_bit : (wheel n i : ℕ) → wheel % 2 ^ n ≡ 0 → i < n → bit_at wheel i ≡ 0
no_low_bit wheel n i none below =
    ap (λ x. bit_at x i) (sym (shr_split wheel n))
    ∙ (bit_at_cat_low (wheel / 2 ^ n) n (wheel % 2 ^ n) i below ∙ (ap (λ x. bit_at x i) none ∙ bit_at-zero i))

pub under_top : (level wheel : ℕ) → level < 9 → wheel < 2 ^ 64 → wheel % granularity level ≡ 0
    → level ≤ min (trailing_zeros w64 wheel / 3) 8
under_top level wheel level_in fits granule =
    elim (cases_lt 0 wheel) [
      | inl some ↦
          let found = bit_at-trailing_zeros w64 wheel some fits in
          elim (cases_lt (trailing_zeros w64 wheel) (3 * level)) [
            | inl low ↦
                let none = no_low_bit wheel (3 * level) (trailing_zeros w64 wheel) (low_bits level wheel level_in granule) low in
                absurd (omega (arith, none, found.1))
            | inr high ↦ omega arith
          ]
      | inr none ↦
          let zero_is : wheel ≡ 0 = omega arith in
          let all = ap (trailing_zeros w64) zero_is ∙ trailing_of_zero 64 in omega (arith, all)
    ]
