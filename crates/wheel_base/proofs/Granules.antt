-- granules' ends and their places, level by level
use Rattle.std.proofs.Common.{◌≡◌, ℕ, zero, suc, ◌+◌, ◌-◌, ◌*◌, ◌/◌, ◌%◌, ◌^◌, ◌<◌, ◌≤◌, arith}
use Rattle.wheel_core.specs.WheelExpiry.{granularity, granule_end, level_of_delay, cutoff}
use Rattle.std.proofs.lemmas.Bool.Decides.{nat_tests}
use Rattle.wheel_base.specs.Files.{place_at}

-- the first granule's end of a level from a time on, in granules
abbrev pub start_of : (level time : ℕ) → ℕ
start_of level time = (time + 1 * 2 ^ (3 * level) % 2 ^ 64 - 1) / 2 ^ (3 * level)

-- so many granules on
abbrev pub end_at : (level time on : ℕ) → ℕ
end_at level time on = (start_of level time + on) * 2 ^ (3 * level) % 2 ^ 64

pub record Steps (level time on : ℕ) : Type 0 where
  pub granule : end_at level time on % granularity level ≡ 0
  pub from : time ≤ end_at level time on
  pub near : end_at level time on < time + 64 * granularity level
  pub place : place_at level (end_at level time on) ≡ (start_of level time % 64 + on) % 64
  pub back : (v : ℕ) → v % granularity level ≡ 0 → time ≤ v → v < end_at level time on
      → (v / granularity level - start_of level time < on) × (place_at level v ≡ (start_of level time % 64 + (v / granularity level - start_of level time)) % 64)

pub steps : (level time on : ℕ) → level < 9 → time ≤ 2 ^ 47 → on < 64 → Steps level time on
steps zero time on l t o = record { granule = omega arith; from = omega arith; near = omega arith; place = omega arith; back = λ v g f b. (omega arith, omega arith) }
steps (suc zero) time on l t o = record { granule = omega arith; from = omega arith; near = omega arith; place = omega arith; back = λ v g f b. (omega arith, omega arith) }
steps (suc (suc zero)) time on l t o = record { granule = omega arith; from = omega arith; near = omega arith; place = omega arith; back = λ v g f b. (omega arith, omega arith) }
steps (suc (suc (suc zero))) time on l t o = record { granule = omega arith; from = omega arith; near = omega arith; place = omega arith; back = λ v g f b. (omega arith, omega arith) }
steps (suc (suc (suc (suc zero)))) time on l t o = record { granule = omega arith; from = omega arith; near = omega arith; place = omega arith; back = λ v g f b. (omega arith, omega arith) }
steps (suc (suc (suc (suc (suc zero))))) time on l t o = record { granule = omega arith; from = omega arith; near = omega arith; place = omega arith; back = λ v g f b. (omega arith, omega arith) }
steps (suc (suc (suc (suc (suc (suc zero)))))) time on l t o = record { granule = omega arith; from = omega arith; near = omega arith; place = omega arith; back = λ v g f b. (omega arith, omega arith) }
steps (suc (suc (suc (suc (suc (suc (suc zero))))))) time on l t o = record { granule = omega arith; from = omega arith; near = omega arith; place = omega arith; back = λ v g f b. (omega arith, omega arith) }
steps (suc (suc (suc (suc (suc (suc (suc (suc zero)))))))) time on l t o = record { granule = omega arith; from = omega arith; near = omega arith; place = omega arith; back = λ v g f b. (omega arith, omega arith) }
steps (suc (suc (suc (suc (suc (suc (suc (suc (suc more))))))))) time on l t o = absurd (omega arith)

-- in one bucket lies one expiry
pub one_expiry : (level time a b : ℕ) → level < 9 → a % granularity level ≡ 0 → b % granularity level ≡ 0 → time ≤ a → time ≤ b
    → a < time + 64 * granularity level → b < time + 64 * granularity level → place_at level a ≡ place_at level b → a ≡ b
one_expiry zero time a b l ga gb fa fb na nb same = omega arith
one_expiry (suc zero) time a b l ga gb fa fb na nb same = omega arith
one_expiry (suc (suc zero)) time a b l ga gb fa fb na nb same = omega arith
one_expiry (suc (suc (suc zero))) time a b l ga gb fa fb na nb same = omega arith
one_expiry (suc (suc (suc (suc zero)))) time a b l ga gb fa fb na nb same = omega arith
one_expiry (suc (suc (suc (suc (suc zero))))) time a b l ga gb fa fb na nb same = omega arith
one_expiry (suc (suc (suc (suc (suc (suc zero)))))) time a b l ga gb fa fb na nb same = omega arith
one_expiry (suc (suc (suc (suc (suc (suc (suc zero))))))) time a b l ga gb fa fb na nb same = omega arith
one_expiry (suc (suc (suc (suc (suc (suc (suc (suc zero)))))))) time a b l ga gb fa fb na nb same = omega arith
one_expiry (suc (suc (suc (suc (suc (suc (suc (suc (suc more))))))))) time a b l ga gb fa fb na nb same = absurd (omega arith)

pub granule_ends : (level time : ℕ) → level < 9 → granule_end level time % granularity level ≡ 0
granule_ends zero time l = omega arith
granule_ends (suc zero) time l = omega arith
granule_ends (suc (suc zero)) time l = omega arith
granule_ends (suc (suc (suc zero))) time l = omega arith
granule_ends (suc (suc (suc (suc zero)))) time l = omega arith
granule_ends (suc (suc (suc (suc (suc zero))))) time l = omega arith
granule_ends (suc (suc (suc (suc (suc (suc zero)))))) time l = omega arith
granule_ends (suc (suc (suc (suc (suc (suc (suc zero))))))) time l = omega arith
granule_ends (suc (suc (suc (suc (suc (suc (suc (suc zero)))))))) time l = omega arith
granule_ends (suc (suc (suc (suc (suc (suc (suc (suc (suc more))))))))) time l = absurd (omega arith)

pub delay_below : (delta : ℕ) → delta < cutoff → delta < 63 * granularity (level_of_delay delta)
unfolding level_of_delay
delay_below delta below = grind (arith, nat_tests)

-- the test by shifts for a granule's end
pub by_shifts : (level wheel : ℕ) → level < 9 → wheel < 2 ^ 64 → wheel % granularity level ≡ 0 → wheel / 2 ^ (3 * level) * 2 ^ (3 * level) % 2 ^ 64 ≡ wheel
by_shifts zero wheel l w g = omega arith
by_shifts (suc zero) wheel l w g = omega arith
by_shifts (suc (suc zero)) wheel l w g = omega arith
by_shifts (suc (suc (suc zero))) wheel l w g = omega arith
by_shifts (suc (suc (suc (suc zero)))) wheel l w g = omega arith
by_shifts (suc (suc (suc (suc (suc zero))))) wheel l w g = omega arith
by_shifts (suc (suc (suc (suc (suc (suc zero)))))) wheel l w g = omega arith
by_shifts (suc (suc (suc (suc (suc (suc (suc zero))))))) wheel l w g = omega arith
by_shifts (suc (suc (suc (suc (suc (suc (suc (suc zero)))))))) wheel l w g = omega arith
by_shifts (suc (suc (suc (suc (suc (suc (suc (suc (suc more))))))))) wheel l w g = absurd (omega arith)

pub shifts_granule : (level wheel : ℕ) → level < 9 → wheel < 2 ^ 64 → wheel / 2 ^ (3 * level) * 2 ^ (3 * level) % 2 ^ 64 ≡ wheel → wheel % granularity level ≡ 0
shifts_granule zero wheel l w g = omega arith
shifts_granule (suc zero) wheel l w g = omega arith
shifts_granule (suc (suc zero)) wheel l w g = omega arith
shifts_granule (suc (suc (suc zero))) wheel l w g = omega arith
shifts_granule (suc (suc (suc (suc zero)))) wheel l w g = omega arith
shifts_granule (suc (suc (suc (suc (suc zero))))) wheel l w g = omega arith
shifts_granule (suc (suc (suc (suc (suc (suc zero)))))) wheel l w g = omega arith
shifts_granule (suc (suc (suc (suc (suc (suc (suc zero))))))) wheel l w g = omega arith
shifts_granule (suc (suc (suc (suc (suc (suc (suc (suc zero)))))))) wheel l w g = omega arith
shifts_granule (suc (suc (suc (suc (suc (suc (suc (suc (suc more))))))))) wheel l w g = absurd (omega arith)

pub spans : (level wheel : ℕ) → level < 9 → wheel < wheel + 64 * granularity level
spans zero wheel l = omega arith
spans (suc zero) wheel l = omega arith
spans (suc (suc zero)) wheel l = omega arith
spans (suc (suc (suc zero))) wheel l = omega arith
spans (suc (suc (suc (suc zero)))) wheel l = omega arith
spans (suc (suc (suc (suc (suc zero))))) wheel l = omega arith
spans (suc (suc (suc (suc (suc (suc zero)))))) wheel l = omega arith
spans (suc (suc (suc (suc (suc (suc (suc zero))))))) wheel l = omega arith
spans (suc (suc (suc (suc (suc (suc (suc (suc zero)))))))) wheel l = omega arith
spans (suc (suc (suc (suc (suc (suc (suc (suc (suc more))))))))) wheel l = absurd (omega arith)
