-- for crates above: the levels of the wheel, shifts and granules
use Rattle.std.proofs.Common.{◌≡◌, ℕ, zero, suc, ◌+◌, ◌*◌, ◌/◌, ◌%◌, ◌^◌, ◌<◌, ◌≤◌, ◌-◌, inl, inr}
use Rattle.std.proofs.Common.{arith}
use Rattle.std.proofs.lemmas.Bool.{cases_lt}
use Rattle.std.proofs.lemmas.Bool.Decides.{nat_tests}
use Rattle.wheel_core.specs.WheelExpiry.{granule_end, granularity, level_of_delay, wheel_expiry_of}
use Rattle.wheel_core.specs.WheelExpiry.{wheel_level_of, KeepsTime, cutoff, greatest_timeout}

-- shifting down and up by three bits a level gives the end of the granule
pub by_shift : (level time : ℕ) → level < 9 → time < 2 ^ 47
    → (time / 2 ^ (3 * level) + 1) * 2 ^ (3 * level) % 2 ^ 64 ≡ granule_end level time
by_shift zero time l t = omega arith
by_shift (suc zero) time l t = omega arith
by_shift (suc (suc zero)) time l t = omega arith
by_shift (suc (suc (suc zero))) time l t = omega arith
by_shift (suc (suc (suc (suc zero)))) time l t = omega arith
by_shift (suc (suc (suc (suc (suc zero))))) time l t = omega arith
by_shift (suc (suc (suc (suc (suc (suc zero)))))) time l t = omega arith
by_shift (suc (suc (suc (suc (suc (suc (suc zero))))))) time l t = omega arith
by_shift (suc (suc (suc (suc (suc (suc (suc (suc zero)))))))) time l t = omega arith
by_shift (suc (suc (suc (suc (suc (suc (suc (suc (suc more))))))))) time l t = absurd (omega arith)

-- the end of a granule is past the time, by at most a granule, and within 2^47
pub record Ends (level time : ℕ) : Type 0 where
  pub past : time < granule_end level time
  pub near : granule_end level time ≤ time + granularity level
  pub in_time : granule_end level time ≤ 2 ^ 47

pub ends : (level time : ℕ) → level < 9 → time < 2 ^ 47 → Ends level time
ends zero time l t = record { past = omega arith; near = omega arith; in_time = omega arith }
ends (suc zero) time l t = record { past = omega arith; near = omega arith; in_time = omega arith }
ends (suc (suc zero)) time l t = record { past = omega arith; near = omega arith; in_time = omega arith }
ends (suc (suc (suc zero))) time l t = record { past = omega arith; near = omega arith; in_time = omega arith }
ends (suc (suc (suc (suc zero)))) time l t = record { past = omega arith; near = omega arith; in_time = omega arith }
ends (suc (suc (suc (suc (suc zero))))) time l t = record { past = omega arith; near = omega arith; in_time = omega arith }
ends (suc (suc (suc (suc (suc (suc zero)))))) time l t = record { past = omega arith; near = omega arith; in_time = omega arith }
ends (suc (suc (suc (suc (suc (suc (suc zero))))))) time l t = record { past = omega arith; near = omega arith; in_time = omega arith }
ends (suc (suc (suc (suc (suc (suc (suc (suc zero)))))))) time l t = record { past = omega arith; near = omega arith; in_time = omega arith }
ends (suc (suc (suc (suc (suc (suc (suc (suc (suc more))))))))) time l t = absurd (omega arith)

-- a level's granule is at most 8 in 63 of each of its delays, or one jiffy
pub level_fits : (delta : ℕ)
    → (level_of_delay delta < 9) × (63 * granularity (level_of_delay delta) ≤ 8 * delta + 63)
unfolding level_of_delay
level_fits delta = grind (arith, nat_tests)

first_level : (delta : ℕ) → delta < 63 → level_of_delay delta ≡ 0
unfolding level_of_delay
first_level delta l = grind (arith, nat_tests)

-- below the cutoff the wheel expiry is the end of the granule at every level, also at level 0
pub row : (expires clock : ℕ) → clock ≤ expires → expires - clock < cutoff
    → wheel_expiry_of expires clock ≡ granule_end (level_of_delay (expires - clock)) expires
unfolding wheel_expiry_of
row expires clock l n =
    elim (cases_lt (expires - clock) 63) [
      | inl h ↦ let first = first_level (expires - clock) h in rw first (grind (arith, nat_tests))
      | inr h ↦ grind (arith, nat_tests)
    ]

pub row_level : (expires clock : ℕ) → clock ≤ expires
    → wheel_level_of expires clock ≡ level_of_delay (expires - clock)
unfolding wheel_level_of
row_level expires clock l = grind (arith, nat_tests)

pub keeps_time : (expires clock : ℕ) → expires < 2 ^ 47 → clock ≤ expires → expires - clock < cutoff
    → KeepsTime expires clock
keeps_time expires clock in_time l n =
    let fits = level_fits (expires - clock) in
    let granule = ends (level_of_delay (expires - clock)) expires fits.0 in_time in
    let wheel = row expires clock l n in
    let level = row_level expires clock l in
    record {
      level = rw level fits.0;
      not_before_clock = rw wheel (omega arith);
      never_early = λ _ _. rw wheel granule.past;
      late_by_a_granule = λ _ _. rw (wheel, level) granule.near;
      late_by_an_eighth = λ _ _. rw wheel (omega arith);
      at_cutoff = λ h. absurd (omega arith);
      in_time = rw wheel granule.in_time;
    }

-- an expiry that is past goes to the clock, at level 0
past_row : (expires clock : ℕ) → expires < clock
    → (wheel_expiry_of expires clock ≡ clock) × (wheel_level_of expires clock ≡ 0)
unfolding wheel_expiry_of wheel_level_of
past_row expires clock past = (grind (arith, nat_tests), grind (arith, nat_tests))

-- from the cutoff on it is taken for the greatest timeout, at level 8
far_row : (expires clock : ℕ) → clock + cutoff ≤ expires
    → wheel_expiry_of expires clock ≡ granule_end 8 (clock + greatest_timeout)
unfolding wheel_expiry_of
far_row expires clock far = grind (arith, nat_tests)

far_level : (expires clock : ℕ) → clock + cutoff ≤ expires → wheel_level_of expires clock ≡ 8
unfolding wheel_level_of level_of_delay
far_level expires clock far = grind (arith, nat_tests)

keeps_time_past : (expires clock : ℕ) → clock < 2 ^ 47 → expires < clock → KeepsTime expires clock
keeps_time_past expires clock k past =
    let rows = past_row expires clock past in
    let wheel = rows.0 in
    let level = rows.1 in
    record {
      level = rw level (omega arith);
      not_before_clock = omega arith;
      never_early = λ h. absurd (omega arith);
      late_by_a_granule = λ h. absurd (omega arith);
      late_by_an_eighth = λ h. absurd (omega arith);
      at_cutoff = λ h. absurd (omega arith);
      in_time = omega arith;
    }

keeps_time_far : (expires clock : ℕ) → expires < 2 ^ 47 → clock + cutoff ≤ expires
    → KeepsTime expires clock
keeps_time_far expires clock e far =
    let wheel = far_row expires clock far in
    let level = far_level expires clock far in
    let granule = ends 8 (clock + greatest_timeout) (omega arith) (omega arith) in
    record {
      level = rw level (omega arith);
      not_before_clock = rw wheel (let past = granule.past in omega arith);
      never_early = λ _ h. absurd (omega arith);
      late_by_a_granule = λ _ h. absurd (omega arith);
      late_by_an_eighth = λ _ h. absurd (omega arith);
      at_cutoff = λ _. rw wheel granule.past;
      in_time = rw wheel granule.in_time;
    }

-- the rule keeps its promise for all times below 2^47
pub wheel_keeps_time : (expires clock : ℕ) → expires < 2 ^ 47 → clock < 2 ^ 47
    → KeepsTime expires clock
wheel_keeps_time expires clock e k =
    elim (cases_lt expires clock) [
      | inl past ↦ keeps_time_past expires clock k past
      | inr ahead ↦
          elim (cases_lt (expires - clock) cutoff) [
            | inl near ↦ keeps_time expires clock e ahead near
            | inr far ↦ keeps_time_far expires clock e (omega arith)
          ]
    ]
