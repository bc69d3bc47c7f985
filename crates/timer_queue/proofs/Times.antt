-- the moment of a timer, and what was promised of it
use Rattle.std.proofs.Common.{◌≡◌, ℕ, ◌+◌, ◌-◌, ◌*◌, ◌/◌, ◌<◌, ◌≤◌, max, inl, inr, arith}
use Rattle.std.proofs.lemmas.Bool.{cases_lt}
use Rattle.std.proofs.lemmas.Bool.Decides.{nat_tests}
use Rattle.wheel_core.specs.WheelExpiry.{cutoff, granule_end, greatest_timeout}
use Rattle.wheel_core.specs.WheelExpiry.{wheel_expiry_of}
use Rattle.wheel_core.proofs.Levels.{ends, wheel_keeps_time}
use Rattle.timer_queue.specs.declared.timer.TheConstants.{EXACT_TICKS, LAST_TICK}
use Rattle.timer_queue.specs.Queues.{late_by, latest}

-- how late by the number of ticks
pub late_by_le : (ticks : ℕ) → late_by ticks ≤ 8 * ticks / 63
unfolding late_by
late_by_le ticks = grind (arith, nat_tests)

late_by_far : (ticks : ℕ) → EXACT_TICKS < ticks → late_by ticks ≡ 8 * ticks / 63
unfolding late_by
late_by_far ticks far = grind (arith, nat_tests)

-- late by at most an eighth of the way
eighth : (wheel expires clock armed : ℕ) → armed < clock → clock ≤ expires
    → 63 * wheel ≤ 63 * expires + 8 * (expires - clock) + 63
    → wheel - 1 ≤ max armed expires + 8 * (expires - armed) / 63
eighth wheel expires clock armed a k late = omega arith

-- what the wheel's rule gives for the past, and from the cutoff on
past_row : (expires clock : ℕ) → expires < clock → wheel_expiry_of expires clock ≡ clock
unfolding wheel_expiry_of
past_row expires clock past = grind (arith, nat_tests)

near_row : (expires clock : ℕ) → clock ≤ expires → expires < clock + 63
    → wheel_expiry_of expires clock ≡ expires + 1
unfolding wheel_expiry_of
near_row expires clock ahead near = grind (arith, nat_tests)

far_row : (expires clock : ℕ) → clock + cutoff ≤ expires
    → wheel_expiry_of expires clock ≡ granule_end 8 (clock + greatest_timeout)
unfolding wheel_expiry_of
far_row expires clock far = grind (arith, nat_tests)

far_end : (expires clock : ℕ) → expires ≤ LAST_TICK → clock + cutoff ≤ expires
    → wheel_expiry_of expires clock ≤ expires
far_end expires clock e far =
    let row = far_row expires clock far in
    let near = (ends 8 (clock + greatest_timeout) (omega arith) (omega arith)).near in
    rw row (omega (arith, near))

-- below the cutoff
in_time : (armed expires clock : ℕ) → expires ≤ LAST_TICK → clock ≤ LAST_TICK + 1
    → armed < clock → clock ≤ expires → expires - clock < cutoff
    → wheel_expiry_of expires clock - 1 ≤ latest armed expires
in_time armed expires clock e k a ahead close =
    elim (cases_lt EXACT_TICKS (expires - armed)) [
      | inl far ↦
          let keeps = wheel_keeps_time expires clock (omega arith) (omega arith) in
          let late = eighth (wheel_expiry_of expires clock) expires clock armed a ahead
          (keeps.late_by_an_eighth ahead close) in
          let row = late_by_far (expires - armed) far in
          omega (arith, late, row)
      | inr near ↦ rw (near_row expires clock ahead (omega (arith, near, a))) (omega arith)
    ]

-- a timer's moment is no later than was promised as it was put in
pub on_time : (armed expires clock : ℕ) → expires ≤ LAST_TICK → clock ≤ LAST_TICK + 1
    → armed < clock → clock ≤ max armed expires + 1
    → wheel_expiry_of expires clock - 1 ≤ latest armed expires
on_time armed expires clock e k a near =
    elim (cases_lt expires clock) [
      | inl past ↦ rw (past_row expires clock past) (omega arith)
      | inr ahead ↦
          elim (cases_lt (expires - clock) cutoff) [
            | inl close ↦ in_time armed expires clock e k a ahead close
            | inr far ↦
                let low = far_end expires clock e (omega arith) in omega (arith, low)
          ]
    ]

-- a timer that is put in anew has a later moment
pub later : (wheel expires clock : ℕ) → expires ≤ LAST_TICK → wheel ≤ expires → wheel ≤ clock
    → clock ≤ wheel + 1 → wheel < wheel_expiry_of expires clock
later wheel expires clock e far low high =
    elim (cases_lt expires clock) [
      | inl past ↦ rw (past_row expires clock past) (omega arith)
      | inr ahead ↦
          let keeps = wheel_keeps_time expires clock (omega arith) (omega arith) in
          elim (cases_lt (expires - clock) cutoff) [
            | inl close ↦ let after = keeps.never_early ahead close in omega (arith, after)
            | inr beyond ↦ let after = keeps.at_cutoff (omega arith) in omega (arith, after)
          ]
    ]
