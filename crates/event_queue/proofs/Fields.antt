-- the word of an event, put together
use Rattle.std.proofs.Common.{◌≡◌, ℕ, ◌^◌, ◌+◌, ◌*◌, ◌%◌, ◌<◌, ◌≤◌, Bool, true, false, arith, bit_or}
use Rattle.std.specs.Int.{from_bool}
use Rattle.std.proofs.lemmas.Nat.{or_shifted}

-- a truth value is 0 or 1
pub bit_low : (b : Bool) → from_bool b ≤ 1
bit_low true = omega arith
bit_low false = omega arith

-- the four fields, side by side
pub fields : (expiry cpu ignored : ℕ) → expiry < 2 ^ 48 → cpu < 1024 → ignored ≤ 1 → bit_or (bit_or (bit_or 576460752303423488 (ignored * 288230376151711744 % 18446744073709551616)) (cpu * 281474976710656 % 18446744073709551616)) expiry ≡ expiry + 2 ^ 48 * cpu + 2 ^ 58 * ignored + 2 ^ 59
fields expiry cpu ignored e c i =
    let mark : ignored * 288230376151711744 % 18446744073709551616 ≡ ignored * 2 ^ 58 = omega arith in
    let middle : cpu * 281474976710656 % 18446744073709551616 ≡ cpu * 2 ^ 48 = omega arith in
    let top = or_shifted 1 59 (ignored * 2 ^ 58) (omega arith) in
    let two = or_shifted (2 + ignored) 58 (cpu * 2 ^ 48) (omega arith) in
    let all = or_shifted (2 ^ 11 + ignored * 2 ^ 10 + cpu) 48 expiry e in
    let first : 2 ^ 59 + ignored * 2 ^ 58 ≡ (2 + ignored) * 2 ^ 58 = omega arith in
    let second : (2 + ignored) * 2 ^ 58 + cpu * 2 ^ 48 ≡ (2 ^ 11 + ignored * 2 ^ 10 + cpu) * 2 ^ 48 = omega arith in
    rw (mark, middle, top, first, two, second) (omega arith)
