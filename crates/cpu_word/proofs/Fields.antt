-- for crates above: the word of a CPU's state, put together
use Rattle.std.proofs.Common.{◌≡◌, ℕ, ◌^◌, ◌+◌, ◌*◌, ◌%◌, ◌<◌, ◌≤◌, Bool, true, false, Option, Some}
use Rattle.std.proofs.Common.{None, arith, bit_or, refl}
use Rattle.std.specs.Int.{from_bool}
use Rattle.std.specs.Option.{ForSome}
use Rattle.std.proofs.lemmas.Nat.{or_shifted}
use Rattle.tm_base.specs.declared.names.CpuId.{CpuId}
use Rattle.cpu_word.specs.declared.state.TheConstants.{MARKER_LIMIT}
use Rattle.cpu_word.specs.Word.{mark_of}

-- a truth value is 0 or 1
pub bit_low : (b : Bool) → from_bool b ≤ 1
bit_low true = omega arith
bit_low false = omega arith

-- a mark has ten bits
pub mark_low : (remote : Option CpuId) → ForSome remote (λ c. c.0 < MARKER_LIMIT)
    → mark_of remote < 2 ^ 10
mark_low None fits = omega arith
mark_low (Some c) fits = let low = fits c refl in omega arith

-- the five fields, side by side
pub fields : (mark inside idle online wakeup : ℕ) → mark < 2 ^ 10 → inside ≤ 1 → idle ≤ 1
    → online ≤ 1 → wakeup < 2 ^ 48
    → bit_or (bit_or (bit_or (bit_or (mark * 2251799813685248 % 18446744073709551616)
    (inside * 1125899906842624 % 18446744073709551616))
    (idle * 562949953421312 % 18446744073709551616))
    (online * 281474976710656 % 18446744073709551616)) wakeup
    ≡ wakeup + 2 ^ 48 * online + 2 ^ 49 * idle + 2 ^ 50 * inside + 2 ^ 51 * mark
fields mark inside idle online wakeup m n i o w =
    let a : mark * 2251799813685248 % 18446744073709551616 ≡ mark * 2 ^ 51 = omega arith in
    let b : inside * 1125899906842624 % 18446744073709551616 ≡ inside * 2 ^ 50 = omega arith in
    let c : idle * 562949953421312 % 18446744073709551616 ≡ idle * 2 ^ 49 = omega arith in
    let d : online * 281474976710656 % 18446744073709551616 ≡ online * 2 ^ 48 = omega arith in
    let e = or_shifted mark 51 (inside * 2 ^ 50) (omega arith) in
    let e' : mark * 2 ^ 51 + inside * 2 ^ 50 ≡ (mark * 2 + inside) * 2 ^ 50 = omega arith in
    let f = or_shifted (mark * 2 + inside) 50 (idle * 2 ^ 49) (omega arith) in
    let f' : (mark * 2 + inside) * 2 ^ 50 + idle * 2 ^ 49
    ≡ (mark * 4 + inside * 2 + idle) * 2 ^ 49 =
    omega arith in
    let g = or_shifted (mark * 4 + inside * 2 + idle) 49 (online * 2 ^ 48) (omega arith) in
    let g' : (mark * 4 + inside * 2 + idle) * 2 ^ 49 + online * 2 ^ 48
    ≡ (mark * 8 + inside * 4 + idle * 2 + online) * 2 ^ 48 = omega arith in
    let h = or_shifted (mark * 8 + inside * 4 + idle * 2 + online) 48 wakeup w in
    rw (a, b, c, d, e, e', f, f', g, g', h) (omega arith)
