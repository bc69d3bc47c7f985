-- a number's text is read as the number, and what is read has its width
use Rattle.std.proofs.Common.{◌≡◌, ℕ, ◌+◌, ◌-◌, ◌*◌, ◌^◌, ◌<◌, ◌≤◌, min, List, [], ◌∷◌, refl, ap, ◌∙◌, arith}
use Rattle.std.specs.Fmt.{decimal}
use Rattle.std.proofs.Math.Nat.{min-eq_left, min-le_right}
use Rattle.std.proofs.lemmas.Fmt.{digits_value-decimal}
use Rattle.text_words.specs.Numbers.{value_from}
use Rattle.text_words.proofs.Digits.{own}
use Rattle.tm_base.specs.declared.names.CpuId.{CpuId}
use Rattle.tm_base.specs.declared.names.TimerId.{TimerId}
use Rattle.report_reader.specs.Candidates.{with_read_digit, number_from, number_read, count_read, short_of, byte_of, cpu_read, timer_read}
use Rattle.report_reader.specs.Widths.{FitsTime, FitsCount, FitsByte, FitsCpu, FitsTimer}

-- further digits make no number smaller
grows : (n : ℕ) (cs : List ℕ) → n ≤ value_from n cs
grows n [] = omega arith
grows n (c ∷ cs) = let more = grows (n * 10 + (c - 48)) cs in omega (arith, more)

digit_exact : (n c : ℕ) → n * 10 + (c - 48) < 2 ^ 64 → with_read_digit n c ≡ n * 10 + (c - 48)
digit_exact n c h =
    let tens : min (n * 10) (2 ^ 64 - 1) ≡ n * 10 = min-eq_left (omega arith) in
    ap (λ m. min (m + (c - 48)) (2 ^ 64 - 1)) tens ∙ min-eq_left (omega arith)

exact : (n : ℕ) (cs : List ℕ) → value_from n cs < 2 ^ 64 → number_from n cs ≡ value_from n cs
exact n [] h = refl
exact n (c ∷ cs) h =
    let more = grows (n * 10 + (c - 48)) cs in
    ap (λ m. number_from m cs) (digit_exact n c (omega (arith, more, h))) ∙ exact (n * 10 + (c - 48)) cs h

bounded : (n : ℕ) (cs : List ℕ) → n < 2 ^ 64 → number_from n cs < 2 ^ 64
bounded n [] h = h
bounded n (c ∷ cs) h =
    let most = min-le_right (min (n * 10) (2 ^ 64 - 1) + (c - 48)) (2 ^ 64 - 1) in
    bounded (with_read_digit n c) cs (omega (arith, most))

pub number_again : (n : ℕ) → FitsTime n → number_read (decimal n) ≡ n
unfolding number_read
number_again n h =
    let is = digits_value-decimal own n h in
    exact 0 (decimal n) (rw is h) ∙ is

pub count_again : (n : ℕ) → FitsCount n → count_read (decimal n) ≡ n
unfolding count_read
count_again n h = ap (λ m. min m (2 ^ 32 - 1)) (number_again n (omega (arith, h))) ∙ min-eq_left (omega (arith, h))

pub short_again : (n : ℕ) → n < 2 ^ 16 → short_of (decimal n) ≡ n
unfolding short_of
short_again n h = ap (λ m. min m (2 ^ 16 - 1)) (number_again n (omega (arith, h))) ∙ min-eq_left (omega (arith, h))

pub byte_again : (n : ℕ) → FitsByte n → byte_of (decimal n) ≡ n
unfolding byte_of
byte_again n h = ap (λ m. min m (2 ^ 8 - 1)) (number_again n (omega (arith, h))) ∙ min-eq_left (omega (arith, h))

pub cpu_again : (cpu : CpuId) → FitsCpu cpu → cpu_read (decimal cpu.0) ≡ cpu
cpu_again cpu h = let f : ℕ → CpuId = λ n. record { 0 = n } in ap f (short_again cpu.0 h)

pub timer_again : (timer : TimerId) → FitsTimer timer → timer_read (decimal timer.0) ≡ timer
timer_again timer h = let f : ℕ → TimerId = λ n. record { 0 = n } in ap f (short_again timer.0 h)

-- ---- widths

pub number_fits : (word : List ℕ) → FitsTime (number_read word)
unfolding number_read
number_fits word = bounded 0 word (omega arith)

pub count_fits : (word : List ℕ) → FitsCount (count_read word)
unfolding count_read
count_fits word = let most = min-le_right (number_read word) (2 ^ 32 - 1) in omega (arith, most)

pub short_fits : (word : List ℕ) → short_of word < 2 ^ 16
unfolding short_of
short_fits word = let most = min-le_right (number_read word) (2 ^ 16 - 1) in omega (arith, most)

pub byte_fits : (word : List ℕ) → FitsByte (byte_of word)
unfolding byte_of
byte_fits word = let most = min-le_right (number_read word) (2 ^ 8 - 1) in omega (arith, most)
