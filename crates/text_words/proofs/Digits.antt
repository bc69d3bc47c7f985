-- for crates above: the words that are numbers
use Rattle.std.proofs.Common.{◌≡◌, ℕ, ◌^◌, ◌<◌, ◌≤◌, true, false, ◌&&◌, List, [], ◌∷◌, length, get_or, Some, None, refl, sym, ap, ◌∙◌, arith, rules, inl, inr}
use Rattle.std.specs.Fmt.{decimal}
use Rattle.std.specs.List.{list_all}
use Rattle.std.specs.Char.{is_ascii_digit}
use Rattle.std.proofs.Math.Nat.{pow-le-pow_right}
use Rattle.std.proofs.lemmas.Bool.{and_parts, and_from, and_cases, eqb-false, ne_eqb, ltb-true, leb-true, ltb-false, lt-ltb, le-leb, not-true, not_from_false, and_left, cond-true, cases_eq, false≢true}
use Rattle.std.proofs.lemmas.Option.{cond_some}
use Rattle.std.proofs.lemmas.Str.Parse.{IsNumeralModel, numerals_by_fold, digits_value_short}
use Rattle.std.proofs.lemmas.Fmt.{decimal-digits_value, digits_decimal, digits_value-decimal, decimal_nonempty, length-decimal-le, first_decimal, decimal_digit}
use Rattle.text_words.proofs.Cuts.{is_clear}
use Rattle.text_words.specs.Numbers.{value_from, are_digits, is_plain, is_number, value_of, number_of}

pub own : IsNumeralModel (λ ds. list_all is_ascii_digit ds ≡ true) (value_from 0)
own = numerals_by_fold _ (search rules) value_from (search rules)

-- powers of ten up to the thirteenth
pub few : (i : ℕ) → i ≤ 13 → 10 ^ i ≤ 10 ^ 13
few i h = let ten : 0 < 10 = omega arith in pow-le-pow_right ten h

-- what the test of digits tells
pub record AreDigits (word : List ℕ) : Type 0 where
  pub some : 0 < length word
  pub short : length word ≤ 13
  pub digits : list_all is_ascii_digit word ≡ true

pub digits_true : (word : List ℕ) → are_digits word ≡ true → AreDigits word
digits_true word e =
    let a = and_parts _ _ e in
    let b = and_parts _ _ a.0 in
    record { some = ltb-true _ _ b.0; short = leb-true _ _ b.1; digits = a.1 }

plain_true : (word : List ℕ) → 0 < length word → is_plain word ≡ true → get_or word 0 0 ≡ 48 → length word ≡ 1
plain_true word some e zero_first =
    elim (and_cases _ _ (not-true _ e)) [
      | inl no_zero ↦ absurd (eqb-false _ _ no_zero zero_first)
      | inr single ↦ omega (arith, ltb-false _ _ single)
    ]

-- what is read as a number is spelled so
pub number_found : (word : List ℕ) (n : ℕ) → number_of word ≡ Some n → (decimal n ≡ word) × (n < 10 ^ 13)
unfolding number_of is_number value_of
number_found word n e =
    let c = cond_some (are_digits word && is_plain word) (value_from 0 word) n e in
    let both = and_parts _ _ c.0 in
    let d = digits_true word both.0 in
    let bound = digits_value_short own word 13 d.digits d.short in
    let wide : value_from 0 word < 2 ^ 64 = omega (arith, bound) in
    (ap decimal (sym c.1) ∙ decimal-digits_value own word d.digits d.some (plain_true word d.some both.1) wide, rw (← c.1) bound)

plain_decimal : (n : ℕ) → n < 10 ^ 13 → is_plain (decimal n) ≡ true
plain_decimal n h =
    elim (cases_eq n 0) [
      | inl e ↦ rw (e, decimal_digit 0 (omega arith)) refl
      | inr pos ↦
          let first : 48 < get_or (decimal n) 0 0 = first_decimal n (omega arith) (omega arith) in
          not_from_false _ (and_left _ _ (ne_eqb (get_or (decimal n) 0 0) 48 (λ (z : get_or (decimal n) 0 0 ≡ 48). omega arith)))
    ]

-- what is spelled as a number is read
pub number_again : (n : ℕ) → n < 10 ^ 13 → number_of (decimal n) ≡ Some n
unfolding number_of is_number value_of
number_again n h =
    let wide : n < 2 ^ 64 = omega arith in
    let some = lt-ltb 0 (length (decimal n)) (decimal_nonempty n wide) in
    let short = le-leb (length (decimal n)) 13 (length-decimal-le 13 n (omega arith) h wide) in
    let digits = and_from _ _ (and_from _ _ some short) (digits_decimal own n wide) in
    rw (cond-true _ (Some (value_from 0 (decimal n))) None (and_from _ _ digits (plain_decimal n h))) (ap Some (digits_value-decimal own n wide))

clear_digits : (c : ℕ) → is_ascii_digit c ≡ false → (ds : List ℕ) → list_all is_ascii_digit ds ≡ true → is_clear c ds ≡ true
clear_digits c h [] e = refl
clear_digits c h (d ∷ ds) e =
    let both = and_parts _ _ e in
    and_from _ _ (not_from_false _ (ne_eqb d c (λ (s : d ≡ c). false≢true (sym h ∙ ap is_ascii_digit (sym s) ∙ both.0)))) (clear_digits c h ds both.1)

-- no digit is another byte
pub clear_decimal : (c n : ℕ) → is_ascii_digit c ≡ false → n < 2 ^ 64 → is_clear c (decimal n) ≡ true
clear_decimal c n h wide = clear_digits c h (decimal n) (digits_decimal own n wide)

-- a word that passes as a number is spelled as its value is
pub word_found : (word : List ℕ) → is_number word ≡ true → (decimal (value_of word) ≡ word) × (value_of word < 10 ^ 13)
unfolding number_of
word_found word e = number_found word (value_of word) (cond-true (is_number word) (Some (value_of word)) None e)

-- what is spelled as a number passes as one, and has its value
pub word_again : (n : ℕ) → n < 10 ^ 13 → (is_number (decimal n) ≡ true) × (value_of (decimal n) ≡ n)
unfolding number_of
word_again n h = cond_some (is_number (decimal n)) (value_of (decimal n)) n (number_again n h)
