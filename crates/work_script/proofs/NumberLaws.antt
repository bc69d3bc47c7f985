-- words spell numbers, and numbers are spelled as words
use Rattle.std.proofs.Common.{◌≡◌, ℕ, ◌^◌, ◌<◌, ◌≤◌, ltb, leb, ◌&&◌, List, [], ◌∷◌, map, length, Option, Some, Result, Ok, Err, refl, sym, ap, subst, ◌∙◌, arith, inl, inr}
use Rattle.std.specs.Fmt.{decimal}
use Rattle.std.proofs.lemmas.Bool.{cases_Bool, cond-true, cond-false, ltb-true, lt-ltb, leb-true, le-leb, and_parts, and_from}
use Rattle.text_words.specs.Numbers.{is_number, value_of}
use Rattle.text_words.proofs.Digits.{word_found, word_again, clear_decimal}
use Rattle.text_words.proofs.Cuts.{AreClear, split_some}
use Rattle.tm_script.specs.declared.faults.Kind.{Kind}
use Rattle.tm_script.specs.declared.faults.Kind.TheVariants.{BadLine}
use Rattle.work_script.specs.declared.words.NumberSlot.{NumberSlot}
use Rattle.work_script.specs.Reading.{joined_numbers, number_at_place, number_for, numbers_of}
use Rattle.work_script.specs.Steps.{AreWithin, work_words_behind}

-- a word too many
pub one_more : (ss : List NumberSlot) (o : Option (List ℕ)) (w : List ℕ) → length ss < 1
    → o ≡ Some w → Err BadLine ≡ numbers_of ss (work_words_behind o)
unfolding numbers_of
one_more [] o w none e =
    let some = split_some 32 w in
    sym (ap (λ (x : Option (List ℕ)). numbers_of [] (work_words_behind x)) e ∙ ap (numbers_of []) some.2)
one_more (s ∷ ss) o w none e = absurd (omega (arith, none))

-- places of numbers that are short enough to be read
abbrev pub AreShort : List NumberSlot → Type 0
AreShort [] = Unit {0}
AreShort (s ∷ ss) = (s.bound ≤ 10 ^ 13) × AreShort ss

number_ok : (s : NumberSlot) (w : List ℕ) (n : ℕ) → number_for s w ≡ Ok n → (decimal n ≡ w) × (s.least ≤ n) × (n < s.bound)
unfolding number_for
number_ok s w n e = elim (cases_Bool (is_number w)) [
  | inr out ↦ absurd (let no = sym (cond-false (is_number w) _ _ out) ∙ e in cc)
  | inl is ↦ elim (cases_Bool (leb s.least (value_of w) && ltb (value_of w) s.bound)) [
    | inr far ↦ absurd (let no = sym (cond-true (is_number w) _ _ is ∙ cond-false (leb s.least (value_of w) && ltb (value_of w) s.bound) _ _ far) ∙ e in cc)
    | inl near ↦
        let both = sym (cond-true (is_number w) _ _ is ∙ cond-true (leb s.least (value_of w) && ltb (value_of w) s.bound) _ _ near) ∙ e in
        let same : value_of w ≡ n = cc in
        let limits = and_parts _ _ near in (
          ap decimal (sym same) ∙ (word_found w is).0,
          subst (λ m. s.least ≤ m) same (leb-true s.least (value_of w) limits.0),
          subst (λ m. m < s.bound) same (ltb-true (value_of w) s.bound limits.1),
        )
  ]
]

number_back : (s : NumberSlot) (n : ℕ) → s.bound ≤ 10 ^ 13 → s.least ≤ n → n < s.bound → number_for s (decimal n) ≡ Ok n
unfolding number_for
number_back s n few low high =
    let wide : n < 10 ^ 13 = omega (arith, few, high) in
    let again = word_again n wide in
    cond-true (is_number (decimal n)) _ _ again.0
    ∙ cond-true (leb s.least (value_of (decimal n)) && ltb (value_of (decimal n)) s.bound) _ _
    (ap (λ v. leb s.least v && ltb v s.bound) again.1 ∙ and_from _ _ (le-leb s.least n low) (lt-ltb n s.bound high))
    ∙ ap (λ (v : ℕ). Ok v) again.1

record IsJoined (r : Result ℕ Kind) (rs : Result (List ℕ) Kind) (ns : List ℕ) : Type 0 where
  first : ℕ
  behind : List ℕ
  first_is : r ≡ Ok first
  behind_is : rs ≡ Ok behind
  whole : first ∷ behind ≡ ns

join_found : (r : Result ℕ Kind) (rs : Result (List ℕ) Kind) (ns : List ℕ) → joined_numbers r rs ≡ Ok ns → IsJoined r rs ns
join_found (Ok n) (Ok ms) ns e = record { first = n; behind = ms; first_is = refl; behind_is = refl; whole = (let same : n ∷ ms ≡ ns = cc in same) }
join_found (Ok n) (Err k) ns e = absurd cc
join_found (Err j) (Ok ms) ns e = absurd cc
join_found (Err j) (Err k) ns e = absurd cc

abbrev pub AreSpelled : List NumberSlot → List (List ℕ) → List ℕ → Type 0
AreSpelled ss ws ns = (map decimal ns ≡ ws) × AreWithin ss ns

pub numbers_found : (ss : List NumberSlot) (ws : List (List ℕ)) (ns : List ℕ) → numbers_of ss ws ≡ Ok ns → AreSpelled ss ws ns
unfolding numbers_of
numbers_found [] [] ns e =
    let same : [] ≡ ns = cc in
    subst (AreSpelled [] []) same (refl, tt)
numbers_found [] (w ∷ ws) ns e = absurd cc
numbers_found (s ∷ ss) [] ns e = absurd cc
numbers_found (s ∷ ss) (w ∷ ws) ns e =
    let j = join_found (number_for s w) (numbers_of ss ws) ns e in
    let one = number_ok s w j.first j.first_is in
    let rest = numbers_found ss ws j.behind j.behind_is in
    subst (AreSpelled (s ∷ ss) (w ∷ ws)) j.whole ((λ i. one.0 i ∷ rest.0 i), (one.1, one.2, rest.1))

pub numbers_back : (ss : List NumberSlot) (ns : List ℕ) → AreShort ss → AreWithin ss ns → numbers_of ss (map decimal ns) ≡ Ok ns
unfolding numbers_of
numbers_back [] [] short h = refl
numbers_back [] (n ∷ ns) short h = absurd h
numbers_back (s ∷ ss) [] short h = absurd h
numbers_back (s ∷ ss) (n ∷ ns) short h = λ i. joined_numbers (number_back s n short.0 h.0 h.1 i) (numbers_back ss ns short.1 h.2 i)

pub numbers_spaces : (ss : List NumberSlot) (ns : List ℕ) → AreShort ss → AreWithin ss ns → AreClear 32 (map decimal ns)
numbers_spaces [] [] short h = tt
numbers_spaces [] (n ∷ ns) short h = absurd h
numbers_spaces (s ∷ ss) [] short h = absurd h
numbers_spaces (s ∷ ss) (n ∷ ns) short h = (clear_decimal 32 n refl (omega (arith, short.0, h.1)), numbers_spaces ss ns short.1 h.2)

pub numbers_feeds : (ss : List NumberSlot) (ns : List ℕ) → AreShort ss → AreWithin ss ns → AreClear 10 (map decimal ns)
numbers_feeds [] [] short h = tt
numbers_feeds [] (n ∷ ns) short h = absurd h
numbers_feeds (s ∷ ss) [] short h = absurd h
numbers_feeds (s ∷ ss) (n ∷ ns) short h = (clear_decimal 10 n refl (omega (arith, short.0, h.1)), numbers_feeds ss ns short.1 h.2)

-- one number, and nothing else
pub one_within : (s : NumberSlot) (ns : List ℕ) → AreWithin (s ∷ []) ns → (ns ≡ number_at_place ns 0 ∷ []) × (s.least ≤ number_at_place ns 0) × (number_at_place ns 0 < s.bound)
one_within s [] h = absurd h
one_within s (n ∷ []) h = (refl, h.0, h.1)
one_within s (n ∷ m ∷ ns) h = absurd h.2

pub one_number : (s : NumberSlot) (ws : List (List ℕ)) (ns : List ℕ) → numbers_of (s ∷ []) ws ≡ Ok ns → (ns ≡ number_at_place ns 0 ∷ []) × (s.least ≤ number_at_place ns 0) × (number_at_place ns 0 < s.bound)
one_number s ws ns e = one_within s ns (numbers_found (s ∷ []) ws ns e).1
