-- for crates above: which moments are plain, and how many CPUs are due an interrupt
use Rattle.std.proofs.Common.{◌≡◌, ℕ, ◌+◌, ◌≤◌, ◌<◌, List, [], ◌∷◌, Bool, true, false}
use Rattle.std.proofs.Common.{refl, sym, ap, ◌∙◌, arith, length, cond}
use mir.Val.{bool_byte}
use Rattle.std.specs.Prelude.{All, filter, ◌==◌, ◌||◌}
use Rattle.std.specs.List.{list_any, range_with_len}
use Rattle.std.specs.FinSet.{FinSet}
use Rattle.std.specs.Ordering.{nat_cmp}
use Rattle.std.proofs.lemmas.Bool.{both_ways}
use Rattle.std.proofs.lemmas.List.{length-append}
use Rattle.std.proofs.lemmas.List.Elements.{All-cons, All-nil, filter-append}
use Rattle.tm_script.specs.declared.syntax.Op.{Op}
use Rattle.play_rules.proofs.Loops.{range_more}
use Rattle.run_plain.specs.run_story.Stories.{is_hotplug, is_plain}
use Rattle.play_driver.proofs.Turns.{below_test}

-- a test of two, that fails
neither_left : (a b : Bool) → (a || b) ≡ false → a ≡ false
neither_left true b is = is
neither_left false b is = refl

neither_right : (a b : Bool) → (a || b) ≡ false → b ≡ false
neither_right true b is = absurd (both_ways true is refl)
neither_right false b is = is

-- none passes a test
pub none_of : {X : Type 0} (p : X → Bool) (xs : List X) → list_any p xs ≡ false → All (λ x. p x ≡ false) xs
none_of p [] is = All-nil (λ x. p x ≡ false)
none_of p (x ∷ xs) is =
    All-cons (λ y. p y ≡ false) x xs (neither_left (p x) (list_any p xs) is)
    (none_of p xs (neither_right (p x) (list_any p xs) is))

-- what isn't plain has no operation that takes a CPU offline or online
pub stays_out : (cpus : ℕ) (due : FinSet nat_cmp) (ops : List Op) → is_plain cpus due ops ≡ false →
    list_any (λ o. is_hotplug o.what) ops ≡ false
stays_out cpus due ops is = neither_left _ _ is

-- and what has an operation, but none of these, isn't plain
pub some_ops : (ops : List Op) (r : Bool) → r ≡ (length ops == 0) → r ≡ false → 0 < length ops
some_ops [] r is not = absurd (both_ways r not is)
some_ops (o ∷ os) r is not = omega arith

pub not_plain : (cpus : ℕ) (due : FinSet nat_cmp) (ops : List Op) →
    list_any (λ o. is_hotplug o.what) ops ≡ false → 0 < length ops → is_plain cpus due ops ≡ false
not_plain cpus due ops none some = rw (none, below_test (length ops) 0 some) refl

-- a bit as a number
pub bit_le : (b : Bool) → bool_byte b ≤ 1
bit_le true = omega arith
bit_le false = omega arith

one_found : (p : ℕ → Bool) (n : ℕ) → length (filter p (n ∷ [])) ≡ bool_byte (p n)
one_found p n =
    elim (p n) as (λ b. length (cond b (n ∷ []) []) ≡ bool_byte b) [ true ↦ refl | false ↦ refl ]

-- one number more
pub one_due : (p : ℕ → Bool) (n count : ℕ) → count ≡ length (filter p (range_with_len 0 n)) →
    count + bool_byte (p n) ≡ length (filter p (range_with_len 0 (n + 1)))
one_due p n count is =
    let before = range_with_len 0 n in
    ap (λ k. k + bool_byte (p n)) is
    ∙ ap (λ k. length (filter p before) + k) (sym (one_found p n))
    ∙ sym (length-append (filter p before) (filter p (n ∷ [])))
    ∙ ap length (sym (filter-append p before (n ∷ [])))
    ∙ ap (λ xs. length (filter p xs)) (sym (range_more n))
