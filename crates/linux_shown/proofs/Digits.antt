-- one digit or one child more, and none
use Rattle.std.proofs.Common.{◌≡◌, ℕ, zero, suc, ◌-◌, ◌<◌, List, ◌++◌, [], ◌∷◌, ap, sym, arith}
use Rattle.std.specs.Prelude.{◌/◌, ◌%◌}
use Rattle.std.proofs.lemmas.List.{append-nil}
use Rattle.linux_shown.specs.Pieces.{child_text, children_below, hex_digit, hex_digits}

pub hex_more : (count n : ℕ) → 0 < count →
    hex_digits count n ≡ hex_digits (count - 1) (n / 16) ++ hex_digit (n % 16) ∷ []
unfolding hex_digits
hex_more zero n some = absurd (omega (arith, some))
hex_more (suc count) n some =
    let same : count ≡ suc count - 1 = omega arith in
    ap (λ k. hex_digits k (n / 16) ++ hex_digit (n % 16) ∷ []) same

pub hex_none : (text : List ℕ) (count n : ℕ) → count ≡ 0 → text ≡ text ++ hex_digits count n
unfolding hex_digits
hex_none text zero n none = sym (append-nil text)
hex_none text (suc count) n none = absurd (omega (arith, none))

pub children_more : (count active : ℕ) → 0 < count →
    children_below count active
    ≡ children_below (count - 1) active ++ child_text active (count - 1)
unfolding children_below
children_more zero active some = absurd (omega (arith, some))
children_more (suc count) active some =
    let same : count ≡ suc count - 1 = omega arith in
    ap (λ k. children_below k active ++ child_text active k) same

pub children_none : (text : List ℕ) (count active : ℕ) → count ≡ 0 →
    text ≡ text ++ children_below count active
unfolding children_below
children_none text zero active none = sym (append-nil text)
children_none text (suc count) active none = absurd (omega (arith, none))
