-- one digit more, and none
use Rattle.std.proofs.Common.{◌≡◌, ℕ, zero, suc, ◌-◌, ◌<◌, List, ◌++◌, [], ◌∷◌, ap, sym, ◌∙◌, arith}
use Rattle.std.specs.Prelude.{◌/◌, ◌%◌}
use Rattle.std.proofs.lemmas.List.{append-nil, append_assoc}
use Rattle.linux_view.specs.Texts.{hex_digit, hex_digits}

pub hex_more : (count n : ℕ) → 0 < count →
    hex_digits count n ≡ hex_digits (count - 1) (n / 16) ++ hex_digit (n % 16) ∷ []
unfolding hex_digits
hex_more zero n some = absurd (omega (arith, some))
hex_more (suc count) n some =
    let same : count ≡ suc count - 1 = omega arith in
    ap (λ k. hex_digits k (n / 16) ++ hex_digit (n % 16) ∷ []) same

pub hex_none : (text : List ℕ) (count n : ℕ) → count ≡ 0 → text ≡ text ++ hex_digits count n
unfolding hex_digits
hex_none text zero n none = sym (append-nil text)
hex_none text (suc count) n none = absurd (omega (arith, none))

-- three pieces behind a text, four and five
pub three : (t u v z a b d : List ℕ) → u ≡ t ++ a → v ≡ u ++ b → z ≡ v ++ d →
    z ≡ t ++ (a ++ b ++ d)
three t u v z a b d first second third =
    third
    ∙ (ap (λ x. x ++ d) (second ∙ (ap (λ x. x ++ b) first ∙ append_assoc t a b))
    ∙ append_assoc t (a ++ b) d)

pub four : (t u v z end a b d e : List ℕ) → u ≡ t ++ a → v ≡ u ++ b → z ≡ v ++ d →
    end ≡ z ++ e → end ≡ t ++ (a ++ b ++ d ++ e)
four t u v z end a b d e first second third fourth =
    fourth
    ∙ (ap (λ x. x ++ e) (three t u v z a b d first second third)
    ∙ append_assoc t (a ++ b ++ d) e)

pub five : (t u v z y end a b d e f : List ℕ) → u ≡ t ++ a → v ≡ u ++ b → z ≡ v ++ d → y ≡ z ++ e →
    end ≡ y ++ f → end ≡ t ++ (a ++ b ++ d ++ e ++ f)
five t u v z y end a b d e f first second third fourth fifth =
    fifth
    ∙ (ap (λ x. x ++ f) (four t u v z y a b d e first second third fourth)
    ∙ append_assoc t (a ++ b ++ d ++ e) f)
