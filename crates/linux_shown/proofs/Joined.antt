-- several pieces behind a text
use Rattle.std.proofs.Common.{◌≡◌, List, ℕ, ◌++◌, ap, ◌∙◌}
use Rattle.std.proofs.lemmas.List.{append_assoc}

-- three pieces behind a text, four and five
pub three : (t u v z a b d : List ℕ) → u ≡ t ++ a → v ≡ u ++ b → z ≡ v ++ d →
    z ≡ t ++ (a ++ b ++ d)
three t u v z a b d first second third =
    third
    ∙ (ap (λ x. x ++ d) (second ∙ (ap (λ x. x ++ b) first ∙ append_assoc t a b))
    ∙ append_assoc t (a ++ b) d)

pub four : (t u v z end a b d e : List ℕ) → u ≡ t ++ a → v ≡ u ++ b → z ≡ v ++ d →
    end ≡ z ++ e → end ≡ t ++ (a ++ b ++ d ++ e)
four t u v z end a b d e first second third fourth =
    fourth
    ∙ (ap (λ x. x ++ e) (three t u v z a b d first second third)
    ∙ append_assoc t (a ++ b ++ d) e)

pub five : (t u v z y end a b d e f : List ℕ) → u ≡ t ++ a → v ≡ u ++ b → z ≡ v ++ d → y ≡ z ++ e →
    end ≡ y ++ f → end ≡ t ++ (a ++ b ++ d ++ e ++ f)
five t u v z y end a b d e f first second third fourth fifth =
    fifth
    ∙ (ap (λ x. x ++ f) (four t u v z y a b d e first second third fourth)
    ∙ append_assoc t (a ++ b ++ d ++ e) f)
