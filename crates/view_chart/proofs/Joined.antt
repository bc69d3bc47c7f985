-- pieces pushed one behind the other
use Rattle.std.proofs.Common.{◌≡◌, ℕ, List, ◌++◌, ap, ◌∙◌, append_assoc}

pub onto : {A : Type 0} → (front middle back : List A) →
    front ++ middle ++ back ≡ front ++ (middle ++ back)
onto front middle back = append_assoc front middle back

pub three_pieces : (t a b c u v z : List ℕ) → u ≡ t ++ a → v ≡ u ++ b → z ≡ v ++ c →
    z ≡ t ++ (a ++ (b ++ c))
three_pieces t a b c u v z first second third =
    third
    ∙ (ap (λ x. x ++ c) (second ∙ (ap (λ x. x ++ b) first ∙ append_assoc t a b))
    ∙ (append_assoc t (a ++ b) c ∙ ap (λ x. t ++ x) (append_assoc a b c)))

pub four_pieces : (t a b c d u v w z : List ℕ) → u ≡ t ++ a → v ≡ u ++ b → w ≡ v ++ c →
    z ≡ w ++ d → z ≡ t ++ (a ++ (b ++ (c ++ d)))
four_pieces t a b c d u v w z first second third fourth =
    three_pieces u b c d v w z second third fourth
    ∙ (ap (λ x. x ++ (b ++ (c ++ d))) first ∙ append_assoc t a (b ++ (c ++ d)))

pub five_pieces : (t a b c d e u v w x z : List ℕ) → u ≡ t ++ a → v ≡ u ++ b → w ≡ v ++ c →
    x ≡ w ++ d → z ≡ x ++ e → z ≡ t ++ (a ++ (b ++ (c ++ (d ++ e))))
five_pieces t a b c d e u v w x z first second third fourth fifth =
    four_pieces u b c d e v w x z second third fourth fifth
    ∙ (ap (λ y. y ++ (b ++ (c ++ (d ++ e)))) first ∙ append_assoc t a (b ++ (c ++ (d ++ e))))
