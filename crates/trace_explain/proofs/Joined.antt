-- pieces pushed one behind the other
use Rattle.std.proofs.Common.{◌≡◌, ℕ, List, ◌++◌, ap, ◌∙◌, append_assoc}

-- a piece behind a number behind another one
pub behind_number : (t front digits back u z : List ℕ) → u ≡ t ++ (front ++ digits) → z ≡ u ++ back
    → z ≡ t ++ (front ++ (digits ++ back))
behind_number t front digits back u z first second =
    second
    ∙ (ap (λ x. x ++ back) first
    ∙ (append_assoc t (front ++ digits) back
    ∙ ap (λ x. t ++ x) (append_assoc front digits back)))
