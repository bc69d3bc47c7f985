-- lists of which all or none pass a test, and facts after the last moment
use Rattle.std.proofs.Common.{◌≡◌, List, [], ◌∷◌, Bool, true, false}
use Rattle.std.proofs.Common.{refl, ap, ◌∙◌}
use Rattle.std.specs.Prelude.{All, filter, flat_map}
use Rattle.std.proofs.lemmas.Bool.{cond-false, cond-true}
use Rattle.std.proofs.lemmas.List.Elements.{All-append, All-head, All-nil, All-tail}
use Rattle.play_rules.specs.Moments.{AfterEach, Turn, last_state}

module _ {X : Type 0} (p : X → Bool) where
  pub all_pass : (xs : List X) → All (λ x. p x ≡ true) xs → filter p xs ≡ xs
  all_pass [] all = refl
  all_pass (x ∷ xs) all =
      cond-true (p x) (x ∷ filter p xs) (filter p xs) (All-head (λ y. p y ≡ true) x xs all)
      ∙ ap (λ ys. x ∷ ys) (all_pass xs (All-tail (λ y. p y ≡ true) x xs all))

  pub none_pass : (xs : List X) → All (λ x. p x ≡ false) xs → filter p xs ≡ []
  none_pass [] all = refl
  none_pass (x ∷ xs) all =
      cond-false (p x) (x ∷ filter p xs) (filter p xs) (All-head (λ y. p y ≡ false) x xs all)
      ∙ none_pass xs (All-tail (λ y. p y ≡ false) x xs all)

-- what holds of each list holds of them all
pub all_flat : {X Y : Type 0} (Q : Y → Type 0) (f : X → List Y) (xs : List X)
    → All (λ x. All Q (f x)) xs → All Q (flat_map f xs)
all_flat {X} Q f [] all = All-nil Q
all_flat {X} Q f (x ∷ xs) all =
    All-append Q (f x) (flat_map f xs) (All-head (λ y. All Q (f y)) x xs all)
    (all_flat Q f xs (All-tail (λ y. All Q (f y)) x xs all))

-- after the last moment
module _ {S : Type 0} (P : S → Type 0) where
  from_there : (s : S) (ts : List (Turn S)) → P s → AfterEach P ts → P (last_state s ts)
  from_there s [] here all = here
  from_there s (t ∷ ts) here all =
      from_there t.played.state ts (All-head (λ (u : Turn S). P u.played.state) t ts all)
      (All-tail (λ (u : Turn S). P u.played.state) t ts all)

  pub after_last : (s : S) (ts : List (Turn S)) → (ts ≡ [] → ⊥) → AfterEach P ts
      → P (last_state s ts)
  after_last s [] some all = absurd (some refl)
  after_last s (t ∷ ts) some all =
      from_there t.played.state ts (All-head (λ (u : Turn S). P u.played.state) t ts all)
      (All-tail (λ (u : Turn S). P u.played.state) t ts all)
