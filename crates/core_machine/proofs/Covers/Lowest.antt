-- the lowest active group of a path, and who wakes
use Rattle.std.proofs.Common.{◌≡◌, ℕ, zero, suc, ◌+◌, ◌<◌, ◌≤◌, Bool, true, false, List, [], ◌∷◌}
use Rattle.std.proofs.Common.{Option, Some, None, refl, sym, ap, ◌∙◌, arith, inl, inr, true≢false}
use Rattle.std.specs.Prelude.{find, is_some, slice_get}
use Rattle.std.proofs.lemmas.Bool.{cases_lt, cond-false, cond-true}
use Rattle.std.proofs.lemmas.Option.{none-some, same_Some}
use Rattle.tree_plan.specs.Shape.{IsPlanned}
use Rattle.tree_plan.specs.Paths.{group_at_of, level_count_of, path_of}
use Rattle.tree_plan.proofs.Below.{paths}
use Rattle.play_rules.specs.Covers.{lowest_active_group}
use Rattle.play_rules.specs.State.{migrator_at}
use Rattle.core_world.specs.World.{World, group_of}
use Rattle.step_play.specs.Rules.Seen.{state_of}
use Rattle.step_play.proofs.Queues.Sights.{migrator_seen}

-- the first of a list that passes, and none where none does
first_in : (p : ℕ → Bool) (xs : List ℕ) (n x : ℕ) → slice_get xs n ≡ Some x → p x ≡ true →
    ((k y : ℕ) → k < n → slice_get xs k ≡ Some y → p y ≡ false) → find p xs ≡ Some x
first_in p [] n x at is before = absurd (none-some x at)
first_in p (y ∷ ys) zero x at is before =
    cond-true (p y) (Some y) (find p ys) (ap p (same_Some y x at) ∙ is) ∙ at
first_in p (y ∷ ys) (suc n) x at is before =
    cond-false (p y) (Some y) (find p ys) (before 0 y (omega arith) refl)
    ∙ first_in p ys n x at is (λ k z low there. before (suc k) z (omega (arith, low)) there)

none_in : (p : ℕ → Bool) (xs : List ℕ) (n : ℕ) → slice_get xs n ≡ None →
    ((k y : ℕ) → k < n → slice_get xs k ≡ Some y → p y ≡ false) → find p xs ≡ None
none_in p [] n at before = refl
none_in p (y ∷ ys) zero at before = absurd (none-some y (sym at))
none_in p (y ∷ ys) (suc n) at before =
    cond-false (p y) (Some y) (find p ys) (before 0 y (omega arith) refl)
    ∙ none_in p ys n at (λ k z low there. before (suc k) z (omega (arith, low)) there)

module _ (w : World) (planned : IsPlanned w.tree) (c : ℕ) where
  -- no group of the path below a level is active
  abbrev pub QuietBelow : ℕ → Type 0
  QuietBelow level =
      (k g : ℕ) → k < level → group_at_of w.tree c k ≡ Some g → (group_of w g).migrator ≡ None

  abbrev runs : ℕ → Bool
  runs g = is_some (migrator_at (state_of w) g)

  before : (level : ℕ) → QuietBelow level → (k g : ℕ) → k < level →
      slice_get (path_of w.tree c) k ≡ Some g → runs g ≡ false
  before level quiet k g low at =
      ap is_some (migrator_seen w g
      ∙ quiet k g low (sym ((paths w.tree planned).listed c k) ∙ at))

  pub lowest_at : (level g : ℕ) → QuietBelow level → group_at_of w.tree c level ≡ Some g →
      is_some (group_of w g).migrator ≡ true → lowest_active_group (state_of w) c ≡ Some g
  lowest_at level g quiet at on =
      first_in runs (path_of w.tree c) level g ((paths w.tree planned).listed c level ∙ at)
      (ap is_some (migrator_seen w g) ∙ on) (before level quiet)

  pub lowest_none : (level : ℕ) → QuietBelow level → group_at_of w.tree c level ≡ None →
      lowest_active_group (state_of w) c ≡ None
  lowest_none level quiet at =
      none_in runs (path_of w.tree c) level ((paths w.tree planned).listed c level ∙ at)
      (before level quiet)

  pub lowest_end : (level : ℕ) → QuietBelow level → level_count_of w.tree ≤ level →
      lowest_active_group (state_of w) c ≡ None
  lowest_end level quiet high =
      lowest_none level quiet ((paths w.tree planned).beyond c level high)

  -- one level more
  pub quiet_more : (level g : ℕ) → QuietBelow level → group_at_of w.tree c level ≡ Some g →
      is_some (group_of w g).migrator ≡ false → QuietBelow (level + 1)
  quiet_more level g quiet at off k x low there = elim (cases_lt k level) [
    | inl less ↦ quiet k x less there
    | inr high ↦
        let same : k ≡ level = omega (arith, low, high) in
        let is : x ≡ g =
        same_Some x g (sym there ∙ (ap (group_at_of w.tree c) same ∙ at)) in
        ap (λ n. (group_of w n).migrator) is ∙ inactive (group_of w g).migrator off
  ]
    where
      inactive : (m : Option ℕ) → is_some m ≡ false → m ≡ None
      inactive None e = refl
      inactive (Some j) e = absurd (true≢false e)
