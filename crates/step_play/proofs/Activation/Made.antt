-- the groups that an activation has made active
use Rattle.std.proofs.Common.{◌≡◌, ◌≢◌, inl, inr, ℕ, suc, ◌<◌, Bool, length, Some, None}
use Rattle.std.proofs.Common.{sym, ap, ◌∙◌, subst, arith}
use Rattle.std.proofs.lemmas.Bool.{cases_eq}
use Rattle.std.proofs.lemmas.Option.{same_Some}
use Rattle.tree_plan.specs.Paths.{group_at_of}
use Rattle.walk_rules.specs.Hierarchy.{IsHierarchy, side}
use Rattle.walk_rules.specs.Scene.{Group}
use Rattle.core_world.specs.World.{CpuRecord, World, moved}
use Rattle.core_world.proofs.Moves.{moved_laws}
use Rattle.core_world.proofs.Quiet.{moved_group_field}
use Rattle.step_play.proofs.Activation.Alongside.{role}
use Rattle.step_play.proofs.Activation.Touches.{group_else}

-- the first n groups of the path had no migrator, and have the child towards the CPU now; the
-- others have what they had
pub record Made (old : World) (c n : ℕ) (w : World) : Type 0 where
  pub was : (i g : ℕ) → i < n → group_at_of w.tree c i ≡ Some g → role old g ≡ None
  pub now : (i g : ℕ) → i < n → group_at_of w.tree c i ≡ Some g →
      role w g ≡ Some (side w.tree c i)
  pub rest : (g : ℕ) → ((i : ℕ) → i < n → group_at_of w.tree c i ≡ Some g → ⊥) →
      role w g ≡ role old g

module _ (old : World) (c n : ℕ) (w : World) (m : Made old c n w) (g : ℕ) (x : Group)
    (y : CpuRecord) (r : Bool) where
  abbrev new : World
  new = moved w g x c y r

  -- a step that leaves the migrator
  pub same_made : x.migrator ≡ role w g → Made old c n new
  same_made e =
      let same : (h : ℕ) → role new h ≡ role w h = moved_group_field w g x c y r
      (λ z. z.migrator) e in
      record {
        was = m.was;
        now = λ i h low at. same h ∙ m.now i h low at;
        rest = λ h none. same h ∙ m.rest h none;
      }

  -- and one that makes the next group active
  module _ (h : IsHierarchy w.tree) (here : group_at_of w.tree c n ≡ Some g) where
    not_below : (i : ℕ) → i < n → group_at_of w.tree c i ≡ Some g → ⊥
    not_below i low at = let same = h.one_level c c i n g at here in omega (arith, same, low)

    pub as_it_was : role w g ≡ role old g
    as_it_was = m.rest g not_below

    else_role : (q : ℕ) → q ≢ g → role new q ≡ role w q
    else_role q ne = ap (λ (z : Group). z.migrator) (group_else w g x c y r q ne)

    pub more_made : role w g ≡ None → x.migrator ≡ Some (side w.tree c n) → g < length w.groups →
        Made old c (suc n) new
    more_made none taken low = record {
      was = λ i q less at. elim (cases_eq i n) [
        | inl same ↦
            let one : g ≡ q = same_Some _ _ (sym here ∙ (ap (group_at_of w.tree c) (sym same)
            ∙ at)) in
            ap (role old) (sym one) ∙ (sym as_it_was ∙ none)
        | inr ne ↦ m.was i q (omega (arith, ne)) at
      ];
      now = λ i q less at. elim (cases_eq i n) [
        | inl same ↦
            let one : g ≡ q = same_Some _ _ (sym here ∙ (ap (group_at_of w.tree c) (sym same)
            ∙ at)) in
            subst (λ v. role new v ≡ Some (side w.tree c i)) one
            (ap (λ (z : Group). z.migrator) ((moved_laws w g x c y r).group low)
            ∙ (taken ∙ ap (λ v. Some (side w.tree c v)) (sym same)))
        | inr ne ↦
            let lower : i < n = omega (arith, ne) in
            else_role q (λ same. not_below i lower (at ∙ ap Some same)) ∙ m.now i q lower at
      ];
      rest = λ q none_at.
          else_role q (λ same. none_at n (omega arith) (here ∙ ap Some (sym same)))
          ∙ m.rest q (λ i low at. none_at i (omega arith) at);
    }
