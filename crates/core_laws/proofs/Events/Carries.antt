-- for crates above: who carries a group's events, and how claims on events go on from step to step
use Rattle.std.proofs.Common.{◌≡◌, ◌≢◌, ◌⊎◌, inl, inr, ℕ, Bool, false, Option, Some, None, sym, ap, ◌∙◌, subst}
use Rattle.std.specs.Prelude.{option_and_then, if◌then◌else◌}
use Rattle.std.proofs.lemmas.Bool.{cases_eq}
use Rattle.std.proofs.lemmas.Option.{none-some}
use Rattle.tree_plan.specs.Shape.{Shape}
use Rattle.tm_base.specs.Children.{of_group}
use Rattle.event_queue.specs.EventMap.{event_at}
use Rattle.tree_plan.specs.Paths.{bit_of, group_at_of, parent_of}
use Rattle.walk_rules.specs.declared.walk.Walk.{Walk}
use Rattle.walk_rules.specs.declared.walk.Stage.{Stage}
use Rattle.walk_rules.specs.Edges.{StandsBelow, edge_of, heading}
use Rattle.walk_rules.specs.Queues.{EventsTold, HasTold, IsCarried, group_under, is_past_swap, is_up_to_store, tells_by, will_tell_by}
use Rattle.walk_rules.specs.Scene.{Scene, is_on}
use Rattle.core_world.specs.Frames.{ChangesOnly}

-- CPU c's walk carries the events of group x: it will tell them, or is about to
abbrev pub Carries : Shape → (c : ℕ) → Option Walk → (x : ℕ) → Type 0
Carries t c m x = (will_tell_by t c m ≡ Some x) ⊎ (tells_by t c m ≡ Some x)

-- the same at a level and stage
abbrev pub will_tell_at : Shape → (c level : ℕ) → (over : Bool) → Stage → Option ℕ
will_tell_at t c level over st = if is_past_swap st then (if over then None else group_at_of t c level) else None

abbrev pub tells_at : Shape → (c level : ℕ) → Stage → Option ℕ
tells_at t c level st = if is_up_to_store st then group_under t c level else None

abbrev pub CarriesAt : Shape → (c level : ℕ) → (over : Bool) → Stage → (x : ℕ) → Type 0
CarriesAt t c level over st x = (will_tell_at t c level over st ≡ Some x) ⊎ (tells_at t c level st ≡ Some x)

-- without a walk it carries nothing
pub carries_none : (t : Shape) (c x : ℕ) → Carries t c None x → ⊥
carries_none t c x (inl e) = none-some x e
carries_none t c x (inr e) = none-some x e

-- the events of inactive group x are accounted for at its parent p: they were told, or an activation
-- stands below x, or a walk carries them
abbrev pub IsAccountedFor : Shape → Scene → (x p : ℕ) → Type 0
IsAccountedFor t s x p = HasTold t s x p ⊎ (StandsBelow t s x ⊎ IsCarried t s x)

module _ (t : Shape) (old new : Scene) (c g : ℕ) (r : Bool) (ch : ChangesOnly t old new c g r) where
  -- other activations stand where they stood
  pub heading_else : (d : ℕ) → d ≢ c → heading t new d ≡ heading t old d
  heading_else d ne = ap (λ m. option_and_then (group_at_of t d) (edge_of m)) (ch.walk d ne)

  pub stands_else : (x : ℕ) → (heading t old c ≡ Some x → ⊥) → StandsBelow t old x → StandsBelow t new x
  stands_else x none d = elim (cases_eq d.0 c) [
    | inl same ↦ absurd (none (subst (λ n. heading t old n ≡ Some x) same d.1))
    | inr ne ↦ (d.0, heading_else d.0 ne ∙ d.1)
  ]

  pub carries_else : (d x : ℕ) → d ≢ c → Carries t d (old.walk d) x → Carries t d (new.walk d) x
  carries_else d x ne q = subst (λ m. Carries t d m x) (sym (ch.walk d ne)) q

  -- an inactive group's events are told or on their way as before, but for what the CPU that steps does
  pub told_step : EventsTold t old
      → ((x p : ℕ) → parent_of t (of_group x) ≡ Some p → is_on new (of_group x) ≡ false → (is_on old (of_group x) ≡ false) ⊎ IsAccountedFor t new x p)
      → ((x p : ℕ) → parent_of t (of_group x) ≡ Some p → is_on new (of_group x) ≡ false → HasTold t old x p → IsAccountedFor t new x p)
      → ((x p : ℕ) → parent_of t (of_group x) ≡ Some p → is_on new (of_group x) ≡ false → heading t old c ≡ Some x → IsAccountedFor t new x p)
      → ((x p : ℕ) → parent_of t (of_group x) ≡ Some p → is_on new (of_group x) ≡ false → Carries t c (old.walk c) x → IsAccountedFor t new x p)
      → EventsTold t new
  told_step f back told up own x p parent off = elim (back x p parent off) [
    | inl was ↦ elim (f x p parent was) [
      | inl h ↦ told x p parent off h
      | inr way ↦ elim way [
        | inl d ↦ elim (cases_eq d.0 c) [
          | inl same ↦ up x p parent off (subst (λ n. heading t old n ≡ Some x) same d.1)
          | inr ne ↦ inr (inl (d.0, heading_else d.0 ne ∙ d.1))
        ]
        | inr d ↦ elim (cases_eq d.0 c) [
          | inl same ↦ own x p parent off (subst (λ n. Carries t n (old.walk n) x) same d.1)
          | inr ne ↦ inr (inr (d.0, carries_else d.0 x ne d.1))
        ]
      ]
    ]
    | inr done ↦ done
  ]

  -- where no group's events change, what was told is told
  pub told_still : ((h : ℕ) → (new.group h).events ≡ (old.group h).events) → (x p : ℕ) → HasTold t old x p → HasTold t new x p
  told_still events x p told k e there counts =
      let was = told k e (ap (λ es. event_at es k) (sym (events x)) ∙ there) counts in
      record { event = was.event; there = ap (λ es. event_at es (bit_of t (of_group x))) (events p) ∙ was.there; counts = was.counts; in_time = was.in_time }
