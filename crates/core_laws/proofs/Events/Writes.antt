-- a step that writes one event of a group
use Rattle.std.proofs.Common.{◌≡◌, ◌≢◌, ◌⊎◌, inl, inr, ℕ, Option, Some, sym, ap, ◌∙◌, subst}
use Rattle.std.specs.Prelude.{slice_set}
use Rattle.std.proofs.lemmas.Bool.{cases_eq}
use Rattle.std.proofs.lemmas.Option.{same_Some}
use Rattle.event_queue.specs.declared.event.Event.{Event}
use Rattle.event_queue.specs.EventMap.{Counts, event_at, marked_slot}
use Rattle.tm_base.specs.declared.names.Child.{Child}
use Rattle.tree_plan.specs.Shape.{Shape}
use Rattle.tm_base.specs.Children.{of_group}
use Rattle.tree_plan.specs.Paths.{bit_of, parent_of}
use Rattle.walk_rules.specs.Hierarchy.{IsHierarchy}
use Rattle.walk_rules.specs.Queues.{HasTold}
use Rattle.walk_rules.specs.Scene.{Scene}
use Rattle.core_laws.proofs.Events.Slots.{marked_was, slot_else}

-- between two scenes the event of child m in its group g becomes this one, and others stay
pub record WritesEvent (t : Shape) (old new : Scene) (m : Child) (g : ℕ) (slot : Option Event) : Type 0 where
  pub parent : parent_of t m ≡ Some g
  pub others : (h : ℕ) → h ≢ g → (new.group h).events ≡ (old.group h).events
  pub written : (new.group g).events ≡ slice_set (old.group g).events (bit_of t m) slot

module _ (t : Shape) (h : IsHierarchy t) (old new : Scene) (m : Child) (g : ℕ) (slot : Option Event) (writes : WritesEvent t old new m g slot) where
  -- another child's event is as it was
  pub event_else : (n : Child) (p : ℕ) → parent_of t n ≡ Some p → n ≢ m → event_at (new.group p).events (bit_of t n) ≡ event_at (old.group p).events (bit_of t n)
  event_else n p parent ne = elim (cases_eq p g) [
    | inl same ↦ subst (λ q. event_at (new.group q).events (bit_of t n) ≡ event_at (old.group q).events (bit_of t n)) (sym same)
        (ap (λ es. event_at es (bit_of t n)) writes.written ∙ slot_else (old.group g).events (bit_of t m) (bit_of t n) slot
        (λ bit. ne (h.apart n m g (parent ∙ ap Some same) writes.parent bit)))
    | inr other ↦ ap (λ es. event_at es (bit_of t n)) (writes.others p other)
  ]

  -- so what another group told is told, if it knows of nothing more
  pub told_else : (x p : ℕ) → parent_of t (of_group x) ≡ Some p → of_group x ≢ m
      → ((k : ℕ) (e : Event) → event_at (new.group x).events k ≡ Some e → Counts e → event_at (old.group x).events k ≡ Some e) → HasTold t old x p → HasTold t new x p
  told_else x p parent ne knew told k e there counts =
      let was = told k e (knew k e there counts) counts in
      record { event = was.event; there = event_else (of_group x) p parent ne ∙ was.there; counts = was.counts; in_time = was.in_time }

  -- it is the child itself, or another
  pub same_or : (n : Child) (p : ℕ) → parent_of t n ≡ Some p → (n ≡ m) ⊎ (n ≢ m)
  same_or n p parent = elim (cases_eq p g) [
    | inl at ↦ elim (cases_eq (bit_of t n) (bit_of t m)) [
      | inl bit ↦ inl (h.apart n m g (parent ∙ ap Some at) writes.parent bit)
      | inr ne ↦ inr (λ z. ne (ap (bit_of t) z))
    ]
    | inr ne ↦ inr (λ z. ne (same_Some _ _ (sym parent ∙ (ap (parent_of t) z ∙ writes.parent))))
  ]

  -- what counts after a mark was there
  pub counts_was : slot ≡ marked_slot (old.group g).events (bit_of t m) → (x k : ℕ) (e : Event) → event_at (new.group x).events k ≡ Some e → Counts e → event_at (old.group x).events k ≡ Some e
  counts_was mark x k e there counts = elim (cases_eq x g) [
    | inl same ↦ subst (λ q. event_at (old.group q).events k ≡ Some e) (sym same)
        (marked_was (old.group g).events (bit_of t m) k e
        (ap (λ v. event_at (slice_set (old.group g).events (bit_of t m) v) k) (sym mark) ∙ (ap (λ es. event_at es k) (sym writes.written) ∙ subst (λ q. event_at (new.group q).events k ≡ Some e) same there)) counts).1
    | inr other ↦ ap (λ es. event_at es k) (sym (writes.others x other)) ∙ there
  ]
