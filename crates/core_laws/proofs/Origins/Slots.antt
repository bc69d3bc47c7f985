-- where events of groups come from, as a slot is marked or written
use Rattle.std.proofs.Common.{◌≡◌, ℕ, zero, suc, Bool, true, false, cond, Option, Some, None, refl}
use Rattle.std.proofs.Common.{sym, ap, ◌∙◌, subst, inl, inr}
use Rattle.std.specs.Prelude.{◌==◌, option_map}
use Rattle.std.specs.Option.{option_map_or}
use Rattle.std.proofs.lemmas.Option.{none-some, same_Some}
use Rattle.tm_base.specs.declared.names.TheConstants.{NEVER}
use Rattle.tm_base.specs.Children.{of_group}
use Rattle.event_queue.specs.declared.event.Event.{Event}
use Rattle.event_queue.specs.EventMap.{as_ignored, event_at, marked_slot}
use Rattle.tree_plan.specs.Paths.{bit_of, child_towards, group_at_of}
use Rattle.walk_rules.specs.declared.walk.Walk.{Walk}
use Rattle.walk_rules.specs.Hierarchy.{IsHierarchy, side}
use Rattle.walk_rules.specs.Queues.{group_under}
use Rattle.walk_rules.specs.Stages.{best_event, stored_event, with_event, with_mark}
use Rattle.core_world.specs.World.{World, group_of}
use Rattle.core_laws.proofs.Origins.Frame.{AllHave, EventHas, WalkHas, set_or}

-- marked as ignored an event is of the same CPU and time
ignored_has : (w : World) (g j : ℕ) (e : Event) → EventHas w g j e → EventHas w g j (as_ignored e)
ignored_has w g j e h =
    let b = h.below in
    record {
      expiry = h.expiry;
      below = record {
        level = b.level;
        child = b.child;
        through =
            b.through;
        into = b.into;
        number = b.number;
      };
    }

marked_has : (w : World) (g j : ℕ) (m : Option Event)
    → ((e : Event) → m ≡ Some e → EventHas w g j e) → (e : Event) → option_map as_ignored m ≡ Some e
    → EventHas w g j e
marked_has w g j None h e is = absurd (none-some e is)
marked_has w g j (Some a) h e is = subst (EventHas w g j) (same_Some _ _ is)
    (ignored_has w g j a (h a refl))

pub mark_has : (w : World) (a : AllHave w) (g k j : ℕ) (e : Event)
    → event_at (with_mark (group_of w g) k).events j ≡ Some e → EventHas w g j e
mark_has w a g k j e is = elim (set_or (group_of w g).events k (marked_slot (group_of w g).events k)
    None j) [
      | inl p ↦ subst (λ n. EventHas w g n e) (sym p.0) (marked_has w g k
          (event_at (group_of w g).events k) (a.events g k) e (sym p.1 ∙ is))
      | inr q ↦ a.events g j e (sym q ∙ is)
    ]

-- what a walk writes into its side at a level
module _ (w : World) (h : IsHierarchy w.tree) (c g : ℕ) (k : Walk) (has : WalkHas w c k) where
  -- at a leaf its CPU's own event
  leaf_has : (q : Bool) (e : Event) → cond q None (Some
      (record { expiry = k.next; cpu = record { 0 = c }; ignored = false })) ≡ Some e
      → group_at_of w.tree c 0 ≡ Some g → EventHas w g (side w.tree c 0) e
  leaf_has true e is at = absurd (none-some e is)
  leaf_has false e is at =
      let m = h.towards c 0 g at in
      subst (EventHas w g (side w.tree c 0)) (same_Some _ _ is) (record {
        expiry = has.times.next;
        below = record {
          level = 0;
          child = m.0;
          through = m.1;
          into = at;
          number =
              sym (ap (λ z. option_map_or (bit_of w.tree) z 0) m.1);
        };
      })

  through_group : (d l low : ℕ) → group_at_of w.tree d l ≡ Some low
      → child_towards w.tree d (suc l) ≡ Some (of_group low)
  unfolding child_towards
  through_group d l low at = ap (option_map of_group) at

  -- above the best of the group below
  best_has : (m : Option Event) → k.best ≡ m → (l : ℕ) → suc l ≡ k.level
      → group_at_of w.tree c (suc l) ≡ Some g → (e : Event) → best_event m ≡ Some e
      → EventHas w g (side w.tree c (suc l)) e
  best_has None best l level at e is = absurd (none-some e is)
  best_has (Some b) best l level at e is =
      let low = h.lower c l g at in
      let below = has.below low.0 b best (ap (group_under w.tree c) (sym level) ∙ low.1) in
      let mine = through_group c l low.0 low.1 in
      let its = through_group b.cpu.0 below.level low.0 below.there in
      subst (EventHas w g (side w.tree c (suc l))) (same_Some _ _ is) (record {
        expiry = has.best b best;
        below = record {
          level = suc below.level;
          child = of_group low.0;
          through = its;
          into = h.onwards b.cpu.0 (suc below.level) (of_group low.0) its
              ∙ (sym (h.onwards c (suc l) (of_group low.0) mine) ∙ at);
          number = sym (ap (λ z. option_map_or (bit_of w.tree) z 0) mine);
        };
      })

  stored_has : (l : ℕ) → l ≡ k.level → group_at_of w.tree c l ≡ Some g → (e : Event)
      → stored_event l c k ≡ Some e → EventHas w g (side w.tree c l) e
  stored_has zero level at e is = leaf_has (k.next == NEVER) e is at
  stored_has (suc l) level at e is = best_has k.best refl l level at e is

  pub store_has : (a : AllHave w) → group_at_of w.tree c k.level ≡ Some g → (j : ℕ) (e : Event)
      → event_at (with_event (group_of w g) (side w.tree c k.level)
      (stored_event k.level c k)).events j ≡ Some e → EventHas w g j e
  store_has a at j e is = elim (set_or (group_of w g).events (side w.tree c k.level)
      (stored_event k.level c k) None j) [
        | inl p ↦ subst (λ n. EventHas w g n e) (sym p.0) (stored_has k.level refl at e
            (sym p.1 ∙ is))
        | inr q ↦ a.events g j e (sym q ∙ is)
      ]
