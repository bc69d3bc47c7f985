-- for crates above: an event that is marked as ignored is live no more
use Rattle.std.proofs.Common.{◌≡◌, ◌≢◌, ℕ, ◌<◌, Bool, length, Option, Some, None, refl, ap}
use Rattle.std.proofs.Common.{◌∙◌}
use Rattle.std.specs.Prelude.{slice_set}
use Rattle.event_queue.specs.declared.event.Event.{Event}
use Rattle.event_queue.specs.EventMap.{EventMap, event_at, marked_slot}
use Rattle.walk_rules.specs.Scene.{Group}
use Rattle.walk_rules.specs.Stages.{with_mark}
use Rattle.core_world.specs.World.{CpuRecord, World, group_of, moved}
use Rattle.core_world.proofs.Moves.{moved_laws}
use Rattle.core_facts.proofs.core_laws.Events.Slots.{marked_was, slot_else}
use Rattle.step_play.specs.Rules.Live.{counting, live}
use Rattle.step_play.proofs.Activation.Firsts.{counted}

abbrev pub marked_in : EventMap → ℕ → EventMap
marked_in es k = slice_set es k (marked_slot es k)

dead : (m : Option Event) → ((e : Event) → m ≡ Some e → ⊥) → m ≡ None
dead None none = refl
dead (Some e) none = absurd (none e refl)

pub marked_dead : (es : EventMap) (k : ℕ) → counting (event_at (marked_in es k) k) ≡ None
marked_dead es k = dead (counting (event_at (marked_in es k) k))
    (λ e is. (let there = counted (event_at (marked_in es k) k) e is in
    (marked_was es k k e there.0 there.1).0 refl))

module _ (w : World) (g k c : ℕ) (y : CpuRecord) (r : Bool) where
  abbrev new : World
  new = moved w g (with_mark (group_of w g) k) c y r

  -- the slot that was marked
  pub mark_dead : g < length w.groups → live new g k ≡ None
  mark_dead low = ap (λ (z : Group). counting (event_at z.events k))
      ((moved_laws w g (with_mark (group_of w g) k) c y r).group low)
      ∙ marked_dead (group_of w g).events k

  -- and the others
  pub mark_else : (j : ℕ) → j ≢ k →
      event_at (with_mark (group_of w g) k).events j ≡ event_at (group_of w g).events j
  mark_else j ne = slot_else (group_of w g).events k j (marked_slot (group_of w g).events k) ne
