-- events after a write of one slot, and groups after a step
use Rattle.std.proofs.Common.{◌≡◌, ◌⊎◌, inl, inr, ℕ, zero, suc, Bool, true, false, true≢false, List}
use Rattle.std.proofs.Common.{[], ◌∷◌, get_or, set, Option, Some, None, refl, sym, ap, ◌∙◌}
use Rattle.std.specs.Prelude.{slice_set, option_map}
use Rattle.std.proofs.lemmas.Option.{none-some, same_Some}
use Rattle.event_queue.specs.declared.event.Event.{Event}
use Rattle.event_queue.specs.EventMap.{Counts, EventMap, as_ignored, event_at, marked_slot}
use Rattle.walk_rules.specs.declared.walk.Walk.{Walk}
use Rattle.walk_rules.specs.Scene.{Group, no_group}
use Rattle.walk_rules.specs.Stages.{forget, left_by}
use Rattle.core_world.specs.World.{CpuRecord, World, group_of, moved}

-- a place of a list after a write of one
pub set_cases : {A : Type 0} (xs : List A) (i : ℕ) (y d : A) (k : ℕ) →
    ((k ≡ i) × (get_or (set xs i y) k d ≡ y)) ⊎ (get_or (set xs i y) k d ≡ get_or xs k d)
set_cases [] i y d k = inr refl
set_cases (x ∷ xs) zero y d zero = inl (refl, refl)
set_cases (x ∷ xs) zero y d (suc k) = inr refl
set_cases (x ∷ xs) (suc i) y d zero = inr refl
set_cases (x ∷ xs) (suc i) y d (suc k) =
    elim (set_cases xs i y d k) [ inl p ↦ inl (ap suc p.0, p.1) | inr q ↦ inr q ]

pub group_cases : (w : World) (g : ℕ) (x : Group) (c : ℕ) (y : CpuRecord) (r : Bool) (h : ℕ) →
    ((h ≡ g) × (group_of (moved w g x c y r) h ≡ x))
    ⊎ (group_of (moved w g x c y r) h ≡ group_of w h)
group_cases w g x c y r h = set_cases w.groups g x no_group h

pub slot_cases : (events : EventMap) (k : ℕ) (m : Option Event) (j : ℕ) →
    ((j ≡ k) × (event_at (slice_set events k m) j ≡ m))
    ⊎ (event_at (slice_set events k m) j ≡ event_at events j)
slot_cases events k m j = set_cases events k m None j

-- an event that was marked
marked_of : (m : Option Event) (e : Event) → option_map as_ignored m ≡ Some e →
    (f : Event) × (m ≡ Some f) × (as_ignored f ≡ e)
marked_of None e is = absurd (none-some e is)
marked_of (Some f) e is = (f, refl, same_Some _ _ is)

-- marking keeps each event's time, and those that count after it stood there before
pub marked_expiry : (events : EventMap) (k j : ℕ) (e : Event) →
    event_at (slice_set events k (marked_slot events k)) j ≡ Some e →
    (f : Event) × (event_at events j ≡ Some f) × (f.expiry ≡ e.expiry)
marked_expiry events k j e is = elim (slot_cases events k (marked_slot events k) j) [
  | inl p ↦
      (let f = marked_of (event_at events k) e (sym p.1 ∙ is) in
      (f.0, ap (event_at events) p.0 ∙ f.1, ap (λ (z : Event). z.expiry) f.2))
  | inr same ↦ (e, sym same ∙ is, refl)
]

pub marked_counts : (events : EventMap) (k j : ℕ) (e : Event) →
    event_at (slice_set events k (marked_slot events k)) j ≡ Some e → Counts e →
    event_at events j ≡ Some e
marked_counts events k j e is counts = elim (slot_cases events k (marked_slot events k) j) [
  | inl p ↦
      (let f = marked_of (event_at events k) e (sym p.1 ∙ is) in
      absurd (true≢false (ap (λ (z : Event). z.ignored) f.2 ∙ counts)))
  | inr same ↦ sym same ∙ is
]

-- a walk that is there after a step of another, and what it was before
pub found_in : (a b : Option Walk) (k : Walk) → option_map forget a ≡ option_map forget b →
    a ≡ Some k → (j : Walk) × (b ≡ Some j) × (forget j ≡ forget k)
found_in a None k same is = absurd (none-some (forget k) (sym same ∙ ap (option_map forget) is))
found_in a (Some j) k same is = (j, refl, same_Some _ _ (sym same ∙ ap (option_map forget) is))

-- a walk that another sees
pub seen_in : (m : Option Walk) (k : Walk) → option_map forget m ≡ Some k →
    (j : Walk) × (m ≡ Some j) × (forget j ≡ k)
seen_in None k e = absurd (none-some k e)
seen_in (Some j) k e = (j, refl, same_Some _ _ e)

pub left_events : (on : Bool) (x : Group) (k : ℕ) → (left_by on x k).events ≡ x.events
left_events true x k = refl
left_events false x k = refl
