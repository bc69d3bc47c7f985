-- the search for the first event that fits
use Rattle.std.proofs.Common.{◌≡◌, ℕ, ◌<◌, length, IfSome, IfNone, inl, inr, Option, Some, None, sym, ◌∙◌, arith}
use Rattle.std.proofs.lemmas.Bool.{cases_lt}
use Rattle.std.proofs.lemmas.Option.{none-some}
use Rattle.std.proofs.lemmas.List.{get_or_past}
use Rattle.event_queue.specs.declared.event.Event.{Event}
use Rattle.event_queue.specs.EventMap.{EventMap, event_at, Precedes, IsFirst, NoneFits}

-- e, of child k, goes before an event of child j, where that event fits
abbrev pub Beats : (Event → Type 0) → EventMap → ℕ → Event → ℕ → Type 0
Beats Fits events k e j = (f : Event) → event_at events j ≡ Some f → Fits f → Precedes k e j f

-- the first event of the children below n that fits, or none where none of them has one
abbrev pub FirstBelow : (Event → Type 0) → EventMap → ℕ → Option (ℕ × Event) → Type 0
FirstBelow Fits events n None = (k : ℕ) (e : Event) → k < n → event_at events k ≡ Some e → Fits e → ⊥
FirstBelow Fits events n (Some f) =
    (f.0 < n) × (event_at events f.0 ≡ Some f.1) × Fits f.1 × ((j : ℕ) → j < n → Beats Fits events f.0 f.1 j)

-- only a child below 8 has an event
below_eight : (events : EventMap) (k : ℕ) (e : Event) → length events ≡ 8 → event_at events k ≡ Some e → k < 8
below_eight events k e eight there = elim (cases_lt k 8) [
  | inl low ↦ low
  | inr high ↦ absurd (none-some e (sym (get_or_past events k None (omega arith)) ∙ there))
]

-- after the last child the search has what was looked for
pub found : (Fits : Event → Type 0) (events : EventMap) (best : Option (ℕ × Event)) → length events ≡ 8 → FirstBelow Fits events 8 best → IfSome best (λ f. IsFirst Fits events f.0 f.1)
found Fits events None eight first = tt
found Fits events (Some f) eight first = record {
  there = first.1;
  fits = first.2;
  first = λ j g there fits. first.3 j (below_eight events j g eight there) g there fits;
}

-- or it has nothing, where there is nothing
pub none : (Fits : Event → Type 0) (events : EventMap) (best : Option (ℕ × Event)) → length events ≡ 8 → FirstBelow Fits events 8 best → IfNone best (NoneFits Fits events)
none Fits events None eight first = λ k e there fits. first k e (below_eight events k e eight there) there fits
none Fits events (Some f) eight first = tt
