-- for crates above: a queue with one event written, and the first event so far
use Rattle.std.proofs.Common.{◌≡◌, ◌≢◌, inl, inr, ℕ, zero, suc, ◌+◌, ◌<◌, ◌≤◌, Bool, true, false, true≢false, nat_lt, [], ◌∷◌, length, Option, Some, None, refl, sym, ap, ◌∙◌, subst, arith}
use Rattle.std.specs.Prelude.{slice_set, if◌then◌else◌}
use Rattle.std.specs.Option.{option_map}
use Rattle.std.proofs.lemmas.Bool.{cases_eq}
use Rattle.std.proofs.lemmas.Bool.Decides.{nat_tests}
use Rattle.std.proofs.lemmas.List.{get_or-set_same, get_or-set_other}
use Rattle.std.proofs.lemmas.Option.{none-some, same_Some}
use Rattle.event_queue.specs.declared.event.Event.{Event}
use Rattle.event_queue.specs.EventMap.{Counts, EventMap, as_ignored, event_at, marked_slot}
use Rattle.walk_rules.specs.Queues.{FirstBelow, NoLater}
use Rattle.walk_rules.specs.Stages.{best_event, sooner_event}

-- what stands where an event was written is that event
written_at : (es : EventMap) (k : ℕ) (v : Option Event) (e : Event) → event_at (slice_set es k v) k ≡ Some e → v ≡ Some e
written_at [] k v e there = absurd (none-some e there)
written_at (y ∷ es) zero v e there = there
written_at (y ∷ es) (suc k) v e there = written_at es k v e there

pub slot_else : (es : EventMap) (k i : ℕ) (v : Option Event) → i ≢ k → event_at (slice_set es k v) i ≡ event_at es i
slot_else es k i v ne = get_or-set_other es k i v None ne

pub slot_same : (es : EventMap) (k : ℕ) (v : Option Event) → k < length es → event_at (slice_set es k v) k ≡ v
slot_same es k v low = get_or-set_same es k v None low

ignored_never : (m : Option Event) (e : Event) → option_map as_ignored m ≡ Some e → Counts e → ⊥
ignored_never None e is counts = none-some e is
ignored_never (Some f) e is counts = true≢false (ap (λ (z : Event). z.ignored) (same_Some _ _ is) ∙ counts)

-- an event that counts after another was marked as ignored is another's, and was there
pub marked_was : (es : EventMap) (k i : ℕ) (e : Event) → event_at (slice_set es k (marked_slot es k)) i ≡ Some e → Counts e → (i ≢ k) × (event_at es i ≡ Some e)
marked_was es k i e there counts = elim (cases_eq i k) [
  | inl same ↦ absurd (ignored_never (event_at es k) e (written_at es k (marked_slot es k) e (subst (λ n. event_at (slice_set es k (marked_slot es k)) n ≡ Some e) same there)) counts)
  | inr ne ↦ (ne, sym (slot_else es k i (marked_slot es k) ne) ∙ there)
]

-- THE FIRST EVENT SO FAR
pub first_none : (es : EventMap) (best : Option Event) → FirstBelow es 0 best
first_none es best k e low there counts = absurd (omega arith)

sooner_of : (ignored sooner : Bool) (b e : Event) (time : ℕ) → (sooner ≡ true → e.expiry < b.expiry) → b.expiry ≤ time
    → NoLater (if ignored then Some b else (if sooner then Some e else Some b)) time
sooner_of true sooner b e time less h = h
sooner_of false true b e time less h = omega (arith, less refl)
sooner_of false false b e time less h = h

less_of : (m n : ℕ) → nat_lt m n ≡ true → m < n
less_of m n e = grind (arith, nat_tests)

not_less_of : (m n : ℕ) → nat_lt m n ≡ false → n ≤ m
not_less_of m n e = grind (arith, nat_tests)

sooner_stays : (best m : Option Event) (time : ℕ) → NoLater best time → NoLater (sooner_event best m) time
sooner_stays None m time h = absurd h
sooner_stays (Some b) None time h = h
sooner_stays (Some b) (Some e) time h = sooner_of e.ignored (nat_lt e.expiry b.expiry) b e time (λ q. less_of e.expiry b.expiry q) h

new_none : (ignored : Bool) (e : Event) → ignored ≡ false → NoLater (if ignored then None else Some e) e.expiry
new_none true e counts = absurd (true≢false counts)
new_none false e counts = omega arith

new_some : (ignored sooner : Bool) (b e : Event) → ignored ≡ false → (sooner ≡ false → b.expiry ≤ e.expiry)
    → NoLater (if ignored then Some b else (if sooner then Some e else Some b)) e.expiry
new_some true sooner b e counts not_less = absurd (true≢false counts)
new_some false true b e counts not_less = omega arith
new_some false false b e counts not_less = not_less refl

sooner_new : (best : Option Event) (e : Event) → Counts e → NoLater (sooner_event best (Some e)) e.expiry
sooner_new None e counts = new_none e.ignored e counts
sooner_new (Some b) e counts = new_some e.ignored (nat_lt e.expiry b.expiry) b e counts (λ q. not_less_of e.expiry b.expiry q)

pub first_more : (es : EventMap) (j : ℕ) (best : Option Event) → FirstBelow es j best → FirstBelow es (j + 1) (sooner_event best (event_at es j))
first_more es j best f k e low there counts = elim (cases_eq k j) [
  | inl same ↦ subst (λ m. NoLater (sooner_event best m) e.expiry) (sym there ∙ ap (event_at es) same) (sooner_new best e counts)
  | inr ne ↦ sooner_stays best (event_at es j) e.expiry (f k e (omega (arith, ne)) there counts)
]

-- what was no later is told as it is, and counts
pub record IsStored (m : Option Event) (time : ℕ) : Type 0 where
  pub event : Event
  pub stored : m ≡ Some event
  pub counts : Counts event
  pub in_time : event.expiry ≤ time

pub best_stored : (best : Option Event) (time : ℕ) → NoLater best time → IsStored (best_event best) time
best_stored None time h = absurd h
best_stored (Some b) time h = record { event = record b { ignored = false }; stored = refl; counts = refl; in_time = h }
