-- a part after a step that writes an entry: its bytes and those of the pass that is brought are what
-- the seat says
use Rattle.std.proofs.Common.{◌≡◌, ◌<◌, ℕ, List, [], ◌∷◌, ◌++◌, length, Option, Some, None, refl}
use Rattle.std.proofs.Common.{sym, ap, ◌∙◌, subst}
use Rattle.std.specs.Prelude.{slice_get}
use Rattle.atomic_table.specs.Seated.{TableId}
use Rattle.event_queue.specs.declared.event.Event.{Event}
use Rattle.cpu_bases.specs.declared.entry.Entry.{Entry}
use Rattle.cpu_bases.specs.CpuBases.{CpuBases, Room}
use Rattle.core_world.specs.World.{World}
use Rattle.shared_rule.specs.core_state.Status.{CpuStatus}
use Rattle.shared_rule.specs.declared.parts.BoxView.{BoxView}
use Rattle.shared_rule.specs.declared.parts.Looked.{Looked}
use Rattle.shared_rule.specs.declared.parts.PassView.{PassView}
use Rattle.shared_rule.specs.Rule.{Me, seat_of}
use Rattle.shared_rule.specs.Plays.{Sound}
use Rattle.shared_rule.specs.Shows.{receipt_of}
use Rattle.shared_rule.specs.Timers.{noted_at, with_box_bases}
use Rattle.shared_rule.proofs.Fronts.{get_end}
use Rattle.shared_rule.specs.declared.box_part.Guest.{Guest}
use Rattle.shared_rule.specs.Parts.{HeldPart, Hosts, IsGuest, PartHolds, box_held, guest_room}
use Rattle.shared_rule.specs.Parts.{looked_of}
use Rattle.shared_rule.proofs.Holding.{holds}
use Rattle.shared_timers.specs.Entries.{on_both_of, with_receipt}

-- a part, of its bytes and its seat
abbrev pub shown : World → (cpu : ℕ) → CpuStatus → CpuBases → Option Event → (read : ℕ)
    → Looked → List PassView → Room → ℕ → HeldPart
shown o cpu status bases leaf read looked ps room capacity = record {
  box = box_held o cpu status bases leaf read looked;
  brought = ps;
  room = room;
  receipts_room = capacity;
}

-- the first of some passes
abbrev first_or : PassView → List PassView → PassView
first_or d [] = d
first_or d (p ∷ ps) = p

-- the bytes are those of the one pass that is brought
pub guest_of : (guest : Guest) (ps : List PassView) (p : PassView) → Hosts (Some guest) ps
    → ps ≡ p ∷ [] → IsGuest guest p
guest_of guest ps p hosts is =
    subst (IsGuest guest) (ap (first_or p) (sym hosts.1 ∙ is)) hosts.2

-- there is room in the bytes for one more receipt, as there was in the part
pub note_room : (held : Option Guest) (guest : Guest) (ps : List PassView) (p : PassView)
    → held ≡ Some guest → Hosts held ps → ps ≡ p ∷ [] → length p.receipts < guest_room held
    → length guest.receipts.receipts < guest.receipts.capacity
note_room held guest ps p there hosts one low =
    let bytes = guest_of guest ps p (subst (λ (z : Option Guest). Hosts z ps) there hosts) one in
    subst (λ n. n < guest.receipts.capacity) (ap length bytes.receipts)
    (subst (λ (z : Option Guest). length p.receipts < guest_room z) there low)

-- a part with a pass has bytes
pub never_none : (held : Option Guest) (ps : List PassView) (p : PassView) → held ≡ None
    → Hosts held ps → ps ≡ p ∷ [] → ⊥
never_none held ps p none hosts one =
    let empty : ps ≡ [] = subst (λ (z : Option Guest). Hosts z ps) none hosts in cc

-- bytes with one more receipt are those of the pass with it
pub kept : (name table : TableId) (o : World) (cpu : ℕ) (status : CpuStatus)
    (bases new : CpuBases) (leaf : Option Event) (read : ℕ) (looked : Looked) (e : Entry)
    (p : PassView) (guest : Guest) (m : Me) → table ≡ name
    → m ≡ seat_of (with_box_bases (box_held o cpu status bases leaf read looked) new ∷ [])
    (noted_at (box_held o cpu status bases leaf read looked) e p ∷ [])
    → Sound m → IsGuest guest p
    → PartHolds name table (box_held o cpu status new leaf read (looked_of m.0.boxes))
    (Some (with_receipt (receipt_of cpu (length bases.journal) e) guest)) m
kept name table o cpu status bases new leaf read looked e p guest m named is sound bytes =
    let r = receipt_of cpu (length bases.journal) e in
    let q : PassView = noted_at (box_held o cpu status bases leaf read looked) e p in
    holds name table o cpu status new leaf read looked m (Some (with_receipt r guest)) (q ∷ [])
    named is sound (
      q,
      refl,
      record {
        cpu = bytes.cpu;
        walks = bytes.walks;
        receipts = ap (λ rs. rs ++ r ∷ []) bytes.receipts;
      },
    )

-- the same, for bases and bytes that come to be so
pub kept_by : (name table : TableId) (o : World) (cpu : ℕ) (status : CpuStatus)
    (bases new : CpuBases) (leaf : Option Event) (read : ℕ) (looked : Looked) (e : Entry)
    (p : PassView) (guest : Guest) (m : Me) → table ≡ name
    → m ≡ seat_of (with_box_bases (box_held o cpu status bases leaf read looked) new ∷ [])
    (noted_at (box_held o cpu status bases leaf read looked) e p ∷ [])
    → Sound m → IsGuest guest p → (after : CpuBases) → after ≡ new → (bytes : Guest)
    → bytes ≡ with_receipt (receipt_of cpu (length bases.journal) e) guest
    → PartHolds name table (box_held o cpu status after leaf read (looked_of m.0.boxes))
    (Some bytes) m
kept_by name table o cpu status bases new leaf read looked e p guest m named is sound fits after so
    bytes noted =
    subst (λ (z : CpuBases × Guest). PartHolds name table
    (box_held o cpu status z.0 leaf read (looked_of m.0.boxes)) (Some z.1) m)
    {x = (new, with_receipt (receipt_of cpu (length bases.journal) e) guest)}
    (λ i. (sym so i, sym noted i))
    (kept name table o cpu status bases new leaf read looked e p guest m named is sound fits)

-- and the part is then the one that was, with box and pass changed so
pub shown_by : (o : World) (cpu : ℕ) (status : CpuStatus) (bases new : CpuBases)
    (leaf : Option Event) (read : ℕ) (looked : Looked) (p : PassView) (ps : List PassView)
    (room : Room) (capacity : ℕ) (m : Me) (f : BoxView → PassView → BoxView)
    (h : BoxView → PassView → PassView) → ps ≡ p ∷ []
    → m ≡ seat_of (f (box_held o cpu status bases leaf read looked) p ∷ [])
    (h (box_held o cpu status bases leaf read looked) p ∷ [])
    → f (box_held o cpu status bases leaf read looked) p
    ≡ with_box_bases (box_held o cpu status bases leaf read looked) new
    → (after : CpuBases) → after ≡ new → (left : Room) → left ≡ room → (bytes : ℕ)
    → bytes ≡ capacity
    → shown o cpu status after leaf read (looked_of m.0.boxes) m.0.passes left bytes
    ≡ on_both_of f h (shown o cpu status bases leaf read looked ps room capacity)
shown_by o cpu status bases new leaf read looked p ps room capacity m f h one is box after so left
    same bytes full =
    let b : BoxView = box_held o cpu status bases leaf read looked in
    (λ i. shown o cpu status (so i) leaf read
    (looked_of ((is ∙ ap (λ (x : BoxView). seat_of (x ∷ []) (h b p ∷ [])) box) i).0.boxes)
    (is i).0.passes (same i) (full i))
    ∙ ((λ i. record {
      box = sym box i;
      brought = h b p ∷ [];
      room = room;
      receipts_room = capacity;
    })
    ∙ ap (λ qs. on_both_of f h (shown o cpu status bases leaf read looked qs room capacity))
    (sym one))

-- a step of a seat with the box of a part and one pass: it changes both, the box in its bases
module _ (name table : TableId) (o : World) (cpu : ℕ) (status : CpuStatus)
    (bases new : CpuBases) (leaf : Option Event) (read : ℕ) (looked : Looked) (p : PassView)
    (ps : List PassView) (m : Me) (f : BoxView → PassView → BoxView)
    (h : BoxView → PassView → PassView) (one : ps ≡ p ∷ [])
    (is : m ≡ seat_of (f (box_held o cpu status bases leaf read looked) p ∷ [])
    (h (box_held o cpu status bases leaf read looked) p ∷ []))
    (box : f (box_held o cpu status bases leaf read looked) p
    ≡ with_box_bases (box_held o cpu status bases leaf read looked) new) where
  -- and the pass notes an entry
  pub noted_part : (e : Entry) (guest : Guest) → table ≡ name → Sound m → Hosts (Some guest) ps
      → h (box_held o cpu status bases leaf read looked) p
      ≡ noted_at (box_held o cpu status bases leaf read looked) e p
      → (after : CpuBases) → after ≡ new → (bytes : Guest)
      → bytes ≡ with_receipt (receipt_of cpu (length bases.journal) e) guest
      → PartHolds name table (box_held o cpu status after leaf read (looked_of m.0.boxes))
      (Some bytes) m
  noted_part e guest named sound hosts pass after so bytes noted =
      kept_by name table o cpu status bases new leaf read looked e p guest m named
      (is ∙ (λ i. seat_of (box i ∷ []) (pass i ∷ []))) sound (guest_of guest ps p hosts one)
      after so bytes noted

  pub shown_part : (after : CpuBases) → after ≡ new → (room left : Room) → left ≡ room
      → (capacity full : ℕ) → full ≡ capacity
      → shown o cpu status after leaf read (looked_of m.0.boxes) m.0.passes left full
      ≡ on_both_of f h (shown o cpu status bases leaf read looked ps room capacity)
  shown_part after so room left same capacity full enough =
      shown_by o cpu status bases new leaf read looked p ps room capacity m f h one is box
      after so left same full enough

-- the entry that was written stands at the end of the journal as it was
pub entry_there : (old new : List Entry) (e : Entry) (place : ℕ) → new ≡ old ++ e ∷ []
    → place ≡ length old → slice_get new place ≡ Some e
entry_there old new e place is at =
    ap (λ xs. slice_get xs place) is ∙ (ap (slice_get (old ++ e ∷ [])) at ∙ get_end old e)
