-- the part of a CPU as its holder sees it
use Rattle.std.specs.Prelude.{◌≡◌, ℕ, List, [], ◌∷◌, Option, Some, None}
use Rattle.atomic_table.specs.Seated.{TableId}
use Rattle.event_queue.specs.declared.event.Event.{Event}
use Rattle.cpu_bases.specs.CpuBases.{CpuBases, Room}
use Rattle.core_world.specs.World.{World}
use Rattle.core_state.specs.Status.{CpuStatus}
use Rattle.core_state.specs.Status.{record_of}
use Rattle.shared_rule.specs.declared.parts.BoxView.{BoxView}
use Rattle.shared_rule.specs.declared.parts.PassView.{PassView}
use Rattle.shared_rule.specs.declared.parts.Looked.{Looked}
use Rattle.shared_rule.specs.Whole.{no_looks}
use Rattle.shared_rule.specs.Rule.{Each, Me, Step, renewed, seat_of}
use Rattle.shared_rule.specs.Plays.{Agree, PartFits, Sound}
use Rattle.shared_rule.specs.Passes.{HeldPass, passes_of, seated_of}
use Rattle.shared_rule.specs.declared.box_part.Guest.{Guest}

-- a part: what it knows of its CPU, the passes that are brought, and for how much more there is
-- memory: timers and entries of the journal, and receipts of the pass
pub record HeldPart : Type 0 where
  pub box : BoxView
  pub brought : List PassView
  pub room : Room
  pub receipts_room : ℕ

-- what the walk of the first box has found out
abbrev pub looked_of : List BoxView → Looked
looked_of [] = no_looks
looked_of (b ∷ bs) = b.looked

-- the box part that these bytes are, and what its seat alone remembers
abbrev pub box_held : World → (cpu : ℕ) → CpuStatus → CpuBases → (leaf : Option Event)
    → (read : ℕ) → Looked → BoxView
box_held o cpu status bases leaf read looked = record {
  opening = o;
  cpu = cpu;
  own = record_of status bases;
  leaf = leaf;
  read = read;
  looked = looked;
}

-- the bytes of a pass are those of the part that is brought
pub record IsGuest (guest : Guest) (p : PassView) : Type 0 where
  pub cpu : p.cpu ≡ guest.cpu.0
  pub walks : p.walks ≡ guest.walks
  pub receipts : p.receipts ≡ guest.receipts.receipts

-- at most one pass is brought, and these are its bytes
abbrev pub Hosts : Option Guest → List PassView → Type 0
Hosts None ps = ps ≡ []
Hosts (Some guest) ps = (p : PassView) × (ps ≡ p ∷ []) × IsGuest guest p

-- what a part keeps: its seat is of the run and has exactly this box and the passes brought, the
-- box fits, and agrees with each pass
pub record PartHolds (name table : TableId) (b : BoxView) (guest : Option Guest) (me : Me) : Type 0
  where
    pub named : table ≡ name
    pub seat : me ≡ seat_of (b ∷ []) me.0.passes
    pub fits : PartFits b
    pub agrees : Each (Agree b) me.0.passes
    pub hosts : Hosts guest me.0.passes

-- for how many receipts there is memory with the pass that is brought
abbrev pub guest_room : Option Guest → ℕ
guest_room None = 0
guest_room (Some guest) = guest.receipts.capacity

-- a load of a word that changes nothing, and tells that the parts of the seat fit and agree
abbrev pub Meets : Step → Me → ℕ → Me → Type 0
Meets t v found w = (w ≡ v) × Sound w

-- BRING: a part with a pass that is brought into it
abbrev pub with_guest : HeldPart → HeldPass → HeldPart
with_guest part pass =
    record part { brought = passes_of pass.seated; receipts_room = pass.room }

-- and back: a part from which the pass has gone
abbrev pub without_guest : HeldPart → HeldPart
without_guest part = record part { brought = []; receipts_room = 0 }

-- the pass that has gone from a part, with the journal of the part's CPU where that is its own
abbrev pub pass_parted : (table : TableId) → (cpu : ℕ) → HeldPart → HeldPass
pass_parted table cpu part = record {
  cpu = cpu;
  room = part.receipts_room;
  seated = seated_of table (renewed (part.box ∷ []) part.brought);
}

-- a pass of this CPU is brought
abbrev pub HasGuest : (cpu : ℕ) → HeldPart → Type 0
HasGuest cpu part = (p : PassView) × (part.brought ≡ p ∷ []) × (p.cpu ≡ cpu)
