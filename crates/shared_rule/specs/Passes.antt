-- a pass as its holder sees it
use Rattle.std.specs.Prelude.{◌≡◌, ◌+◌, ℕ, List, [], ◌∷◌, Option, Some, None, length, max}
use Rattle.std.specs.Prelude.{option_map}
use Rattle.atomic_table.specs.Seated.{TableId}
use Rattle.cpu_bases.specs.declared.entry.Entry.{Entry}
use Rattle.shared_rule.specs.declared.parts.PassView.{PassView}
use Rattle.shared_rule.specs.declared.parts.Receipt.{Receipt}
use Rattle.shared_rule.specs.Rule.{Me, seat_of}

-- the seat of a pass: its table, and what it knows
pub record Seated : Type 0 where
  pub table : TableId
  pub pass : PassView

-- a pass: its CPU, how many receipts there is memory for, and its seat, which it has not while it
-- is brought into a part
pub record HeldPass : Type 0 where
  pub cpu : ℕ
  pub room : ℕ
  pub seated : Option Seated

-- the seat that has these pass parts
abbrev pub seated_of : TableId → List PassView → Option Seated
seated_of table [] = None
seated_of table (p ∷ ps) = Some (record { table = table; pass = p })

-- a seat in a clause, by its table and what it has
abbrev pub seat_in : Option (TableId × Me) → Option Seated
seat_in None = None
seat_in (Some (table, me)) = seated_of table me.0.passes

-- a seat has a pass part alone, of this CPU, with so many walks begun and these receipts
pub record IsSeatOf (me : Me) (p : PassView) (cpu walks : ℕ) (receipts : List Receipt) : Type 0
  where
    pub alone : me ≡ seat_of [] (p ∷ [])
    pub cpu_is : p.cpu ≡ cpu
    pub walks_are : p.walks ≡ walks
    pub receipts_are : p.receipts ≡ receipts

-- a pass that is away from its seat has begun no walk and has no receipt
pub record IsAway (walks : ℕ) (receipts : List Receipt) : Type 0 where
  pub walks_are : walks ≡ 0
  pub receipts_are : receipts ≡ []

-- what a pass keeps: its bytes are those of its seat's part
abbrev pub PassHolds : Option (TableId × Me) → (cpu walks : ℕ) → List Receipt → Type 0
PassHolds None cpu walks receipts = IsAway walks receipts
PassHolds (Some (table, me)) cpu walks receipts =
    (p : PassView) × IsSeatOf me p cpu walks receipts

-- the pass is of a run, and this is what it knows
abbrev pub IsPassIn : TableId → HeldPass → PassView → Type 0
IsPassIn table held p = held.seated ≡ Some (record { table = table; pass = p })

-- the pass has a seat of this table
abbrev pub IsOfRun : TableId → HeldPass → Type 0
IsOfRun table held = (p : PassView) × IsPassIn table held p

-- how many walks were begun with a pass
abbrev pub walks_of : Option Seated → ℕ
walks_of None = 0
walks_of (Some s) = s.pass.walks

-- the receipts of a pass
abbrev pub receipts_of : Option Seated → List Receipt
receipts_of None = []
receipts_of (Some s) = s.pass.receipts

-- the pass parts of a seat
abbrev pub passes_of : Option Seated → List PassView
passes_of None = []
passes_of (Some s) = s.pass ∷ []

-- a pass whose seat and bytes are in a part
abbrev pub away : HeldPass → HeldPass
away held = record held { room = 0; seated = None }

-- a pass with memory for so many more receipts
abbrev pub with_receipts_room : (more : ℕ) → HeldPass → HeldPass
with_receipts_room more held =
    record held { room = max held.room (length (receipts_of held.seated) + more) }

-- what a pass knows, with this journal of its CPU
abbrev pub knowing : List Entry → PassView → PassView
knowing journal p = record p { journal = journal }

-- a pass after a change of what it knows
abbrev pub with_pass : (PassView → PassView) → HeldPass → HeldPass
with_pass f held = record held {
  seated = option_map (λ (s : Seated). record s { pass = f s.pass }) held.seated;
}
