-- a drain of the part of a CPU in which a pass is, timer by timer (no public clause cites it)
use Rattle.std.specs.Prelude.{◌≡◌, ℕ, suc, ◌+◌, ◌<◌, ◌≤◌, false, None, List, [], ◌∷◌, ◌++◌, All}
use Rattle.std.specs.Prelude.{Some, length, slice_get}
use Rattle.tm_base.specs.Classes.{same_class}
use Rattle.tm_base.specs.declared.names.Class.{Class}
use Rattle.wheel_core.specs.declared.item.Item.{Item}
use Rattle.wheel_core.specs.PlainBase.{NoneBehind, OneFewer}
use Rattle.cpu_bases.specs.CpuBases.{CpuBases, base_of}
use Rattle.core_world.specs.World.{World}
use Rattle.shared_timers.specs.shared_rule.declared.parts.PassView.{PassView}
use Rattle.shared_timers.specs.shared_rule.declared.parts.Receipt.{Receipt}
use Rattle.atomic_table.specs.Seated.{TableId}
use Rattle.shared_timers.specs.shared_rule.Parts.{HeldPart}
use Rattle.shared_timers.specs.shared_rule.Passes.{HeldPass}
use Rattle.shared_timers.specs.shared_rule.Shows.{BeginsWith}
use Rattle.shared_timers.specs.shared_rule.Turns.{MayRunOf}
use Rattle.shared_acts.specs.declared.runs.Ran.{Ran}
use Rattle.shared_acts.specs.Pieces.{HandsOutItems, IsHandOut, IsTick, IsTimerOfRun, Piece}

-- a pass with these receipts behind its own
abbrev pub with_receipts : List Receipt → PassView → PassView
with_receipts rs p = record p { receipts = p.receipts ++ rs }

-- a part with other bases, and with one pass
abbrev pub rebased : HeldPart → CpuBases → PassView → HeldPart
rebased part bases p = record part {
  box = record part.box { own = record part.box.own { bases = bases } };
  brought = p ∷ [];
}

-- what has to be known before: the pass is there and may run the timers, and there is room for an
-- entry, a receipt and a place in a list for each timer, and for the end
pub record MayHandEach (class : Class) (part : HeldPart) (places : ℕ) : Type 0 where
  pub pass : PassView
  pub brought : part.brought ≡ pass ∷ []
  pub free : part.box.own.walk ≡ None
  pub may_run : MayRunOf part.box class pass
  pub entries : length part.box.own.bases.journal
      + length (base_of class part.box.own.bases).items < part.room.entries
  pub receipts : length pass.receipts + length (base_of class part.box.own.bases).items
      < part.receipts_room
  pub listed : length (base_of class part.box.own.bases).items ≤ places

-- the bases after some of a drain: the journal goes on, and the other classes stay
pub record DrainsClass (class : Class) (old new : CpuBases) : Type 0 where
  pub journal : BeginsWith new.journal old.journal
  pub others : (other : Class) → same_class class other ≡ false →
      base_of other new ≡ base_of other old

-- the entries of receipts stand in the journal of a CPU's bases
abbrev pub ArePlaced : (home : ℕ) → CpuBases → List Receipt → Type 0
ArePlaced home bases receipts = (i : ℕ) (r : Receipt) → slice_get receipts i ≡ Some r →
    (r.cpu.0 ≡ home) × (r.place < length bases.journal)

-- ONE MORE went out: the timer is gone, and the pass that is there has the receipt
pub record HandsOne (o : World) (class : Class) (old new : HeldPart) (item : Item) : Type 0 where
  pub pass : PassView
  pub bases : CpuBases
  pub receipt : Receipt
  pub was : old.brought ≡ pass ∷ []
  pub part_is : new ≡ rebased old bases (with_receipts (receipt ∷ []) pass)
  pub drains : DrainsClass class old.box.own.bases bases
  pub hand : IsHandOut old.box.cpu pass.cpu class item receipt
  pub timer : IsTimerOfRun o item
  pub fewer : OneFewer (base_of class old.box.own.bases) (base_of class bases)
  pub written : length bases.journal ≡ suc (length old.box.own.bases.journal)
  pub at : receipt.place ≡ length old.box.own.bases.journal

-- NONE MORE: the base counts as drained, and nothing in it is behind its clock
pub record HandsNone (class : Class) (old new : HeldPart) : Type 0 where
  pub pass : PassView
  pub bases : CpuBases
  pub receipt : Receipt
  pub was : old.brought ≡ pass ∷ []
  pub part_is : new ≡ rebased old bases (with_receipts (receipt ∷ []) pass)
  pub drains : DrainsClass class old.box.own.bases bases
  pub tick : IsTick old.box.cpu pass.cpu class receipt
  pub written : length bases.journal ≡ suc (length old.box.own.bases.journal)
  pub at : receipt.place ≡ length old.box.own.bases.journal
  pub none_behind : NoneBehind (base_of class bases)

-- DRAINED, with the pass there: these went out in order, and the base counts as drained
pub record HandsEach (o : World) (class : Class) (p : PassView) (old new : HeldPart)
    (items : List Item) : Type 0 where
  pub receipts : List Receipt
  pub bases : CpuBases
  pub part_is : new ≡ rebased old bases (with_receipts receipts p)
  pub drains : DrainsClass class old.box.own.bases bases
  pub none_behind : NoneBehind (base_of class bases)
  pub placed : ArePlaced old.box.cpu bases receipts
  pub hands : HandsOutItems old.box.cpu p.cpu class items receipts
  pub timers : All (IsTimerOfRun o) items
  pub fewer : length items ≤ length (base_of class old.box.own.bases).items

-- HANDED OUT of an own base of the pass's CPU: the receipts, and room to tell the runs
pub record HasHanded (table : TableId) (o : World) (class : Class) (held after : HeldPass)
    (items : List Item) (capacity : ℕ) (told : List Ran) : Type 0 where
  pub receipts : List Receipt
  pub piece : Piece table held after receipts [] 0
  pub hands : HandsOutItems held.cpu held.cpu class items receipts
  pub timers : All (IsTimerOfRun o) items
  pub room : length told + length items ≤ capacity
