-- what the steps that queue a timer and take one out tell the seat that makes them
use Rattle.std.specs.Prelude.{◌≡◌, ℕ, Bool, true, false, [], ◌∷◌, ◌++◌, ◌==◌, length}
use Rattle.std.specs.Prelude.{Option, Some, None}
use mathlib.Core.Option as announced
use Rattle.tm_base.specs.declared.names.Class.{Class}
use Rattle.wheel_core.specs.declared.item.Item.{Item}
use Rattle.wheel_core.specs.PlainBase.{next_out}
use Rattle.cpu_bases.specs.declared.entry.Act.TheVariants as acts
use Rattle.cpu_bases.specs.declared.entry.Entry.{Entry}
use Rattle.cpu_bases.specs.CpuBases.{CpuBases, armed, base_of, cancelled, entry_of, found_in}
use Rattle.cpu_bases.specs.CpuBases.{handed_out, item_queued}
use Rattle.shared_rule.specs.declared.parts.BoxView.{BoxView}
use Rattle.shared_rule.specs.declared.parts.PassView.{PassView}
use Rattle.shared_rule.specs.declared.parts.Said.{Said}
use Rattle.shared_rule.specs.declared.parts.Said.TheVariants as saids
use Rattle.shared_rule.specs.Shows.{receipt_of}
use Rattle.shared_rule.specs.Rule.{Me, Step}
use Rattle.shared_rule.specs.Plays.{NamesCpu, Sound, on_pass, seen_pass}
use Rattle.shared_rule.specs.Turns.{on_pair}

-- VIEWS AFTER A STEP: the box has other bases
abbrev pub with_box_bases : BoxView → CpuBases → BoxView
with_box_bases b bases = record b { own = record b.own { bases = bases } }

-- a pass has the receipt of the entry that comes next in the journal of a box
abbrev pub noted_at : BoxView → Entry → PassView → PassView
noted_at b e p = record p {
  receipts = p.receipts ++ receipt_of b.cpu (length b.own.bases.journal) e ∷ [];
}

-- CANCEL: a timer goes out of the bases of a box, by the CPU of a pass
abbrev pub cancelled_box : (timer line : ℕ) → BoxView → PassView → BoxView
cancelled_box timer line b p =
    with_box_bases b
    (cancelled b.opening.clock timer line (record { 0 = p.cpu }) b.own.bases)

-- the pass has the receipt, where the timer was found
abbrev pub cancel_noted : (line : ℕ) → Option (Class × Item) → BoxView → PassView → PassView
cancel_noted line None b p = p
cancel_noted line (Some (class, item)) b p =
    noted_at b (entry_of acts.Cancelled line b.opening.clock class item (record { 0 = p.cpu })) p

-- the pass by whose CPU it went
abbrev pub cancelled_pass : (timer line : ℕ) → BoxView → PassView → PassView
cancelled_pass timer line b p = cancel_noted line (found_in timer b.own.bases) b p

-- what an exchange that says so tells: the timer went
abbrev pub CancelTells : announced.Option Said → Me → Me → Type 0
CancelTells announced.none v w = ⊥
CancelTells (announced.some (saids.Arm timer class expires job arg line)) v w = ⊥
CancelTells (announced.some (saids.Cancel timer line)) v w =
    w ≡ on_pair (cancelled_box timer.0 line) (cancelled_pass timer.0 line) v
CancelTells (announced.some (saids.Hand class)) v w = ⊥

-- the exchange of the word of a timer by which it is cancelled, which finds where it was queued
abbrev pub Cancels : Step → Me → ℕ → Me → Type 0
Cancels t v found w = (CancelTells t.said v w × (found ≡ t.first)) × Sound w

-- HAND: the next due timer of a class goes out of the bases of a box, by the CPU of a pass
abbrev pub handed_box : Class → BoxView → PassView → BoxView
handed_box class b p =
    with_box_bases b (handed_out b.opening.clock class (record { 0 = p.cpu }) b.own.bases)

-- the pass has the receipt, where one was due
abbrev pub hand_noted : Class → Option Item → BoxView → PassView → PassView
hand_noted class None b p = p
hand_noted class (Some item) b p =
    noted_at b (entry_of acts.Handed 0 b.opening.clock class item (record { 0 = p.cpu })) p

-- the pass whose CPU runs the timer
abbrev pub handed_pass : Class → BoxView → PassView → PassView
handed_pass class b p =
    hand_noted class (next_out b.opening.clock (base_of class b.own.bases)) b p

-- what an exchange that says so tells: the timer went out
abbrev pub HandTells : announced.Option Said → Me → Me → Type 0
HandTells announced.none v w = ⊥
HandTells (announced.some (saids.Arm timer class expires job arg line)) v w = ⊥
HandTells (announced.some (saids.Cancel timer line)) v w = ⊥
HandTells (announced.some (saids.Hand class)) v w =
    w ≡ on_pair (handed_box class) (handed_pass class) v

-- the exchange of the word of a timer by which it goes out to be run, which finds where it was
-- queued
abbrev pub Hands : Step → Me → ℕ → Me → Type 0
Hands t v found w = (HandTells t.said v w × (found ≡ t.first)) × Sound w

-- ARM: a timer comes to the base of a class in a box, by the CPU of a pass
abbrev pub armed_box : Class → (timer expires job arg line : ℕ) → BoxView → PassView → BoxView
armed_box class timer expires job arg line b p =
    with_box_bases b
    (armed b.opening.clock class timer expires job arg line (record { 0 = p.cpu }) b.own.bases)

-- the pass has the receipt
abbrev pub armed_pass : Class → (timer expires job arg line : ℕ) → BoxView → PassView → PassView
armed_pass class timer expires job arg line b p =
    noted_at b
    (entry_of acts.Armed line b.opening.clock class
    (item_queued b.opening.clock class timer expires job arg b.own.bases)
    (record { 0 = p.cpu })) p

-- what an exchange that says so tells, of a word that is found as it was expected or not: the timer
-- is queued, or the pass remembers where it was
abbrev pub ArmTells : announced.Option Said → (hit : Bool) → (word found : ℕ) → Me → Me → Type 0
ArmTells announced.none hit word found v w = ⊥
ArmTells (announced.some (saids.Arm timer class expires job arg line)) true word found v w =
    w
    ≡ on_pair (armed_box class timer.0 expires job arg line)
    (armed_pass class timer.0 expires job arg line) v
ArmTells (announced.some (saids.Arm timer class expires job arg line)) false word found v w =
    (w ≡ on_pass (seen_pass word found) v) × NamesCpu v.0.passes found
ArmTells (announced.some (saids.Cancel timer line)) hit word found v w = ⊥
ArmTells (announced.some (saids.Hand class)) hit word found v w = ⊥

-- the exchange of the word of a timer by which it is armed, unless it is queued
abbrev pub Arms : Step → Me → ℕ → Me → Type 0
Arms t v found w = ArmTells t.said (found == t.first) t.word found v w × Sound w
