-- what a drain of a base makes, timer by timer, of the pass of the CPU that runs them
use Rattle.std.specs.Prelude.{◌≡◌, [], ◌∷◌, Option, None, Some}
use Rattle.tm_base.specs.declared.names.Class.{Class}
use Rattle.wheel_core.specs.declared.item.Item.{Item}
use Rattle.wheel_core.specs.PlainBase.{next_out}
use Rattle.cpu_bases.specs.CpuBases.{base_of}
use Rattle.shared_rule.specs.declared.parts.BoxView.{BoxView}
use Rattle.shared_rule.specs.declared.parts.PassView.{PassView}
use Rattle.shared_rule.specs.Timers.{hand_noted, handed_box}
use Rattle.shared_rule.specs.Turns.{MayRunOf, ticked_pass}
use Rattle.shared_rule.specs.Parts.{HeldPart}
use Rattle.shared_timers.specs.Entries.{HasEntryRoom, on_both_of}

-- the pass has the receipt of what went out, or of the base's being drained where none is due
abbrev pub out_noted : Class → Option Item → BoxView → PassView → PassView
out_noted class None b p = ticked_pass class b p
out_noted class (Some item) b p = hand_noted class (Some item) b p

-- the pass by whose CPU the drain goes on
abbrev pub drained_pass : Class → BoxView → PassView → PassView
drained_pass class b p =
    out_noted class (next_out b.opening.clock (base_of class b.own.bases)) b p

-- DRAIN: what has to be known of a part whose base of a class is drained, by the CPU of the pass
-- that is brought: it has no walk, the CPU may run its timers, and there is room for the entry and
-- the receipt
pub record MayDrain (part : HeldPart) (class : Class) : Type 0 where
  pub pass : PassView
  pub brought : part.brought ≡ pass ∷ []
  pub free : part.box.own.walk ≡ None
  pub may_run : MayRunOf part.box class pass
  pub entry : HasEntryRoom part pass

-- the timer is gone, or the base drained, and the pass has the receipt
abbrev pub drained_part : Class → HeldPart → HeldPart
drained_part class part = on_both_of (handed_box class) (drained_pass class) part
