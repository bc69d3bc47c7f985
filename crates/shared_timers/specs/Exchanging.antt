-- what is asked where a seat, with the part of a CPU and a pass, exchanges the word of a timer
use Rattle.std.specs.Prelude.{◌≡◌, ◌<◌, ℕ, [], ◌∷◌, Option, None, Some}
use Rattle.tm_base.specs.declared.names.Class.{Class}
use Rattle.tm_base.specs.declared.names.TimerId.{TimerId}
use Rattle.wheel_core.specs.declared.item.Item.{Item}
use Rattle.wheel_core.specs.PlainBase.{next_out}
use Rattle.cpu_bases.specs.CpuBases.{base_of}
use Rattle.core_world.specs.World.{World}
use Rattle.shared_words.specs.Layout.{index_of}
use Rattle.shared_rule.specs.declared.parts.BoxView.{BoxView}
use Rattle.shared_rule.specs.declared.parts.PassView.{PassView}
use Rattle.shared_rule.specs.Rule.{Me, seat_of}
use Rattle.shared_rule.specs.TimerLaws.{MayExchangeArm, MayExchangeCancel, MayExchangeHand}
use Rattle.shared_rule.specs.TurnLaws.{MayStoreTick}
use Rattle.shared_rule.specs.Whole.{layout_of, timer_at}
use Rattle.shared_timers.specs.declared.arming.Arming.{Arming}

-- where the word of a timer stands
abbrev pub timer_word : World → (timer : ℕ) → ℕ
timer_word o timer = index_of (layout_of o) (timer_at timer)

-- a seat that has the box of a CPU of the run and one pass, of which this holds
pub record IsPairOf (o : World) (Fits : BoxView → PassView → Type 0) (me : Me) (cpu : ℕ) : Type 0
  where
    pub box : BoxView
    pub pass : PassView
    pub seat : me ≡ seat_of (box ∷ []) (pass ∷ [])
    pub opening : box.opening ≡ o
    pub cpu_is : box.cpu ≡ cpu
    pub fits : Fits box pass

-- ASKED of a seat: it may try to arm a timer
abbrev pub MayTryArm : World → Me → (cpu : ℕ) → Arming → Type 0
MayTryArm o me cpu a =
    IsPairOf o (λ b p. MayExchangeArm o b a.class a.timer a.expires p) me cpu

-- a seat may cancel a timer
abbrev pub MayTakeOut : World → Me → (cpu : ℕ) → Class → TimerId → Type 0
MayTakeOut o me cpu class timer =
    IsPairOf o (λ b p. MayExchangeCancel o b class timer) me cpu

-- a seat may hand a timer out
abbrev pub MayTryHand : World → Me → (cpu : ℕ) → Class → TimerId → Type 0
MayTryHand o me cpu class timer =
    IsPairOf o
    (λ b p. (item : Item) × (item.id ≡ timer.0) × MayExchangeHand o b class item p) me cpu

-- a seat may count a base as drained
abbrev pub MayTryTick : World → Me → (cpu : ℕ) → Class → Type 0
MayTryTick o me cpu class = IsPairOf o (λ b p. MayStoreTick o b class p) me cpu

-- a seat may go on with a drain, of which this timer is next, or of which none is left
abbrev pub MayTryDrain : World → Me → (cpu : ℕ) → Class → Option TimerId → Type 0
MayTryDrain o me cpu class None = MayTryTick o me cpu class
MayTryDrain o me cpu class (Some timer) = MayTryHand o me cpu class timer

-- the next due timer of a class in the bases of a box
abbrev pub IsNext : World → BoxView → Class → Option TimerId → Type 0
IsNext o b class None = next_out o.clock (base_of class b.own.bases) ≡ None
IsNext o b class (Some timer) =
    (item : Item) × (item.id ≡ timer.0) × (item.id < o.timers)
    × (next_out o.clock (base_of class b.own.bases) ≡ Some item)
