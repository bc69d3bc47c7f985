-- what the rule says of the steps that queue a timer and take one out, as laws for crates above
use Rattle.std.specs.Prelude.{◌≡◌, ◌⊎◌, ℕ, ◌^◌, ◌<◌, ◌≤◌, ◌==◌, true, [], ◌∷◌, length}
use Rattle.std.specs.Prelude.{None, Some}
use mathlib.Core.Option.{some}
use prog.Atomic.{either}
use Rattle.atomic_table.specs.Table.{step}
use Rattle.tm_base.specs.declared.names.Class.{Class}
use Rattle.tm_base.specs.declared.names.TimerId.{TimerId}
use Rattle.wheel_core.specs.declared.item.Item.{Item}
use Rattle.wheel_core.specs.PlainBase.{NoneBehind, next_out}
use Rattle.cpu_bases.specs.CpuBases.{base_of, class_in}
use Rattle.core_world.specs.declared.step.Step.TheVariants as steps
use Rattle.core_world.specs.World.{World, is_active}
use Rattle.shared_words.specs.Layout.{index_of}
use Rattle.shared_words.specs.Words.{spot_word}
use Rattle.shared_rule.specs.declared.parts.BoxView.{BoxView}
use Rattle.shared_rule.specs.declared.parts.PassView.{PassView}
use Rattle.shared_rule.specs.declared.parts.Said.TheVariants as saids
use Rattle.shared_rule.specs.Whole.{layout_of, spot_at, timer_at}
use Rattle.shared_rule.specs.Rule.{seat_of}
use Rattle.shared_rule.specs.Timers.{Arms, Cancels, Hands}
use Rattle.shared_rule.specs.Turns.{MayRunOf}
use Rattle.shared_rule.specs.Laws.{Stays, where_made}

-- the word of a timer that is queued in the base of a class on a CPU
abbrev pub queued_word : (c : ℕ) → Class → ℕ
queued_word c class = spot_word (Some (spot_at c class))

-- what the exchange makes of the word of such a timer: it says that the timer is queued nowhere
abbrev pub unqueued : (c : ℕ) → Class → ℕ → ℕ
unqueued c class n = either (n == queued_word c class) 0 n

-- CANCEL: what has to be known where the CPU of a pass cancels a timer: it is queued on a CPU that
-- has no walk
pub record MayExchangeCancel (o : World) (b : BoxView) (class : Class) (timer : TimerId) : Type 0
  where
    pub cpu : b.cpu < length o.cpus
    pub known : timer.0 < o.timers
    pub free : b.own.walk ≡ None
    pub queued : class_in timer.0 b.own.bases ≡ Some class

-- the exchange of the timer's word keeps the rule, it finds where the timer was queued, and the
-- seat is told that the timer is gone, and that the entry is written and noted
abbrev pub CancelStays : World → Type 0
CancelStays o = (slots id line : ℕ) (class : Class) (timer : TimerId) (b : BoxView)
    (p : PassView) → MayExchangeCancel o b class timer →
    Stays o slots id b (p ∷ []) (timer_at timer.0) (unqueued b.cpu class)
    (λ n. Some (steps.Cancel (record { 0 = b.cpu }) timer (record { 0 = p.cpu }) line))
    (Cancels (step slots (index_of (layout_of o) (timer_at timer.0)) (queued_word b.cpu class) 0
    (some (saids.Cancel timer line))) (seat_of (b ∷ []) (p ∷ [])))

-- HAND: what has to be known where the next due timer of a class goes out of the bases of a CPU,
-- which has no walk, to be run by the CPU of a pass
pub record MayExchangeHand (o : World) (b : BoxView) (class : Class) (item : Item) (p : PassView) :
    Type 0 where
  pub cpu : b.cpu < length o.cpus
  pub known : item.id < o.timers
  pub free : b.own.walk ≡ None
  pub due : next_out o.clock (base_of class b.own.bases) ≡ Some item
  pub may_run : MayRunOf b class p

-- the exchange of the timer's word keeps the rule, it finds where the timer was queued, and the
-- seat is told that the timer went out, and that the entry is written and noted
abbrev pub HandStays : World → Type 0
HandStays o = (slots id : ℕ) (class : Class) (item : Item) (b : BoxView) (p : PassView) →
    MayExchangeHand o b class item p →
    Stays o slots id b (p ∷ []) (timer_at item.id) (unqueued b.cpu class)
    (λ n. Some (steps.Hand (record { 0 = b.cpu }) (record { 0 = item.id }) (record { 0 = p.cpu })))
    (Hands (step slots (index_of (layout_of o) (timer_at item.id)) (queued_word b.cpu class) 0
    (some (saids.Hand class))) (seat_of (b ∷ []) (p ∷ [])))

-- ARM: what has to be known where a CPU, with its own pass, tries to arm a timer: it has no walk,
-- is online, and active or inside its interrupt; the expiry isn't past, and nothing is behind the
-- clock of the base
pub record MayExchangeArm (o : World) (b : BoxView) (class : Class) (timer : TimerId)
    (expires : ℕ) (p : PassView) : Type 0 where
  pub cpu : b.cpu < length o.cpus
  pub own : p.cpu ≡ b.cpu
  pub known : timer.0 < o.timers
  pub free : b.own.walk ≡ None
  pub online : b.own.online ≡ true
  pub may_run : (is_active b.own ≡ true) ⊎ (b.own.inside ≡ true)
  pub to_come : o.clock ≤ expires
  pub in_time : expires < 2 ^ 47
  pub none_behind : NoneBehind (base_of class b.own.bases)

-- the try keeps the rule, whatever word it finds, and the seat is told that the timer is queued,
-- and the entry written and noted, or that the pass remembers where the timer was queued
abbrev pub ArmStays : World → Type 0
ArmStays o = (slots id expires job arg line : ℕ) (class : Class) (timer : TimerId) (b : BoxView)
    (p : PassView) → MayExchangeArm o b class timer expires p →
    Stays o slots id b (p ∷ []) (timer_at timer.0)
    (λ n. either (n == 0) (queued_word b.cpu class) n)
    (λ n. where_made (n == 0) (steps.Arm (record { 0 = b.cpu }) timer class expires job arg line))
    (Arms (step slots (index_of (layout_of o) (timer_at timer.0)) 0 (queued_word b.cpu class)
    (some (saids.Arm timer class expires job arg line))) (seat_of (b ∷ []) (p ∷ [])))
