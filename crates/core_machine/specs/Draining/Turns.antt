-- one turn of a drain and of a move
use Rattle.std.specs.Prelude.{◌≡◌, ℕ, List, [], ◌∷◌, ◌++◌, Option, Some, None}
use Rattle.tm_base.specs.declared.names.Class.{Class}
use Rattle.tm_base.specs.declared.names.TimerId.{TimerId}
use Rattle.wheel_core.specs.declared.item.Item.{Item}
use Rattle.play_rules.specs.declared.asks.Mover.{Mover}
use Rattle.core_world.specs.declared.step.Step.TheVariants as steps
use Rattle.core_world.specs.Enabled.{IsFree, MayRun}
use Rattle.core_world.specs.Steps.{stepped}
use Rattle.core_world.specs.World.{World}
use Rattle.step_play.specs.Rules.StepRules.{items_due}

-- a runner may hand out timers of a class of a CPU (no public clause cites it)
pub record Drains (w : World) (home : ℕ) (class : Class) (runner : ℕ) : Type 0 where
  pub free : IsFree w home
  pub may : MayRun w home class runner

-- the next item that is due goes out, where there is one
abbrev pub handed_next : World → (home runner : ℕ) → Option Item → World
handed_next w home runner None = w
handed_next w home runner (Some item) =
    stepped w
    (steps.Hand (record { 0 = home }) (record { 0 = item.id }) (record { 0 = runner }))

-- these items go out, one after the other
abbrev pub handed_each : (home runner : ℕ) → List Item → World → World
handed_each home runner [] w = w
handed_each home runner (item ∷ items) w =
    handed_each home runner items (handed_next w home runner (Some item))

-- of the items that were due the first ones are out, in the order of hand-out, and the others are
-- still due
pub record DrainedSome (old : World) (home : ℕ) (class : Class) (runner : ℕ) (new : World) :
    Type 0 where
  pub out : List Item
  pub left : out ++ items_due new home class ≡ items_due old home class
  pub is : new ≡ handed_each home runner out old

-- the timer that was found first
abbrev pub timer_found : Class × Item → TimerId
timer_found found = record { 0 = found.1.id }

-- a timer that came to a wheel expiry (no public clause cites it)
abbrev pub mover_at : TimerId → (wheel : ℕ) → Mover
mover_at timer wheel = record { timer = timer; wheel = wheel }
