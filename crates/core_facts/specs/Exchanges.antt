-- a walk makes at most one exchange at each level
use Rattle.std.specs.Prelude.{◌≡◌, ◌≢◌, ◌⊎◌, ℕ, ◌+◌, ◌<◌, ◌≤◌, true, Some}
use Rattle.tm_base.specs.declared.names.CpuId.{CpuId}
use Rattle.walk_rules.specs.declared.walk.Walk.{Walk}
use Rattle.walk_rules.specs.declared.walk.Stage.{Stage}
use Rattle.walk_rules.specs.declared.walk.Stage.TheVariants as stages
use Rattle.core_world.specs.declared.step.Step.{Step}
use Rattle.core_world.specs.declared.step.Step.TheVariants as steps
use Rattle.core_world.specs.Enabled.{Enabled}
use Rattle.core_world.specs.Steps.{stepped}
use Rattle.core_world.specs.World.{World, cpu_of}

-- the place of a stage in the order in which walks come to stages at a level: first those up to the
-- exchange, and from `past_exchange` on those behind it
abbrev pub past_exchange : ℕ
past_exchange = 5

-- the place of a stage among those of a level
abbrev pub stage_number : Stage → ℕ
stage_number stages.Own = 0
stage_number stages.Up = 1
stage_number stages.Read = 2
stage_number stages.Child = 3
stage_number stages.Swap = 4
stage_number (stages.Mark more) = 5
stage_number stages.LockChild = 6
stage_number stages.LockGroup = 7
stage_number stages.SeeChild = 8
stage_number stages.SeeGroup = 9
stage_number (stages.Scan k) = 10 + k
stage_number stages.Store = 18
stage_number (stages.First k) = 19 + k
stage_number stages.FreeGroup = 27
stage_number stages.FreeChild = 28
stage_number stages.Finish = 29
stage_number stages.Handing = 30

-- the next step of the walk is an exchange: Up, or Swap with a reading that is still fresh
abbrev pub Exchanges : Walk → Type 0
Exchanges k = (k.stage ≡ stages.Up) ⊎ ((k.stage ≡ stages.Swap) × (k.fresh ≡ true))

-- the walk is past its exchange at a level
abbrev pub IsPast : (level : ℕ) → Walk → Type 0
IsPast level k =
    (level < k.level) ⊎ ((k.level ≡ level) × (past_exchange ≤ stage_number k.stage))

-- walk j stands higher than walk k, or further on at the same level
abbrev pub StandsFurther : (k j : Walk) → Type 0
StandsFurther k j =
    (k.level < j.level) ⊎ ((j.level ≡ k.level) × (stage_number k.stage < stage_number j.stage))

-- walk k has become j by a step of its own: it is further on but where its exchange failed, and
-- past it where that was made
pub record HasGoneOn (k j : Walk) : Type 0 where
  pub kind : j.kind ≡ k.kind
  pub further : (k.stage ≡ stages.Swap → k.fresh ≡ true) → StandsFurther k j
  pub exchanged : Exchanges k → IsPast k.level j

-- a step of a walk leads on but where its exchange fails, and past the exchange where that holds
abbrev pub EachGoesOn : Type 0
EachGoesOn = (w : World) (cpu : CpuId) (k j : Walk) → Enabled w (steps.Walk cpu) →
    (cpu_of w cpu.0).walk ≡ Some k → (cpu_of (stepped w (steps.Walk cpu)) cpu.0).walk ≡ Some j →
    HasGoneOn k j

-- whatever step is made, a walk that goes on and is past its exchange at a level stays so
abbrev pub EachStaysPast : Type 0
EachStaysPast = (w : World) (step : Step) (c level : ℕ) (k j : Walk) → Enabled w step →
    (cpu_of w c).walk ≡ Some k → (cpu_of (stepped w step) c).walk ≡ Some j → IsPast level k →
    IsPast level j

-- a walk that is past its exchange at a level makes none there
abbrev pub NoneIsPast : Type 0
NoneIsPast = (level : ℕ) (k : Walk) → IsPast level k → Exchanges k → k.level ≢ level
