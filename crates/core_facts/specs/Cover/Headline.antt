-- the headline: who answers for the timers of an idle CPU, in every lawful world
use Rattle.std.specs.Prelude.{◌≡◌, ◌⊎◌, ℕ, true, Contains}
use Rattle.tm_base.specs.declared.names.Class.TheVariants.{Global}
use Rattle.wheel_core.specs.declared.item.Item.{Item}
use Rattle.cpu_bases.specs.CpuBases.{base_of, events_of}
use Rattle.core_world.specs.coverage.Coverage.{Held, IsAnsweredFor, Woken}
use Rattle.core_world.specs.Covered.{Covered, IsSettled, machine_of}
use Rattle.core_world.specs.Lawful.{IsLawful}
use Rattle.core_world.specs.World.{World, cpu_of}

-- a global timer that is queued on an online idle CPU
pub record IsWaiting (w : World) (c : ℕ) (item : Item) : Type 0 where
  pub online : (cpu_of w c).online ≡ true
  pub idle : (cpu_of w c).idle ≡ true
  pub queued : Contains (base_of Global (cpu_of w c).bases).items item

-- THE HEADLINE: in every lawful world each global timer that is queued on an online idle CPU is
-- covered
abbrev pub EachCovered : Type 0
EachCovered = (w : World) → IsLawful w → (c : ℕ) (item : Item) → IsWaiting w c item →
    Covered w c item.wheel

-- where no walk and no interrupt is under way, each global timer that is queued on an online idle
-- CPU is held or woken for
abbrev pub EachSettled : Type 0
EachSettled = (w : World) → IsLawful w → IsSettled w → (c : ℕ) (item : Item) →
    IsWaiting w c item →
    Held (machine_of w) c item.wheel ⊎ Woken (machine_of w) c item.wheel

-- where no walk and no interrupt is under way, the first global timer of an online idle CPU is held
-- or woken for; or the time that never comes, where it has none
abbrev pub FirstSettled : Type 0
FirstSettled = (w : World) → IsLawful w → IsSettled w → (c : ℕ) → (cpu_of w c).online ≡ true →
    (cpu_of w c).idle ≡ true →
    IsAnsweredFor (machine_of w) c (events_of (cpu_of w c).bases).first_global
