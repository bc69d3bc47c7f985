-- parts of what steps of a plain world are enabled by (no public clause cites it)
use Rattle.std.specs.Prelude.{◌≡◌, ◌≢◌, ℕ, ◌<◌, Some, None, true, length}
use Rattle.tm_base.specs.declared.names.Class.{Class}
use Rattle.wheel_core.specs.declared.item.Item.{Item}
use Rattle.wheel_core.specs.PlainBase.{NoneBehind}
use Rattle.cpu_bases.specs.CpuBases.{base_of, class_in}
use Rattle.tree_plan.specs.Paths.{is_placed_in}
use Rattle.core_world.specs.Enabled.{IsReevaluating}
use Rattle.core_world.specs.Steps.{first_moved}
use Rattle.core_world.specs.World.{World, cpu_of}

-- CPU d is another one than c, placed and online
abbrev pub IsOtherOnline : World → (c d : ℕ) → Type 0
IsOtherOnline w c d = (d ≢ c) × (is_placed_in w.tree d ≡ true) × ((cpu_of w d).online ≡ true)

-- some CPU is
abbrev pub OthersOnline : World → (c : ℕ) → Type 0
OthersOnline w c = (d : ℕ) × IsOtherOnline w c d

-- a timer is queued on no CPU
abbrev pub IsNowhere : World → (timer : ℕ) → Type 0
IsNowhere w timer = (d : ℕ) → class_in timer (cpu_of w d).bases ≡ None

-- a CPU inside its interrupt that may mark others
pub record MayLook (w : World) (by : ℕ) : Type 0 where
  pub in_range : by < length w.cpus
  pub placed : is_placed_in w.tree by ≡ true
  pub inside : (cpu_of w by).inside ≡ true
  pub goes_on : IsReevaluating w by → ⊥

-- the timer is the first to move from a CPU, and nothing is behind the clock where it comes to
pub record MayGo (w : World) (from to timer : ℕ) : Type 0 where
  pub class : Class
  pub item : Item
  pub first : first_moved (cpu_of w from).bases ≡ Some (class, item)
  pub timers : item.id ≡ timer
  pub none_behind : NoneBehind (base_of class (cpu_of w to).bases)
