-- what a walk says of its CPU
use Rattle.std.specs.Prelude.{◌≡◌, ◌↔◌, ℕ, true, false, Some}
use Rattle.tm_base.specs.declared.names.TheConstants.{NEVER}
use Rattle.walk_rules.specs.declared.walk.Walk.{Walk}
use Rattle.walk_rules.specs.declared.walk.WalkKind.{WalkKind}
use Rattle.walk_rules.specs.declared.walk.WalkKind.TheVariants as kinds
use Rattle.core_world.specs.Lawful.{IsLawful}
use Rattle.core_world.specs.World.{CpuRecord, World, cpu_of, is_active}

-- an online CPU that is idle
pub record IsAsleep (y : CpuRecord) : Type 0 where
  pub online : y.online ≡ true
  pub idle : y.idle ≡ true

-- what the CPU of a walk of this kind is
abbrev pub WalkerIs : WalkKind → CpuRecord → Type 0
WalkerIs kinds.Activate y = is_active y ≡ true
WalkerIs kinds.Deactivate y = IsAsleep y
WalkerIs kinds.Offline y = y.online ≡ false
WalkerIs kinds.Reeval y = IsAsleep y
WalkerIs (kinds.Remote by) y = IsAsleep y

-- an offline CPU is idle, outside an interrupt, has nothing to wake for, and makes no walk but that
-- by which it went
pub record IsOff (y : CpuRecord) : Type 0 where
  pub idle : y.idle ≡ true
  pub outside : y.inside ≡ false
  pub wakeup : y.wakeup ≡ NEVER
  pub leaving : (k : Walk) → y.walk ≡ Some k → k.kind ≡ kinds.Offline

-- CPUs and the kinds of their walks fit; who is active keeps no wakeup, and who is offline is off
pub record WalkersAre (w : World) : Type 0 where
  pub walker : (c : ℕ) (k : Walk) → (cpu_of w c).walk ≡ Some k → WalkerIs k.kind (cpu_of w c)
  -- a CPU with a walk is active exactly where that is an activation
  pub active : (c : ℕ) (k : Walk) → (cpu_of w c).walk ≡ Some k →
      (is_active (cpu_of w c) ≡ true) ↔ (k.kind ≡ kinds.Activate)
  -- an active CPU has nothing to wake for
  pub awake : (c : ℕ) → is_active (cpu_of w c) ≡ true → (cpu_of w c).wakeup ≡ NEVER
  pub offline : (c : ℕ) → (cpu_of w c).online ≡ false → IsOff (cpu_of w c)

-- in every lawful world CPUs and the kinds of their walks fit
abbrev pub EachWalkerIs : Type 0
EachWalkerIs = (w : World) → IsLawful w → WalkersAre w
