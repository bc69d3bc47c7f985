-- what is known of a part that lies behind its CPU's lock
use Rattle.std.specs.Prelude.{◌≡◌, [], None}
use Rattle.tm_base.specs.declared.names.Class.{Class}
use Rattle.wheel_core.specs.PlainBase.{NoneBehind}
use Rattle.cpu_bases.specs.CpuBases.{CpuBases, base_of}
use Rattle.shared_rule.specs.Parts.{HeldPart}

-- in no base of a CPU is a queued wheel expiry below the base's clock
abbrev pub HasNoneBehind : CpuBases → Type 0
HasNoneBehind bases = (class : Class) → NoneBehind (base_of class bases)

-- FREE: a part that lies behind its CPU's lock has no walk and no pass, and no base is behind
pub record IsFree (p : HeldPart) : Type 0 where
  pub walkless : p.box.own.walk ≡ None
  pub alone : p.brought ≡ []
  pub whole : HasNoneBehind p.box.own.bases
