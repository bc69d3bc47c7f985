-- the numbers of refusals
use Rattle.std.specs.Prelude.{ℕ, Option, Some, None}
use Rattle.tm_base.specs.declared.faults.OpFault.{OpFault}
use Rattle.tm_base.specs.declared.faults.OpFault.TheVariants.{NotActive, NotIdle, Offline}
use Rattle.tm_base.specs.declared.faults.OpFault.TheVariants.{AlreadyOnline, LastOnline, Queued}
use Rattle.tm_base.specs.declared.faults.OpFault.TheVariants.{Spent, NoMemory}

-- the number by which a report names a refusal; want of memory has none
abbrev pub fault_number : OpFault → Option ℕ
fault_number NotActive = Some 1
fault_number NotIdle = Some 2
fault_number Offline = Some 3
fault_number AlreadyOnline = Some 4
fault_number LastOnline = Some 5
fault_number (Queued cpu) = Some 6
fault_number (Spent made) = Some 7
fault_number NoMemory = None
