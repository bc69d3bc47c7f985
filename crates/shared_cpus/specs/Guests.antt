-- the bytes of a pass that is brought (no public clause cites this)
use Rattle.std.specs.Prelude.{◌+◌}
use Rattle.tm_base.specs.declared.names.CpuId.{CpuId}
use Rattle.shared_rule.specs.declared.box_part.Guest.{Guest}

-- the CPU of the pass
abbrev pub guest_cpu : Guest → CpuId
guest_cpu guest = guest.cpu

-- the bytes with one walk more begun
abbrev pub one_more : Guest → Guest
one_more guest = record guest { walks = guest.walks + 1 }
