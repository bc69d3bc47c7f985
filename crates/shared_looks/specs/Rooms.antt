-- room for what a call writes
use Rattle.std.specs.Prelude.{ℕ, ◌+◌, length}
use Rattle.tm_base.specs.declared.names.Class.{Class}
use Rattle.cpu_bases.specs.CpuBases.{base_of, with_room}
use Rattle.shared_cpus.specs.shared_rule.Parts.{HeldPart}

-- a part with memory for so many timers more in each base, and for so many entries more
abbrev pub with_more_room : (timers entries : ℕ) → HeldPart → HeldPart
with_more_room timers entries part = record part {
  room =
      (with_room timers entries (record {
        plain = part.box.own.bases;
        room = part.room;
      })).room;
}

-- how many entries a drain of a class writes: one for each of its timers, and one more
abbrev pub drain_entries : Class → HeldPart → ℕ
drain_entries class part = length (base_of class part.box.own.bases).items + 1
