-- a journal played again: what its entries make of the bases of a CPU, and that each says what
-- the base gives there
use Rattle.std.specs.Prelude.{◌≡◌, ◌+◌, List, [], ◌∷◌, ◌++◌, None, IsSomeAnd}
use Rattle.wheel_core.specs.WheelExpiry.{wheel_expiry_of}
use Rattle.wheel_core.specs.PlainBase.{PlainBase, added, forwarded, item_of, next_out, removed}
use Rattle.wheel_core.specs.PlainBase.{taken}
use Rattle.cpu_bases.specs.declared.entry.Act.{Act}
use Rattle.cpu_bases.specs.declared.entry.Act.TheVariants.{Armed, Handed, Cancelled}
use Rattle.cpu_bases.specs.declared.entry.Act.TheVariants.{MovedOut, MovedIn, Ticked}
use Rattle.cpu_bases.specs.declared.entry.Entry.{Entry}
use Rattle.cpu_bases.specs.ByClass.{ByClass, of_class, with_class}
use Rattle.cpu_bases.specs.CpuBases.{CpuBases, empty_bases, oldest_in}
use Rattle.cpu_bases.specs.Journals.{told_by_entry, told_by_item}

-- what an entry makes of the base of its class
abbrev pub redone : Act → Entry → PlainBase → PlainBase
redone Armed entry base =
    added entry.timer.0 entry.expires entry.job entry.arg (forwarded entry.at base)
redone MovedIn entry base =
    added entry.timer.0 entry.expires entry.job entry.arg (forwarded (entry.at + 1) base)
redone Handed entry base = taken entry.at base
redone Cancelled entry base = removed entry.timer.0 base
redone MovedOut entry base = removed entry.timer.0 base
redone Ticked entry base = base

-- the bases after an entry of a journal, played again
abbrev pub redo : Entry → ByClass PlainBase → ByClass PlainBase
redo entry bases =
    with_class entry.class (redone entry.act entry (of_class entry.class bases)) bases

-- the bases after the entries of a journal, played from these
abbrev pub replay : List Entry → ByClass PlainBase → ByClass PlainBase
replay [] bases = bases
replay (entry ∷ journal) bases = replay journal (redo entry bases)

-- an entry says what the base of its class gives where it stands: the wheel expiry of an arming,
-- the item that goes out, and of a drain that none does
abbrev pub Says : Act → Entry → PlainBase → Type 0
Says Armed entry base =
    entry.wheel ≡ wheel_expiry_of entry.expires (forwarded entry.at base).clock
Says MovedIn entry base =
    entry.wheel ≡ wheel_expiry_of entry.expires (forwarded (entry.at + 1) base).clock
Says Handed entry base =
    IsSomeAnd (next_out entry.at base) (λ item. told_by_item item ≡ told_by_entry entry)
Says Cancelled entry base =
    IsSomeAnd (item_of entry.timer.0 base.items) (λ item. told_by_item item ≡ told_by_entry entry)
Says MovedOut entry base =
    IsSomeAnd (oldest_in base.items) (λ item. told_by_item item ≡ told_by_entry entry)
Says Ticked entry base = next_out entry.at base ≡ None

-- each entry says what the base of its class gives where it stands
abbrev pub EachSays : List Entry → ByClass PlainBase → Type 0
EachSays [] bases = Unit {0}
EachSays (entry ∷ journal) bases =
    Says entry.act entry (of_class entry.class bases) × EachSays journal (redo entry bases)

-- bases and journal are those of a journal that was played from these bases
pub record IsReplay (start : ByClass PlainBase) (cpu : CpuBases) : Type 0 where
  pub bases : cpu.bases ≡ replay cpu.journal start
  pub says : EachSays cpu.journal start

-- from empty bases
abbrev pub IsPlayed : CpuBases → Type 0
IsPlayed cpu = IsReplay empty_bases.bases cpu

-- what was done between is told by the entries that were added, which make it when played again
pub record AddsReplay (old new : CpuBases) : Type 0 where
  pub more : List Entry
  pub grows : new.journal ≡ old.journal ++ more
  pub bases : new.bases ≡ replay more old.bases
  pub says : EachSays more old.bases

-- whatever the bases are played from, they still are
abbrev pub KeepsReplay : (old new : CpuBases) → Type 0
KeepsReplay old new = (start : ByClass PlainBase) → IsReplay start old → IsReplay start new
