-- for crates above: how many timers are queued on a CPU, and that one fewer is once one moved out
use Rattle.std.proofs.Common.{◌≡◌, ℕ, ◌+◌, ◌^◌, ◌≤◌, Some, length, ap, ◌∙◌, arith}
use Rattle.tm_base.specs.declared.names.Class.{Class}
use Rattle.tm_base.specs.declared.names.Class.TheVariants.{Pinned, Global, Deferrable}
use Rattle.tm_base.specs.declared.names.CpuId.{CpuId}
use Rattle.wheel_core.specs.declared.item.Item.{Item}
use Rattle.wheel_core.specs.PlainBase.{item_of, removed}
use Rattle.wheel_core.proofs.Ids.{length-without}
use Rattle.wheel_core.proofs.Rooms.{no_more}
use Rattle.cpu_bases.specs.declared.entry.Act.TheVariants as acts
use Rattle.cpu_bases.specs.CpuBases.{CpuBases, IsConsistent, after_move_out, base_of, changed}
use Rattle.cpu_bases.specs.CpuBases.{entry_of, moved_out, oldest_in}
use Rattle.cpu_bases.proofs.Keeping.{oldest_found}

-- so many are queued on a CPU
abbrev pub count_in : CpuBases → ℕ
count_in b =
    length (base_of Pinned b).items
    + (length (base_of Global b).items + length (base_of Deferrable b).items)

-- a base has no more than there are timers
pub few_queued : (b : CpuBases) (class : Class) → IsConsistent b
    → length (base_of class b).items ≤ 2 ^ 16
few_queued b class consistent =
    let fits = consistent.fits class in
    no_more (2 ^ 16) (base_of class b).items fits.sound.distinct fits.timers

-- once one is removed, one fewer is queued
fewer_in : (now : ℕ) (class : Class) (by : CpuId) (b : CpuBases) (item : Item)
    → item_of item.id (base_of class b).items ≡ Some item
    → count_in (changed class (removed item.id (base_of class b))
    (entry_of acts.MovedOut 0 now class item by) b) + 1 ≡ count_in b
fewer_in now Pinned by b item found =
    let one = length-without item.id (base_of Pinned b).items item found in omega (arith, one)
fewer_in now Global by b item found =
    let one = length-without item.id (base_of Global b).items item found in omega (arith, one)
fewer_in now Deferrable by b item found =
    let one = length-without item.id (base_of Deferrable b).items item found in omega (arith, one)

pub fewer_out : (now : ℕ) (class : Class) (by : CpuId) (b : CpuBases) (item : Item)
    → oldest_in (base_of class b).items ≡ Some item
    → count_in (moved_out now class by b) + 1 ≡ count_in b
fewer_out now class by b item is =
    ap (λ o. count_in (after_move_out o now class by b) + 1) is
    ∙ fewer_in now class by b item (oldest_found (base_of class b).items item is)
