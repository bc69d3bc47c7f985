-- a timer that is armed wasn't queued, where bases and journal agree before and after
use Rattle.std.proofs.Common.{◌≡◌, ℕ, List, [], ◌∷◌, ◌++◌, None}
use Rattle.tm_base.specs.declared.names.Class.{Class}
use Rattle.tm_base.specs.declared.names.CpuId.{CpuId}
use Rattle.cpu_bases.specs.declared.entry.Act.TheVariants.{Armed}
use Rattle.cpu_bases.specs.declared.entry.Entry.{Entry}
use Rattle.cpu_bases.specs.CpuBases.{CpuBases, IsConsistent, armed, class_in, entry_of}
use Rattle.cpu_bases.specs.CpuBases.{item_queued}
use Rattle.cpu_bases.specs.Journals.{EachMayFollow, MayFollow, queued_after, queued_from}
use Rattle.cpu_bases.proofs.Keeping.{nowhere}

-- the last entry of a journal may come where it stands
last_may : (queued journal : List Entry) (entry : Entry)
    → EachMayFollow queued (journal ++ entry ∷ [])
    → MayFollow entry.act (queued_from queued journal) entry
last_may queued [] entry each = each.0
last_may queued (first ∷ journal) entry each =
    last_may (queued_after first.act queued first) journal entry each.1

-- a timer that was armed was queued nowhere on its CPU
pub was_unqueued : (now : ℕ) (class : Class) (timer expires job arg line : ℕ) (by : CpuId)
    (cpu : CpuBases) → IsConsistent cpu
    → IsConsistent (armed now class timer expires job arg line by cpu)
    → class_in timer cpu ≡ None
was_unqueued now class timer expires job arg line by cpu before after =
    nowhere timer cpu before
    (last_may [] cpu.journal
    (entry_of Armed line now class (item_queued now class timer expires job arg cpu) by)
    after.each_may_follow)
