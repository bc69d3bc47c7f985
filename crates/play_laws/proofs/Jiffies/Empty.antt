-- for crates above: a CPU on which no timer is queued
use Rattle.std.proofs.Common.{◌≡◌, ◌≤◌, List, None, length, arith}
use Rattle.std.specs.Prelude.{All}
use Rattle.tm_base.specs.declared.names.Class.TheVariants.{Pinned, Global, Deferrable}
use Rattle.wheel_core.specs.declared.item.Item.{Item}
use Rattle.cpu_bases.specs.CpuBases.{CpuBases, base_of}
use Rattle.cpu_bases.proofs.Counts.{count_in}
use Rattle.play_rules.specs.Timers.{first_to_move}
use Rattle.play_rules.proofs.FirstMoves.{none_queued}
use Rattle.play_laws.proofs.Jiffies.Inside.{IsEmpty}

none_in : (items : List Item) → length items ≤ 0 → All (λ (item : Item). ⊥) items
none_in items none k d low = omega (arith, low, none)

pub empty_by : (b : CpuBases) → count_in b ≤ 0 → IsEmpty b
empty_by b none Pinned = none_in (base_of Pinned b).items (omega (arith, none))
empty_by b none Global = none_in (base_of Global b).items (omega (arith, none))
empty_by b none Deferrable = none_in (base_of Deferrable b).items (omega (arith, none))

-- where none moves first, none is queued
pub none_first : (b : CpuBases) → first_to_move b ≡ None → IsEmpty b
none_first b is = empty_by b (omega (arith, none_queued b is))
