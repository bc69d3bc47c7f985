-- for crates above: the timer of a class that was armed first, and what holds of it
use Rattle.std.proofs.Common.{◌^◌, ◌<◌, List, [], ◌∷◌}
use Rattle.std.specs.Prelude.{All, IfSome}
use Rattle.std.proofs.lemmas.List.Elements.{All-head}
use Rattle.tm_base.specs.declared.names.Class.{Class}
use Rattle.wheel_core.specs.declared.item.Item.{Item}
use Rattle.core_world.specs.cpu_bases.CpuBases.{CpuBases, IsConsistent, base_of, oldest_in}

-- what holds of all holds of the first in arming order
pub oldest_holds : (P : Item → Type 0) (items : List Item) → All P items
    → IfSome (oldest_in items) P
oldest_holds P [] all = tt
oldest_holds P (first ∷ items) all = All-head P first items all

pub oldest_in_time : (cpu : CpuBases) (class : Class) → IsConsistent cpu
    → IfSome (oldest_in (base_of class cpu).items) (λ item. item.expires < 2 ^ 47)
oldest_in_time cpu class consistent =
    oldest_holds (λ item. item.expires < 2 ^ 47) (base_of class cpu).items
    (λ k d low. ((consistent.fits class).sound.in_wheel k d low).expires)

pub oldest_narrow : (cpu : CpuBases) (class : Class) → IsConsistent cpu
    → IfSome (oldest_in (base_of class cpu).items) (λ item. item.id < 2 ^ 16)
oldest_narrow cpu class consistent =
    oldest_holds (λ item. item.id < 2 ^ 16) (base_of class cpu).items (consistent.fits class).timers
