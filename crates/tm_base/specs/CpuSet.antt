-- sets of CPU numbers, each seen as the finite set of its numbers
use Rattle.std.specs.Prelude.{◌≡◌, ◌<◌, ◌/◌, ◌%◌, ◌==◌, ℕ, suc, zero, Bool, true}
use Rattle.std.specs.Prelude.{List, slice_index, if◌then◌else◌}
use Rattle.std.specs.Int.{bit_at}
use Rattle.std.specs.Ordering.{nat_cmp}
use Rattle.std.specs.FinSet.{FinSet, empty, contains, insert}
use Rattle.tm_base.specs.declared.limits.TheConstants.{CPU_SET_SIZE}

-- a set of CPU numbers
abbrev pub Cpus : Type 0
Cpus = FinSet nat_cmp

-- CPU k is in the set
abbrev pub Contains : Cpus → ℕ → Type 0
Contains cpus k = contains cpus k ≡ true

-- each CPU of the set has a number that a set can hold
abbrev pub FitsSet : Cpus → Type 0
FitsSet cpus = (k : ℕ) → Contains cpus k → k < CPU_SET_SIZE

-- whether number k is marked: by bit k % 64 of word k / 64
abbrev pub is_marked : List ℕ → ℕ → Bool
is_marked words k = bit_at (slice_index words (k / 64)) (k % 64) == 1

-- the numbers below n that are marked
unfoldable pub marked_below : List ℕ → ℕ → Cpus
marked_below words zero = empty
marked_below words (suc n) =
    if is_marked words n then insert (marked_below words n) n else marked_below words n

-- the set that the words of a `CpuSet` hold
unfoldable pub set_of : List ℕ → Cpus
set_of words = marked_below words CPU_SET_SIZE
