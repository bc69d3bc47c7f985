-- the isolated CPUs of a machine, as a list (no public clause cites it)
use Rattle.std.specs.Prelude.{◌≡◌, ℕ, ◌<◌, ◌==◌, Bool, true, List, length, slice_index_or}
use Rattle.std.specs.List.{list_any}
use Rattle.std.specs.FinSet.{contains}
use Rattle.tm_base.specs.CpuSet.{Cpus}

-- whether a list has a number
abbrev pub lists : List ℕ → ℕ → Bool
lists list c = list_any (λ d. d == c) list

-- a list has the CPUs of a set, and no other number
abbrev pub IsListOf : Cpus → List ℕ → Type 0
IsListOf cpus list = (c : ℕ) → contains cpus c ≡ lists list c

-- each number of a list is one of another list
abbrev pub IsAllIn : (list other : List ℕ) → Type 0
IsAllIn list other =
    (place : ℕ) → place < length list → lists other (slice_index_or list place 0) ≡ true

-- two lists have the same numbers
pub record HasSame (list other : List ℕ) : Type 0 where
  pub there : IsAllIn list other
  pub back : IsAllIn other list
