-- what is noted of all CPUs, so that no step has to ask each of them
use Rattle.std.specs.Prelude.{◌≡◌, ◌≢◌, ℕ, ◌+◌, ◌^◌, ◌<◌, ◌≤◌, ◌==◌, ◌&&◌, Bool, true, false}
use Rattle.std.specs.Prelude.{if◌then◌else◌, List, length, Option, Some, None, count_by}
use Rattle.std.specs.Prelude.{slice_index_or}
use Rattle.std.specs.List.{range_with_len}
use Rattle.tree_plan.specs.Shape.{Shape}
use Rattle.tree_plan.specs.Paths.{is_placed_in}
use Rattle.core_parts.specs.core_world.World.{CpuRecord, World, cpu_of, no_cpu}

-- for each CPU how many CPUs have its mark, and how many placed CPUs are online
pub record CpuTally : Type 0 where
  pub marks : List ℕ
  pub online : ℕ

-- a mark is that of CPU c
abbrev pub names : Option ℕ → (c : ℕ) → Bool
names None c = false
names (Some d) c = d == c

-- the mark of CPU d names c
abbrev pub is_marked_by : List CpuRecord → (c d : ℕ) → Bool
is_marked_by cpus c d = names (slice_index_or cpus d no_cpu).mark c

-- CPU d is placed and online
abbrev pub is_placed_online : Shape → List CpuRecord → (d : ℕ) → Bool
is_placed_online t cpus d = is_placed_in t d && (slice_index_or cpus d no_cpu).online

-- how many of the first n CPUs pass a test
abbrev pub count_first : (ℕ → Bool) → (n : ℕ) → ℕ
count_first test n = count_by test (range_with_len 0 n)

-- what is noted where the first n of these CPUs are counted
pub record TalliesFirst (t : Shape) (cpus : List CpuRecord) (n : ℕ) (tally : CpuTally)
    : Type 0 where
  pub each : length tally.marks ≡ length cpus
  pub marks : (c : ℕ) → c < length cpus
      → slice_index_or tally.marks c 0 ≡ count_first (is_marked_by cpus c) n
  pub online : tally.online ≡ count_first (is_placed_online t cpus) n

-- what is noted where all CPUs are counted
abbrev pub IsTallied : Shape → List CpuRecord → CpuTally → Type 0
IsTallied t cpus tally = TalliesFirst t cpus (length cpus) tally

-- one where it is so, and none where not (no public clause cites it)
abbrev pub one_if : Bool → ℕ
one_if so = if so then 1 else 0

-- after it counts one CPU more than before, one with this mark, placed and online or not (no public
-- clause cites it)
pub record TalliesOneMore (before after : CpuTally) (mark : Option ℕ) (placed_online : Bool)
    : Type 0 where
  pub each : length after.marks ≡ length before.marks
  pub marks : (c : ℕ) → c < length before.marks
      → slice_index_or after.marks c 0 ≡ slice_index_or before.marks c 0 + one_if (names mark c)
  pub online : after.online ≡ before.online + one_if placed_online

-- the numbers stay in range with one CPU more, of this mark, placed and online or not (no public
-- clause cites it)
pub record MayCountIn (tally : CpuTally) (mark : Option ℕ) (placed_online : Bool) : Type 0 where
  pub marks : (c : ℕ) → c < length tally.marks
      → slice_index_or tally.marks c 0 + one_if (names mark c) < 2 ^ 16
  pub online : tally.online + one_if placed_online < 2 ^ 16

-- the numbers stay in range with one CPU less, of this mark, placed and online or not (no public
-- clause cites it)
pub record MayCountOut (tally : CpuTally) (mark : Option ℕ) (placed_online : Bool) : Type 0 where
  pub marks : (c : ℕ) → c < length tally.marks
      → one_if (names mark c) ≤ slice_index_or tally.marks c 0
  pub online : one_if placed_online ≤ tally.online

-- another placed CPU than c is online
abbrev pub OthersOnline : World → (c : ℕ) → Type 0
OthersOnline w c =
    (d : ℕ) × (d ≢ c) × (is_placed_in w.tree d ≡ true) × ((cpu_of w d).online ≡ true)
