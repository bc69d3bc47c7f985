-- pieces pushed one behind the other
use Rattle.std.proofs.Common.{◌≡◌, ℕ, zero, suc, ◌+◌, ◌-◌, ◌<◌, ◌≤◌, List, [], ◌++◌, append_assoc}
use Rattle.std.proofs.Common.{arith, refl}
use Rattle.std.specs.Fmt.{decimal}
use Rattle.view_counts.specs.Differences.{counts_at, difference_line, difference_lines}
use Rattle.view_counts.specs.declared.counts.CpuCounts.{CpuCounts}

pub onto : {A : Type 0} → (front middle back : List A) →
    front ++ middle ++ back ≡ front ++ (middle ++ back)
onto front middle back = append_assoc front middle back

below : (n i : ℕ) → i < n → n - i ≡ suc (n - (i + 1))
below n i low = omega arith

past : (n i : ℕ) → n ≤ i → n - i ≡ zero
past n i high = omega arith

-- the lines of CPUs from one on
pub lines_more : (n i : ℕ) (ones twos : List CpuCounts) → i < n
    → difference_lines (n - i) i ones twos
    ≡ difference_line (decimal i) (counts_at ones i) (counts_at twos i)
    ++ difference_lines (n - (i + 1)) (i + 1) ones twos
unfolding difference_lines
lines_more n i ones twos low = rw (below n i low) refl

pub lines_end : (n i : ℕ) (ones twos : List CpuCounts) → n ≤ i
    → difference_lines (n - i) i ones twos ≡ []
unfolding difference_lines
lines_end n i ones twos high = rw (past n i high) refl
