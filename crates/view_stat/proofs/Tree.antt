-- the CPUs of a machine that are isolated, but for the lowest
use Rattle.std.proofs.Common.{◌≡◌, ℕ, ◌+◌, ◌≤◌, arith, ap, ◌∙◌}
use Rattle.std.specs.Prelude.{◌&&◌, ◌||◌, ◌==◌, false, nat_lt}
use Rattle.std.specs.Cmp.{nat_cmp_total, unsigned_tied}
use Rattle.std.specs.FinSet.{contains, contains-empty, contains-insert, empty, insert}
use Rattle.std.specs.Ordering.{nat_cmp}
use Rattle.std.proofs.lemmas.Bool.Decides.{nat_tests}
use Rattle.tm_base.specs.CpuSet.{Cpus}

none_yet : (q : ℕ) → false ≡ (nat_lt 0 q && nat_lt q 1)
none_yet q = grind (arith, nat_tests)

pub none_isolated : (s : Cpus) (q : ℕ) → s ≡ empty → contains s q ≡ (nat_lt 0 q && nat_lt q 1)
none_isolated s q is = ap (λ t. contains t q) is ∙ contains-empty nat_cmp q ∙ none_yet q

next_in : (n q : ℕ) → 1 ≤ n
    → ((q == n) || (nat_lt 0 q && nat_lt q n)) ≡ (nat_lt 0 q && nat_lt q (n + 1))
next_in n q low = grind (arith, nat_tests)

pub one_more : (s t : Cpus) (n q : ℕ) → 1 ≤ n → t ≡ insert s n
    → contains s q ≡ (nat_lt 0 q && nat_lt q n) → contains t q ≡ (nat_lt 0 q && nat_lt q (n + 1))
one_more s t n q low is was =
    ap (λ u. contains u q) is
    ∙ contains-insert nat_cmp_total s n q
    ∙ ap (λ b. b || contains s q) (unsigned_tied q n)
    ∙ ap (λ b. (q == n) || b) was
    ∙ next_in n q low
