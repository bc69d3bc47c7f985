-- for crates above: the CPUs of a set are online
use Rattle.std.proofs.Common.{◌≡◌, ℕ, true, inl, inr, sym, ap, subst, ◌∙◌}
use Rattle.std.specs.Prelude.{◌||◌, ◌==◌}
use Rattle.std.specs.Cmp.{nat_cmp_total, unsigned_tied}
use Rattle.std.proofs.lemmas.Bool.{both_ways, eqb-true, or_cases}
use Rattle.std.specs.FinSet.{FinSet, contains, contains-empty, contains-insert, empty, insert}
use Rattle.std.specs.Ordering.{nat_cmp}
use Rattle.play_rules.specs.Rules.{Rules}
use Rattle.play_driver.specs.Conditions.{AreOnline}

module _ {S : Type 0} (r : Rules S) (s : S) where
  pub none_online : AreOnline r s empty
  none_online c is = absurd (both_ways (contains {R = nat_cmp} empty c) (contains-empty nat_cmp c) is)

  pub one_online : (due more : FinSet nat_cmp) (c : ℕ) → AreOnline r s due → r.is_online s c ≡ true
      → more ≡ insert due c → AreOnline r s more
  one_online due more c are online is d has =
      let added : contains (insert due c) d ≡ true = subst (λ x. contains x d ≡ true) is has in
      let either : ((d == c) || contains due d) ≡ true =
      ap (λ t. t || contains due d) (sym (unsigned_tied d c))
      ∙ sym (contains-insert nat_cmp_total due c d) ∙ added in
      elim (or_cases (d == c) (contains due d) either) [
        | inl same ↦ ap (r.is_online s) (eqb-true d c same) ∙ online
        | inr other ↦ are d other
      ]
