-- for crates above: passes in the order of their CPUs, as they begin, are cut in two and put
-- together again
use Rattle.std.proofs.Common.{◌≡◌, ℕ, zero, suc, ◌+◌, List, [], ◌∷◌, ◌++◌, length, map, take}
use Rattle.std.proofs.Common.{drop, set, Some, refl, ap, subst, arith}
use Rattle.std.specs.List.{range_with_len}
use Rattle.std.specs.Prelude.{slice_get}
use Rattle.std.proofs.lemmas.Option.{none-some, same_Some}
use Rattle.atomic_table.specs.Seated.{TableId}
use Rattle.core_world.specs.Covered.{IsSettled}
use Rattle.core_world.specs.World.{World}
use Rattle.shared_rule.specs.Starts.{first_pass_of}
use Rattle.shared_rule.specs.Passes.{HeldPass}
use Rattle.shared_table.specs.Begun.{begun_pass, begun_passes}
use Rattle.shared_table.specs.Ended.{AreAllPasses, IsPassAt, PassesFrom}

module _ (table : TableId) where
  -- the first so many
  pub cut_front : (k n : ℕ) (ps : List HeldPass) → PassesFrom table k ps
      → PassesFrom table k (take n ps)
  cut_front k zero [] h = tt
  cut_front k zero (p ∷ ps) h = tt
  cut_front k (suc n) [] h = tt
  cut_front k (suc n) (p ∷ ps) h = (h.0, cut_front (suc k) n ps h.1)

  -- and the others, which begin later
  pub cut_back : (k n : ℕ) (ps : List HeldPass) → PassesFrom table k ps
      → PassesFrom table (k + n) (drop n ps)
  cut_back k zero ps h =
      let same : k ≡ k + 0 = omega arith in subst (λ j. PassesFrom table j ps) same h
  cut_back k (suc n) [] h = tt
  cut_back k (suc n) (p ∷ ps) h =
      let same : suc k + n ≡ k + suc n = omega arith in
      subst (λ j. PassesFrom table j (drop n ps)) same (cut_back (suc k) n ps h.1)

  -- some, and those that follow them
  pub put_together : (k : ℕ) (ps qs : List HeldPass) → PassesFrom table k ps
      → PassesFrom table (k + length ps) qs → PassesFrom table k (ps ++ qs)
  put_together k [] qs h later =
      let same : k + 0 ≡ k = omega arith in subst (λ j. PassesFrom table j qs) same later
  put_together k (p ∷ ps) qs h later =
      let same : k + suc (length ps) ≡ suc k + length ps = omega arith in (
        h.0,
        put_together (suc k) ps qs h.1 (subst (λ j. PassesFrom table j qs) same later),
      )

  -- one of them
  pub one_of : (k i : ℕ) (ps : List HeldPass) (p : HeldPass) → PassesFrom table k ps
      → slice_get ps i ≡ Some p → IsPassAt table (k + i) p
  one_of k i [] p h at = absurd (none-some p at)
  one_of k zero (q ∷ ps) p h at =
      let same : k ≡ k + 0 = omega arith in
      subst (λ j. IsPassAt table j p) same (subst (IsPassAt table k) (same_Some _ _ at) h.0)
  one_of k (suc i) (q ∷ ps) p h at =
      let same : suc k + i ≡ k + suc i = omega arith in
      subst (λ j. IsPassAt table j p) same (one_of (suc k) i ps p h.1 at)

  -- one of them, after it has changed and is that CPU's still
  pub one_changed : (k i : ℕ) (ps : List HeldPass) (p : HeldPass) → PassesFrom table k ps
      → IsPassAt table (k + i) p → PassesFrom table k (set ps i p)
  one_changed k i [] p h is = tt
  one_changed k zero (q ∷ ps) p h is =
      let same : k + 0 ≡ k = omega arith in (subst (λ j. IsPassAt table j p) same is, h.1)
  one_changed k (suc i) (q ∷ ps) p h is =
      let same : k + suc i ≡ suc k + i = omega arith in (
        h.0,
        one_changed (suc k) i ps p h.1 (subst (λ j. IsPassAt table j p) same is),
      )

  -- those of a run that begins
  begun_from : (o : World) (made k n : ℕ) → IsSettled o
      → PassesFrom table k (map (begun_pass table o made) (range_with_len k n))
  begun_from o made k zero h = tt
  begun_from o made k (suc n) h =
      let same : k + 1 ≡ suc k = omega arith in (
        record {
          part = first_pass_of o made k;
          seated = refl;
          cpu = refl;
          outside = h.outside k;
        },
        subst (λ j. PassesFrom table j (map (begun_pass table o made) (range_with_len (k + 1) n)))
            same (begun_from o made (k + 1) n h),
      )

  range_count : (o : World) (made k n : ℕ)
      → length (map (begun_pass table o made) (range_with_len k n)) ≡ n
  range_count o made k zero = refl
  range_count o made k (suc n) = ap suc (range_count o made (k + 1) n)

  pub all_begun : (o : World) (made : ℕ) → IsSettled o
      → AreAllPasses table (length o.cpus) (begun_passes table o made)
  all_begun o made h = record {
    count = range_count o made 0 (length o.cpus);
    each = begun_from o made 0 (length o.cpus) h;
  }
