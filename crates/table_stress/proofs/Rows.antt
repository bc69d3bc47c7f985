-- quiet passes in the order of their CPUs: as they begin, cut in two, put together, and one of them
use Rattle.std.proofs.Common.{◌≡◌, ℕ, zero, suc, ◌+◌, ◌<◌, ◌≤◌, List, [], ◌∷◌, ◌++◌, length, map}
use Rattle.std.proofs.Common.{take, drop, set, get_or, Some, refl, sym, ap, ◌∙◌, subst, arith}
use Rattle.std.specs.List.{range_with_len}
use Rattle.std.specs.Prelude.{slice_get}
use Rattle.std.proofs.lemmas.List.{length-append, length-drop, length-take-le}
use Rattle.std.proofs.lemmas.Option.{none-some, same_Some, slice_get-get_or}
use Rattle.atomic_table.specs.Seated.{TableId}
use Rattle.core_world.specs.Covered.{IsSettled}
use Rattle.core_world.specs.World.{World}
use Rattle.idle_wakeup.specs.shared_rule.Starts.{first_pass_of}
use Rattle.idle_wakeup.specs.shared_rule.Passes.{HeldPass}
use Rattle.shared_rows.specs.shared_table.Begun.{begun_pass, begun_passes}
use Rattle.shared_rows.specs.shared_table.Ended.{AreAllPasses, PassesFrom}
use Rattle.table_stress.specs.Quiet.{IsStressedPass, IsQuietAt, QuietFrom, StaysQuiet}

module _ (table : TableId) (o : World) where
  cut_front : (k n : ℕ) (ps : List HeldPass) → QuietFrom table o k ps
      → QuietFrom table o k (take n ps)
  cut_front k zero [] h = tt
  cut_front k zero (p ∷ ps) h = tt
  cut_front k (suc n) [] h = tt
  cut_front k (suc n) (p ∷ ps) h = (h.0, cut_front (suc k) n ps h.1)

  cut_back : (k n : ℕ) (ps : List HeldPass) → QuietFrom table o k ps
      → QuietFrom table o (k + n) (drop n ps)
  cut_back k zero ps h =
      let same : k ≡ k + 0 = omega arith in subst (λ j. QuietFrom table o j ps) same h
  cut_back k (suc n) [] h = tt
  cut_back k (suc n) (p ∷ ps) h =
      let same : suc k + n ≡ k + suc n = omega arith in
      subst (λ j. QuietFrom table o j (drop n ps)) same (cut_back (suc k) n ps h.1)

  put_together : (k : ℕ) (ps qs : List HeldPass) → QuietFrom table o k ps
      → QuietFrom table o (k + length ps) qs → QuietFrom table o k (ps ++ qs)
  put_together k [] qs h later =
      let same : k + 0 ≡ k = omega arith in subst (λ j. QuietFrom table o j qs) same later
  put_together k (p ∷ ps) qs h later =
      let same : k + suc (length ps) ≡ suc k + length ps = omega arith in (
        h.0,
        put_together (suc k) ps qs h.1 (subst (λ j. QuietFrom table o j qs) same later),
      )

  one_of : (k i : ℕ) (ps : List HeldPass) (p : HeldPass) → QuietFrom table o k ps
      → slice_get ps i ≡ Some p → IsQuietAt table o (k + i) p
  one_of k i [] p h at = absurd (none-some p at)
  one_of k zero (q ∷ ps) p h at =
      let same : k ≡ k + 0 = omega arith in
      subst (λ j. IsQuietAt table o j p) same (subst (IsQuietAt table o k) (same_Some _ _ at) h.0)
  one_of k (suc i) (q ∷ ps) p h at =
      let same : suc k + i ≡ k + suc i = omega arith in
      subst (λ j. IsQuietAt table o j p) same (one_of (suc k) i ps p h.1 at)

  one_changed : (k i : ℕ) (ps : List HeldPass) (p : HeldPass) → QuietFrom table o k ps
      → IsQuietAt table o (k + i) p → QuietFrom table o k (set ps i p)
  one_changed k i [] p h is = tt
  one_changed k zero (q ∷ ps) p h is =
      let same : k + 0 ≡ k = omega arith in (subst (λ j. IsQuietAt table o j p) same is, h.1)
  one_changed k (suc i) (q ∷ ps) p h is =
      let same : k + suc i ≡ suc k + i = omega arith in (
        h.0,
        one_changed (suc k) i ps p h.1 (subst (λ j. IsQuietAt table o j p) same is),
      )

  -- those of a run that begins
  begun_from : (made k n : ℕ) → IsSettled o
      → QuietFrom table o k (map (begun_pass table o made) (range_with_len k n))
  begun_from made k zero h = tt
  begun_from made k (suc n) h =
      let same : k + 1 ≡ suc k = omega arith in (
        record {
          part = first_pass_of o made k;
          seated = refl;
          cpu = refl;
          rest = record {
            opening = refl;
            outside = h.outside k;
            goes_on = refl;
            marks = refl;
          };
        },
        subst (λ j. QuietFrom table o j (map (begun_pass table o made) (range_with_len (k + 1) n)))
            same (begun_from made (k + 1) n h),
      )

  range_count : (made k n : ℕ)
      → length (map (begun_pass table o made) (range_with_len k n)) ≡ n
  range_count made k zero = refl
  range_count made k (suc n) = ap suc (range_count made (k + 1) n)

  pub all_begun : (made : ℕ) (ps : List HeldPass) → IsSettled o → ps ≡ begun_passes table o made
      → QuietFrom table o 0 ps
  all_begun made ps h is =
      subst (QuietFrom table o 0) (sym is) (begun_from made 0 (length o.cpus) h)

  pub count_begun : (made : ℕ) (ps : List HeldPass) → ps ≡ begun_passes table o made
      → length ps ≡ length o.cpus
  count_begun made ps is = ap length is ∙ range_count made 0 (length o.cpus)

  -- they may end the run
  passes_from : (k : ℕ) (ps : List HeldPass) → QuietFrom table o k ps → PassesFrom table k ps
  passes_from k [] h = tt
  passes_from k (p ∷ ps) h = (
    record {
      part = h.0.part;
      seated = h.0.seated;
      cpu = h.0.cpu;
      outside = h.0.rest.outside;
    },
    passes_from (suc k) ps h.1,
  )

  pub all_passes : (n : ℕ) (ps : List HeldPass) → length ps ≡ n → QuietFrom table o 0 ps
      → AreAllPasses table n ps
  all_passes n ps count each = record { count = count; each = passes_from 0 ps each }

  -- ONE of passes of CPUs that follow one another
  module _ (first i : ℕ) (ps : List HeldPass) (d : HeldPass) (each : QuietFrom table o first ps)
      (low : i < length ps) where
    there : IsQuietAt table o (first + i) (get_or ps i d)
    there = one_of first i ps (get_or ps i d) each (slice_get-get_or ps i d low)

    pub with_one : (p : HeldPass) → StaysQuiet table o (get_or ps i d) p
        → QuietFrom table o first (set ps i p)
    with_one p stay = one_changed first i ps p each (stay (first + i) there)

    pub one_there : first + length ps ≤ length o.cpus → IsStressedPass table o (get_or ps i d)
    one_there few = record { cpu = first + i; low = omega (arith, few, low); at = there }

-- HALVES: passes are cut in two, and put together again after their CPUs have taken turns
module _ (table : TableId) (o : World) (k cut most : ℕ) (ps : List HeldPass)
    (each : QuietFrom table o k ps) (few : k + length ps ≤ most) (low : cut ≤ length ps)
    (front back : List HeldPass) (front_is : front ≡ take cut ps) (back_is : back ≡ drop cut ps)
  where
    front_count : length front ≡ cut
    front_count = ap length front_is ∙ length-take-le cut ps low

    back_count : cut + length back ≡ length ps
    back_count =
        let all = length-drop cut ps in let is = ap length back_is in omega (arith, all, is, low)

    pub front_from : QuietFrom table o k front
    front_from = subst (QuietFrom table o k) (sym front_is) (cut_front table o k cut ps each)

    pub back_from : QuietFrom table o (k + cut) back
    back_from = subst (QuietFrom table o (k + cut)) (sym back_is) (cut_back table o k cut ps each)

    -- both after they have changed
    module _ (ones others : List HeldPass) (from : QuietFrom table o k ones)
        (then : QuietFrom table o (k + cut) others) (many : length ones ≡ length front)
        (more : length others ≡ length back) where
      pub joined_from : QuietFrom table o k (ones ++ others)
      joined_from =
          let count : cut ≡ length ones = sym (many ∙ front_count) in
          put_together table o k ones others from
          (subst (λ n. QuietFrom table o (k + n) others) count then)

      pub joined_count : length (ones ++ others) ≡ length ps
      joined_count =
          let sum = length-append ones others in
          let a = front_count in
          let b = back_count in
          omega (arith, sum, many, more, a, b)
