-- the set of isolated CPUs that words name
use Rattle.std.proofs.Common.{◌≡◌, ℕ, Bool, true, false, cond, not, ◌&&◌, ◌||◌, eqb, ltb, List, [], ◌∷◌, map, Some, None, Result, Ok, Err, refl, sym, ap, ◌∙◌}
use Rattle.std.specs.List.{list_any, list_all, range_with_len}
use Rattle.std.specs.FinSet.{contains, insert, from_list, contains-empty, contains-insert, contains-from_list_nat, same_set, nat_cmp-IsAntisymmetric}
use Rattle.std.specs.Ordering.{nat_cmp}
use Rattle.std.specs.Cmp.{nat_cmp_total, unsigned_tied, nat_eq_equiv}
use Rattle.std.proofs.lemmas.Bool.{and_parts}
use Rattle.text_words.specs.Numbers.{is_number, value_of}
use Rattle.tm_base.specs.CpuSet.{Cpus}
use Rattle.tm_script.specs.declared.faults.Kind.{Kind}
use Rattle.tm_script.specs.declared.faults.Kind.TheVariants.{BadNumber, OutOfRange, OutOfOrder}
use Rattle.tm_script.specs.declared.isolated.Named.{Named}
use Rattle.tm_script.specs.Judge.{is_after, rise, leaves_some}
use Rattle.tm_script.specs.Reading.{with_number, no_numbers, spares, isolated_by, isolated_from}
use Rattle.tm_script.proofs.Rows.{number_step, cond_and}

module _ (count : ℕ) where
  -- the numbers so far and further ones
  with_all : Named → List ℕ → Named
  with_all s [] = s
  with_all s (n ∷ ns) = with_all (with_number count s n) ns

  by_numbers : (ws : List (List ℕ)) (s : Named) → isolated_from count s ws ≡ cond (list_all is_number ws) (isolated_by count (with_all s (map value_of ws))) (Err BadNumber)
  unfolding isolated_from with_all
  by_numbers [] s = refl
  by_numbers (w ∷ ws) s =
      number_step w (λ n. isolated_from count (with_number count s n) ws)
      ∙ ap (λ (r : Result Cpus Kind). cond (is_number w) r (Err BadNumber)) (by_numbers ws (with_number count s (value_of w)))
      ∙ sym (cond_and (is_number w) (list_all is_number ws) _ (Err BadNumber))

  one_out : (a b c : Bool) → ((a || not b) || not c) ≡ (a || not (b && c))
  one_out true b c = refl
  one_out false true c = refl
  one_out false false c = refl

  or-false : (a : Bool) → (a || false) ≡ a
  or-false true = refl
  or-false false = refl

  far_all : (ns : List ℕ) (s : Named) → (with_all s ns).far ≡ (s.far || not (list_all (λ n. ltb n count) ns))
  unfolding with_all
  far_all [] s = sym (or-false s.far)
  far_all (n ∷ ns) s = far_all ns (with_number count s n) ∙ one_out s.far (ltb n count) (list_all (λ n. ltb n count) ns)

  falls_all : (ns : List ℕ) (s : Named) → (with_all s ns).falls ≡ (s.falls || not (rise s.last ns))
  unfolding with_all
  falls_all [] s = sym (or-false s.falls)
  falls_all (n ∷ ns) s = falls_all ns (with_number count s n) ∙ one_out s.falls (is_after s.last n) (rise (Some n) ns)

  one_in : (a b c : Bool) → (a || (b || c)) ≡ ((b || a) || c)
  one_in true true c = refl
  one_in true false c = refl
  one_in false true c = refl
  one_in false false c = refl

  named_all : (ns : List ℕ) (s : Named) → list_all (λ n. ltb n count) ns ≡ true → (q : ℕ) → contains (with_all s ns).cpus q ≡ (list_any (λ n. eqb n q) ns || contains s.cpus q)
  unfolding with_all
  named_all [] s h q = refl
  named_all (n ∷ ns) s h q =
      let both = and_parts (ltb n count) _ h in
      named_all ns (with_number count s n) both.1 q
      ∙ ap (λ (t : Bool). list_any (λ n. eqb n q) ns || contains (cond t (insert s.cpus n) s.cpus) q) both.0
      ∙ ap (λ (t : Bool). list_any (λ n. eqb n q) ns || t) (contains-insert nat_cmp_total s.cpus n q ∙ ap (λ (t : Bool). t || contains s.cpus q) (unsigned_tied q n ∙ nat_eq_equiv.symm q n))
      ∙ one_in (list_any (λ n. eqb n q) ns) (eqb n q) (contains s.cpus q)

  named_are : (ns : List ℕ) → list_all (λ n. ltb n count) ns ≡ true → (with_all no_numbers ns).cpus ≡ from_list ns
  named_are ns h =
      same_set nat_cmp_total nat_cmp-IsAntisymmetric _ _ (λ q.
      named_all ns no_numbers h q
      ∙ ap (λ (t : Bool). list_any (λ n. eqb n q) ns || t) (contains-empty nat_cmp q)
      ∙ or-false _ ∙ sym (contains-from_list_nat ns q))

  spares_are : (ns : List ℕ) → spares count (from_list ns) ≡ leaves_some count ns
  unfolding spares
  spares_are ns = λ i. list_any (λ c. not (contains-from_list_nat ns c i)) (range_with_len 0 count)

  turned : (a b : Bool) (cpus : Cpus) → cond (not a) (Err OutOfRange) (cond (not b) (Err OutOfOrder) (Ok cpus)) ≡ cond a (cond b (Ok cpus) (Err OutOfOrder)) (Err OutOfRange)
  turned true true cpus = refl
  turned true false cpus = refl
  turned false b cpus = refl

  tests_row : (t : Bool) (ns : List ℕ) → list_all (λ n. ltb n count) ns ≡ t
      → isolated_by count (with_all no_numbers ns) ≡ cond (t && leaves_some count ns) (cond (rise None ns) (Ok (from_list ns)) (Err OutOfOrder)) (Err OutOfRange)
  unfolding isolated_by
  tests_row true ns h =
      let far = far_all ns no_numbers ∙ ap (λ (t : Bool). not t) h in
      let falls = falls_all ns no_numbers in
      let cpus = named_are ns h in
      (λ i. cond (far i || not (spares count (cpus i))) (Err OutOfRange) (cond (falls i) (Err OutOfOrder) (Ok (cpus i))))
      ∙ (λ i. cond (not (spares_are ns i)) (Err OutOfRange) (cond (not (rise None ns)) (Err OutOfOrder) (Ok (from_list ns))))
      ∙ turned (leaves_some count ns) (rise None ns) (from_list ns)
  tests_row false ns h =
      let far = far_all ns no_numbers ∙ ap (λ (t : Bool). not t) h in
      let s = with_all no_numbers ns in
      (λ i. cond (far i || not (spares count s.cpus)) (Err OutOfRange) (cond s.falls (Err OutOfOrder) (Ok s.cpus)))

-- what words behind `isolated` say
pub isolated_tests : (count : ℕ) (ws : List (List ℕ)) → isolated_from count no_numbers ws
    ≡ cond (list_all is_number ws) (cond (list_all (λ n. ltb n count) (map value_of ws) && leaves_some count (map value_of ws)) (cond (rise None (map value_of ws)) (Ok (from_list (map value_of ws))) (Err OutOfOrder)) (Err OutOfRange)) (Err BadNumber)
isolated_tests count ws =
    by_numbers count ws no_numbers
    ∙ ap (λ (r : Result Cpus Kind). cond (list_all is_number ws) r (Err BadNumber)) (tests_row count (list_all (λ n. ltb n count) (map value_of ws)) (map value_of ws) refl)
