-- the placed CPUs in ascending order: where each stands among them, and what stands there
use Rattle.std.proofs.Common.{◌≡◌, ℕ, zero, suc, ◌+◌, ◌-◌, ◌<◌, ◌≤◌, Bool, true, false, cond, List, [], ◌∷◌, ◌++◌, length, Some, refl, sym, ◌∙◌, ap, arith, add-zero, zero-add, length-append}
use Rattle.std.specs.Prelude.{slice_get, filter, not, nat_lt}
use Rattle.std.specs.List.{range_with_len}
use Rattle.std.specs.Int.{from_bool}
use Rattle.std.specs.FinSet.{contains}
use Rattle.std.proofs.lemmas.Bool.{cond_both, ltb-true, lt-ltb, and_parts, and_from, not-true, not_from_false}
use Rattle.std.proofs.lemmas.List.Elements.{filter-append}
use Rattle.std.proofs.lemmas.List.FromFn.{length-range_with_len}
use Rattle.std.proofs.lemmas.List.Sums.{length-filter, count_by-le-length}
use Rattle.tm_base.specs.CpuSet.{Cpus}
use Rattle.std.proofs.lemmas.Option.{none-some, same_Some}
use Rattle.tree_plan.specs.Shape.{Shape, placed_from}
use Rattle.tree_plan.specs.Paths.{cpu_count_of, is_placed_in}

pub range-append : (a n m : ℕ) → range_with_len a (n + m) ≡ range_with_len a n ++ range_with_len (a + n) m
range-append a zero m = let none : 0 + m ≡ m = omega arith in λ i. range_with_len (sym (add-zero a) i) (none i)
range-append a (suc n) m =
    let longer : suc n + m ≡ suc (n + m) = omega arith in
    let on : a + 1 + n ≡ a + suc n = omega arith in
    ap (range_with_len a) longer ∙ (λ i. a ∷ (range-append (a + 1) n m ∙ ap (λ k. range_with_len (a + 1) n ++ range_with_len k m) on) i)

-- how many numbers of a range pass a test
abbrev pub rank_in : (ℕ → Bool) → (a n : ℕ) → ℕ
rank_in p a n = length (filter p (range_with_len a n))

-- a number that passes stands where as many pass before it
pub at_rank : (p : ℕ → Bool) (a n k : ℕ) → k < n → p (a + k) ≡ true →
    slice_get (filter p (range_with_len a n)) (rank_in p a k) ≡ Some (a + k)
at_rank p a zero k inside passes = absurd (omega arith)
at_rank p a (suc n) zero inside passes =
    let here : p a ≡ true = ap p (sym (add-zero a)) ∙ passes in
    ap (λ b. slice_get (cond b (a ∷ filter p (range_with_len (a + 1) n)) (filter p (range_with_len (a + 1) n))) 0) here
    ∙ ap Some (sym (add-zero a))
at_rank p a (suc n) (suc k) inside passes =
    let on : a + 1 + k ≡ a + suc k = omega arith in
    let rest : slice_get (filter p (range_with_len (a + 1) n)) (rank_in p (a + 1) k) ≡ Some (a + suc k) =
    at_rank p (a + 1) n k (omega arith) (ap p on ∙ passes) ∙ ap Some on in
    either (p a) rest
  where
    either : (b : Bool) →
        slice_get (filter p (range_with_len (a + 1) n)) (rank_in p (a + 1) k) ≡ Some (a + suc k) →
        slice_get (cond b (a ∷ filter p (range_with_len (a + 1) n)) (filter p (range_with_len (a + 1) n))) (length (cond b (a ∷ filter p (range_with_len (a + 1) k)) (filter p (range_with_len (a + 1) k)))) ≡ Some (a + suc k)
    either true rest = rest
    either false rest = rest

-- and what stands at an index passes and has that rank
pub record Ranked (p : ℕ → Bool) (a n i c : ℕ) : Type 0 where
  pub offset : ℕ
  pub within : offset < n
  pub number : c ≡ a + offset
  pub passes : p c ≡ true
  pub rank : i ≡ rank_in p a offset

pub from_rank : (p : ℕ → Bool) (a n i c : ℕ) → slice_get (filter p (range_with_len a n)) i ≡ Some c → Ranked p a n i c
from_rank p a zero i c e = absurd (none-some c e)
from_rank p a (suc n) i c e = either (λ j f. from_rank p (a + 1) n j c f) (p a) refl i e
  where
    rest : List ℕ
    rest = filter p (range_with_len (a + 1) n)

    on : (k : ℕ) → a + 1 + k ≡ a + suc k
    on k = omega arith

    either : ((j : ℕ) → slice_get rest j ≡ Some c → Ranked p (a + 1) n j c) →
        (b : Bool) → p a ≡ b → (i : ℕ) → slice_get (cond b (a ∷ rest) rest) i ≡ Some c → Ranked p a (suc n) i c
    either again true is zero e = record {
      offset = 0;
      within = omega arith;
      number = sym (same_Some _ _ e) ∙ sym (add-zero a);
      passes = ap p (sym (same_Some _ _ e)) ∙ is;
      rank = refl;
    }
    either again true is (suc i) e =
        let up = again i e in
        record {
          offset = suc up.offset;
          within = omega (arith, up.within);
          number = up.number ∙ on up.offset;
          passes = up.passes;
          rank = ap suc up.rank ∙ ap (λ b. length (cond b (a ∷ filter p (range_with_len (a + 1) up.offset)) (filter p (range_with_len (a + 1) up.offset)))) (sym is);
        }
    either again false is i e =
        let up = again i e in
        record {
          offset = suc up.offset;
          within = omega (arith, up.within);
          number = up.number ∙ on up.offset;
          passes = up.passes;
          rank = up.rank ∙ ap (λ b. length (cond b (a ∷ filter p (range_with_len (a + 1) up.offset)) (filter p (range_with_len (a + 1) up.offset)))) (sym is);
        }

-- ranks don't fall
pub rank_up : (p : ℕ → Bool) (a k n : ℕ) → k ≤ n → rank_in p a k ≤ rank_in p a n
rank_up p a k n up =
    let whole : k + (n - k) ≡ n = omega arith in
    let parts : filter p (range_with_len a n) ≡ filter p (range_with_len a k) ++ filter p (range_with_len (a + k) (n - k)) =
    ap (λ m. filter p (range_with_len a m)) (sym whole)
    ∙ (ap (filter p) (range-append a k (n - k)) ∙ filter-append p (range_with_len a k) (range_with_len (a + k) (n - k))) in
    omega (arith, ap length parts, length-append (filter p (range_with_len a k)) (filter p (range_with_len (a + k) (n - k))))

-- ---- placed CPUs

pub placed_parts : (t : Shape) (c : ℕ) → is_placed_in t c ≡ true → (c < cpu_count_of t) × (contains t.isolated c ≡ false)
placed_parts t c is =
    let both = and_parts (nat_lt c (cpu_count_of t)) (not (contains t.isolated c)) is in
    (ltb-true c (cpu_count_of t) both.0, not-true (contains t.isolated c) both.1)

pub is_placed : (t : Shape) (c : ℕ) → c < cpu_count_of t → contains t.isolated c ≡ false → is_placed_in t c ≡ true
is_placed t c inside free =
    and_from (nat_lt c (cpu_count_of t)) (not (contains t.isolated c)) (lt-ltb c (cpu_count_of t) inside) (not_from_false (contains t.isolated c) free)

-- no more CPUs are placed than there are
pub few_placed : (isolated : Cpus) (first n : ℕ) → length (placed_from isolated first n) ≤ n
few_placed isolated first n =
    omega (arith, length-filter (λ c. not (contains isolated c)) (range_with_len first n), count_by-le-length (λ c. not (contains isolated c)) (range_with_len first n), length-range_with_len first n)

-- one number more
pub rank_more : (p : ℕ → Bool) (a n : ℕ) → rank_in p a (n + 1) ≡ rank_in p a n + from_bool (p (a + n))
rank_more p a n =
    let one : (b : Bool) → length (cond b ((a + n) ∷ []) []) ≡ from_bool b = λ b. cond_both b ((a + n) ∷ []) [] (λ xs. length xs ≡ from_bool b) (λ e. ap from_bool (sym e)) (λ e. ap from_bool (sym e)) in
    ap (λ xs. length (filter p xs)) (range-append a n 1)
    ∙ (ap length (filter-append p (range_with_len a n) (range_with_len (a + n) 1))
    ∙ (length-append (filter p (range_with_len a n)) (filter p (range_with_len (a + n) 1)) ∙ ap (λ k. rank_in p a n + k) (one (p (a + n)))))

-- the count of placed CPUs, with one CPU more
pub placed_more : (isolated : Cpus) (first cpu placed more : ℕ) → first ≤ cpu →
    placed ≡ length (placed_from isolated first (cpu - first)) → more ≡ from_bool (not (contains isolated cpu)) →
    placed + more ≡ length (placed_from isolated first (cpu + 1 - first))
placed_more isolated first cpu placed more up before one =
    let next : cpu - first + 1 ≡ cpu + 1 - first = omega arith in
    let here : first + (cpu - first) ≡ cpu = omega arith in
    (λ i. before i + (one ∙ ap (λ k. from_bool (not (contains isolated k))) (sym here)) i)
    ∙ (sym (rank_more (λ k. not (contains isolated k)) first (cpu - first)) ∙ ap (λ n. length (placed_from isolated first n)) next)

pub placed_next : (isolated : Cpus) (cpu placed more : ℕ) → placed ≡ length (placed_from isolated 0 cpu) →
    more ≡ from_bool (not (contains isolated cpu)) → placed + more ≡ length (placed_from isolated 0 (cpu + 1))
placed_next isolated cpu placed more before one =
    (λ i. before i + (one ∙ ap (λ k. from_bool (not (contains isolated k))) (sym (zero-add cpu))) i)
    ∙ sym (rank_more (λ k. not (contains isolated k)) 0 cpu)

-- a truth value is 0 or 1
pub bool_low : (b : Bool) → from_bool b ≤ 1
bool_low true = omega arith
bool_low false = omega arith
