-- where a child stands: in which group and at which child number, found by search and listed by the links
use Rattle.std.proofs.Common.{◌≡◌, ℕ, zero, suc, ◌+◌, ◌<◌, ⊎_elim, Bool, true, false, cond, ltb, List, [], ◌∷◌, ◌++◌, length, map, get_or, Some, None, refl, sym, ◌∙◌, ap, subst, arith, add-zero, length-append}
use Rattle.std.specs.Prelude.{slice_get, position}
use Rattle.std.specs.List.{position_or_len, list_any}
use Rattle.std.proofs.lemmas.Option.{none-some, same_Some, slice_get-get_or, get_or_from_slice_get}
use Rattle.std.proofs.lemmas.Bool.{eqb-true, eq-eqb, false_from_ne_true, false≢true, or_cases, or_left, or_right, lt-ltb, cond-true}
use Rattle.std.proofs.lemmas.List.FromFn.{length-map-range_with_len}
use Rattle.std.proofs.lemmas.List.Sums.{position_or_len_is}
use Rattle.std.proofs.lemmas.List.Quantifiers.{position-Some}
use Rattle.tree_plan.specs.declared.cutting.Link.{Link}
use Rattle.tm_base.specs.declared.names.Child.{Child}
use Rattle.tm_base.specs.declared.names.Child.TheVariants.{Cpu, Group}
use Rattle.tm_base.specs.Children.{of_cpu, of_group, same_child}
use Rattle.tree_plan.specs.Shape.{joined}
use Rattle.tree_plan.specs.Store.{links_to, links_from}
use Rattle.tree_plan.proofs.Gets.{get_left, get_right, get_either, get_within, get_range}

pub same_child-true : (a b : Child) → same_child a b ≡ true → a ≡ b
unfolding same_child
same_child-true (Cpu c) (Cpu d) e = ap of_cpu (eqb-true c.0 d.0 e)
same_child-true (Cpu c) (Group g) e = absurd (false≢true e)
same_child-true (Group g) (Cpu c) e = absurd (false≢true e)
same_child-true (Group g) (Group h) e = ap of_group (eqb-true g.0 h.0 e)

pub same_child-self : (a : Child) → same_child a a ≡ true
unfolding same_child
same_child-self (Cpu c) = eq-eqb c.0 c.0 refl
same_child-self (Group g) = eq-eqb g.0 g.0 refl

-- m is one of these children
abbrev pub has : Child → List Child → Bool
has m run = list_any (same_child m) run

has_from : (m : Child) (run : List Child) → has m run ≡ true → (k : ℕ) × (slice_get run k ≡ Some m)
has_from m [] e = absurd (false≢true e)
has_from m (x ∷ run) e =
    ⊎_elim (λ here. (zero, ap Some (sym (same_child-true m x here))))
    (λ later. let at = has_from m run later in (suc at.0, at.1))
    (or_cases (same_child m x) (has m run) e)

has_at : (m : Child) (run : List Child) (k : ℕ) → slice_get run k ≡ Some m → has m run ≡ true
has_at m [] k e = absurd (none-some m e)
has_at m (x ∷ run) zero e =
    or_left (same_child m x) (has m run) (subst (λ y. same_child m y ≡ true) (sym (same_Some _ _ e)) (same_child-self m))
has_at m (x ∷ run) (suc k) e = or_right (same_child m x) (has m run) (has_at m run k e)

-- no two children of these groups are the same
abbrev pub Distinct : List (List Child) → Type 0
Distinct groups = (p q k j : ℕ) (m : Child) (run other : List Child) → slice_get groups p ≡ Some run → slice_get run k ≡ Some m → slice_get groups q ≡ Some other → slice_get other j ≡ Some m → (p ≡ q) × (k ≡ j)

-- the group that has a child is found where the child stands
pub found_group : (groups : List (List Child)) → Distinct groups → (p k : ℕ) (m : Child) (run : List Child) →
    slice_get groups p ≡ Some run → slice_get run k ≡ Some m → position (has m) groups ≡ Some p
found_group groups distinct p k m run here there =
    let inside : p < length groups = get_within groups p run here in
    let elsewhere : (q : ℕ) → q < p → has m (get_or groups q []) ≡ false = λ q before. false_from_ne_true _ (λ found.
    let at = has_from m (get_or groups q []) found in
    absurd (omega (arith, (distinct p q k at.0 m run (get_or groups q []) here there (slice_get-get_or groups q [] (omega arith)) at.1).0))) in
    let first : position_or_len (has m) groups ≡ p =
    position_or_len_is (has m) groups p [] (omega arith) elsewhere (λ _. subst (λ r. has m r ≡ true) (sym (get_or_from_slice_get groups p run [] here)) (has_at m run k there)) in
    (λ i. cond (ltb (first i) (length groups)) (Some (first i)) None) ∙ cond-true (ltb p (length groups)) (Some p) None (lt-ltb p (length groups) inside)

pub found_bit : (groups : List (List Child)) → Distinct groups → (p k : ℕ) (m : Child) (run : List Child) →
    slice_get groups p ≡ Some run → slice_get run k ≡ Some m → position_or_len (same_child m) run ≡ k
found_bit groups distinct p k m run here there =
    let inside : k < length run = get_within run k m there in
    let elsewhere : (j : ℕ) → j < k → same_child m (get_or run j m) ≡ false = λ j before. false_from_ne_true _ (λ found.
    let at : slice_get run j ≡ Some m = slice_get-get_or run j m (omega arith) ∙ ap Some (sym (same_child-true m (get_or run j m) found)) in
    absurd (omega (arith, (distinct p p k j m run run here there here at).1))) in
    position_or_len_is (same_child m) run k m (omega arith) elsewhere (λ _. subst (λ x. same_child m x ≡ true) (sym (get_or_from_slice_get run k m m there)) (same_child-self m))

-- a group that is found has the child
pub found_has : (groups : List (List Child)) (p : ℕ) (m : Child) → position (has m) groups ≡ Some p →
    (run : List Child) × (k : ℕ) × (slice_get groups p ≡ Some run) × (slice_get run k ≡ Some m)
found_has groups p m e =
    let found = position-Some (has m) groups p [] e in
    let at = has_from m (get_or groups p []) found.1 in
    (get_or groups p [], at.0, slice_get-get_or groups p [] found.0, at.1)

-- ---- the links in the order of the children

abbrev link : (g k : ℕ) → Link
link g k = record { parent = record { 0 = g }; bit = k }

length-links_to : (g n : ℕ) → length (links_to g n) ≡ n
unfolding links_to
length-links_to g n = length-map-range_with_len (link g) 0 n

get-links_to : (g n k : ℕ) → k < n → slice_get (links_to g n) k ≡ Some (link g k)
unfolding links_to
get-links_to g n k inside = get_range (link g) 0 n k inside ∙ ap (λ j. Some (link g j)) (omega arith)

-- m is child number `bit` of the group at `group`, and the link at index i says so
pub record Seat (first : ℕ) (groups : List (List Child)) (i : ℕ) (m : Child) : Type 0 where
  pub group : ℕ
  pub bit : ℕ
  pub run : List Child
  pub in_group : slice_get groups group ≡ Some run
  pub at_bit : slice_get run bit ≡ Some m
  pub linked : slice_get (links_from first (map length groups)) i ≡ Some (link (first + group) bit)

-- the links behind those of the first group
links_behind : (first : ℕ) (run : List Child) (groups : List (List Child)) (i j : ℕ) → i ≡ length run + j →
    slice_get (links_from first (map length (run ∷ groups))) i ≡ slice_get (links_from (suc first) (map length groups)) j
unfolding links_from
links_behind first run groups i j at =
    ap (slice_get (links_to first (length run) ++ links_from (suc first) (map length groups))) (at ∙ ap (λ n. n + j) (sym (length-links_to first (length run))))
    ∙ get_right (links_to first (length run)) (links_from (suc first) (map length groups)) j

-- the links of the first group
links_in_front : (first : ℕ) (run : List Child) (groups : List (List Child)) (k : ℕ) → k < length run →
    slice_get (links_from first (map length (run ∷ groups))) k ≡ Some (link (first + 0) k)
unfolding links_from
links_in_front first run groups k inside =
    get_left (links_to first (length run)) (links_from (suc first) (map length groups)) k (link first k) (get-links_to first (length run) k inside)
    ∙ ap (λ g. Some (link g k)) (sym (add-zero first))

-- the child at an index of all children stands where the link at that index says
pub seat_of : (first : ℕ) (groups : List (List Child)) (i : ℕ) (m : Child) → slice_get (joined groups) i ≡ Some m →
    Seat first groups i m
seat_of first [] i m e = absurd (none-some m e)
seat_of first (run ∷ groups) i m e =
    ⊎_elim (λ here. record {
      group = 0;
      bit = i;
      run = run;
      in_group = refl;
      at_bit = here;
      linked = links_in_front first run groups i (get_within run i m here);
    })
    (λ later.
    let seat = seat_of (suc first) groups later.0 m later.2 in
    record {
      group = suc seat.group;
      bit = seat.bit;
      run = seat.run;
      in_group = seat.in_group;
      at_bit = seat.at_bit;
      linked = links_behind first run groups i later.0 later.1 ∙ (seat.linked ∙ ap (λ g. Some (link g seat.bit)) (omega arith));
    })
    (get_either run (joined groups) i m e)

-- and so the other way round
pub record Index (first : ℕ) (groups : List (List Child)) (p k : ℕ) (m : Child) : Type 0 where
  pub index : ℕ
  pub child : slice_get (joined groups) index ≡ Some m
  pub linked : slice_get (links_from first (map length groups)) index ≡ Some (link (first + p) k)

pub index_of : (first : ℕ) (groups : List (List Child)) (p k : ℕ) (m : Child) (run : List Child) →
    slice_get groups p ≡ Some run → slice_get run k ≡ Some m → Index first groups p k m
index_of first [] p k m run here there = absurd (none-some run here)
index_of first (other ∷ groups) zero k m run here there =
    let at : slice_get other k ≡ Some m = subst (λ r. slice_get r k ≡ Some m) (sym (same_Some _ _ here)) there in
    record {
      index = k;
      child = get_left other (joined groups) k m at;
      linked = links_in_front first other groups k (get_within other k m at);
    }
index_of first (other ∷ groups) (suc p) k m run here there =
    let rest = index_of (suc first) groups p k m run here there in
    record {
      index = length other + rest.index;
      child = get_right other (joined groups) rest.index ∙ rest.child;
      linked = links_behind first other groups (length other + rest.index) rest.index refl ∙ (rest.linked ∙ ap (λ g. Some (link g k)) (omega arith));
    }

pub length-links_from : (first : ℕ) (groups : List (List Child)) →
    length (links_from first (map length groups)) ≡ length (joined groups)
unfolding links_from
length-links_from first [] = refl
length-links_from first (run ∷ groups) =
    length-append (links_to first (length run)) (links_from (suc first) (map length groups))
    ∙ ((λ i. length-links_to first (length run) i + length-links_from (suc first) groups i) ∙ sym (length-append run (joined groups)))

-- children that all differ stand in one place each
pub distinct_from : (groups : List (List Child)) →
    ((i j : ℕ) (m : Child) → slice_get (joined groups) i ≡ Some m → slice_get (joined groups) j ≡ Some m → i ≡ j) →
    Distinct groups
distinct_from groups apart p q k j m run other here there here' there' =
    let one = index_of 0 groups p k m run here there in
    let two = index_of 0 groups q j m other here' there' in
    let same = apart one.index two.index m one.child two.child in
    let links : link (0 + p) k ≡ link (0 + q) j =
    same_Some _ _ (sym one.linked ∙ (ap (slice_get (links_from 0 (map length groups))) same ∙ two.linked)) in
    (omega (arith, ap (λ (l : Link). l.parent.0) links), ap (λ (l : Link). l.bit) links)

-- ---- the order of children

-- one child stands before another among all children
pub record StandsBefore (groups : List (List Child)) (m n : Child) : Type 0 where
  pub first : ℕ
  pub second : ℕ
  pub at_first : slice_get (joined groups) first ≡ Some m
  pub at_second : slice_get (joined groups) second ≡ Some n
  pub before : first < second

-- with one more group in front
behind : (run : List Child) (groups : List (List Child)) (m n : Child) → StandsBefore groups m n →
    StandsBefore (run ∷ groups) m n
behind run groups m n at = record {
  first = length run + at.first;
  second = length run + at.second;
  at_first = get_right run (joined groups) at.first ∙ at.at_first;
  at_second = get_right run (joined groups) at.second ∙ at.at_second;
  before = omega (arith, at.before);
}

-- the children of a group stand in the order of their child numbers
pub one_group : (groups : List (List Child)) (p k j : ℕ) (m n : Child) (run : List Child) →
    slice_get groups p ≡ Some run → slice_get run k ≡ Some m → slice_get run j ≡ Some n → k < j → StandsBefore groups m n
one_group [] p k j m n run here at at' before = absurd (none-some run here)
one_group (other ∷ groups) zero k j m n run here at at' before = record {
  first = k;
  second = j;
  at_first = get_left other (joined groups) k m (ap (λ r. slice_get r k) (same_Some _ _ here) ∙ at);
  at_second = get_left other (joined groups) j n (ap (λ r. slice_get r j) (same_Some _ _ here) ∙ at');
  before = before;
}
one_group (other ∷ groups) (suc p) k j m n run here at at' before =
    behind other groups m n (one_group groups p k j m n run here at at' before)

-- and the children of groups in the order of the groups
pub two_groups : (groups : List (List Child)) (p q k j : ℕ) (m n : Child) (run run' : List Child) →
    slice_get groups p ≡ Some run → slice_get run k ≡ Some m → slice_get groups q ≡ Some run' → slice_get run' j ≡ Some n →
    p < q → StandsBefore groups m n
two_groups [] p q k j m n run run' here at here' at' before = absurd (none-some run here)
two_groups (other ∷ groups) p zero k j m n run run' here at here' at' before = absurd (omega arith)
two_groups (other ∷ groups) zero (suc q) k j m n run run' here at here' at' before =
    let in_other : slice_get other k ≡ Some m = ap (λ r. slice_get r k) (same_Some _ _ here) ∙ at in
    let later = index_of 0 groups q j n run' here' at' in
    record {
      first = k;
      second = length other + later.index;
      at_first = get_left other (joined groups) k m in_other;
      at_second = get_right other (joined groups) later.index ∙ later.child;
      before = omega (arith, get_within other k m in_other);
    }
two_groups (other ∷ groups) (suc p) (suc q) k j m n run run' here at here' at' before =
    behind other groups m n (two_groups groups p q k j m n run run' here at here' at' (omega arith))
