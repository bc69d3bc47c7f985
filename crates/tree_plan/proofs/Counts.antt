-- how many groups a tree has at most
use Rattle.std.proofs.Common.{◌≡◌, ℕ, zero, suc, ◌+◌, ◌*◌, ◌/◌, ◌^◌, ◌≤◌, List, [], ◌∷◌, length, map, sym, ◌∙◌, ap, subst, arith, zero-add, eqb, ltb, length-append}
use Rattle.std.proofs.Math.Nat.{pow-suc}
use Rattle.std.proofs.lemmas.Bool.{cond_both, cond-true, cond-false, lt-ltb, le-ltb}
use Rattle.std.proofs.lemmas.List.{append-nil, length-map}
use Rattle.tm_base.specs.declared.names.Child.{Child}
use Rattle.tree_plan.specs.Shape.{levels_from, rows_at, numbered, cut, joined}
use Rattle.tree_plan.proofs.Cuts.{length-cut}
use Rattle.tree_plan.proofs.Stacks.{AtMost, length-at_most, at_most_next, length-members, same_rows}

-- the groups of k levels that bring so many members down to one: 1 + 8 + .. + 8 ^ (k - 1)
pub groups_below : ℕ → ℕ
groups_below zero = 0
groups_below (suc k) = 8 ^ k + groups_below k

across : (inner n l first : ℕ) (rows : List (List Child)) → inner ≤ l → length (joined rows) ≤ 8 ^ n →
    length (joined (levels_from inner n l first rows)) ≤ groups_below n
unfolding levels_from rows_at groups_below
across inner zero l first rows high few = omega arith
across inner (suc n) l first rows high few =
    let groups = map cut (rows_at inner l rows) in
    let above = levels_from inner n (suc l) (first + length (joined groups)) (numbered first groups) in
    let one_row : rows_at inner l rows ≡ joined rows ∷ [] = cond-false (ltb l inner) rows (joined rows ∷ []) (le-ltb l inner high) in
    let size : length (joined groups) ≡ (length (joined rows) + 7) / 8 =
    ap (λ cutting. length (joined (map cut cutting))) one_row ∙ (ap length (append-nil (cut (joined rows))) ∙ length-cut (joined rows)) in
    let few_here : length (joined groups) ≤ 8 ^ n = omega (arith, size, few, pow-suc 8 n) in
    let rest = across inner n (suc l) (first + length (joined groups)) (numbered first groups) (omega arith) (omega (arith, length-members first groups, few_here)) in
    cond_both (eqb (length (joined rows)) 1) [] (joined groups ∷ above) (λ levels. length (joined levels) ≤ 8 ^ n + groups_below n)
    (λ _. omega arith) (λ _. omega (arith, length-append (joined groups) (joined above), few_here, rest))

shared : (r x y : ℕ) → r * x + r * y ≡ r * (x + y)
shared r x y = grind arith

within : (inner k outer n l first : ℕ) (rows : List (List Child)) → l + k ≡ inner → n ≡ k + outer →
    AtMost (8 ^ k) rows → length rows ≤ 8 ^ outer →
    length (joined (levels_from inner n l first rows)) ≤ length rows * groups_below k + groups_below outer
unfolding levels_from rows_at groups_below
within inner zero outer n l first rows here all few_rows nodes =
    let low = across inner n l first rows (omega arith) (omega (arith, length-at_most 1 rows few_rows, ap (λ m. 8 ^ m) all, ap (λ m. 8 ^ m) (zero-add outer))) in
    let same : n ≡ outer = omega arith in
    omega (arith, subst (λ m. length (joined (levels_from inner n l first rows)) ≤ groups_below m) same low)
within inner (suc k) outer zero l first rows here all few_rows nodes = absurd (omega arith)
within inner (suc k) outer (suc n) l first rows here all few_rows nodes =
    let groups = map cut (rows_at inner l rows) in
    let above = levels_from inner n (suc l) (first + length (joined groups)) (numbered first groups) in
    let same : rows_at inner l rows ≡ rows = cond-true (ltb l inner) rows (joined rows ∷ []) (lt-ltb l inner (omega arith)) in
    let as_many : length (numbered first groups) ≡ length rows =
    same_rows first groups ∙ (length-map (rows_at inner l rows) (cut {A = Child}) ∙ ap length same) in
    let fewer : AtMost (8 ^ k) (numbered first groups) =
    subst (λ cutting. AtMost (8 ^ k) (numbered first (map cut cutting))) (sym same) (at_most_next (8 ^ k) first rows (subst (λ m. AtMost m rows) (pow-suc 8 k) few_rows)) in
    let here_few : length (joined groups) ≤ length rows * 8 ^ k =
    subst (λ m. length (joined groups) ≤ m * 8 ^ k) as_many (omega (arith, length-members first groups, length-at_most (8 ^ k) (numbered first groups) fewer)) in
    let rest : length (joined above) ≤ length rows * groups_below k + groups_below outer =
    subst (λ m. length (joined above) ≤ m * groups_below k + groups_below outer) as_many
    (within inner k outer n (suc l) (first + length (joined groups)) (numbered first groups) (omega arith) (omega arith) fewer (omega (arith, as_many))) in
    cond_both (eqb (length (joined rows)) 1) [] (joined groups ∷ above) (λ levels. length (joined levels) ≤ length rows * (8 ^ k + groups_below k) + groups_below outer)
    (λ _. omega arith)
    (λ _. omega (arith, length-append (joined groups) (joined above), here_few, rest, shared (length rows) (8 ^ k) (groups_below k)))

at_most_9 : (k : ℕ) → k ≤ 2 → groups_below k ≤ 9
unfolding groups_below
at_most_9 zero few = omega arith
at_most_9 (suc zero) few = omega arith
at_most_9 (suc (suc zero)) few = omega arith
at_most_9 (suc (suc (suc k))) few = absurd (omega arith)

at_most_1 : (k : ℕ) → k ≤ 1 → groups_below k ≤ 1
unfolding groups_below
at_most_1 zero few = omega arith
at_most_1 (suc zero) few = omega arith
at_most_1 (suc (suc k)) few = absurd (omega arith)

product : (n m k : ℕ) → n ≤ k → n * m ≤ k * m
product n m k h = grind arith

-- with at most 8 nodes, two levels within them and one across them there are at most 73 groups
pub groups_within : (inner outer : ℕ) (rows : List (List Child)) → inner ≤ 2 → outer ≤ 1 → AtMost (8 ^ inner) rows →
    length rows ≤ 8 ^ outer → length rows ≤ 8 →
    length (joined (levels_from inner (inner + outer) 0 0 rows)) ≤ 73
groups_within inner outer rows two one few_rows nodes eight =
    omega (arith, within inner inner outer (inner + outer) 0 0 rows (omega arith) (omega arith) few_rows nodes, at_most_9 inner two, at_most_1 outer one, product (length rows) (groups_below inner) 8 eight)
