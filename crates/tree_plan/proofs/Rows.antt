-- rows keep apart: what holds of all members of a row holds of the groups that it is cut into, as long as it is cut
-- by itself, and of these groups all but the last are full
use Rattle.std.proofs.Common.{◌≡◌, ℕ, zero, suc, ◌+◌, ◌-◌, ◌*◌, ◌/◌, ◌<◌, ◌≤◌, ◌⊎◌, inl, inr, ⊎_elim, eqb, ltb, List, [], ◌∷◌, ◌++◌, length, map, take, drop, Some, refl, sym, ◌∙◌, ap, subst, arith, add-zero, length-append}
use Rattle.std.specs.Prelude.{slice_get}
use Rattle.std.proofs.lemmas.Bool.{cases_lt, cond_both, cond-true, cond-false, lt-ltb, le-ltb}
use Rattle.std.proofs.lemmas.List.{append-nil, length-take, length-drop}
use Rattle.std.proofs.lemmas.Option.{none-some, same_Some}
use Rattle.tm_base.specs.declared.names.Child.{Child}
use Rattle.tm_base.specs.Children.{of_group}
use Rattle.tree_plan.specs.Shape.{levels_from, rows_at, numbered, cut, runs_of, joined}
use Rattle.tree_plan.specs.Paths.{level_in}
use Rattle.tree_plan.proofs.Gets.{get_left, get_right, get_either, get_within, get_range}
use Rattle.tree_plan.proofs.Cuts.{length-runs_of}
use Rattle.tree_plan.proofs.Stacks.{group_range, joined-numbered, first_level, later_level}

-- P holds of each member
abbrev pub AllIn : (Child → Type 0) → List Child → Type 0
AllIn P [] = Unit {0}
AllIn P (m ∷ ms) = P m × AllIn P ms

-- P holds of each member of each run
abbrev pub AllRunsIn : (Child → Type 0) → List (List Child) → Type 0
AllRunsIn P [] = Unit {0}
AllRunsIn P (run ∷ runs) = AllIn P run × AllRunsIn P runs

-- Q n holds of each member of the first row, Q (n + 1) of each one of the next, and so on
abbrev pub RowsOf : (ℕ → Child → Type 0) → ℕ → List (List Child) → Type 0
RowsOf Q n [] = Unit {0}
RowsOf Q n (row ∷ rows) = AllIn (Q n) row × RowsOf Q (suc n) rows

-- what holds of all children of a group of these levels, the first of which has the number `first`, holds of the group
abbrev pub Closed : (ℕ → Child → Type 0) → (first : ℕ) → List (List Child) → Type 0
Closed Q first groups = (n i : ℕ) (run : List Child) → slice_get groups i ≡ Some run → AllIn (Q n) run → Q n (of_group (first + i))

pub all_at : (P : Child → Type 0) (ms : List Child) (i : ℕ) (m : Child) → AllIn P ms → slice_get ms i ≡ Some m → P m
all_at P [] i m h e = absurd (none-some m e)
all_at P (x ∷ ms) zero m h e = subst P (same_Some _ _ e) h.0
all_at P (x ∷ ms) (suc i) m h e = all_at P ms i m h.1 e

all_take : (P : Child → Type 0) (k : ℕ) (ms : List Child) → AllIn P ms → AllIn P (take k ms)
all_take P zero ms h = tt
all_take P (suc k) [] h = tt
all_take P (suc k) (m ∷ ms) h = (h.0, all_take P k ms h.1)

all_drop : (P : Child → Type 0) (k : ℕ) (ms : List Child) → AllIn P ms → AllIn P (drop k ms)
all_drop P zero ms h = h
all_drop P (suc k) [] h = tt
all_drop P (suc k) (m ∷ ms) h = all_drop P k ms h.1

all_runs_of : (P : Child → Type 0) (n : ℕ) (ms : List Child) → AllIn P ms → AllRunsIn P (runs_of n ms)
unfolding runs_of
all_runs_of P zero ms h = tt
all_runs_of P (suc n) ms h = (all_take P 8 ms h, all_runs_of P n (drop 8 ms) (all_drop P 8 ms h))

all_cut : (P : Child → Type 0) (ms : List Child) → AllIn P ms → AllRunsIn P (cut ms)
unfolding cut
all_cut P ms h = all_runs_of P ((length ms + 7) / 8) ms h

-- the groups of one row
group_row : (Q : ℕ → Child → Type 0) (n first : ℕ) (runs : List (List Child)) → AllRunsIn (Q n) runs →
    Closed Q first runs → AllIn (Q n) (group_range first (length runs))
group_row Q n first [] h closed = tt
group_row Q n first (run ∷ runs) h closed = (
  subst (λ k. Q n (of_group k)) (add-zero first) (closed n 0 run refl h.0),
  group_row Q n (first + 1) runs h.1 (λ k i other at all.
      let on : first + suc i ≡ first + 1 + i = omega arith in
      subst (λ g. Q k (of_group g)) on (closed k (suc i) other at all)),
)

-- the groups of all rows
group_rows : (Q : ℕ → Child → Type 0) (n first : ℕ) (rows : List (List Child)) → RowsOf Q n rows →
    Closed Q first (joined (map cut rows)) → RowsOf Q n (numbered first (map cut rows))
unfolding numbered
group_rows Q n first [] h closed = tt
group_rows Q n first (row ∷ rows) h closed = (
  group_row Q n first (cut row) (all_cut (Q n) row h.0) (λ k i run at all. closed k i run (get_left (cut row) (joined (map cut rows)) i run at) all),
  group_rows Q (suc n) (first + length (cut row)) rows h.1 (λ k i run at all.
      let on : first + (length (cut row) + i) ≡ first + length (cut row) + i = omega arith in
      subst (λ g. Q k (of_group g)) on (closed k (length (cut row) + i) run (get_right (cut row) (joined (map cut rows)) i ∙ at) all)),
)

-- the row of a member, none before row n
pub row_of : (Q : ℕ → Child → Type 0) (n : ℕ) (rows : List (List Child)) (i : ℕ) (m : Child) → RowsOf Q n rows →
    slice_get (joined rows) i ≡ Some m → (r : ℕ) × (n ≤ r) × Q r m
row_of Q n [] i m h e = absurd (none-some m e)
row_of Q n (row ∷ rows) i m h e =
    ⊎_elim (λ here. (n, omega arith, all_at (Q n) row i m h.0 here))
    (λ later. let up = row_of Q (suc n) rows later.0 m h.1 later.2 in (up.0, omega (arith, up.1), up.2))
    (get_either row (joined rows) i m e)

-- ---- full groups

full_run : (n : ℕ) (ms : List Child) (i j : ℕ) (run : List Child) → n * 8 < length ms + 8 →
    slice_get (runs_of n ms) i ≡ Some run → i < j → j < n → length run ≡ 8
unfolding runs_of
full_run zero ms i j run fits at before within = absurd (omega arith)
full_run (suc n) ms zero j run fits at before within =
    ap length (sym (same_Some _ _ at)) ∙ omega (arith, length-take 8 ms)
full_run (suc n) ms (suc i) zero run fits at before within = absurd (omega arith)
full_run (suc n) ms (suc i) (suc j) run fits at before within =
    full_run n (drop 8 ms) i j run (omega (arith, length-drop 8 ms)) at (omega arith) (omega arith)

-- each run of a row but the last is full
full_cut : (ms : List Child) (i j : ℕ) (run : List Child) → slice_get (cut ms) i ≡ Some run → i < j →
    j < length (cut ms) → length run ≡ 8
unfolding cut
full_cut ms i j run at before within =
    full_run ((length ms + 7) / 8) ms i j run (omega arith) at before (omega (arith, length-runs_of ((length ms + 7) / 8) ms))

-- two groups of a level, of which the first is full or is of an earlier row
abbrev pub FullOrApart : (ℕ → Child → Type 0) → (g h : ℕ) → List Child → Type 0
FullOrApart Q g h run = (length run ≡ 8) ⊎ ((r s : ℕ) × (r < s) × Q r (of_group g) × Q s (of_group h))

pairs_of_level : (Q : ℕ → Child → Type 0) (n first : ℕ) (rows : List (List Child)) → RowsOf Q n rows →
    Closed Q first (joined (map cut rows)) → (i j : ℕ) (run : List Child) →
    slice_get (joined (map cut rows)) i ≡ Some run → i < j → j < length (joined (map cut rows)) →
    FullOrApart Q (first + i) (first + j) run
pairs_of_level Q n first [] h closed i j run at before within = absurd (omega arith)
pairs_of_level Q n first (row ∷ rows) h closed i j run at before within =
    let size = length (cut row) in
    let later_closed : Closed Q (first + size) (joined (map cut rows)) = λ k p other there all.
    let on : first + (size + p) ≡ first + size + p = omega arith in
    subst (λ g. Q k (of_group g)) on (closed k (size + p) other (get_right (cut row) (joined (map cut rows)) p ∙ there) all) in
    ⊎_elim (λ low.
    ⊎_elim (λ low'. inl (full_cut row i j run low before low'))
    (λ high'.
    let q = j - size in
    let in_row : AllIn (Q n) (group_range first size) =
    group_row Q n first (cut row) (all_cut (Q n) row h.0) (λ k p other there all. closed k p other (get_left (cut row) (joined (map cut rows)) p other there) all) in
    let one : Q n (of_group (first + i)) = all_at (Q n) (group_range first size) i (of_group (first + i)) in_row (get_range of_group first size i (get_within (cut row) i run low)) in
    let rest : RowsOf Q (suc n) (numbered (first + size) (map cut rows)) = group_rows Q (suc n) (first + size) rows h.1 later_closed in
    let there : slice_get (joined (numbered (first + size) (map cut rows))) q ≡ Some (of_group (first + size + q)) =
    ap (λ ms. slice_get ms q) (joined-numbered (first + size) (map cut rows))
    ∙ get_range of_group (first + size) (length (joined (map cut rows))) q (omega (arith, length-append (cut row) (joined (map cut rows)))) in
    let two = row_of Q (suc n) (numbered (first + size) (map cut rows)) q (of_group (first + size + q)) rest there in
    let on : first + size + q ≡ first + j = omega arith in
    inr (n, two.0, omega (arith, two.1), one, subst (λ g. Q two.0 (of_group g)) on two.2))
    (cases_lt j size))
    (λ high.
    let p = high.0 in
    let q = j - size in
    let on : first + size + p ≡ first + i = omega (arith, high.1) in
    let on' : first + size + q ≡ first + j = omega (arith, high.1) in
    let rest = pairs_of_level Q (suc n) (first + size) rows h.1 later_closed p q run high.2 (omega (arith, high.1)) (omega (arith, high.1, length-append (cut row) (joined (map cut rows)))) in
    ⊎_elim (λ full. inl full)
    (λ two. inr (two.0, two.1, two.2, subst (λ g. Q two.0 (of_group g)) on two.3, subst (λ g. Q two.1 (of_group g)) on' two.4)) rest)
    (get_either (cut row) (joined (map cut rows)) i run at)

-- ---- levels

-- the closure of the levels above
above_closed : (Q : ℕ → Child → Type 0) (first : ℕ) (level above : List (List Child)) → Closed Q first (level ++ above) →
    Closed Q (first + length level) above
above_closed Q first level above closed n i run at all =
    let on : first + (length level + i) ≡ first + length level + i = omega arith in
    subst (λ g. Q n (of_group g)) on (closed n (length level + i) run (get_right level above i ∙ at) all)

here_closed : (Q : ℕ → Child → Type 0) (first : ℕ) (level above : List (List Child)) → Closed Q first (level ++ above) →
    Closed Q first level
here_closed Q first level above closed n i run at all = closed n i run (get_left level above i run at) all

-- below the levels across rows each group is of one row
pub rowed : (Q : ℕ → Child → Type 0) (inner k n l first : ℕ) (rows : List (List Child)) → l + k ≡ inner →
    RowsOf Q 0 rows → Closed Q first (joined (levels_from inner n l first rows)) → (g : ℕ) →
    g < length (joined (levels_from inner n l first rows)) → level_in (levels_from inner n l first rows) g < k →
    (r : ℕ) × Q r (of_group (first + g))
unfolding levels_from rows_at
rowed Q inner zero n l first rows here h closed g inside low = absurd (omega arith)
rowed Q inner (suc k) zero l first rows here h closed g inside low = absurd (omega arith)
rowed Q inner (suc k) (suc n) l first rows here h closed g inside low =
    let groups = map cut (rows_at inner l rows) in
    let level = joined groups in
    let above = levels_from inner n (suc l) (first + length level) (numbered first groups) in
    let same : rows ≡ rows_at inner l rows = sym (cond-true (ltb l inner) rows (joined rows ∷ []) (lt-ltb l inner (omega arith))) in
    cond_both (eqb (length (joined rows)) 1) [] (level ∷ above)
    (λ levels. Closed Q first (joined levels) → g < length (joined levels) → level_in levels g < suc k → (r : ℕ) × Q r (of_group (first + g)))
    (λ _ closed inside low. absurd (omega arith))
    (λ _ closed inside low.
    let next : RowsOf Q 0 (numbered first groups) = group_rows Q 0 first (rows_at inner l rows) (subst (RowsOf Q 0) same h) (here_closed Q first level (joined above) closed) in
    ⊎_elim (λ in_level.
    let there : slice_get (joined (numbered first groups)) g ≡ Some (of_group (first + g)) =
    ap (λ ms. slice_get ms g) (joined-numbered first groups) ∙ get_range of_group first (length level) g in_level in
    let row = row_of Q 0 (numbered first groups) g (of_group (first + g)) next there in
    (row.0, row.2))
    (λ later.
    let q = g - length level in
    let on : first + length level + q ≡ first + g = omega arith in
    let up = rowed Q inner k n (suc l) (first + length level) (numbered first groups) (omega arith) next (above_closed Q first level (joined above) closed) q
    (omega (arith, length-append level (joined above))) (omega (arith, later_level level above g q (omega arith))) in
    (up.0, subst (λ m. Q up.0 (of_group m)) on up.1))
    (cases_lt g (length level)))
    closed inside low

-- and of two of them on one level the first is full or of an earlier row
pub rowed_pairs : (Q : ℕ → Child → Type 0) (inner k n l first : ℕ) (rows : List (List Child)) → l + k ≡ inner →
    RowsOf Q 0 rows → Closed Q first (joined (levels_from inner n l first rows)) → (g h : ℕ) (run : List Child) →
    slice_get (joined (levels_from inner n l first rows)) g ≡ Some run →
    g < h → h < length (joined (levels_from inner n l first rows)) →
    level_in (levels_from inner n l first rows) g ≡ level_in (levels_from inner n l first rows) h →
    level_in (levels_from inner n l first rows) g < k → FullOrApart Q (first + g) (first + h) run
unfolding levels_from rows_at
rowed_pairs Q inner zero n l first rows here all closed g h run at before inside same low = absurd (omega arith)
rowed_pairs Q inner (suc k) zero l first rows here all closed g h run at before inside same low = absurd (omega arith)
rowed_pairs Q inner (suc k) (suc n) l first rows here all closed g h run at before inside same low =
    let groups = map cut (rows_at inner l rows) in
    let level = joined groups in
    let above = levels_from inner n (suc l) (first + length level) (numbered first groups) in
    let kept : rows ≡ rows_at inner l rows = sym (cond-true (ltb l inner) rows (joined rows ∷ []) (lt-ltb l inner (omega arith))) in
    let rows_all : RowsOf Q 0 (rows_at inner l rows) = subst (RowsOf Q 0) kept all in
    cond_both (eqb (length (joined rows)) 1) [] (level ∷ above)
    (λ levels. Closed Q first (joined levels) → slice_get (joined levels) g ≡ Some run → h < length (joined levels) → level_in levels g ≡ level_in levels h → level_in levels g < suc k → FullOrApart Q (first + g) (first + h) run)
    (λ _ closed at inside same low. absurd (omega arith))
    (λ _ closed at inside same low.
    ⊎_elim (λ here_at.
    let in_level = get_within level g run here_at in
    let first_h : h < length level = ⊎_elim (λ yes. yes) (λ later. absurd (omega (arith, same, first_level level above g in_level, later_level level above h (h - length level) (omega arith)))) (cases_lt h (length level)) in
    pairs_of_level Q 0 first (rows_at inner l rows) rows_all (here_closed Q first level (joined above) closed) g h run here_at before first_h)
    (λ later.
    let p = later.0 in
    let q = h - length level in
    let up_g = later_level level above g p later.1 in
    let up_h = later_level level above h q (omega (arith, later.1)) in
    let next : RowsOf Q 0 (numbered first groups) = group_rows Q 0 first (rows_at inner l rows) rows_all (here_closed Q first level (joined above) closed) in
    let on : first + length level + p ≡ first + g = omega (arith, later.1) in
    let on' : first + length level + q ≡ first + h = omega (arith, later.1) in
    let up = rowed_pairs Q inner k n (suc l) (first + length level) (numbered first groups) (omega arith) next (above_closed Q first level (joined above) closed) p q run later.2
    (omega (arith, later.1)) (omega (arith, later.1, length-append level (joined above))) (omega (arith, same, up_g, up_h)) (omega (arith, low, up_g)) in
    ⊎_elim (λ full. inl full)
    (λ two. inr (two.0, two.1, two.2, subst (λ m. Q two.0 (of_group m)) on two.3, subst (λ m. Q two.1 (of_group m)) on' two.4)) up)
    (get_either level (joined above) g run at))
    closed at inside same low

-- across rows each group but the last of its level is full
pub full_across : (inner n l first : ℕ) (rows : List (List Child)) (g h : ℕ) (run : List Child) →
    slice_get (joined (levels_from inner n l first rows)) g ≡ Some run → g < h →
    h < length (joined (levels_from inner n l first rows)) →
    level_in (levels_from inner n l first rows) g ≡ level_in (levels_from inner n l first rows) h →
    inner ≤ l + level_in (levels_from inner n l first rows) g → length run ≡ 8
unfolding levels_from rows_at
full_across inner zero l first rows g h run at before inside same high = absurd (none-some run at)
full_across inner (suc n) l first rows g h run at before inside same high =
    let groups = map cut (rows_at inner l rows) in
    let level = joined groups in
    let above = levels_from inner n (suc l) (first + length level) (numbered first groups) in
    cond_both (eqb (length (joined rows)) 1) [] (level ∷ above)
    (λ levels. slice_get (joined levels) g ≡ Some run → h < length (joined levels) → level_in levels g ≡ level_in levels h → inner ≤ l + level_in levels g → length run ≡ 8)
    (λ _ at inside same high. absurd (none-some run at))
    (λ _ at inside same high.
    ⊎_elim (λ here_at.
    let in_level = get_within level g run here_at in
    let lowest = first_level level above g in_level in
    let in_level' : h < length level = ⊎_elim (λ yes. yes) (λ later. absurd (omega (arith, same, lowest, later_level level above h (h - length level) (omega arith)))) (cases_lt h (length level)) in
    let one_row : rows_at inner l rows ≡ joined rows ∷ [] = cond-false (ltb l inner) rows (joined rows ∷ []) (le-ltb l inner (omega (arith, high, lowest))) in
    let one_cut : level ≡ cut (joined rows) = ap (λ cutting. joined (map cut cutting)) one_row ∙ append-nil (cut (joined rows)) in
    full_cut (joined rows) g h run (ap (λ runs. slice_get runs g) (sym one_cut) ∙ here_at) before (omega (arith, in_level', ap length one_cut)))
    (λ later.
    let p = later.0 in
    let q = h - length level in
    let up_g = later_level level above g p later.1 in
    let up_h = later_level level above h q (omega (arith, later.1)) in
    full_across inner n (suc l) (first + length level) (numbered first groups) p q run later.2 (omega (arith, later.1)) (omega (arith, later.1, length-append level (joined above))) (omega (arith, same, up_g, up_h)) (omega (arith, high, up_g)))
    (get_either level (joined above) g run at))
    at inside same high
