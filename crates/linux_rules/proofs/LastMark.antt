-- the last mark, line by line
use Rattle.std.proofs.Common.{◌≡◌, ℕ, suc, ◌+◌, Bool, true, false, List, [], ◌∷◌, refl, arith}
use Rattle.std.specs.Prelude.{◌||◌, cond}
use Rattle.std.specs.List.{list_any}
use Rattle.linux_lines.specs.Lines.{is_mark}
use Rattle.linux_rules.specs.Marks.{kept_lines, lost_lines}

abbrev some_mark : List (List ℕ) → Bool
some_mark texts = list_any is_mark texts

-- where so many lines were passed, and the last mark among them stands behind so many, these are
-- left
abbrev pub Lost : (texts : List (List ℕ)) (passed lost : ℕ) (left : List (List ℕ)) → Type 0
Lost texts passed lost left =
    lost_lines texts ≡ cond (some_mark left) (passed + lost_lines left) lost

-- .. and from that mark on these
abbrev pub Kept : (texts kept left : List (List ℕ)) → Type 0
Kept texts kept left = kept_lines texts ≡ cond (some_mark left) (kept_lines left) kept

first_by : (a b : Bool) (n : ℕ) → cond b (suc n) 0 ≡ cond (a || b) (0 + cond b (suc n) 0) 0
first_by true true n = omega arith
first_by true false n = omega arith
first_by false true n = omega arith
first_by false false n = refl

pub lost_first : (texts : List (List ℕ)) → Lost texts 0 0 texts
lost_first [] = refl
lost_first (t ∷ ts) = first_by (is_mark t) (some_mark ts) (lost_lines ts)

kept_first_by : (a b : Bool) (xs ys : List (List ℕ)) →
    cond b xs ys ≡ cond (a || b) (cond b xs ys) ys
kept_first_by true true xs ys = refl
kept_first_by true false xs ys = refl
kept_first_by false true xs ys = refl
kept_first_by false false xs ys = refl

pub kept_first : (texts : List (List ℕ)) → Kept texts texts texts
kept_first [] = refl
kept_first (t ∷ ts) = kept_first_by (is_mark t) (some_mark ts) (kept_lines ts) (t ∷ ts)

lost_by : (a b : Bool) (x passed lost n : ℕ) →
    x ≡ cond (a || b) (passed + cond b (suc n) 0) lost →
    x ≡ cond b (passed + 1 + n) (cond a passed lost)
lost_by true true x passed lost n is = omega (arith, is)
lost_by true false x passed lost n is = omega (arith, is)
lost_by false true x passed lost n is = omega (arith, is)
lost_by false false x passed lost n is = is

pub lost_next : (texts : List (List ℕ)) (passed lost : ℕ) (t : List ℕ) (ts : List (List ℕ)) →
    Lost texts passed lost (t ∷ ts) →
    Lost texts (passed + 1) (cond (is_mark t) passed lost) ts
lost_next texts passed lost t ts is =
    lost_by (is_mark t) (some_mark ts) (lost_lines texts) passed lost (lost_lines ts) is

kept_by : (a b : Bool) (xs kept later all : List (List ℕ)) →
    xs ≡ cond (a || b) (cond b later all) kept → xs ≡ cond b later (cond a all kept)
kept_by true true xs kept later all is = is
kept_by true false xs kept later all is = is
kept_by false true xs kept later all is = is
kept_by false false xs kept later all is = is

pub kept_next : (texts kept : List (List ℕ)) (t : List ℕ) (ts : List (List ℕ)) →
    Kept texts kept (t ∷ ts) → Kept texts (cond (is_mark t) (t ∷ ts) kept) ts
kept_next texts kept t ts is =
    kept_by (is_mark t) (some_mark ts) (kept_lines texts) kept (kept_lines ts) (t ∷ ts) is
