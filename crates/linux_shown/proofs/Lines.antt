-- lines that are passed one after another
use Rattle.std.proofs.Common.{◌≡◌, ◌∙◌, ℕ, zero, suc, ◌-◌, ◌<◌, List, [], ◌∷◌, Option, Some}
use Rattle.std.proofs.Common.{None, refl}
use Rattle.std.proofs.Common.{ap, sym, length, true, false, true≢false, arith}
use Rattle.std.specs.Prelude.{◌==◌, is_some}
use Rattle.std.proofs.lemmas.List.Splits.{length-slice_split}
use Rattle.text_words.specs.Words.{lines_of}
use Rattle.linux_rules.specs.declared.judge.Course.{Course}
use Rattle.linux_rules.specs.declared.judge.Verdict.{Verdict}
use Rattle.linux_rules.specs.Judge.{text_after, text_verdict}
use Rattle.linux_shown.specs.Before.{course_behind, course_by}

-- a line that fits, with another one behind it
goes_on : (n : ℕ) (k : Course) (t : List ℕ) (rest : List (List ℕ)) → 0 < n → 0 < length rest →
    text_verdict k t ≡ None →
    course_behind n k (t ∷ rest) ≡ course_behind (n - 1) (text_after k t) rest
unfolding course_behind
goes_on zero k t rest some there fits = absurd (omega (arith, some))
goes_on (suc n) k t [] some there fits = absurd (omega (arith, there))
goes_on (suc n) k t (next ∷ rest) some there fits =
    let same : n ≡ suc n - 1 = omega arith in
    ap (λ (v : Option Verdict). course_by v (course_behind n (text_after k t) (next ∷ rest))) fits
    ∙ ap (λ m. course_behind m (text_after k t) (next ∷ rest)) same

-- one that doesn't fit
stops_at : (n : ℕ) (k : Course) (t : List ℕ) (rest : List (List ℕ)) (v : Verdict) → 0 < n →
    text_verdict k t ≡ Some v → course_behind n k (t ∷ rest) ≡ None
unfolding course_behind
stops_at zero k t rest v some stuck = absurd (omega (arith, some))
stops_at (suc n) k t [] v some stuck = refl
stops_at (suc n) k t (next ∷ rest) v some stuck =
    ap (λ (w : Option Verdict). course_by w (course_behind n (text_after k t) (next ∷ rest))) stuck

-- the last one
ends_at : (n : ℕ) (k : Course) (t : List ℕ) → 0 < n → course_behind n k (t ∷ []) ≡ None
unfolding course_behind
ends_at zero k t some = absurd (omega (arith, some))
ends_at (suc n) k t some = refl

-- none is passed
pub none_passed : (n : ℕ) (k : Course) (ts : List (List ℕ)) → n ≡ 0 → course_behind n k ts ≡ Some k
unfolding course_behind
none_passed zero k ts none = refl
none_passed (suc n) k ts none = absurd (omega (arith, none))

-- a trace has lines
some_lines : (bytes : List ℕ) → 0 < length (lines_of bytes)
some_lines bytes = omega (arith, length-slice_split (λ b. b == 10) bytes)

none_of : (v : Option Verdict) → is_some v ≡ false → v ≡ None
none_of None none = refl
none_of (Some w) none = absurd (true≢false none)

stuck_by : (n : ℕ) (k : Course) (t : List ℕ) (rest : List (List ℕ)) (v : Option Verdict) → 0 < n →
    v ≡ text_verdict k t → is_some v ≡ true → course_behind n k (t ∷ rest) ≡ None
stuck_by n k t rest None some is decided = absurd (true≢false (sym decided))
stuck_by n k t rest (Some w) some is decided = stops_at n k t rest w some (sym is)

-- what one round of passing lines finds
pub missed_last : (n : ℕ) (k : Course) (rest : List ℕ) → 0 < n → lines_of rest ≡ rest ∷ [] →
    course_behind n k (lines_of rest) ≡ None
missed_last n k rest some one = ap (course_behind n k) one ∙ ends_at n k rest some

pub missed_here : (n : ℕ) (k : Course) (t rest after : List ℕ) (v : Option Verdict) → 0 < n →
    lines_of rest ≡ t ∷ lines_of after → v ≡ text_verdict k t → is_some v ≡ true →
    course_behind n k (lines_of rest) ≡ None
missed_here n k t rest after v some cut is decided =
    ap (course_behind n k) cut ∙ stuck_by n k t (lines_of after) v some is decided

pub passed : (n : ℕ) (k new : Course) (t rest after : List ℕ) (v : Option Verdict) → 0 < n →
    lines_of rest ≡ t ∷ lines_of after → v ≡ text_verdict k t → is_some v ≡ false →
    (v ≡ None → new ≡ text_after k t) →
    course_behind n k (lines_of rest) ≡ course_behind (n - 1) new (lines_of after)
passed n k new t rest after v some cut is decided then =
    let none = none_of v decided in
    ap (course_behind n k) cut
    ∙ (goes_on n k t (lines_of after) some (some_lines after) (sym is ∙ none)
    ∙ ap (λ (c : Course). course_behind (n - 1) c (lines_of after)) (sym (then none)))
