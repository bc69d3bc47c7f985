-- the lines of moments and of the end, read and spelled
use Rattle.std.proofs.Common.{◌≡◌, ℕ, suc, ◌+◌, ◌^◌, ◌<◌, ◌≤◌, true, false, List, [], ◌∷◌, ◌++◌, map, length, Option, Some, is_some, Result, Ok, Err, refl, sym, ap, subst, ◌∙◌, arith, append_assoc, length-append}
use Rattle.std.specs.List.{flat_map}
use Rattle.std.proofs.lemmas.Bool.{and_from, and_parts, leb-true, le-leb, ltb-true, lt-ltb}
use Rattle.std.proofs.lemmas.List.{length-map}
use Rattle.text_words.specs.Words.{words_of, spaced}
use Rattle.text_words.proofs.Cuts.{AreClear, AreClear-append, words_joined}
use Rattle.tm_base.specs.declared.limits.TheConstants.{MOST_LINES, MOST_OPS, SCRIPT_TIME_LIMIT}
use Rattle.tm_script.specs.declared.faults.Kind.{Kind}
use Rattle.tm_script.specs.declared.faults.ScriptFault.{ScriptFault}
use Rattle.work_script.specs.declared.syntax.WorkMoment.{WorkMoment}
use Rattle.work_script.specs.declared.syntax.WorkOp.{WorkOp}
use Rattle.work_script.specs.declared.words.WorkKnown.{WorkKnown}
use Rattle.work_script.specs.declared.words.WorkSaid.{WorkSaid}
use Rattle.work_script.specs.declared.words.WorkSaid.TheVariants.{Opening, Operation, Ending}
use Rattle.work_script.specs.Grammar.{AreWorkMoments, AreWorkOps}
use Rattle.work_script.specs.Texts.{end_line, work_moment_lines, work_op_line}
use Rattle.work_script.specs.Reading.{WorkBody, body_from, work_closing, work_read_on, work_line_heard, work_known_after, unended, with_moment, with_op}
use Rattle.work_script.proofs.LineLaws.{Fits, heard_back, heard_found, said_clear, said_line}

abbrev pub end_parts : ℕ → List (List ℕ)
end_parts end = end_line end ∷ [] ∷ []

-- the lines of operations, of moments, and of the end, and nothing behind them
abbrev pub body_parts : WorkBody → List (List ℕ)
body_parts b = map work_op_line b.ops ++ (flat_map work_moment_lines b.moments ++ end_parts b.end)

-- what may follow, and is spelled so
pub record IsBody (k : WorkKnown) (parts : List (List ℕ)) (b : WorkBody) : Type 0 where
  pub spelled : parts ≡ body_parts b
  pub inside : is_some k.last ≡ false → b.ops ≡ []
  pub few : k.ops + length b.ops ≤ MOST_OPS
  pub ops : AreWorkOps k.count k.line b.ops
  pub moments : AreWorkMoments k.count (k.line + length b.ops) k.last b.end b.moments
  pub early : b.end < SCRIPT_TIME_LIMIT
  pub room : k.line + length (map work_op_line b.ops ++ flat_map work_moment_lines b.moments) ≤ MOST_LINES

-- ---- found

record Had {A : Type 0} (r : Result WorkBody ScriptFault) (make : WorkBody → A) (x : A) : Type 0 where
  behind : WorkBody
  behind_is : r ≡ Ok behind
  whole : make behind ≡ x

abbrev in_moment : ℕ → WorkBody → WorkBody
in_moment at b = record { ops = []; moments = record { at = at; ops = b.ops } ∷ b.moments; end = b.end }

abbrev in_op : WorkOp → WorkBody → WorkBody
in_op op b = record b { ops = op ∷ b.ops }

had_moment : (at : ℕ) (r : Result WorkBody ScriptFault) (b : WorkBody) → with_moment at r ≡ Ok b → Had r (in_moment at) b
had_moment at (Ok c) b e = record { behind = c; behind_is = refl; whole = (let same : in_moment at c ≡ b = cc in same) }
had_moment at (Err fault) b e = absurd cc

had_op : (op : WorkOp) (r : Result WorkBody ScriptFault) (b : WorkBody) → with_op op r ≡ Ok b → Had r (in_op op) b
had_op op (Ok c) b e = record { behind = c; behind_is = refl; whole = (let same : in_op op c ≡ b = cc in same) }
had_op op (Err fault) b e = absurd cc

closed : (n end : ℕ) (parts : List (List ℕ)) (b : WorkBody) → work_closing n end parts ≡ Ok b → (parts ≡ [] ∷ []) × (record { ops = []; moments = []; end = end } ≡ b)
closed n end [] b e = absurd cc
closed n end ([] ∷ []) b e = (refl, let same : record { ops = []; moments = []; end = end } ≡ b = cc in same)
closed n end ([] ∷ p ∷ ps) b e = absurd cc
closed n end ((c ∷ cs) ∷ ps) b e = absurd cc

line_of : (words : List ℕ) (text : List ℕ) → spaced (words_of words) ≡ text → words ≡ text
line_of words text e = sym (words_joined words) ∙ e

pub body_found : (parts : List (List ℕ)) (k : WorkKnown) (b : WorkBody) → k.ops ≤ MOST_OPS → body_from parts k ≡ Ok b → IsBody k parts b
unfolding body_from
body_found [] k b few e = absurd cc
body_found (rest ∷ []) k b few e = absurd (unended_ok rest e)
  where
    unended_ok : (rest : List ℕ) → Err (unended k.line rest) ≡ Ok b → ⊥
    unended_ok rest e = absurd cc
body_found (line ∷ next ∷ more) k b few e = by (work_line_heard k (words_of line)) refl (body_found (next ∷ more)) e
  where
    by : (r : Result WorkSaid Kind) → work_line_heard k (words_of line) ≡ r → ((k : WorkKnown) (b : WorkBody) → k.ops ≤ MOST_OPS → body_from (next ∷ more) k ≡ Ok b → IsBody k (next ∷ more) b)
        → work_read_on k r (next ∷ more) (body_from (next ∷ more)) ≡ Ok b → IsBody k (line ∷ next ∷ more) b
    by (Err kind) is rec e = absurd cc
    by (Ok (Opening at)) is rec e =
        let x = had_moment at (body_from (next ∷ more) (work_known_after k (Opening at))) b e in
        let h = heard_found k (words_of line) (Opening at) is in
        let f = rec (work_known_after k (Opening at)) x.behind (omega arith) x.behind_is in
        let c = x.behind in
        let same : k.line ≡ k.line + 0 = omega arith in
        let count : 0 + length c.ops ≤ MOST_OPS = f.few in
        subst (IsBody k (line ∷ next ∷ more)) x.whole (record {
          spelled = (λ i. line_of line (said_line (Opening at)) h.spelled i ∷ (f.spelled ∙ sym (append_assoc (map work_op_line c.ops) (flat_map work_moment_lines c.moments) (end_parts c.end))) i);
          inside = λ _. refl;
          few = omega (arith, few);
          ops = tt;
          moments = subst (λ n. AreWorkMoments k.count n k.last c.end (record { at = at; ops = c.ops } ∷ c.moments)) same (h.fits.order, omega (arith, count), f.ops, f.moments);
          early = f.early;
          room = (let room = f.room in omega (arith, room));
        })
    by (Ok (Operation op)) is rec e =
        let x = had_op op (body_from (next ∷ more) (work_known_after k (Operation op))) b e in
        let h = heard_found k (words_of line) (Operation op) is in
        let fits = and_parts _ _ h.fits.room in
        let below : k.ops < MOST_OPS = ltb-true k.ops MOST_OPS fits.1 in
        let f = rec (work_known_after k (Operation op)) x.behind (omega (arith, below)) x.behind_is in
        let c = x.behind in
        let same : k.line + 1 + length c.ops ≡ k.line + suc (length c.ops) = omega arith in
        subst (IsBody k (line ∷ next ∷ more)) x.whole (record {
          spelled = (λ i. line_of line (said_line (Operation op)) h.spelled i ∷ f.spelled i);
          inside = λ out. absurd (let both = sym h.fits.is.0 ∙ out in cc);
          few = (let few = f.few in omega (arith, few));
          ops = (h.fits.is.1, f.ops);
          moments = subst (λ n. AreWorkMoments k.count n k.last c.end c.moments) same f.moments;
          early = f.early;
          room = (let room = f.room in omega (arith, room));
        })
    by (Ok (Ending end)) is rec e =
        let c = closed (k.line + 1) end (next ∷ more) b e in
        let h = heard_found k (words_of line) (Ending end) is in
        let room : k.line ≤ MOST_LINES = leb-true k.line MOST_LINES h.fits.room in
        subst (IsBody k (line ∷ next ∷ more)) c.1 (record {
          spelled = (λ i. line_of line (said_line (Ending end)) h.spelled i ∷ c.0 i);
          inside = λ _. refl;
          few = omega (arith, few);
          ops = tt;
          moments = h.fits.order;
          early = h.fits.is;
          room = omega (arith, room);
        })

-- ---- again

-- there is a first part
abbrev pub HasFirst : List (List ℕ) → Type 0
HasFirst parts = (first : List ℕ) × (more : List (List ℕ)) × (parts ≡ first ∷ more)

has_first : (ls rest : List (List ℕ)) → HasFirst rest → HasFirst (ls ++ rest)
has_first [] rest h = h
has_first (l ∷ ls) rest h = (l, ls ++ rest, refl)

-- a part and one behind it
pub step_from : (line : List ℕ) (rest : List (List ℕ)) (k : WorkKnown) → HasFirst rest → body_from (line ∷ rest) k ≡ work_read_on k (work_line_heard k (words_of line)) rest (body_from rest)
unfolding body_from
step_from line rest k h =
    ap (λ (r : List (List ℕ)). body_from (line ∷ r) k) h.2
    ∙ ap (λ (r : List (List ℕ)). work_read_on k (work_line_heard k (words_of line)) r (body_from r)) (sym h.2)

step_said : (said : WorkSaid) (rest : List (List ℕ)) (k : WorkKnown) → HasFirst rest → k.count ≤ 10 ^ 13 → Fits k said → body_from (said_line said ∷ rest) k ≡ work_read_on k (Ok said) rest (body_from rest)
step_said said rest k h small fits =
    step_from (said_line said) rest k h ∙ ap (λ (r : Result WorkSaid Kind). work_read_on k r rest (body_from rest)) (heard_back k said small fits)

abbrev with_ops : List WorkOp → Result WorkBody ScriptFault → Result WorkBody ScriptFault
with_ops [] r = r
with_ops (o ∷ os) r = with_op o (with_ops os r)

abbrev after_ops : WorkKnown → ℕ → WorkKnown
after_ops k n = record k { line = k.line + n; ops = k.ops + n }

with_ops_ok : (os : List WorkOp) (ms : List WorkMoment) (end : ℕ) → with_ops os (Ok (record { ops = []; moments = ms; end = end })) ≡ Ok (record { ops = os; moments = ms; end = end })
with_ops_ok [] ms end = refl
with_ops_ok (o ∷ os) ms end = ap (with_op o) (with_ops_ok os ms end)

after_none : (k : WorkKnown) → k ≡ after_ops k 0
after_none k =
    let a : k.line ≡ k.line + 0 = omega arith in
    let b : k.ops ≡ k.ops + 0 = omega arith in
    λ i. record k { line = a i; ops = b i }

after_one : (k : WorkKnown) (o : WorkOp) (n : ℕ) → after_ops (work_known_after k (Operation o)) n ≡ after_ops k (suc n)
after_one k o n =
    let a : k.line + 1 + n ≡ k.line + suc n = omega arith in
    let b : k.ops + 1 + n ≡ k.ops + suc n = omega arith in
    λ i. record k { line = a i; ops = b i }

ops_back : (os : List WorkOp) (rest : List (List ℕ)) (k : WorkKnown) → HasFirst rest → k.count ≤ 10 ^ 13 → is_some k.last ≡ true → AreWorkOps k.count k.line os → k.line + length os ≤ MOST_LINES → k.ops + length os ≤ MOST_OPS
    → body_from (map work_op_line os ++ rest) k ≡ with_ops os (body_from rest (after_ops k (length os)))
ops_back [] rest k more small inside h room few = ap (body_from rest) (after_none k)
ops_back (o ∷ os) rest k more small inside h room few =
    let fits : Fits k (Operation o) = record {
      is = (inside, h.0);
      order = refl;
      room = and_from _ _ (le-leb k.line MOST_LINES (omega (arith, room))) (lt-ltb k.ops MOST_OPS (omega (arith, few)));
    } in
    step_said (Operation o) (map work_op_line os ++ rest) k (has_first (map work_op_line os) rest more) small fits
    ∙ ap (with_op o) (ops_back os rest (work_known_after k (Operation o)) more small inside h.1 (omega (arith, room)) (omega (arith, few)))
    ∙ ap (λ (x : WorkKnown). with_op o (with_ops os (body_from rest x))) (after_one k o (length os))

-- the end is at or after each time
pub reached_end : (count line at end : ℕ) (ms : List WorkMoment) → AreWorkMoments count line (Some at) end ms → at ≤ end
reached_end count line at end [] h = leb-true at end h
reached_end count line at end (m ∷ ms) h =
    let first = ltb-true at m.at h.0 in
    let later = reached_end count (line + 1 + length m.ops) m.at end ms h.3 in
    omega (arith, first, later)

count_lines : (m : WorkMoment) (ms : List WorkMoment) → length (flat_map work_moment_lines (m ∷ ms)) ≡ suc (length m.ops) + length (flat_map work_moment_lines ms)
count_lines m ms = length-append (work_moment_lines m) (flat_map work_moment_lines ms) ∙ ap (λ (n : ℕ). suc n + length (flat_map work_moment_lines ms)) (length-map m.ops work_op_line)

pub moments_back : (ms : List WorkMoment) (end : ℕ) (k : WorkKnown) → k.count ≤ 10 ^ 13 → AreWorkMoments k.count k.line k.last end ms → end < SCRIPT_TIME_LIMIT → k.line + length (flat_map work_moment_lines ms) ≤ MOST_LINES
    → body_from (flat_map work_moment_lines ms ++ end_parts end) k ≡ Ok (record { ops = []; moments = ms; end = end })
moments_back [] end k small h early room =
    step_said (Ending end) ([] ∷ []) k ([], [], refl) small (record { is = early; order = h; room = le-leb k.line MOST_LINES (omega (arith, room)) })
moments_back (m ∷ ms) end k small h early room =
    let tail = flat_map work_moment_lines ms ++ end_parts end in
    let more : HasFirst tail = has_first (flat_map work_moment_lines ms) (end_parts end) (end_line end, [] ∷ [], refl) in
    let count = count_lines m ms in
    let reached = reached_end k.count (k.line + 1 + length m.ops) m.at end ms h.3 in
    let fits : Fits k (Opening m.at) = record { is = omega (arith, early, reached); order = h.0; room = le-leb k.line MOST_LINES (omega (arith, room, count)) } in
    let k1 = work_known_after k (Opening m.at) in
    ap (λ (r : List (List ℕ)). body_from (said_line (Opening m.at) ∷ r) k) (append_assoc (map work_op_line m.ops) (flat_map work_moment_lines ms) (end_parts end))
    ∙ step_said (Opening m.at) (map work_op_line m.ops ++ tail) k (has_first (map work_op_line m.ops) tail more) small fits
    ∙ ap (with_moment m.at) (ops_back m.ops tail k1 more small refl h.2 (omega (arith, room, count)) (omega (arith, h.1)))
    ∙ ap (λ (r : Result WorkBody ScriptFault). with_moment m.at (with_ops m.ops r)) (moments_back ms end (after_ops k1 (length m.ops)) small h.3 early (omega (arith, room, count)))
    ∙ ap (with_moment m.at) (with_ops_ok m.ops ms end)

-- ---- no line feed stands in a line

ops_clear : (count line : ℕ) (os : List WorkOp) → count ≤ 10 ^ 13 → AreWorkOps count line os → AreClear 10 (map work_op_line os)
ops_clear count line [] small h = tt
ops_clear count line (o ∷ os) small h =
    (said_clear (record { line = line; count = count; last = Some 0; ops = 0 }) (Operation o) small (refl, h.0), ops_clear count (line + 1) os small h.1)

pub moments_clear : (count line : ℕ) (last : Option ℕ) (end : ℕ) (ms : List WorkMoment) → count ≤ 10 ^ 13 → end < SCRIPT_TIME_LIMIT → AreWorkMoments count line last end ms → AreClear 10 (flat_map work_moment_lines ms)
moments_clear count line last end [] small early h = tt
moments_clear count line last end (m ∷ ms) small early h =
    let reached = reached_end count (line + 1 + length m.ops) m.at end ms h.3 in (
      said_clear (record { line = line; count = count; last = last; ops = 0 }) (Opening m.at) small (omega (arith, early, reached)),
      AreClear-append 10 (map work_op_line m.ops) (flat_map work_moment_lines ms) (ops_clear count (line + 1) m.ops small h.2)
          (moments_clear count (line + 1 + length m.ops) (Some m.at) end ms small early h.3),
    )
