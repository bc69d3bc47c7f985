-- a text that is read is spelled as what it says, and what is spelled is read
use Rattle.std.proofs.Common.{◌≡◌, ℕ, ◌+◌, ◌^◌, ◌≤◌, true, false, cond, List, [], ◌∷◌, ◌++◌, map, length, None, Result, Ok, Err, refl, sym, ap, subst, ◌∙◌, arith, append_assoc, length-append, inl, inr}
use Rattle.std.specs.Prelude.{codes, IfOk, IfErr}
use Rattle.std.specs.List.{flat_map}
use Rattle.std.specs.Str.{bytes_eq}
use Rattle.std.proofs.lemmas.Bool.{cases_Bool, cond-true, cond-false}
use Rattle.std.proofs.lemmas.Slice.Eq.{bytes_eq-Decides}
use Rattle.text_words.specs.Words.{lines_of, words_of, spaced}
use Rattle.text_words.proofs.Cuts.{AreClear, AreClear-append, lines_again, lines_found, split_some, words_joined}
use Rattle.tm_base.specs.declared.limits.TheConstants.{MOST_LINES, MOST_TIMERS}
use Rattle.tm_script.specs.declared.faults.Kind.{Kind}
use Rattle.tm_script.specs.declared.faults.Kind.TheVariants.{BadLine}
use Rattle.tm_script.specs.declared.faults.ScriptFault.{ScriptFault}
use Rattle.tm_script.specs.declared.faults.ReadScript.{ReadScript}
use Rattle.tm_script.specs.declared.faults.ReadScript.TheVariants.{Refused, NoMemory}
use Rattle.work_script.specs.declared.syntax.WorkScript.{WorkScript}
use Rattle.work_script.specs.declared.syntax.WorkMoment.{WorkMoment}
use Rattle.work_script.specs.declared.words.WorkSaid.TheVariants.{Ending}
use Rattle.work_script.specs.Grammar.{AreWorkMoments, IsWorkScript, SpellsWorks, first_line}
use Rattle.work_script.specs.Texts.{end_line, work_moment_lines, numbers_line, work_op_line, work_lines}
use Rattle.work_script.specs.Reading.{WorkBody, body_from, count_slot, work_fault_at, number_at_place, numbers_of}
use Rattle.work_script.specs.Faults.{work_count_in, counted, fault_told, count_told, go_on_counted, known_first, said_among, said_in, with_count}
use Rattle.work_script.specs.Reader.{IsOnlyWorksOf, IsWorksRefusalOf}
use Rattle.work_script.specs.Steps.{Gives}
use Rattle.work_script.proofs.NumberLaws.{numbers_back, numbers_found, one_within}
use Rattle.work_script.proofs.LineLaws.{count_clear, count_spaces, said_clear}
use Rattle.work_script.proofs.BodyLaws.{body_found, end_parts, moments_back, moments_clear}

abbrev count_line : ℕ → List ℕ
count_line n = numbers_line (codes "count") (n ∷ [])

-- ---- the number of works

record IsCount (line : List ℕ) (n : ℕ) : Type 0 where
  spelled : line ≡ count_line n
  some : 1 ≤ n
  few : n ≤ MOST_TIMERS

first_found : (first : List ℕ) (behind : List (List ℕ)) (r : Result (List ℕ) Kind) (n : ℕ) → numbers_of (count_slot ∷ []) behind ≡ r → first ≡ codes "count" → count_told r ≡ Ok n
    → (spaced (first ∷ behind) ≡ count_line n) × (1 ≤ n) × (n ≤ MOST_TIMERS)
first_found first behind (Err kind) n is named e = absurd cc
first_found first behind (Ok ns) n is named e =
    let f = numbers_found (count_slot ∷ []) behind ns is in
    let one = one_within count_slot ns f.1 in
    let same : number_at_place ns 0 ≡ n = cc in
    let Count : ℕ → Type 0 = λ m. (spaced (first ∷ behind) ≡ count_line m) × (1 ≤ m) × (m ≤ MOST_TIMERS) in
    subst Count same ((λ i. spaced (named i ∷ sym f.0 i)) ∙ ap (λ (ms : List ℕ). numbers_line (codes "count") ms) one.0, one.1, omega (arith, one.2))

words_found : (words : List (List ℕ)) (n : ℕ) → work_count_in words ≡ Ok n → (spaced words ≡ count_line n) × (1 ≤ n) × (n ≤ MOST_TIMERS)
unfolding work_count_in
words_found [] n e = absurd cc
words_found (first ∷ behind) n e = elim (cases_Bool (bytes_eq first (codes "count"))) [
  | inl here ↦ first_found first behind (numbers_of (count_slot ∷ []) behind) n refl ((bytes_eq-Decides first (codes "count")).0 here)
      (sym (cond-true (bytes_eq first (codes "count")) _ _ here) ∙ e)
  | inr out ↦ absurd (let no = sym (cond-false (bytes_eq first (codes "count")) _ _ out) ∙ e in cc)
]

count_found : (line : List ℕ) (n : ℕ) → work_count_in (words_of line) ≡ Ok n → IsCount line n
count_found line n e =
    let w = words_found (words_of line) n e in
    record { spelled = sym (words_joined line) ∙ w.0; some = w.1; few = w.2 }

count_back : (n : ℕ) → 1 ≤ n → n ≤ MOST_TIMERS → work_count_in (words_of (count_line n)) ≡ Ok n
unfolding work_count_in
count_back n some few =
    ap work_count_in (count_spaces (count_slot ∷ []) (n ∷ []) (omega arith, tt) (some, omega (arith, few), tt))
    ∙ ap count_told (numbers_back (count_slot ∷ []) (n ∷ []) (omega arith, tt) (some, omega (arith, few), tt))

-- ---- the whole text

record IsAmong (parts : List (List ℕ)) (s : WorkScript) : Type 0 where
  is : IsWorkScript s
  spelled : parts ≡ work_lines s ++ [] ∷ []

lines_count : (s : WorkScript) → length (work_lines s) ≡ 3 + length (flat_map work_moment_lines s.moments)
lines_count s =
    let a = length-append (flat_map work_moment_lines s.moments) (end_line s.end ∷ []) in
    omega (arith, a)

parts_of : (s : WorkScript) → work_lines s ++ [] ∷ [] ≡ codes "works 1" ∷ count_line s.count ∷ (flat_map work_moment_lines s.moments ++ end_parts s.end)
parts_of s = ap (λ (ps : List (List ℕ)). codes "works 1" ∷ count_line s.count ∷ ps) (append_assoc (flat_map work_moment_lines s.moments) (end_line s.end ∷ []) ([] ∷ []))

body_script : (first line : List ℕ) (rest : List (List ℕ)) (n : ℕ) (r : Result WorkBody ScriptFault) (s : WorkScript) → first ≡ codes "works 1" → IsCount line n → body_from rest (known_first n) ≡ r → with_count n r ≡ Ok s → IsAmong (first ∷ line ∷ rest) s
body_script first line rest n (Err fault) s here count is e = absurd cc
body_script first line rest n (Ok b) s here count is e =
    let same : record { count = n; moments = b.moments; end = b.end } ≡ s = cc in
    let f = body_found rest (known_first n) b (omega arith) is in
    let none = f.inside refl in
    let x : WorkScript = record { count = n; moments = b.moments; end = b.end } in
    let count_of = lines_count x in
    let room : first_line + length (flat_map work_moment_lines b.moments) ≤ MOST_LINES = subst (λ os. first_line + length (map work_op_line os ++ flat_map work_moment_lines b.moments) ≤ MOST_LINES) none f.room in
    subst (IsAmong (first ∷ line ∷ rest)) same (record {
      is = record {
        some_works = count.some;
        few_works = count.few;
        moments = subst (λ os. AreWorkMoments n (first_line + length os) None b.end b.moments) none f.moments;
        early_end = f.early;
        few_lines = omega (arith, room, count_of);
      };
      spelled = (λ i. here i ∷ count.spelled i ∷ (f.spelled ∙ ap (λ os. map work_op_line os ++ (flat_map work_moment_lines b.moments ++ end_parts b.end)) none) i) ∙ sym (parts_of x);
    })

counted_script : (first line : List ℕ) (rest : List (List ℕ)) (r : Result ℕ Kind) (s : WorkScript) → first ≡ codes "works 1" → work_count_in (words_of line) ≡ r → go_on_counted r rest ≡ Ok s → IsAmong (first ∷ line ∷ rest) s
counted_script first line rest (Err kind) s here is e = absurd cc
counted_script first line rest (Ok n) s here is e = body_script first line rest n (body_from rest (known_first n)) s here (count_found line n is) refl e

behind_script : (first : List ℕ) (parts : List (List ℕ)) (s : WorkScript) → first ≡ codes "works 1" → counted parts ≡ Ok s → IsAmong (first ∷ parts) s
behind_script first [] s here e = absurd cc
behind_script first (rest ∷ []) s here e = absurd cc
behind_script first (line ∷ next ∷ more) s here e = counted_script first line (next ∷ more) (work_count_in (words_of line)) s here refl e

among_script : (parts : List (List ℕ)) (s : WorkScript) → said_among parts ≡ Ok s → IsAmong parts s
among_script [] s e = absurd cc
among_script (rest ∷ []) s e = absurd cc
among_script (first ∷ next ∷ more) s e = elim (cases_Bool (bytes_eq first (codes "works 1"))) [
  | inl here ↦ behind_script first (next ∷ more) s ((bytes_eq-Decides first (codes "works 1")).0 here) (sym (cond-true (bytes_eq first (codes "works 1")) _ _ here) ∙ e)
  | inr out ↦ absurd (let no = sym (cond-false (bytes_eq first (codes "works 1")) _ _ out) ∙ e in cc)
]

pub script_found : (bytes : List ℕ) (s : WorkScript) → said_in bytes ≡ Ok s → SpellsWorks bytes s
script_found bytes s e =
    let x = among_script (lines_of bytes) s e in
    (x.is, sym (lines_found bytes (work_lines s) x.spelled))

lines_clear : (s : WorkScript) → IsWorkScript s → AreClear 10 (work_lines s)
lines_clear s is =
    let small : s.count ≤ 10 ^ 13 = omega (arith, is.few_works) in (
      refl,
      (
        count_clear (count_slot ∷ []) (s.count ∷ []) (omega arith, tt) (is.some_works, omega (arith, is.few_works), tt),
        AreClear-append 10 (flat_map work_moment_lines s.moments) (end_line s.end ∷ []) (moments_clear s.count first_line None s.end s.moments small is.early_end is.moments)
            (said_clear (known_first s.count) (Ending s.end) small is.early_end, tt),
      ),
    )

pub script_again : (bytes : List ℕ) (s : WorkScript) → SpellsWorks bytes s → said_in bytes ≡ Ok s
script_again bytes s h =
    let is = h.0 in
    let small : s.count ≤ 10 ^ 13 = omega (arith, is.few_works) in
    let lines = lines_count s in
    let tail = flat_map work_moment_lines s.moments ++ end_parts s.end in
    let some = some_tail s in
    ap said_in (sym h.1)
    ∙ ap said_among (lines_again (work_lines s) (lines_clear s is) ∙ parts_of s)
    ∙ ap (λ (r : List (List ℕ)). counted (count_line s.count ∷ r)) some.2
    ∙ ap (λ (r : Result ℕ Kind). go_on_counted r (some.0 ∷ some.1)) (count_back s.count is.some_works is.few_works)
    ∙ ap (λ (r : List (List ℕ)). with_count s.count (body_from r (known_first s.count))) (sym some.2)
    ∙ ap (with_count s.count) (moments_back s.moments s.end (known_first s.count) small is.moments is.early_end (omega (arith, is.few_lines, lines)))
  where
    some_tail : (s : WorkScript) → (first : List ℕ) × (more : List (List ℕ)) × (flat_map work_moment_lines s.moments ++ end_parts s.end ≡ first ∷ more)
    some_tail s = by s.moments
      where
        by : (ms : List WorkMoment) → (first : List ℕ) × (more : List (List ℕ)) × (flat_map work_moment_lines ms ++ end_parts s.end ≡ first ∷ more)
        by [] = (end_line s.end, [] ∷ [], refl)
        by (m ∷ ms) = (numbers_line (codes "at") (m.at ∷ []), (map work_op_line m.ops ++ flat_map work_moment_lines ms) ++ end_parts s.end, refl)

-- ---- the steps of the reader

pub counted_step : (bytes line behind : List ℕ) → lines_of bytes ≡ line ∷ lines_of behind → counted (lines_of bytes) ≡ go_on_counted (work_count_in (words_of line)) (lines_of behind)
counted_step bytes line behind cut =
    let some = split_some 10 behind in
    ap counted (cut ∙ ap (λ (ps : List (List ℕ)). line ∷ ps) some.2)
    ∙ ap (go_on_counted (work_count_in (words_of line))) (sym some.2)

module _ (bytes first behind : List ℕ) (cut : lines_of bytes ≡ first ∷ lines_of behind) where
  among_step : said_in bytes ≡ cond (bytes_eq first (codes "works 1")) (counted (lines_of behind)) (Err (work_fault_at 1 BadLine))
  among_step =
      let some = split_some 10 behind in
      ap said_among (cut ∙ ap (λ (ps : List (List ℕ)). first ∷ ps) some.2)
      ∙ ap (λ (ps : List (List ℕ)). cond (bytes_eq first (codes "works 1")) (counted ps) (Err (work_fault_at 1 BadLine))) (sym some.2)

  pub said_step : bytes_eq first (codes "works 1") ≡ true → said_in bytes ≡ counted (lines_of behind)
  said_step here = among_step ∙ cond-true (bytes_eq first (codes "works 1")) _ _ here

  pub said_other : bytes_eq first (codes "works 1") ≡ false → said_in bytes ≡ Err (work_fault_at 1 BadLine)
  said_other out = among_step ∙ cond-false (bytes_eq first (codes "works 1")) _ _ out

-- ---- the clauses of the reader

same_ok : (s t : WorkScript) (r : Result WorkScript ScriptFault) → r ≡ Ok t → r ≡ Ok s → t ≡ s
same_ok s t r e f = let both = sym e ∙ f in cc

never : (s : WorkScript) (fault : ScriptFault) (r : Result WorkScript ScriptFault) → r ≡ Err fault → r ≡ Ok s → ⊥
never s fault r e f = let both = sym e ∙ f in absurd cc

pub answer_found : (bytes : List ℕ) (r : Result WorkScript ReadScript) → Gives r (said_in bytes) → IfOk r (SpellsWorks bytes)
answer_found bytes (Ok s) h = script_found bytes s h
answer_found bytes (Err e) h = tt

pub answer_only : (bytes : List ℕ) (r : Result WorkScript ReadScript) → Gives r (said_in bytes) → IfOk r (IsOnlyWorksOf bytes)
answer_only bytes (Ok s) h = λ t spells. same_ok s t (said_in bytes) (script_again bytes t spells) h
answer_only bytes (Err e) h = tt

pub answer_refused : (bytes : List ℕ) (r : Result WorkScript ReadScript) → Gives r (said_in bytes) → IfErr r (IsWorksRefusalOf bytes)
answer_refused bytes (Ok s) h = tt
answer_refused bytes (Err (Refused fault)) h =
    (ap fault_told h, λ s spells. never s fault (said_in bytes) h (script_again bytes s spells))
answer_refused bytes (Err NoMemory) h = tt

pub ruleset answers = (answer_found, answer_only, answer_refused)
