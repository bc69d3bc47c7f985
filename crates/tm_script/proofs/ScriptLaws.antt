-- a script that is read is of the grammar and spelled so, and a script of the grammar that is spelled so is read
use Rattle.std.proofs.Common.{◌≡◌, ℕ, zero, suc, ◌+◌, ◌^◌, ◌<◌, ◌≤◌, cond, Bool, true, false, List, [], ◌∷◌, ◌++◌, length, map, Option, Some, None, Result, Ok, Err, refl, sym, ap, subst, ◌∙◌, append_assoc, length-append, arith}
use Rattle.std.specs.Prelude.{codes, IfOk, IfErr}
use Rattle.std.specs.List.{flat_map, AllByRecursion}
use Rattle.std.specs.List.Sorted.{IsStrictlyIncreasing}
use Rattle.std.proofs.lemmas.Bool.{ltb-true, lt-ltb, le-leb}
use Rattle.std.proofs.lemmas.List.Elements.{All-from_recursion, recursion_from_All}
use Rattle.text_words.specs.Words.{lines_of, words_of}
use Rattle.text_words.proofs.Cuts.{lines_found, lines_again, split_some}
use Rattle.tm_base.specs.declared.limits.TheConstants.{MOST_LINES}
use Rattle.tm_script.specs.declared.faults.Kind.{Kind}
use Rattle.tm_script.specs.declared.faults.ScriptFault.{ScriptFault}
use Rattle.tm_script.specs.declared.faults.ReadScript.{ReadScript}
use Rattle.tm_script.specs.declared.faults.ReadScript.TheVariants.{Refused, NoMemory}
use Rattle.tm_script.specs.declared.syntax.Script.{Script}
use Rattle.tm_script.specs.declared.syntax.Moment.{Moment}
use Rattle.tm_script.specs.declared.syntax.Op.{Op}
use Rattle.tm_script.specs.declared.known.Said.{Said}
use Rattle.tm_script.specs.declared.known.Said.TheVariants.{Version, NodeCount, CpuCount, TimerCount, IsolatedCpus, Opening, Operation, Ending}
use Rattle.tm_script.specs.declared.draft.Draft.{Draft}
use Rattle.tm_script.specs.Texts.{cpu_count, number_line, op_line, moment_lines, head_lines, script_lines}
use Rattle.tm_script.specs.Grammar.{IsMoment, AreMomentsNumbered, IsScript, Spells}
use Rattle.tm_script.specs.Faults.{known_after, is_over, heard, fault_or, fault_from, fault_of, FaultsTell}
use Rattle.tm_script.specs.Reader.{IsOnlyScriptOf, IsRefusalOf}
use Rattle.tm_script.specs.Reading.{Gives, start, draft_after, script_of, finished, go_on, read_from}
use Rattle.tm_script.proofs.BodyLaws.{body_lines, end_lines, whole, InOrder, Found, body_found}
use Rattle.tm_script.proofs.BodyAgain.{reached_end, body_again}
use Rattle.tm_script.proofs.HeadLaws.{IsHead, HeadFound, few_of_most, head_found, head_again}
use Rattle.tm_script.proofs.ReadLaws.{has_first}
use Rattle.tm_script.proofs.ClearLaws.{script_clear}

-- ---- times in order, moment by moment and as the grammar says it

abbrev times : List Moment → List ℕ
times ms = map (λ (m : Moment). m.at) ms

ascending_from : (last : Option ℕ) (ms : List Moment) (end : ℕ) → InOrder last ms end → IsStrictlyIncreasing (times ms)
ascending_from last [] end h k lt = absurd (omega arith)
ascending_from last (m ∷ []) end h k lt = absurd (omega arith)
ascending_from last (m ∷ n ∷ ms) end h zero lt = ltb-true m.at n.at h.1.0
ascending_from last (m ∷ n ∷ ms) end h (suc k) lt =
    let more : suc k + 1 ≡ suc (k + 1) = omega arith in
    rw more (ascending_from (Some m.at) (n ∷ ms) end h.1 k (omega arith))

by_the_end_from : (last : Option ℕ) (ms : List Moment) (end : ℕ) → InOrder last ms end → AllByRecursion (λ (m : Moment). m.at ≤ end) ms
by_the_end_from last [] end h = tt
by_the_end_from last (m ∷ ms) end h = (reached_end m.at ms end h.1, by_the_end_from (Some m.at) ms end h.1)

ascending_rest : (x : ℕ) (xs : List ℕ) → IsStrictlyIncreasing (x ∷ xs) → IsStrictlyIncreasing xs
ascending_rest x xs h k lt =
    let more : suc k + 1 ≡ suc (k + 1) = omega arith in
    rw more at (h (suc k) (omega arith))

order_after : (at : ℕ) (ms : List Moment) (end : ℕ) → at ≤ end → IsStrictlyIncreasing (at ∷ times ms) → AllByRecursion (λ (m : Moment). m.at ≤ end) ms → InOrder (Some at) ms end
order_after at [] end reached h g = le-leb at end reached
order_after at (m ∷ ms) end reached h g =
    let first : at < m.at = h 0 (omega arith) in
    (lt-ltb at m.at first, order_after m.at ms end g.0 (ascending_rest at (times (m ∷ ms)) h) g.1)

order_from : (ms : List Moment) (end : ℕ) → IsStrictlyIncreasing (times ms) → AllByRecursion (λ (m : Moment). m.at ≤ end) ms → InOrder None ms end
order_from [] end h g = refl
order_from (m ∷ ms) end h g = (refl, order_after m.at ms end g.0 h g.1)

pub order_of : (s : Script) → IsScript s → InOrder None s.moments s.end
order_of s is = order_from s.moments s.end is.ascending (recursion_from_All (λ (m : Moment). m.at ≤ s.end) s.moments is.by_the_end)

-- ---- found

parts_of_script : (s : Script) → script_lines s ++ [] ∷ [] ≡ head_lines s ++ (flat_map moment_lines s.moments ++ end_lines s.end)
parts_of_script s =
    append_assoc (head_lines s) (flat_map moment_lines s.moments ++ number_line (codes "end") s.end ∷ []) ([] ∷ [])
    ∙ ap (λ (r : List (List ℕ)). head_lines s ++ r) (append_assoc (flat_map moment_lines s.moments) (number_line (codes "end") s.end ∷ []) ([] ∷ []))

found_script : (bytes : List ℕ) (s : Script) (f : HeadFound (lines_of bytes) s) → Found f.h f.rest (length (head_lines f.h) + 1) [] None 0 [] false s → Spells bytes s
found_script bytes s f g =
    let h = f.h in
    let b = g.body in
    let none : b.ops ≡ [] = g.follows.placed refl in
    let made = whole h b.moments b.end in
    let first = length (head_lines h) + 1 in
    let body : f.rest ≡ flat_map moment_lines b.moments ++ end_lines b.end = g.spelled ∙ ap (λ (os : List Op). body_lines (record { ops = os; moments = b.moments; end = b.end })) none in
    let parts : lines_of bytes ≡ script_lines made ++ [] ∷ [] = f.cut ∙ ap (λ (r : List (List ℕ)). head_lines h ++ r) body ∙ sym (parts_of_script made) in
    let room = subst (λ (os : List Op). first + length (map op_line os ++ flat_map moment_lines b.moments) ≤ MOST_LINES) none g.follows.room in
    let count = length-append (head_lines h) (flat_map moment_lines b.moments ++ number_line (codes "end") b.end ∷ []) in
    let more = length-append (flat_map moment_lines b.moments) (number_line (codes "end") b.end ∷ []) in
    let same : first + 0 ≡ first = omega arith in
    let is : IsScript made = record {
      some_version = f.is.some_version;
      few_versions = f.is.few_versions;
      some_nodes = f.is.some_nodes;
      few_nodes = f.is.few_nodes;
      some_cpus = f.is.some_cpus;
      few_node_cpus = f.is.few_node_cpus;
      few_cpus = f.is.few_cpus;
      some_timers = f.is.some_timers;
      few_timers = f.is.few_timers;
      none_isolated = f.is.none_isolated;
      isolated_in_range = f.is.isolated_in_range;
      some_placed = f.is.some_placed;
      moments = All-from_recursion (IsMoment h.version (cpu_count h) h.timers) b.moments g.follows.moments;
      ascending = ascending_from None b.moments b.end g.follows.order;
      by_the_end = All-from_recursion (λ (x : Moment). x.at ≤ b.end) b.moments (by_the_end_from None b.moments b.end g.follows.order);
      early_end = g.follows.early;
      numbered = subst (λ (n : ℕ). AreMomentsNumbered n b.moments) same (subst (λ (os : List Op). AreMomentsNumbered (first + length os) b.moments) none g.follows.numbered);
      few_lines = omega (arith, room, count, more);
    } in
    subst (Spells bytes) (sym g.script) (is, sym (lines_found bytes (script_lines made) parts))

-- what is read is of the grammar, and has the bytes as its text
pub script_found : (bytes : List ℕ) (s : Script) → read_from (lines_of bytes) start ≡ Ok s → Spells bytes s
script_found bytes s e =
    let f = head_found s (lines_of bytes) e in
    let few_cpus : cpu_count f.h < 10 ^ 13 = omega (arith, few_of_most f.h.version (cpu_count f.h) f.is.few_cpus) in
    let few_timers : f.h.timers < 10 ^ 13 = omega (arith, f.is.few_timers) in
    found_script bytes s f (body_found f.h few_cpus few_timers (length f.rest) f.rest (omega arith) (length (head_lines f.h) + 1) [] None 0 [] false s (omega arith) f.later)

-- ---- again

-- what is of the grammar is read from its text
pub script_again : (bytes : List ℕ) (s : Script) → Spells bytes s → read_from (lines_of bytes) start ≡ Ok s
script_again bytes s h =
    let is = h.0 in
    let head : IsHead s = record {
      some_version = is.some_version;
      few_versions = is.few_versions;
      some_nodes = is.some_nodes;
      few_nodes = is.few_nodes;
      some_cpus = is.some_cpus;
      few_node_cpus = is.few_node_cpus;
      few_cpus = is.few_cpus;
      some_timers = is.some_timers;
      few_timers = is.few_timers;
      none_isolated = is.none_isolated;
      isolated_in_range = is.isolated_in_range;
      some_placed = is.some_placed;
    } in
    let few_cpus : cpu_count s < 10 ^ 13 = omega (arith, few_of_most s.version (cpu_count s) is.few_cpus) in
    let few_timers : s.timers < 10 ^ 13 = omega (arith, is.few_timers) in
    let body = flat_map moment_lines s.moments ++ end_lines s.end in
    let count = length-append (head_lines s) (flat_map moment_lines s.moments ++ number_line (codes "end") s.end ∷ []) in
    let more = length-append (flat_map moment_lines s.moments) (number_line (codes "end") s.end ∷ []) in
    ap (λ (bs : List ℕ). read_from (lines_of bs) start) (sym h.1)
    ∙ ap (λ (ps : List (List ℕ)). read_from ps start) (lines_again (script_lines s) (script_clear s is) ∙ parts_of_script s)
    ∙ head_again s head body (has_first (flat_map moment_lines s.moments) (end_lines s.end) (number_line (codes "end") s.end, [] ∷ [], refl))
    ∙ body_again s few_cpus few_timers s.moments s.end (length (head_lines s) + 1) [] None 0 [] false (recursion_from_All (IsMoment s.version (cpu_count s) s.timers) s.moments is.moments) is.numbered (order_of s is) is.early_end (omega (arith, is.few_lines, count, more))

-- ---- the first fault

abbrev fault_told : Result Script ScriptFault → Option ScriptFault
fault_told (Ok s) = None
fault_told (Err fault) = Some fault

pub known_of : (d : Draft) (said : Said) → (draft_after d said).known ≡ known_after d.known said
known_of d (Version n) = refl
known_of d (NodeCount n) = refl
known_of d (CpuCount n) = refl
known_of d (TimerCount n) = refl
known_of d (IsolatedCpus cpus) = refl
known_of d (Opening at) = refl
known_of d (Operation cpu done) = refl
known_of d (Ending end) = refl

told_cond : (t : Bool) (s : Script) (fault : ScriptFault) → cond t None (Some fault) ≡ fault_told (cond t (Ok s) (Err fault))
told_cond true s fault = refl
told_cond false s fault = refl

fault_read : (l : List ℕ) (ls : List (List ℕ)) (d : Draft) → fault_from (l ∷ ls) d.known ≡ fault_told (read_from (l ∷ ls) d)
unfolding fault_from read_from finished
fault_read [] [] d = told_cond (is_over d.known.place) (script_of d) _
fault_read (b ∷ bs) [] d = refl
fault_read l (m ∷ ls) d = by_line (heard d.known (words_of l)) d (λ e. fault_read m ls e)
  where
    by_line : (r : Result Said Kind) (d : Draft) → ((e : Draft) → fault_from (m ∷ ls) e.known ≡ fault_told (read_from (m ∷ ls) e)) → fault_or d.known r (fault_from (m ∷ ls)) ≡ fault_told (go_on d r (read_from (m ∷ ls)))
    by_line (Err kind) d rec = refl
    by_line (Ok said) d rec = ap (fault_from (m ∷ ls)) (sym (known_of d said)) ∙ rec (draft_after d said)

pub fault_of-read : (bytes : List ℕ) → fault_of bytes ≡ fault_told (read_from (lines_of bytes) start)
fault_of-read bytes =
    let some = split_some 10 bytes in
    ap (λ (ps : List (List ℕ)). fault_from ps start.known) some.2 ∙ fault_read some.0 some.1 start ∙ ap (λ (ps : List (List ℕ)). fault_told (read_from ps start)) (sym some.2)

no_fault : (bytes : List ℕ) (r : Result Script ScriptFault) → read_from (lines_of bytes) start ≡ r → fault_told r ≡ None → (s : Script) × Spells bytes s
no_fault bytes (Ok s) e h = (s, script_found bytes s e)
no_fault bytes (Err fault) e h = absurd cc

pub faults_tell : FaultsTell
faults_tell bytes = (
  λ e. no_fault bytes (read_from (lines_of bytes) start) refl (sym (fault_of-read bytes) ∙ e),
  λ h. fault_of-read bytes ∙ ap fault_told (script_again bytes h.0 h.1),
)

-- ---- the clauses of the reader

same_ok : (s t : Script) (r : Result Script ScriptFault) → r ≡ Ok t → r ≡ Ok s → t ≡ s
same_ok s t r e f = let both = sym e ∙ f in cc

never : (s : Script) (fault : ScriptFault) (r : Result Script ScriptFault) → r ≡ Err fault → r ≡ Ok s → ⊥
never s fault r e f = let both = sym e ∙ f in absurd cc

pub answer_found : (bytes : List ℕ) (r : Result Script ReadScript) → Gives r (read_from (lines_of bytes) start) → IfOk r (Spells bytes)
answer_found bytes (Ok s) h = script_found bytes s h
answer_found bytes (Err e) h = tt

pub answer_only : (bytes : List ℕ) (r : Result Script ReadScript) → Gives r (read_from (lines_of bytes) start) → IfOk r (IsOnlyScriptOf bytes)
answer_only bytes (Ok s) h = λ t spells. same_ok s t (read_from (lines_of bytes) start) (script_again bytes t spells) h
answer_only bytes (Err e) h = tt

pub answer_refused : (bytes : List ℕ) (r : Result Script ReadScript) → Gives r (read_from (lines_of bytes) start) → IfErr r (IsRefusalOf bytes)
answer_refused bytes (Ok s) h = tt
answer_refused bytes (Err (Refused fault)) h =
    (fault_of-read bytes ∙ ap fault_told h, λ s spells. never s fault (read_from (lines_of bytes) start) h (script_again bytes s spells))
answer_refused bytes (Err NoMemory) h = tt

pub ruleset answers = (answer_found, answer_only, answer_refused)
