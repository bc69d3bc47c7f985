-- for crates above: a trace that is read is spelled so, and what spells a trace is read
use Rattle.std.proofs.Common.{◌≡◌, ℕ, ◌+◌, ◌≤◌, true, false, cond, List, [], ◌∷◌, ◌++◌, map, length, Option, Some, None, Ok, refl, sym, ap, subst, ◌∙◌, arith, append_assoc, length-append}
use Rattle.std.specs.Prelude.{codes}
use Rattle.std.specs.Str.{bytes_eq}
use Rattle.std.proofs.lemmas.Bool.{cond-false, cond-true}
use Rattle.std.proofs.lemmas.Slice.Eq.{bytes_eq-Decides}
use Rattle.std.proofs.lemmas.List.{length-map}
use Rattle.std.proofs.lemmas.List.Elements.{All-from_recursion, recursion_from_All}
use Rattle.std.proofs.lemmas.Option.{none-some}
use Rattle.text_words.specs.Words.{lines_of}
use Rattle.text_words.proofs.Cuts.{AreClear, AreClear-append, lines_again, lines_found, split_some}
use Rattle.tm_script.specs.declared.faults.Kind.TheVariants.{BadLine}
use Rattle.tm_script.specs.declared.faults.ScriptFault.{ScriptFault}
use Rattle.tm_script.specs.declared.syntax.Moment.{Moment}
use Rattle.tm_script.specs.declared.syntax.Script.{Script}
use Rattle.tm_script.specs.Faults.{fault_of, FaultsTell as ScriptFaultsTell}
use Rattle.tm_script.specs.Grammar.{IsMoment, IsScript, Spells as SpellsScript}
use Rattle.tm_script.specs.Texts.{cpu_count as script_cpus, isolated_line, number_line}
use Rattle.trace_text.specs.declared.answers.ReadTrace.{ReadTrace}
use Rattle.trace_text.specs.declared.answers.ReadTrace.TheVariants.{Refused, NoMemory}
use Rattle.trace_text.specs.declared.traces.Trace.{Trace}
use Rattle.trace_text.specs.declared.traces.TraceLine.{TraceLine}
use Rattle.trace_text.specs.declared.words.Limits.{Limits}
use Rattle.trace_text.specs.Lines.{IsLine, trace_line_text}
use Rattle.trace_text.specs.Texts.{IsTrace, SpellsTrace, as_script, cpu_count, limits_of, machine_lines, trace_lines}
use Rattle.trace_text.specs.Reading.{trace_fault_at, lines_from}
use Rattle.trace_text.specs.Faults.{fault_among, fault_behind, trace_fault_told, first_fault, first_trace_line, limits_by, machine_text, trace_fault}
use Rattle.trace_text.specs.Reader.{IsOnlyTraceOf, IsTraceRefusalOf}
use Rattle.trace_text.specs.Steps.{FailsTrace, FailsAsScript, FailsBehind, IsReadBehind, IsScriptOf, body_parts}
use Rattle.trace_text.proofs.FieldLaws.{AreSmall}
use Rattle.trace_text.proofs.BodyLaws.{body_back, body_clear, body_found, some_body}
use Rattle.trace_text.proofs.HeadLaws.{IsMachine, both, few_of_most, isolated_clear, limits_are, machine_found, machine_spelled, number_clear, parts_clear, short_of}

-- ---- the machine as a script's

plain_script : (s : Script) → IsScript s → s.version ≡ 2 → (ls : List TraceLine) (t : Trace)
    → t ≡ record { nodes = s.nodes; cpus = s.cpus; timers = s.timers; isolated = s.isolated; lines = ls } → IsScript (as_script t)
plain_script s is two ls t same = subst (λ (u : Trace). IsScript (as_script u)) (sym same) (record {
  some_version = omega arith;
  few_versions = omega arith;
  some_nodes = is.some_nodes;
  few_nodes = is.few_nodes;
  some_cpus = is.some_cpus;
  few_node_cpus = is.few_node_cpus;
  few_cpus = few_of_most s.version (script_cpus s) is.few_cpus;
  some_timers = is.some_timers;
  few_timers = is.few_timers;
  none_isolated = λ one. absurd (let no : 2 ≡ 1 = one in omega (arith, no));
  isolated_in_range = is.isolated_in_range;
  some_placed = is.some_placed;
  moments = All-from_recursion (IsMoment 2 (script_cpus s) s.timers) [] tt;
  ascending = λ k lt. absurd (omega (arith, lt));
  by_the_end = All-from_recursion (λ (m : Moment). m.at ≤ 0) [] tt;
  early_end = omega arith;
  numbered = tt;
  few_lines = omega arith;
})

small_of : (s : Script) → IsScript s → AreSmall (record { cpus = script_cpus s; timers = s.timers })
small_of s is =
    let short = short_of s is in
    record { cpus = omega (arith, short.count); timers = omega (arith, short.timers) }

lines_count : (t : Trace) → length (trace_lines t) ≡ 6 + length t.lines
lines_count t =
    let a = length-append (map trace_line_text t.lines) (codes "end" ∷ []) in
    let m = length-map t.lines trace_line_text in
    omega (arith, a, m)

-- ---- behind the first line

module _ (bytes : List ℕ) (a b c d behind : List ℕ) (cut : lines_of bytes ≡ a ∷ b ∷ c ∷ d ∷ lines_of behind) where
  lines_clear : AreClear 10 (a ∷ b ∷ c ∷ d ∷ [])
  lines_clear =
      let all = subst (AreClear 10) cut (parts_clear 10 bytes) in
      (all.0, (all.1.0, (all.1.1.0, (all.1.1.1.0, tt))))

  fault_is : fault_behind (lines_of bytes) ≡ first_fault (fault_of (machine_text (a ∷ b ∷ c ∷ d ∷ []))) (trace_fault_told (lines_from (limits_by a b c) first_trace_line (lines_of behind)))
  fault_is =
      let some = split_some 10 behind in
      ap fault_behind (cut ∙ ap (λ (ps : List (List ℕ)). a ∷ b ∷ c ∷ d ∷ ps) some.2)
      ∙ ap (λ (ps : List (List ℕ)). first_fault (fault_of (machine_text (a ∷ b ∷ c ∷ d ∷ []))) (trace_fault_told (lines_from (limits_by a b c) first_trace_line ps))) (sym some.2)

  pub refused_machine : (text : List ℕ) (fault : ReadTrace) → text ≡ machine_text (a ∷ b ∷ c ∷ d ∷ []) → FailsAsScript text fault → FailsBehind (lines_of bytes) fault
  refused_machine text NoMemory is h = tt
  refused_machine text (Refused fault) is h =
      fault_is ∙ ap (λ (o : Option ScriptFault). first_fault o (trace_fault_told (lines_from (limits_by a b c) first_trace_line (lines_of behind)))) (ap fault_of (sym is) ∙ h)

  module _ (text : List ℕ) (s : Script) (is : text ≡ machine_text (a ∷ b ∷ c ∷ d ∷ [])) (of : IsScriptOf text s) where
    spells : SpellsScript (machine_text (a ∷ b ∷ c ∷ d ∷ [])) s
    spells = subst (λ (x : List ℕ). SpellsScript x s) is of.spelled

    machine : IsMachine a b c d s
    machine = machine_found a b c d s lines_clear spells

    abbrev limits : Limits
    limits = record { cpus = script_cpus s; timers = s.timers }

    pub refused_lines : ScriptFaultsTell → (fault : ReadTrace) → FailsTrace fault (lines_from limits first_trace_line (lines_of behind)) → FailsBehind (lines_of bytes) fault
    refused_lines tell NoMemory h = tt
    refused_lines tell (Refused fault) h =
        fault_is
        ∙ ap (λ (o : Option ScriptFault). first_fault o (trace_fault_told (lines_from (limits_by a b c) first_trace_line (lines_of behind)))) ((tell (machine_text (a ∷ b ∷ c ∷ d ∷ []))).1 (s, spells))
        ∙ ap (λ (l : Limits). trace_fault_told (lines_from l first_trace_line (lines_of behind))) (limits_are a b c d s spells.0 machine)
        ∙ ap trace_fault_told h

    pub read_found : (ls : List TraceLine) (t : Trace) → t ≡ record { nodes = s.nodes; cpus = s.cpus; timers = s.timers; isolated = s.isolated; lines = ls }
        → lines_from limits first_trace_line (lines_of behind) ≡ Ok ls → IsReadBehind (lines_of bytes) t
    read_found ls t same e =
        subst (IsReadBehind (lines_of bytes)) (sym same) (made (record { nodes = s.nodes; cpus = s.cpus; timers = s.timers; isolated = s.isolated; lines = ls }) refl)
      where
        made : (u : Trace) → u ≡ record { nodes = s.nodes; cpus = s.cpus; timers = s.timers; isolated = s.isolated; lines = ls }
            → IsReadBehind (lines_of bytes) (record { nodes = s.nodes; cpus = s.cpus; timers = s.timers; isolated = s.isolated; lines = ls })
        made u eq =
            let x : Trace = record { nodes = s.nodes; cpus = s.cpus; timers = s.timers; isolated = s.isolated; lines = ls } in
            let body = body_found limits (lines_of behind) first_trace_line ls e in
            let plain = plain_script s spells.0 machine.version ls x refl in
            let count = lines_count x in
            let texts : machine_text (machine_lines x) ≡ text = (λ i. machine_text (sym machine.nodes i ∷ sym machine.cpus i ∷ sym machine.timers i ∷ sym machine.isolated i ∷ [])) ∙ sym is in
            let own : as_script x ≡ s = of.only (as_script x) (subst (λ (y : List ℕ). SpellsScript y (as_script x)) texts (machine_spelled x plain)) in
            record {
              is = record {
                machine = plain;
                lines = All-from_recursion (IsLine limits) ls body.lines;
                few_lines = (let room = body.room in omega (arith, room, count));
              };
              spelled = cut ∙ (λ i. machine.nodes i ∷ machine.cpus i ∷ machine.timers i ∷ machine.isolated i ∷ body.spelled i);
              only = λ u spelled. of.only u (subst (λ (y : List ℕ). SpellsScript y u) texts spelled) ∙ sym own;
            }

-- ---- the whole text

parts_of : (t : Trace) → trace_lines t ++ [] ∷ [] ≡ codes "trace 1" ∷ (machine_lines t ++ body_parts t.lines)
parts_of t = ap (λ (ps : List (List ℕ)). codes "trace 1" ∷ (machine_lines t ++ ps)) (append_assoc (map trace_line_text t.lines) (codes "end" ∷ []) ([] ∷ []))

pub spelled_by : (bytes first behind : List ℕ) (t : Trace) → lines_of bytes ≡ first ∷ lines_of behind → first ≡ codes "trace 1" → IsReadBehind (lines_of behind) t → SpellsTrace bytes t
spelled_by bytes first behind t cut is r =
    (r.is, sym (lines_found bytes (trace_lines t) (cut ∙ (λ i. is i ∷ r.spelled i) ∙ sym (parts_of t))))

pub limits_small : (t : Trace) → IsTrace t → AreSmall (limits_of t)
limits_small t is = small_of (as_script t) is.machine

abbrev nodes_line : Trace → List ℕ
nodes_line t = number_line (codes "nodes") t.nodes

abbrev cpus_line : Trace → List ℕ
cpus_line t = number_line (codes "cpus") t.cpus

abbrev timers_line : Trace → List ℕ
timers_line t = number_line (codes "timers") t.timers

abbrev limits_in : Trace → Limits
limits_in t = limits_by (nodes_line t) (cpus_line t) (timers_line t)

own_machine : (t : Trace) → IsMachine (nodes_line t) (cpus_line t) (timers_line t) (isolated_line (cpu_count t) t.isolated) (as_script t)
own_machine t = record { version = refl; nodes = refl; cpus = refl; timers = refl; isolated = refl }

trace_clear : (t : Trace) → IsTrace t → AreClear 10 (trace_lines t)
trace_clear t is =
    let short = short_of (as_script t) is.machine in
    let body = body_clear (limits_of t) (limits_small t is) t.lines (recursion_from_All (IsLine (limits_of t)) t.lines is.lines) in (
      refl,
      (
        number_clear (codes "nodes") t.nodes refl short.nodes,
        (
          number_clear (codes "cpus") t.cpus refl short.cpus,
          (
            number_clear (codes "timers") t.timers refl short.timers,
            (isolated_clear (cpu_count t) t.isolated short.count, AreClear-append 10 (map trace_line_text t.lines) (codes "end" ∷ []) body (refl, tt)),
          ),
        ),
      ),
    )

pub parts_back : (bytes : List ℕ) (t : Trace) → SpellsTrace bytes t → lines_of bytes ≡ codes "trace 1" ∷ (machine_lines t ++ body_parts t.lines)
parts_back bytes t h = ap lines_of (sym h.1) ∙ lines_again (trace_lines t) (trace_clear t h.0) ∙ parts_of t

body_again : (t : Trace) → IsTrace t → lines_from (limits_of t) first_trace_line (body_parts t.lines) ≡ Ok t.lines
body_again t is =
    let count = lines_count t in
    let few = is.few_lines in
    body_back (limits_of t) (limits_small t is) t.lines first_trace_line (recursion_from_All (IsLine (limits_of t)) t.lines is.lines) (omega (arith, few, count))

pub no_fault : ScriptFaultsTell → (bytes : List ℕ) (t : Trace) → SpellsTrace bytes t → trace_fault bytes ≡ None
no_fault tell bytes t h =
    let some = some_body (limits_of t) t.lines in
    ap fault_among (parts_back bytes t h)
    ∙ ap (λ (ps : List (List ℕ)). fault_among (codes "trace 1" ∷ (machine_lines t ++ ps))) some.2
    ∙ ap (λ (ps : List (List ℕ)). first_fault (fault_of (machine_text (machine_lines t))) (trace_fault_told (lines_from (limits_in t) first_trace_line ps))) (sym some.2)
    ∙ ap (λ (o : Option ScriptFault). first_fault o (trace_fault_told (lines_from (limits_in t) first_trace_line (body_parts t.lines)))) ((tell (machine_text (machine_lines t))).1 (as_script t, machine_spelled t h.0.machine))
    ∙ ap (λ (l : Limits). trace_fault_told (lines_from l first_trace_line (body_parts t.lines))) (limits_are (nodes_line t) (cpus_line t) (timers_line t) (isolated_line (cpu_count t) t.isolated) (as_script t) h.0.machine (own_machine t))
    ∙ ap trace_fault_told (body_again t h.0)

pub only_one : (bytes first behind : List ℕ) (t : Trace) → lines_of bytes ≡ first ∷ lines_of behind → IsReadBehind (lines_of behind) t → IsOnlyTraceOf bytes t
only_one bytes first behind t cut r u h =
    let all = both (sym (parts_back bytes u h) ∙ cut ∙ ap (λ (ps : List (List ℕ)). first ∷ ps) r.spelled) in
    let n = both all.1 in
    let p = both n.1 in
    let m = both p.1 in
    let i = both m.1 in
    let texts : machine_text (machine_lines u) ≡ machine_text (machine_lines t) = λ j. machine_text (n.0 j ∷ p.0 j ∷ m.0 j ∷ i.0 j ∷ []) in
    let script : as_script u ≡ as_script t = r.only (as_script u) (subst (λ (x : List ℕ). SpellsScript x (as_script u)) texts (machine_spelled u h.0.machine)) in
    let limits : limits_of u ≡ limits_of t = ap (λ (s : Script). record { cpus = script_cpus s; timers = s.timers }) script in
    let lines : Ok u.lines ≡ Ok t.lines = sym (body_again u h.0) ∙ (λ j. lines_from (limits j) first_trace_line (i.1 j)) ∙ body_again t r.is in
    let same : u.lines ≡ t.lines = cc in
    λ j. record { nodes = (script j).nodes; cpus = (script j).cpus; timers = (script j).timers; isolated = (script j).isolated; lines = same j }

pub refusal : ScriptFaultsTell → (bytes : List ℕ) (fault : ScriptFault) → trace_fault bytes ≡ Some fault → IsTraceRefusalOf bytes (Refused fault)
refusal tell bytes fault e = (e, λ t spelled. none-some fault (sym (no_fault tell bytes t spelled) ∙ e))

module _ (tell : ScriptFaultsTell) (bytes first behind : List ℕ) (cut : lines_of bytes ≡ first ∷ lines_of behind) where
  among : trace_fault bytes ≡ cond (bytes_eq first (codes "trace 1")) (fault_behind (lines_of behind)) (Some (trace_fault_at 1 BadLine))
  among =
      let some = split_some 10 behind in
      ap fault_among (cut ∙ ap (λ (ps : List (List ℕ)). first ∷ ps) some.2)
      ∙ ap (λ (ps : List (List ℕ)). cond (bytes_eq first (codes "trace 1")) (fault_behind ps) (Some (trace_fault_at 1 BadLine))) (sym some.2)

  pub refused_first : bytes_eq first (codes "trace 1") ≡ false → IsTraceRefusalOf bytes (Refused (trace_fault_at 1 BadLine))
  refused_first other = refusal tell bytes (trace_fault_at 1 BadLine) (among ∙ cond-false (bytes_eq first (codes "trace 1")) _ _ other)

  pub refused_behind : bytes_eq first (codes "trace 1") ≡ true → (fault : ReadTrace) → FailsBehind (lines_of behind) fault → IsTraceRefusalOf bytes fault
  refused_behind here NoMemory h = tt
  refused_behind here (Refused fault) h = refusal tell bytes fault (among ∙ cond-true (bytes_eq first (codes "trace 1")) _ _ here ∙ h)

pub trace_first : (first : List ℕ) → bytes_eq first (codes "trace 1") ≡ true → first ≡ codes "trace 1"
trace_first first here = (bytes_eq-Decides first (codes "trace 1")).0 here
