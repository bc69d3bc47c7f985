-- what is always known behind a line
use Rattle.std.proofs.Common.{◌≡◌, ℕ, ◌+◌, ◌*◌, ◌≤◌, Bool, true, false, cond, eqb, List, [], ◌∷◌, Result, Ok, Err, refl, sym, ap, subst, ◌∙◌, arith}
use Rattle.std.proofs.lemmas.Bool.{false≢true}
use Rattle.text_words.specs.Words.{lines_of, words_of}
use Rattle.text_words.proofs.Cuts.{split_some}
use Rattle.tm_base.specs.declared.limits.TheConstants.{CPU_SET_SIZE, MOST_TIMERS, MOST_OPS, MOST_LINES}
use Rattle.tm_script.specs.declared.faults.Kind.{Kind}
use Rattle.tm_script.specs.declared.faults.ScriptFault.{ScriptFault}
use Rattle.tm_script.specs.declared.syntax.Script.{Script}
use Rattle.tm_script.specs.declared.known.Place.{Place}
use Rattle.tm_script.specs.declared.known.Place.TheVariants.{VersionLine, NodesLine, Body, IsolatedLine}
use Rattle.tm_script.specs.declared.known.Known.{Known}
use Rattle.tm_script.specs.declared.known.Said.{Said}
use Rattle.tm_script.specs.declared.known.Said.TheVariants.{Version, NodeCount, CpuCount, TimerCount, IsolatedCpus, Opening, Operation, Ending}
use Rattle.tm_script.specs.declared.draft.Draft.{Draft}
use Rattle.tm_script.specs.Faults.{known_after, beginning, heard}
use Rattle.tm_script.specs.Reading.{count_in, draft_after, fault_in, finished, go_on, read_from}
use Rattle.tm_script.proofs.SaidLines.{IsSmall, Fits}
use Rattle.tm_script.proofs.LineFound.{heard_found}
use Rattle.tm_script.proofs.HeadLaws.{few_of_most}
use Rattle.tm_script.proofs.ScriptLaws.{known_of}

abbrev is_early : Place → Bool
is_early VersionLine = true
is_early NodesLine = true
is_early _ = false

pub record IsKnown (k : Known) : Type 0 where
  pub lines : k.line ≤ MOST_LINES + 1
  pub ops : k.ops ≤ MOST_OPS
  pub cpus : count_in k ≤ CPU_SET_SIZE
  pub timers : k.timers ≤ MOST_TIMERS
  pub no_cpus : is_early k.place ≡ true → k.cpus ≡ 0

pub known_first : IsKnown beginning
known_first = record { lines = omega arith; ops = omega arith; cpus = omega arith; timers = omega arith; no_cpus = λ _. refl }

not_early : {P : Type 0} (t : Bool) → is_early (cond t Body IsolatedLine) ≡ true → P
not_early true e = absurd (false≢true e)
not_early false e = absurd (false≢true e)

known_keeps : (k : Known) (said : Said) → IsKnown k → k.line ≤ MOST_LINES → Fits k said → IsKnown (known_after k said)
known_keeps k (Version n) is room fits =
    record { lines = omega arith; ops = is.ops; cpus = is.cpus; timers = is.timers; no_cpus = λ _. is.no_cpus (ap is_early fits.0) }
known_keeps k (NodeCount n) is room fits =
    let none : k.cpus ≡ 0 = is.no_cpus (ap is_early fits.0) in
    let few : n * k.cpus ≤ CPU_SET_SIZE = rw none (omega arith) in
    record { lines = omega arith; ops = is.ops; cpus = few; timers = is.timers; no_cpus = λ e. absurd (false≢true e) }
known_keeps k (CpuCount n) is room fits =
    record { lines = omega arith; ops = is.ops; cpus = omega (arith, few_of_most k.version (k.nodes * n) fits.3); timers = is.timers; no_cpus = λ e. absurd (false≢true e) }
known_keeps k (TimerCount n) is room fits =
    record { lines = omega arith; ops = is.ops; cpus = is.cpus; timers = fits.2; no_cpus = λ e. not_early (eqb k.version 1) e }
known_keeps k (IsolatedCpus cpus) is room fits =
    record { lines = omega arith; ops = is.ops; cpus = is.cpus; timers = is.timers; no_cpus = λ e. absurd (false≢true e) }
known_keeps k (Opening at) is room fits =
    record { lines = omega arith; ops = omega arith; cpus = is.cpus; timers = is.timers; no_cpus = λ e. absurd (false≢true (sym (ap is_early fits.0) ∙ e)) }
known_keeps k (Operation cpu done) is room fits =
    record { lines = omega arith; ops = omega (arith, fits.5); cpus = is.cpus; timers = is.timers; no_cpus = λ e. absurd (false≢true (sym (ap is_early fits.0) ∙ e)) }
known_keeps k (Ending end) is room fits =
    record { lines = omega arith; ops = is.ops; cpus = is.cpus; timers = is.timers; no_cpus = λ e. absurd (false≢true e) }

pub known_behind : (d : Draft) (line : List ℕ) (said : Said) → IsKnown d.known → Ok said ≡ heard d.known (words_of line) → IsKnown (draft_after d said).known
known_behind d line said is e =
    let small : IsSmall d.known = record { few_cpus = omega (arith, is.cpus); few_timers = omega (arith, is.timers) } in
    let f = heard_found d.known (words_of line) said small (sym e) in
    let P : Known → Type 0 = λ k. IsKnown k in
    subst P (sym (known_of d said)) (known_keeps d.known said is f.1 f.2)

-- a line of the text, and what is read behind it
pub line_read : (rest line after : List ℕ) (d : Draft) (said : Said) (total : Result Script ScriptFault) → lines_of rest ≡ line ∷ lines_of after → Ok said ≡ heard d.known (words_of line) → read_from (lines_of rest) d ≡ total
    → read_from (lines_of after) (draft_after d said) ≡ total
unfolding read_from
line_read rest line after d said total cut e same =
    let more = split_some 10 after in
    ap (λ (ps : List (List ℕ)). read_from ps (draft_after d said)) more.2
    ∙ ap (λ (r : Result Said Kind). go_on d r (read_from (more.0 ∷ more.1))) e
    ∙ ap (λ (ps : List (List ℕ)). read_from (line ∷ ps) d) (sym more.2)
    ∙ ap (λ (ps : List (List ℕ)). read_from ps d) (sym cut) ∙ same

pub line_refused : (rest line after : List ℕ) (d : Draft) (kind : Kind) (total : Result Script ScriptFault) → lines_of rest ≡ line ∷ lines_of after → Err kind ≡ heard d.known (words_of line) → read_from (lines_of rest) d ≡ total
    → total ≡ Err (fault_in d.known kind)
unfolding read_from
line_refused rest line after d kind total cut e same =
    let more = split_some 10 after in
    sym same ∙ ap (λ (ps : List (List ℕ)). read_from ps d) cut
    ∙ ap (λ (ps : List (List ℕ)). read_from (line ∷ ps) d) more.2
    ∙ ap (λ (r : Result Said Kind). go_on d r (read_from (more.0 ∷ more.1))) (sym e)

pub lines_end : (rest : List ℕ) (d : Draft) (total : Result Script ScriptFault) → lines_of rest ≡ rest ∷ [] → read_from (lines_of rest) d ≡ total → total ≡ finished d rest
unfolding read_from
lines_end rest d total cut same = sym same ∙ ap (λ (ps : List (List ℕ)). read_from ps d) cut
