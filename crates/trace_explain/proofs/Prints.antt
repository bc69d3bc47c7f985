-- the text of a machine within that of a script
use Rattle.std.proofs.Common.{◌≡◌, ℕ, ◌+◌, ◌-◌, ◌≤◌, List, [], ◌∷◌, ◌++◌, drop, take, length, map, sym, ap, ◌∙◌, append_assoc, arith, length-append}
use Rattle.std.specs.Prelude.{codes}
use Rattle.std.specs.List.{flat_map}
use Rattle.std.proofs.lemmas.Grind.{flat_map-append}
use Rattle.std.proofs.Math.Seq.{take-append_seam, take-length}
use Rattle.std.proofs.lemmas.List.{length-drop}
use Rattle.tm_base.specs.CpuSet.{Cpus}
use Rattle.tm_script.specs.declared.syntax.Moment.{Moment}
use Rattle.text_words.specs.Words.{ended}
use Rattle.tm_script.specs.Texts.{script_text}
use Rattle.trace_text.specs.declared.traces.Trace.{Trace}
use Rattle.trace_text.specs.Lines.{trace_line_text}
use Rattle.trace_text.specs.Texts.{as_script, machine_lines, trace_text}
use Rattle.trace_text.proofs.HeadLaws.{none, two}

counted : (m x : List ℕ) → x ≡ m ++ codes "end 0\n" → length x ≡ length m + 6
counted m x e = ap length e ∙ length-append m (codes "end 0\n")

cut_of : (m x : List ℕ) → x ≡ m ++ codes "end 0\n" → take (length x - 6) x ≡ m
cut_of m x e =
    let n = counted m x e in
    let count : length x - 6 ≡ length m = omega (arith, n) in
    (λ i. take (count i) (e i)) ∙ take-append_seam m (codes "end 0\n")

at_least : (m x : List ℕ) → x ≡ m ++ codes "end 0\n" → 6 ≤ length x
at_least m x e = let n = counted m x e in omega (arith, n)

first_too : (r x : List ℕ) → x ≡ codes "tmig 2\n" ++ r → 7 ≤ length x
first_too r x e = let n = ap length e ∙ length-append (codes "tmig 2\n") r in omega (arith, n)

module _ (t : Trace) (items : List ℕ) (is : items ≡ script_text (as_script t)) where
  parts : items ≡ codes "tmig 2\n" ++ flat_map ended (machine_lines t ++ codes "end 0" ∷ [])
  parts = is ∙ (λ i. flat_map ended (two i ∷ (machine_lines t ++ none i ∷ [])))

  behind : drop 7 items ≡ flat_map ended (machine_lines t) ++ codes "end 0\n"
  behind = ap (drop 7) parts ∙ flat_map-append ended (machine_lines t) (codes "end 0" ∷ [])

  pub long : 7 ≤ length items
  long = first_too (flat_map ended (machine_lines t ++ codes "end 0" ∷ [])) items parts

  pub longer : 6 ≤ length (drop 7 items)
  longer = at_least (flat_map ended (machine_lines t)) (drop 7 items) behind

  pub machine_cut : take (length (drop 7 items) - 6) (drop 7 items) ≡ flat_map ended (machine_lines t)
  machine_cut = cut_of (flat_map ended (machine_lines t)) (drop 7 items) behind

  sliced : take (length items - 7) (drop 7 items) ≡ drop 7 items
  sliced = ap (λ (n : ℕ). take n (drop 7 items)) (sym (length-drop 7 items)) ∙ take-length (drop 7 items)

  pub machine_sliced : take (length (take (length items - 7) (drop 7 items)) - 6) (take (length items - 7) (drop 7 items)) ≡ flat_map ended (machine_lines t)
  machine_sliced = ap (λ (x : List ℕ). take (length x - 6) x) sliced ∙ machine_cut

-- the script that is printed for a trace
pub as_plain : (t : Trace) (cpus : Cpus) (moments : List Moment) (items : List ℕ) → cpus ≡ t.isolated → moments ≡ []
    → items ≡ script_text (record { version = 2; nodes = t.nodes; cpus = t.cpus; timers = t.timers; isolated = cpus; moments = moments; end = 0 })
    → items ≡ script_text (as_script t)
as_plain t cpus moments items c m e =
    e ∙ (λ i. script_text (record { version = 2; nodes = t.nodes; cpus = t.cpus; timers = t.timers; isolated = c i; moments = m i; end = 0 }))

pub ruleset cutting = (long, longer, machine_cut)

-- the four pieces of a trace's text
pub whole : (t : Trace) (a b c d e : List ℕ) → a ≡ [] → b ≡ a ++ codes "trace 1\n" → c ≡ b ++ flat_map ended (machine_lines t)
    → d ≡ c ++ flat_map ended (map trace_line_text t.lines) → e ≡ d ++ codes "end\n" → e ≡ trace_text t
whole t a b c d e ea eb ec ed ee =
    let m = flat_map ended (machine_lines t) in
    let l = flat_map ended (map trace_line_text t.lines) in
    let end : List ℕ = codes "end\n" in
    let be : b ≡ codes "trace 1\n" = eb ∙ ap (λ x. x ++ codes "trace 1\n") ea in
    ee ∙ ap (λ x. x ++ end) (ed ∙ ap (λ x. x ++ l) (ec ∙ ap (λ x. x ++ m) be))
    ∙ append_assoc (codes "trace 1\n" ++ m) l end
    ∙ append_assoc (codes "trace 1\n") m (l ++ end)
    ∙ ap (λ r. codes "trace 1\n" ++ m ++ r) (sym (flat_map-append ended (map trace_line_text t.lines) (codes "end" ∷ [])))
    ∙ ap (λ r. codes "trace 1\n" ++ r) (sym (flat_map-append ended (machine_lines t) (map trace_line_text t.lines ++ codes "end" ∷ [])))
