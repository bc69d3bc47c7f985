-- traces and their texts
use Rattle.std.specs.Prelude.{◌≡◌, ℕ, ◌*◌, ◌≤◌, List, [], ◌∷◌, ◌++◌, length, map, codes, All}
use Rattle.std.specs.List.{flat_map}
use Rattle.text_words.specs.Words.{ended}
use Rattle.tm_base.specs.declared.limits.TheConstants.{MOST_LINES}
use Rattle.tm_script.specs.declared.syntax.Script.{Script}
use Rattle.tm_script.specs.Texts.{isolated_line, number_line}
use Rattle.tm_script.specs.Grammar.{IsScript}
use Rattle.trace_text.specs.declared.traces.Trace.{Trace}
use Rattle.trace_text.specs.declared.words.Limits.{Limits}
use Rattle.trace_text.specs.Lines.{IsLine, trace_line_text}

-- how many CPUs the machine has
abbrev pub cpu_count : Trace → ℕ
cpu_count t = t.nodes * t.cpus

-- the lines of the machine, as in a script of version 2
abbrev pub machine_lines : Trace → List (List ℕ)
machine_lines t =
    number_line (codes "nodes") t.nodes ∷ number_line (codes "cpus") t.cpus
    ∷ number_line (codes "timers") t.timers ∷ isolated_line (cpu_count t) t.isolated ∷ []

-- the lines of a trace
abbrev pub trace_lines : Trace → List (List ℕ)
trace_lines t =
    codes "trace 1" ∷ (machine_lines t ++ (map trace_line_text t.lines ++ codes "end" ∷ []))

-- THE TEXT of a trace
abbrev pub trace_text : Trace → List ℕ
trace_text t = flat_map ended (trace_lines t)

-- the script of version 2 with the same machine, in which nothing happens
abbrev pub as_script : Trace → Script
as_script t = record {
  version = 2;
  nodes = t.nodes;
  cpus = t.cpus;
  timers = t.timers;
  isolated = t.isolated;
  moments = [];
  end = 0;
}

-- what its numbers are below
abbrev pub limits_of : Trace → Limits
limits_of t = record { cpus = cpu_count t; timers = t.timers }

-- A TRACE of the grammar: its machine is one that a script may have
pub record IsTrace (t : Trace) : Type 0 where
  pub machine : IsScript (as_script t)
  pub lines : All (IsLine (limits_of t)) t.lines
  pub few_lines : length (trace_lines t) ≤ MOST_LINES

-- these bytes spell the trace
abbrev pub SpellsTrace : List ℕ → Trace → Type 0
SpellsTrace bytes t = IsTrace t × (trace_text t ≡ bytes)
