use Rattle.std.proofs.Common.{◌≡◌, ◌++◌, drop, map}
use Rattle.std.specs.List.{flat_map}
use Rattle.text_words.specs.Words.{ended}
use Rattle.trace_text.specs.Lines.{trace_line_text}
use Rattle.trace_explain.proofs.printing.push_lines.Given as goal

abbrev pub invariant-loop-line : goal.invariant-loop-line
invariant-loop-line l = l.text.items ++ flat_map ended (map trace_line_text (drop l.line-index l.lines)) ≡ l.fn.text.items ++ flat_map ended (map trace_line_text l.lines)
