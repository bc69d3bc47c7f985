use Rattle.std.proofs.Common.{◌≡◌, ◌++◌, drop, map}
use Rattle.std.specs.List.{flat_map}
use Rattle.text_words.specs.Words.{ended}
use Rattle.tm_script.specs.Texts.{op_line, moment_lines}
use Rattle.tm_script.proofs.print.push_moment.Given as goal

abbrev pub invariant-loop-op : goal.invariant-loop-op
invariant-loop-op l = record {
  items : l.op-items ≡ l.moment.ops;
  text : l.text.items ++ flat_map ended (map op_line (drop l.op-index l.op-items)) ≡ l.fn.text.items ++ flat_map ended (moment_lines l.moment);
}
