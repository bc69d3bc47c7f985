use Rattle.std.proofs.Common.{◌≡◌, ◌++◌}
use Rattle.std.specs.Prelude.{codes}
use Rattle.std.specs.List.{flat_map}
use Rattle.tm_script.specs.Texts.{members}
use Rattle.tm_script.proofs.PrintLaws.{behind_space}
use Rattle.tm_script.proofs.print.push_isolated.Given as goal

abbrev pub invariant-loop-cpu : goal.invariant-loop-cpu
invariant-loop-cpu l = l.text.items ≡ l.fn.text.items ++ (codes "isolated" ++ flat_map behind_space (members l.cpu l.cpus))
