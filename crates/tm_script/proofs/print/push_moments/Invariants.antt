use Rattle.std.proofs.Common.{◌≡◌, ◌++◌, drop}
use Rattle.std.specs.List.{flat_map}
use Rattle.text_words.specs.Words.{ended}
use Rattle.tm_script.specs.Texts.{moment_lines}
use Rattle.tm_script.proofs.print.push_moments.Given as goal

abbrev pub invariant-loop-moment : goal.invariant-loop-moment
invariant-loop-moment l =
    l.text.items ++ flat_map ended (flat_map moment_lines (drop l.moment-index l.moments)) ≡ l.fn.text.items ++ flat_map ended (flat_map moment_lines l.moments)
