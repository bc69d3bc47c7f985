use Rattle.std.proofs.Common.{◌≡◌, length}
use Rattle.linux_lines.specs.Parts.{parts_of, value_in}
use Rattle.linux_lines.proofs.parts.value_in.Given as goal

abbrev pub invariant-loop-part : goal.invariant-loop-part
invariant-loop-part l = value_in l.key (parts_of l.left) ≡ value_in l.key (parts_of l.fn.bytes)

abbrev pub decreases-loop-part : goal.decreases-loop-part
decreases-loop-part l = length l.left
