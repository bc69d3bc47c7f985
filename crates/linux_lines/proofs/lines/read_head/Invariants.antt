use Rattle.std.proofs.Common.{◌≡◌, length}
use Rattle.linux_lines.specs.Parts.{parts_of}
use Rattle.linux_lines.specs.Lines.{head_in}
use Rattle.linux_lines.proofs.lines.read_head.Given as goal

abbrev pub invariant-loop-part : goal.invariant-loop-part
invariant-loop-part l = head_in (parts_of l.left) ≡ head_in (parts_of l.fn.bytes)

abbrev pub decreases-loop-part : goal.decreases-loop-part
decreases-loop-part l = length l.left
