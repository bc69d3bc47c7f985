use Rattle.std.proofs.Common.{◌≡◌, false, length}
use Rattle.linux_lines.specs.Parts.{parts_of}
use Rattle.linux_shown.specs.Names.{name_from}
use Rattle.linux_shown.proofs.names.name_in.Given as goal

abbrev pub invariant-loop-part : goal.invariant-loop-part
invariant-loop-part l =
    name_from l.is_behind (parts_of l.left) ≡ name_from false (parts_of l.fn.bytes)

abbrev pub decreases-loop-part : goal.decreases-loop-part
decreases-loop-part l = length l.left
