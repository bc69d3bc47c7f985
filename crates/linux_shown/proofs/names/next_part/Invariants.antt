use Rattle.std.proofs.Common.{◌≡◌, ◌≤◌, length}
use Rattle.linux_lines.specs.Parts.{parts_of}
use Rattle.linux_shown.proofs.names.next_part.Given as goal

abbrev pub invariant-loop-word : goal.invariant-loop-word
invariant-loop-word l =
    record {
      same : parts_of l.left ≡ parts_of l.fn.bytes;
      within : length l.left ≤ length l.fn.bytes;
    }

abbrev pub decreases-loop-word : goal.decreases-loop-word
decreases-loop-word l = length l.left
