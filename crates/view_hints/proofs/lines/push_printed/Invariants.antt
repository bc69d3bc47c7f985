use Rattle.std.proofs.Common.{◌≡◌, ◌++◌, drop, map}
use Rattle.view_hints.specs.Lines.{printed_byte}
use Rattle.view_hints.proofs.lines.push_printed.Given as goal

abbrev pub invariant-loop-byte : goal.invariant-loop-byte
invariant-loop-byte l =
    record {
      text :
          l.text.items ++ map printed_byte (drop l.byte-index l.bytes)
          ≡ l.fn.text.items ++ map printed_byte l.bytes;
    }
