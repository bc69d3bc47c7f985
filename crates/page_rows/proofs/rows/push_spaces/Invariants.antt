use Rattle.std.proofs.Common.{◌≡◌, ◌++◌, replicate}
use Rattle.page_rows.specs.declared.rows.TheConstants.{SPACE}
use Rattle.page_rows.proofs.rows.push_spaces.Given as goal

abbrev pub invariant-loop-space : goal.invariant-loop-space
invariant-loop-space l =
    record { text : l.text.items ≡ l.fn.text.items ++ replicate l._space SPACE }
