use Rattle.std.proofs.Common.{◌≡◌, ◌++◌, map, take}
use Rattle.run_shares.specs.Lines.{ran_line}
use Rattle.run_shares.proofs.runs.tell_runs.Given as goal

abbrev pub invariant-loop-i : goal.invariant-loop-i
invariant-loop-i l =
    l.lines.items ≡ l.fn.lines.items ++ map (ran_line l.now l.runner) (take l.i l.runs.runs)
