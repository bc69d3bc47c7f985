use Rattle.std.proofs.Common.{◌≡◌}
use Rattle.shared_cpus.specs.shared_rule.Passes.{IsOfRun}
use Rattle.shared_looks.specs.Sights.{NothingBelow}
use Rattle.shared_looks.proofs.looking.needs_remote.Given as goal

abbrev pub invariant-loop-level : goal.invariant-loop-level
invariant-loop-level g l =
    NothingBelow g.N.RunName.table g.N.RunName.opening l.now l.fn.pass.cpu l.level l.fn.pass l.pass
    × (IsOfRun g.N.RunName.table l.pass × (l.pass.cpu ≡ l.fn.pass.cpu))
