use Rattle.std.proofs.Common.{[]}
use Rattle.run_plain.specs.Apart.{ToldApart}
use Rattle.run_plain.proofs.moments.nobody.Given as goal

abbrev pub invariant-loop-cpu : goal.invariant-loop-cpu
invariant-loop-cpu l = ToldApart l._cpu l.own.items [] 0
