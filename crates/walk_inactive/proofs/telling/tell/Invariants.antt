use Rattle.walk_rules.specs.declared.walk.Walk.{Walk}
use Rattle.walk_inactive.specs.Ways.{HasSetOut, WalkSoFar}
use Rattle.walk_inactive.proofs.telling.tell.Given as goal

abbrev pub invariant-loop : goal.invariant-loop
invariant-loop g l = (k : Walk) → HasSetOut l.fn.part k → WalkSoFar l.fn.part l.part k
