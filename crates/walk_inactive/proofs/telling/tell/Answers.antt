use Rattle.std.proofs.Common.{subst}
use Rattle.walk_inactive.specs.Ways.{HasAdvanced}
use Rattle.walk_inactive.proofs.Coming.{comes}
use Rattle.walk_inactive.proofs.Stepping.{keeps, set_out}
use Rattle.walk_inactive.proofs.telling.tell.Goals as goal

pub loop-init : goal.loop-init
loop-init g c = λ k out. set_out c.args.part.now k out

pub loop-preserved : goal.loop-preserved
loop-preserved g c = λ k out.
    keeps c.args.part.now c.loop.part c.advance.new.part k out (c.loop.invariant k out)
    (subst (λ more. HasAdvanced more c.loop.part c.advance.new.part) c.if-not-advance.false
    c.advance.ensures)

pub returns-then-not-advance : goal.returns-then-not-advance
returns-then-not-advance g c = λ k out.
    comes c.args.part.now c.loop.part c.advance.new.part k out (c.loop.invariant k out)
    (subst (λ more. HasAdvanced more c.loop.part c.advance.new.part) c.if-not-advance.true
    c.advance.ensures)
