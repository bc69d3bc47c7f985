use Rattle.std.proofs.Common.{◌∙◌, sym}
use Rattle.walk_inactive.proofs.Coming.{advances}
use Rattle.walk_inactive.proofs.telling.advance.Goals as goal

pub returns-in-Some : goal.returns-in-Some
returns-in-Some g c =
    advances g.N.RunName.opening c.args.part.now c.make_step.new.part c.in-Some.walk
    c.law.ensures.fits c.of_run.ensures (sym c.walk.ensures ∙ c.in-Some.is)
    (sym c.is_under_way.ensures ∙ c.if-is_under_way.true) c.make_step.ensures
