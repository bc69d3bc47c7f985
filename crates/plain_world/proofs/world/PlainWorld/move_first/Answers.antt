use Rattle.std.proofs.Common.{sym}
use Rattle.plain_world.proofs.Results.{on_ok}
use Rattle.plain_world.proofs.Worlds.{moved_again}
use Rattle.plain_world.proofs.world.PlainWorld.move_first.Goals as goal

pub returns-then-from-to-clause-ok : goal.returns-then-from-to-clause-ok
returns-then-from-to-clause-ok c =
    on_ok c.receive.result _ _
    (moved_again c.args.self.now c.receive.new.self c.args.from.0 c.args.to.0 c.in-Some.class
    c.in-Some.item c.if-from-to.true c.in-Some.ensures)
    c.receive.ensures.ok

pub returns-in-Err-clause-past : goal.returns-in-Err-clause-past
returns-in-Err-clause-past c why fits =
    c.in-Err.ensures.past why
    ((fits.fits c.in-Some.class c.in-Some.item (sym c.in-Some.ensures)).timer)
