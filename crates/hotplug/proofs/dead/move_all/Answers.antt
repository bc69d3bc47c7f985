use Rattle.hotplug.proofs.Heirs.{moved_more, moved_none}
use Rattle.hotplug.proofs.Over.{over_none, over_then}
use Rattle.std.proofs.Common.{refl}
use Rattle.core_machine.proofs.step_play.Reached.{onwards}
use Rattle.hotplug.proofs.Runs.{stays}
use Rattle.hotplug.proofs.dead.move_all.Goals as goal

pub loop-preserved : goal.loop-preserved
loop-preserved g c = record {
  moved = moved_more c.args.core.now c.loop.core c.move_next.new.core c.args.from.0 c.args.to.0
      c.loop.invariant.moved c.in_ok-move_next.ensures.moved
      (c.in_ok-move_next.ensures.fewer c.if-branch.true);
  over =
      over_then c.args.core.now c.loop.core c.move_next.new.core c.args.from.0 c.args.to.0
      c.loop.invariant.over c.move_next.ensures.over;
  may = c.in_ok-move_next.ensures.may;
  run =
      onwards c.args.core.now c.loop.core c.move_next.new.core c.loop.invariant.run
      c.move_next.ensures.run;
}

pub loop-init : goal.loop-init
loop-init g c = record {
  moved = moved_none c.args.core.now c.args.from.0 c.args.to.0;
  over = over_none c.args.core.now c.args.from.0 c.args.to.0;
  may = c.requires;
  run = stays c.args.core.now c.args.core.now refl;
}
