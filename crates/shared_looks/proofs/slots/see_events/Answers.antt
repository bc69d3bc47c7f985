use Rattle.shared_looks.specs.Sights.{slot_look}
use Rattle.shared_looks.proofs.Sighted.{none_seen, one_more_seen, still_run}
use Rattle.shared_looks.proofs.slots.see_events.Goals as goal

pub loop-child-init : goal.loop-child-init
loop-child-init g c = (
  none_seen g.N.RunName.table g.N.RunName.opening c.args.group.0 c.args.pass.now c.new-events.result
      c.new-events.ensures.empty,
  c.requires.run,
)

pub loop-child-preserved : goal.loop-child-preserved
loop-child-preserved g c =
    let table = g.N.RunName.table in
    let o = g.N.RunName.opening in
    let one = c.see_event.ensures in (
      one_more_seen table o c.args.group.0 c.loop-child.child c.args.pass.now c.loop-child.pass
          c.see_event.new.pass c.loop-child.events c.see_event.new.events c.loop-child.invariant.0 one,
      still_run table c.loop-child.pass c.see_event.new.pass
          (slot_look o c.args.group.0 c.loop-child.child one.found).word one.found c.loop-child.invariant.1
          one.pass_is,
    )
