use Rattle.hotplug.proofs.Heirs.{heir_activates, heir_all, heir_moved, heir_part, heir_ready}
use Rattle.hotplug.proofs.Heirs.{none_dead, none_moves}
use Rattle.hotplug.proofs.Over.{at_err}
use Rattle.core_machine.proofs.step_play.Reached.{onwards}
use Rattle.hotplug.proofs.dead.move_dead.Goals as goal

pub returns-in_default-clause-none_left : goal.returns-in_default-clause-none_left
returns-in_default-clause-none_left g c =
    none_dead c.args.core.now c.args.dead.0 c.requires.dead c.in_default.ensures
    c.requires.some_online

pub make_active-requires : goal.make_active-requires
make_active-requires g c =
    heir_activates c.args.core.now c.args.dead.0 c.requires.dead c.in-Some.heir c.in-Some.ensures
    c.requires.settled c.requires.offline c.requires.whole

pub move_all-requires : goal.move_all-requires
move_all-requires g c =
    heir_ready c.args.core.now c.args.dead.0 c.requires.dead c.in-Some.heir c.in-Some.ensures
    c.requires.settled c.requires.offline c.requires.whole c.make_active.new.core
    c.make_active.ensures.made c.make_active.ensures.active

pub returns-clause-moved : goal.returns-clause-moved
returns-clause-moved g c =
    heir_moved c.args.core.now c.args.dead.0 c.requires.dead c.in-Some.heir c.in-Some.ensures
    c.requires.settled c.requires.offline c.requires.whole c.make_active.new.core
    c.make_active.ensures.made c.make_active.ensures.active c.move_all.new.core
    c.in_ok-move_all.ensures.moved c.in_ok-move_all.ensures.none_left

pub returns-in_err-move_all-clause-run : goal.returns-in_err-move_all-clause-run
returns-in_err-move_all-clause-run g c =
    onwards c.args.core.now c.make_active.new.core c.move_all.new.core c.make_active.ensures.run
    c.move_all.ensures.run

pub returns-clause-run : goal.returns-clause-run
returns-clause-run g c =
    onwards c.args.core.now c.make_active.new.core c.move_all.new.core c.make_active.ensures.run
    c.move_all.ensures.run

pub returns-in_default-clause-all : goal.returns-in_default-clause-all
returns-in_default-clause-all g c =
    none_moves c.args.core.now c.args.dead.0 c.requires.dead c.in_default.ensures
    c.requires.some_online

pub returns-in_err-move_all-clause-part : goal.returns-in_err-move_all-clause-part
returns-in_err-move_all-clause-part g c =
    at_err c.from_residual.result
    (heir_part c.args.core.now c.args.dead.0 c.requires.dead c.in-Some.heir c.in-Some.ensures
    c.requires.settled c.requires.offline c.requires.whole c.make_active.new.core
    c.make_active.ensures.made c.make_active.ensures.active c.move_all.new.core
    c.move_all.ensures.over c.in_err-move_all.ensures.left)

pub returns-clause-all : goal.returns-clause-all
returns-clause-all g c =
    heir_all c.args.core.now c.args.dead.0 c.requires.dead c.in-Some.heir c.in-Some.ensures
    c.requires.settled c.requires.offline c.requires.whole c.make_active.new.core
    c.make_active.ensures.made c.make_active.ensures.active c.move_all.new.core
    c.move_all.ensures.over c.move_all.ensures.may c.in_ok-move_all.ensures.none_left
