use Rattle.std.proofs.Common.{refl, sym, ◌∙◌}
use Rattle.hotplug.proofs.Leaving.{leaves_alone, leaves_to}
use Rattle.hotplug.proofs.Leaving.{leaves_bases, leaves_low, leaves_settled, leaves_waits}
use Rattle.core_machine.proofs.step_play.Reached.{by_walk, onwards}
use Rattle.hotplug.proofs.offline.leave.Goals as goal

pub hands_on-requires : goal.hands_on-requires
hands_on-requires g c =
    leaves_low c.args.core.now c.args.cpu.0 c.args.to.0 c.requires.cpu c.requires.to
    c.requires.another c.requires.placed c.requires.settled c.requires.allowed
    c.go_offline.new.core c.go_offline.ensures.walked

pub hand_on-requires : goal.hand_on-requires
hand_on-requires g c =
    leaves_waits c.args.core.now c.args.cpu.0 c.args.to.0 c.requires.cpu c.requires.to
    c.requires.another c.requires.placed c.requires.settled c.requires.allowed
    c.go_offline.new.core c.go_offline.ensures.walked
    (sym c.hands_on.ensures.hands ∙ c.if-hands_on.true)
    (c.hands_on.ensures.placed c.if-hands_on.true)

pub returns-then-hands_on-clause-whole : goal.returns-then-hands_on-clause-whole
returns-then-hands_on-clause-whole g c = λ all.
    c.hand_on.ensures.whole
    (leaves_bases c.args.core.now c.args.cpu.0 c.args.to.0 c.requires.cpu c.requires.to
    c.requires.another c.requires.placed c.requires.settled c.requires.allowed
    c.go_offline.new.core c.go_offline.ensures.walked all)

pub returns-clause-settled : goal.returns-clause-settled
returns-clause-settled g c =
    leaves_settled c.args.core.now c.args.cpu.0 c.args.to.0 c.requires.cpu c.requires.to
    c.requires.another c.requires.placed c.requires.settled c.requires.allowed
    c.go_offline.new.core c.go_offline.ensures.walked
    (sym c.hands_on.ensures.hands ∙ c.if-hands_on.false) c.go_offline.ensures.ends

pub returns-clause-whole : goal.returns-clause-whole
returns-clause-whole g c =
    leaves_bases c.args.core.now c.args.cpu.0 c.args.to.0 c.requires.cpu c.requires.to
    c.requires.another c.requires.placed c.requires.settled c.requires.allowed
    c.go_offline.new.core c.go_offline.ensures.walked

pub returns-then-hands_on-clause-run : goal.returns-then-hands_on-clause-run
returns-then-hands_on-clause-run g c =
    onwards c.args.core.now c.go_offline.new.core c.hand_on.new.core
    (by_walk _ c.args.cpu.0 c.args.core.now c.go_offline.new.core c.go_offline.ensures.run)
    c.hand_on.ensures.run

pub returns-then-hands_on-clause-left : goal.returns-then-hands_on-clause-left
returns-then-hands_on-clause-left g c =
    leaves_to c.args.core.now c.args.cpu.0 c.args.to.0 c.requires.cpu c.requires.to
    c.requires.another c.requires.placed c.requires.settled c.requires.allowed
    c.go_offline.new.core c.go_offline.ensures.walked
    c.args.to refl c.hand_on.new.core c.hand_on.ensures.leaves

pub returns-clause-left : goal.returns-clause-left
returns-clause-left g c =
    leaves_alone c.args.core.now c.args.cpu.0 c.args.to.0 c.requires.cpu c.requires.to
    c.requires.another c.requires.placed c.requires.settled c.requires.allowed
    c.go_offline.new.core c.go_offline.ensures.walked
    c.args.to
