use Rattle.std.proofs.Common.{false, rules, ◌≡◌}
use Rattle.core_world.specs.World.{cpu_of}
use Rattle.hotplug.proofs.Leaving.{come_back, come_bases, come_settled}
use Rattle.hotplug.proofs.online.go_online.Goals as goal

pub returns-clause-settled : goal.returns-clause-settled
returns-clause-settled g c =
    let off : (cpu_of c.args.core.now c.args.cpu.0).online ≡ false = search rules in
    come_settled c.args.core.now c.args.cpu.0 c.requires.cpu c.requires.settled off
    c.come_online.new.core c.come_online.ensures.walked c.tree.ensures.lawful
    c.come_online.ensures.ends

pub returns-clause-whole : goal.returns-clause-whole
returns-clause-whole g c =
    let off : (cpu_of c.args.core.now c.args.cpu.0).online ≡ false = search rules in
    come_bases c.args.core.now c.args.cpu.0 c.requires.cpu c.requires.settled off
    c.come_online.new.core c.come_online.ensures.walked c.tree.ensures.lawful
    c.come_online.ensures.ends

pub returns-clause-back : goal.returns-clause-back
returns-clause-back g c =
    let off : (cpu_of c.args.core.now c.args.cpu.0).online ≡ false = search rules in
    come_back c.args.core.now c.args.cpu.0 c.requires.cpu c.requires.settled off
    c.come_online.new.core c.come_online.ensures.walked c.tree.ensures.lawful
    c.come_online.ensures.ends
