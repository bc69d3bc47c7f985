use Rattle.std.specs.Prelude.{codes}
use Rattle.linux_shown.proofs.Joined.{four}
use Rattle.linux_shown.proofs.facts.push_duty_fact.Goals as goal
use Rattle.linux_shown.specs.Facts.{cpu_head, duty_fact}
use Rattle.linux_shown.specs.Pieces.{known_expiry}

pub returns : goal.returns
unfolding duty_fact
returns c =
    four c.args.text.now.items c.push_cpu.new.text.items c.push_known.new.text.items
    c.push_known-2.new.text.items c.push_bytes.new.text.items (cpu_head c.args.cpu.now.cpu)
    (known_expiry (codes ": it told ") c.args.cpu.now.timer)
    (known_expiry (codes ", its wakeup: ") c.args.cpu.now.wakeup) (codes "\n")
    c.in_ok-push_cpu.ensures c.in_ok-push_known.ensures c.in_ok-push_known-2.ensures
    (c.in_ok-push_bytes.ensures).ok
