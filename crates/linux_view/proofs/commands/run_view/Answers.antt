use Rattle.linux_view.specs.Ends.{replied}
use Rattle.linux_view.proofs.commands.run_view.Goals as goal

pub returns-in-Ok : goal.returns-in-Ok
returns-in-Ok g c = replied c.in-Ok.reply c.in-Ok.ensures.reply c.write_reply.ensures
