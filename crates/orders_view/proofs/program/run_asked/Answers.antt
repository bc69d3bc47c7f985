use Rattle.orders_view.specs.Ends.{done}
use Rattle.orders_view.proofs.program.run_asked.Goals as goal

pub returns-in-Ok : goal.returns-in-Ok
returns-in-Ok g c =
    done c.in-Ok.output.text.items c.in-Ok.output.status c.in-Ok.ensures c.write_output.ensures
