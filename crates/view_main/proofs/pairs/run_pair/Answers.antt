use Rattle.view_main.specs.Pairs.{pair_done}
use Rattle.view_main.proofs.pairs.run_pair.Goals as goal

pub returns-in-Ok : goal.returns-in-Ok
returns-in-Ok g c =
    pair_done c.in-Ok.output.text.items c.in-Ok.output.status c.in-Ok.ensures
    c.write_output.ensures
