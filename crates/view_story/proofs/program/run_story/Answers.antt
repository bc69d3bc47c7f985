use Rattle.view_story.specs.Ends.{done}
use Rattle.view_story.proofs.program.run_story.Goals as goal

pub returns-in-Ok : goal.returns-in-Ok
returns-in-Ok g c =
    done c.in-Ok.output.text.items c.in-Ok.output.status c.in-Ok.ensures c.write_output.ensures
