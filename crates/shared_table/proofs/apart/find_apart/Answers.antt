use Rattle.std.proofs.Common.{sym, ◌∙◌}
use Rattle.core_world.specs.World.{World}
use Rattle.shared_rule.proofs.Calls.{some_word}
use Rattle.shared_table.proofs.Counting.{finds_apart}
use Rattle.shared_table.proofs.apart.find_apart.Goals as goal

pub load-requires : goal.load-requires
load-requires g c =
    let run = c.args.run.now in
    let key : World = run.words.shared.key.core in
    let table = run.words.shared.table_id in
    let seat = c.args.seat.now in (
      c.requires ∙ sym run.fits.named,
      some_word g.N.RunName.table g.N.RunName.opening table key run.tree run.layout run.fits,
      finds_apart key table.slots seat.id 0 seat.me,
    )
