use Rattle.std.proofs.Common.{sym, ◌∙◌}
use Rattle.core_world.specs.World.{World}
use Rattle.shared_rule.proofs.Calls.{some_word}
use Rattle.shared_table.proofs.joining.take_in.Goals as goal

pub join_seat-requires : goal.join_seat-requires
join_seat-requires g c =
    let run = c.args.run.now in
    let key : World = run.words.shared.key.core in
    let seat = c.args.seat.now in
    let other = c.args.other in (
      c.requires.table ∙ sym run.fits.named,
      c.requires.other ∙ sym run.fits.named,
      c.requires.slots,
      some_word g.N.RunName.table g.N.RunName.opening run.words.shared.table_id key run.tree
          run.layout run.fits,
      (c.law_seats.ensures key).joined seat.id other.id seat.me.0 other.me.0,
    )
