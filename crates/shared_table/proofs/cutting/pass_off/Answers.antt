use Rattle.std.proofs.Common.{[], sym, ap, ◌∙◌, refl}
use Rattle.core_world.specs.World.{World}
use Rattle.shared_rule.specs.Rule.{Me, first_pass}
use Rattle.shared_rule.specs.Starts.{first_pass_of}
use Rattle.shared_rule.proofs.Calls.{some_word}
use Rattle.shared_table.proofs.Rows.{first_pass_alone}
use Rattle.shared_table.proofs.cutting.pass_off.Goals as goal

pub split_seat-off-requires : goal.split_seat-off-requires
split_seat-off-requires g c =
    let run = c.args.run.now in
    let o : World = g.N.RunName.opening in
    let key : World = run.words.shared.key.core in
    let seat = c.args.seat.now in
    let first = c.requires.first in (
      c.requires.table ∙ sym run.fits.named,
      some_word g.N.RunName.table o run.words.shared.table_id key run.tree run.layout run.fits,
      (c.law_seats.ensures key).pass_off seat.id seat.me.0
          (first_pass_alone o c.args.made c.args.cpu.0 first.0 seat.me.0.passes
          (ap (λ (m : Me). m.0.passes) first.1)),
    )

pub new-requires-2 : goal.new-requires-2
new-requires-2 g c = (
  first_pass_of g.N.RunName.opening c.args.made c.args.cpu.0,
  record {
    alone = c.split_seat-off.ensures.4
        ∙ ap (λ (m : Me). (first_pass m.0, [])) c.requires.first.1;
    cpu_is = refl;
    walks_are = refl;
    receipts_are = ap (λ r. r.receipts) (sym c.new.ensures);
  },
)
