use Rattle.std.proofs.Common.{ap, sym, ◌∙◌, subst}
use Rattle.idle_wakeup.specs.shared_rule.Parts.{HeldPart}
use Rattle.idle_wakeup.specs.shared_rule.Passes.{HeldPass}
use Rattle.shared_rows.specs.shared_table.Begun.{IsFree}
use Rattle.shared_rows.specs.shared_table.Ended.{IsPassAt}
use Rattle.walk_rows.proofs.Driving.{at_home, brought_in, guest, is_free, parted}
use Rattle.walk_rows.proofs.by_steps.drive_boxes.Goals as goal

pub make_all-made-requires-clause-one : goal.make_all-made-requires-clause-one
make_all-made-requires-clause-one g c =
    let n = c.args.one_box.now.box.cpu in
    let begun = brought_in g.N.RunName.table c.one_box.inside.part c.bring.new.part
    c.args.one.now n (ap (λ (z : HeldPart). z.box.cpu) c.one_box.view_is) c.requires.one
    c.one_box.invariant c.bring.ensures.part c.bring.ensures.agrees in
    at_home n c.bring.new.part begun

pub end_walk-requires : goal.end_walk-requires
end_walk-requires g c =
    let n = c.args.one_box.now.box.cpu in
    let begun = brought_in g.N.RunName.table c.one_box.inside.part c.bring.new.part
    c.args.one.now n (ap (λ (z : HeldPart). z.box.cpu) c.one_box.view_is) c.requires.one
    c.one_box.invariant c.bring.ensures.part c.bring.ensures.agrees in
    at_home n c.make_all-made.new.one (c.make_all-made.ensures.one n begun)

pub part_off-requires-clause-brought : goal.part_off-requires-clause-brought
part_off-requires-clause-brought g c =
    let n = c.args.one_box.now.box.cpu in
    let begun = brought_in g.N.RunName.table c.one_box.inside.part c.bring.new.part
    c.args.one.now n (ap (λ (z : HeldPart). z.box.cpu) c.one_box.view_is) c.requires.one
    c.one_box.invariant c.bring.ensures.part c.bring.ensures.agrees in
    let done = c.end_walk.ensures.driven n (c.make_all-made.ensures.one n begun) in
    guest n c.end_walk.new.part done c.bring.new.pass.cpu
    (ap (λ (z : HeldPass). z.cpu) c.bring.ensures.pass ∙ c.requires.one_cpu)

pub invariant_of-one_box : goal.invariant_of-one_box
invariant_of-one_box g c =
    let n = c.args.one_box.now.box.cpu in
    let begun = brought_in g.N.RunName.table c.one_box.inside.part c.bring.new.part
    c.args.one.now n (ap (λ (z : HeldPart). z.box.cpu) c.one_box.view_is) c.requires.one
    c.one_box.invariant c.bring.ensures.part c.bring.ensures.agrees in
    let done = c.end_walk.ensures.driven n (c.make_all-made.ensures.one n begun) in
    subst IsFree (sym c.part_off.ensures.part)
    (is_free n c.end_walk.new.part done c.end_walk.ensures.ended)

pub returns-clause-one : goal.returns-clause-one
returns-clause-one g c =
    let n = c.args.one_box.now.box.cpu in
    let begun = brought_in g.N.RunName.table c.one_box.inside.part c.bring.new.part
    c.args.one.now n (ap (λ (z : HeldPart). z.box.cpu) c.one_box.view_is) c.requires.one
    c.one_box.invariant c.bring.ensures.part c.bring.ensures.agrees in
    let done = c.end_walk.ensures.driven n (c.make_all-made.ensures.one n begun) in
    subst (IsPassAt g.N.RunName.table n) (sym c.part_off.ensures.pass)
    (parted n c.end_walk.new.part done g.N.RunName.table c.bring.new.pass.cpu)

pub make_all-made-requires-clause-other : goal.make_all-made-requires-clause-other
make_all-made-requires-clause-other g c =
    let n = c.args.other_box.now.box.cpu in
    let begun = brought_in g.N.RunName.table c.other_box.inside.part c.bring-2.new.part
    c.args.other.now n (ap (λ (z : HeldPart). z.box.cpu) c.other_box.view_is) c.requires.other
    c.other_box.invariant c.bring-2.ensures.part c.bring-2.ensures.agrees in
    at_home n c.bring-2.new.part begun

pub end_walk-requires-2 : goal.end_walk-requires-2
end_walk-requires-2 g c =
    let n = c.args.other_box.now.box.cpu in
    let begun = brought_in g.N.RunName.table c.other_box.inside.part c.bring-2.new.part
    c.args.other.now n (ap (λ (z : HeldPart). z.box.cpu) c.other_box.view_is) c.requires.other
    c.other_box.invariant c.bring-2.ensures.part c.bring-2.ensures.agrees in
    at_home n c.make_all-made.new.other (c.make_all-made.ensures.other n begun)

pub part_off-requires-2-clause-brought : goal.part_off-requires-2-clause-brought
part_off-requires-2-clause-brought g c =
    let n = c.args.other_box.now.box.cpu in
    let begun = brought_in g.N.RunName.table c.other_box.inside.part c.bring-2.new.part
    c.args.other.now n (ap (λ (z : HeldPart). z.box.cpu) c.other_box.view_is) c.requires.other
    c.other_box.invariant c.bring-2.ensures.part c.bring-2.ensures.agrees in
    let done = c.end_walk-2.ensures.driven n (c.make_all-made.ensures.other n begun) in
    guest n c.end_walk-2.new.part done c.bring-2.new.pass.cpu
    (ap (λ (z : HeldPass). z.cpu) c.bring-2.ensures.pass ∙ c.requires.other_cpu)

pub invariant_of-other_box : goal.invariant_of-other_box
invariant_of-other_box g c =
    let n = c.args.other_box.now.box.cpu in
    let begun = brought_in g.N.RunName.table c.other_box.inside.part c.bring-2.new.part
    c.args.other.now n (ap (λ (z : HeldPart). z.box.cpu) c.other_box.view_is) c.requires.other
    c.other_box.invariant c.bring-2.ensures.part c.bring-2.ensures.agrees in
    let done = c.end_walk-2.ensures.driven n (c.make_all-made.ensures.other n begun) in
    subst IsFree (sym c.part_off-2.ensures.part)
    (is_free n c.end_walk-2.new.part done c.end_walk-2.ensures.ended)

pub returns-clause-other : goal.returns-clause-other
returns-clause-other g c =
    let n = c.args.other_box.now.box.cpu in
    let begun = brought_in g.N.RunName.table c.other_box.inside.part c.bring-2.new.part
    c.args.other.now n (ap (λ (z : HeldPart). z.box.cpu) c.other_box.view_is) c.requires.other
    c.other_box.invariant c.bring-2.ensures.part c.bring-2.ensures.agrees in
    let done = c.end_walk-2.ensures.driven n (c.make_all-made.ensures.other n begun) in
    subst (IsPassAt g.N.RunName.table n) (sym c.part_off-2.ensures.pass)
    (parted n c.end_walk-2.new.part done g.N.RunName.table c.bring-2.new.pass.cpu)
