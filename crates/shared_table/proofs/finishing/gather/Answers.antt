use Rattle.std.proofs.Common.{◌≡◌, ◌++◌, arith, length, sym, ap, ◌∙◌, subst}
use Rattle.core_world.specs.World.{World}
use Rattle.shared_rule.specs.Rule.{Me}
use Rattle.shared_table.specs.Ended.{AreApart, AreCpusWhole}
use Rattle.shared_table.specs.Joined.{boxes_of, owns_of}
use Rattle.shared_table.proofs.Ending.{all_whole, are_of_run, has_all, taken_in}
use Rattle.shared_table.proofs.Ordered.{all_boxes_there}
use Rattle.shared_table.proofs.finishing.gather.Goals as goal

pub join_passes-requires-clause-table : goal.join_passes-requires-clause-table
join_passes-requires-clause-table g c = c.requires.table

pub join_boxes-requires-clause-table : goal.join_boxes-requires-clause-table
join_boxes-requires-clause-table g c = c.join_passes.ensures.table

pub join_boxes-requires-clause-room : goal.join_boxes-requires-clause-room
join_boxes-requires-clause-room g c =
    let none = ap length c.requires.room.none in
    let enough = c.requires.room.enough in
    let boxes = c.requires.boxes in
    omega (arith, none, enough, boxes)

pub find_apart-requires : goal.find_apart-requires
find_apart-requires g c = c.join_boxes.ensures.table

pub returns-clause-table : goal.returns-clause-table
returns-clause-table g c = c.find_apart.ensures.table

pub join_passes-requires-clause-passes : goal.join_passes-requires-clause-passes
join_passes-requires-clause-passes g c =
    are_of_run g.N.RunName.table (length g.N.RunName.opening.cpus) c.args.passes.items
    c.requires.passes

pub returns-clause-all : goal.returns-clause-all
returns-clause-all g c =
    let o : World = g.N.RunName.opening in
    let bs = c.args.boxes.items in
    let ps = c.args.passes.items in
    let j : Me = c.join_boxes.new.seat.me in
    let is = taken_in c.args.seat.now.me c.join_passes.new.seat.me j ps bs c.requires.none
    c.join_passes.ensures.joined c.join_boxes.ensures.joined in
    let apart : AreApart (boxes_of bs)
    = subst (λ (m : Me). AreApart m.0.boxes) is c.find_apart.ensures.apart in
    let owns : c.join_boxes.new.cpus.items ≡ owns_of bs
    = c.join_boxes.ensures.cpus ∙ ap (λ l. l ++ owns_of bs) c.requires.room.none in
    has_all o c.find_apart.new.seat.me.0 c.join_boxes.new.cpus.items ps bs g.N.RunName.table
    c.requires.passes
    (all_boxes_there o bs c.requires.boxes c.requires.order c.join_boxes.ensures.began apart)
    c.join_boxes.ensures.free (ap (λ (m : Me). m.0) (c.find_apart.ensures.same ∙ is)) owns

pub returns-clause-passes : goal.returns-clause-passes
returns-clause-passes g c =
    let bs = c.args.boxes.items in
    let ps = c.args.passes.items in
    let is = taken_in c.args.seat.now.me c.join_passes.new.seat.me c.join_boxes.new.seat.me ps bs
    c.requires.none c.join_passes.ensures.joined c.join_boxes.ensures.joined in
    ap (λ (m : Me). m.0.passes) (c.find_apart.ensures.same ∙ is)

pub returns-clause-whole : goal.returns-clause-whole
returns-clause-whole g c =
    let bs = c.args.boxes.items in
    let owns : c.join_boxes.new.cpus.items ≡ owns_of bs
    = c.join_boxes.ensures.cpus ∙ ap (λ l. l ++ owns_of bs) c.requires.room.none in
    subst AreCpusWhole (sym owns) (all_whole bs c.join_boxes.ensures.free)
