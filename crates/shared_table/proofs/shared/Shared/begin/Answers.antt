use Rattle.std.proofs.Common.{refl, ap, ◌∙◌}
use Rattle.std.specs.Prelude.{vec_capacity}
use Rattle.shared_table.proofs.Rows.{room_for_all}
use Rattle.shared_table.proofs.shared.Shared.begin.Goals as goal

pub begun-requires-clause-table : goal.begun-requires-clause-table
begun-requires-clause-table g c = c.requires.table

pub begun-requires-clause-opening : goal.begun-requires-clause-opening
begun-requires-clause-opening g c = c.requires.opening

pub returns-clause-passes : goal.returns-clause-passes
returns-clause-passes g c = c.begun.ensures.passes

pub returns-clause-all : goal.returns-clause-all
returns-clause-all g c = c.begun.ensures.all

pub returns-clause-settled : goal.returns-clause-settled
returns-clause-settled g c = c.begun.ensures.settled

pub begun-requires-clause-boxes : goal.begun-requires-clause-boxes
begun-requires-clause-boxes g c =
    let opened = ap (λ z. z.core) c.ready.view_is ∙ c.requires.opening in
    let enough = room_for_all g.N.RunName.opening c.ready.inside.opening.core c.tree.result.now
    c.cpu_count-count.result (vec_capacity c.in-Ok.room.0) opened c.tree.ensures.tree
    c.tree.ensures.sized.cpus c.cpu_count-count.ensures.count c.in-Ok.ensures.boxes.1 in
    (c.in-Ok.ensures.boxes.0, enough)

pub begun-requires-clause-passes : goal.begun-requires-clause-passes
begun-requires-clause-passes g c =
    let opened = ap (λ z. z.core) c.ready.view_is ∙ c.requires.opening in
    let enough = room_for_all g.N.RunName.opening c.ready.inside.opening.core c.tree.result.now
    c.cpu_count-count.result (vec_capacity c.in-Ok.room.1) opened c.tree.ensures.tree
    c.tree.ensures.sized.cpus c.cpu_count-count.ensures.count c.in-Ok.ensures.passes.1 in
    (c.in-Ok.ensures.passes.0, enough)

pub begun-requires-clause-taken : goal.begun-requires-clause-taken
begun-requires-clause-taken g c =
    let opened = ap (λ z. z.core) c.ready.view_is ∙ c.requires.opening in
    let enough = room_for_all g.N.RunName.opening c.ready.inside.opening.core c.tree.result.now
    c.cpu_count-count.result (vec_capacity c.in-Ok.room.2) opened c.tree.ensures.tree
    c.tree.ensures.sized.cpus c.cpu_count-count.ensures.count c.in-Ok.ensures.taken.enough in
    record { none = c.in-Ok.ensures.taken.none; enough = enough }

pub returns-clause-err : goal.returns-clause-err
returns-clause-err g c = tt

pub returns-in-Err-clause-passes : goal.returns-in-Err-clause-passes
returns-in-Err-clause-passes g c = tt

pub returns-in-Err-clause-all : goal.returns-in-Err-clause-all
returns-in-Err-clause-all g c = tt

pub returns-in-Err-clause-settled : goal.returns-in-Err-clause-settled
returns-in-Err-clause-settled g c = tt

pub returns-in-Err-clause-err : goal.returns-in-Err-clause-err
returns-in-Err-clause-err g c = refl
