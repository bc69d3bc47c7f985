use Rattle.std.proofs.Common.{arith}
use Rattle.std.proofs.lemmas.Result.{err_from_is_err_and}
use Rattle.shared_table.proofs.shared.make_room.Goals as goal

pub returns-clause-boxes : goal.returns-clause-boxes
returns-clause-boxes g c =
    (c.in_ok-boxes.ensures.len, omega (arith, c.from.ensures, c.in_ok-boxes.ensures.capacity))

pub returns-clause-passes : goal.returns-clause-passes
returns-clause-passes g c =
    (c.in_ok-passes.ensures.items, omega (arith, c.from-2.ensures, c.in_ok-passes.ensures.capacity))

pub returns-clause-taken : goal.returns-clause-taken
returns-clause-taken g c = record {
  none = c.in_ok-taken.ensures.len;
  enough = omega (arith, c.from-3.ensures, c.in_ok-taken.ensures.capacity);
}

pub returns-in_err-boxes-clause-boxes : goal.returns-in_err-boxes-clause-boxes
returns-in_err-boxes-clause-boxes g c =
    let p = err_from_is_err_and c.from_residual.result c.from_residual.ensures.1 in rw p.1 tt

pub returns-in_err-boxes-clause-passes : goal.returns-in_err-boxes-clause-passes
returns-in_err-boxes-clause-passes g c =
    let p = err_from_is_err_and c.from_residual.result c.from_residual.ensures.1 in rw p.1 tt

pub returns-in_err-boxes-clause-taken : goal.returns-in_err-boxes-clause-taken
returns-in_err-boxes-clause-taken g c =
    let p = err_from_is_err_and c.from_residual.result c.from_residual.ensures.1 in rw p.1 tt

pub returns-in_err-passes-clause-boxes : goal.returns-in_err-passes-clause-boxes
returns-in_err-passes-clause-boxes g c =
    let left = c.from_residual-in_err-passes in
    let p = err_from_is_err_and left.result left.ensures.1 in rw p.1 tt

pub returns-in_err-passes-clause-passes : goal.returns-in_err-passes-clause-passes
returns-in_err-passes-clause-passes g c =
    let left = c.from_residual-in_err-passes in
    let p = err_from_is_err_and left.result left.ensures.1 in rw p.1 tt

pub returns-in_err-passes-clause-taken : goal.returns-in_err-passes-clause-taken
returns-in_err-passes-clause-taken g c =
    let left = c.from_residual-in_err-passes in
    let p = err_from_is_err_and left.result left.ensures.1 in rw p.1 tt

pub returns-in_err-taken-clause-boxes : goal.returns-in_err-taken-clause-boxes
returns-in_err-taken-clause-boxes g c =
    let left = c.from_residual-in_err-taken in
    let p = err_from_is_err_and left.result left.ensures.1 in rw p.1 tt

pub returns-in_err-taken-clause-passes : goal.returns-in_err-taken-clause-passes
returns-in_err-taken-clause-passes g c =
    let left = c.from_residual-in_err-taken in
    let p = err_from_is_err_and left.result left.ensures.1 in rw p.1 tt

pub returns-in_err-taken-clause-taken : goal.returns-in_err-taken-clause-taken
returns-in_err-taken-clause-taken g c =
    let left = c.from_residual-in_err-taken in
    let p = err_from_is_err_and left.result left.ensures.1 in rw p.1 tt
