use Rattle.std.proofs.lemmas.Result.{err_from_is_err_and}
use Rattle.play_rules.proofs.Loops.{operations_all, operations_more}
use Rattle.play_rules.proofs.Plays.{gains_then}
use Rattle.play_driver.proofs.Parts.{same_then}
use Rattle.play_driver.proofs.operations.operations.Goals as goal

pub loop-op-preserved : goal.loop-op-preserved
loop-op-preserved g c =
    let done = c.in_ok-operation.ensures in
    record {
      rest = operations_more _ _ _ _ _ _ _ _ _ _ c.loop-op.invariant.rest c.loop-op-test.true done.prints;
      same = same_then _ _ _ _ c.loop-op.invariant.same done.same;
      fit = done.fit;
      gains = gains_then _ _ _ c.loop-op.invariant.gains done.gains;
    }

pub returns : goal.returns
returns g c =
    record {
      prints = operations_all _ _ _ _ _ _ _ c.loop-op.invariant.rest c.loop-op-test.false;
      same = c.loop-op.invariant.same;
      fit = c.loop-op.invariant.fit;
      gains = c.loop-op.invariant.gains;
    }

pub operation-requires-clause-fit : goal.operation-requires-clause-fit
operation-requires-clause-fit g c = c.loop-op.invariant.fit

pub returns-in_err-operation : goal.returns-in_err-operation
returns-in_err-operation g c =
    let p = err_from_is_err_and c.from_residual.result c.from_residual.ensures.1 in
    rw p.1 (record {
      prints = tt;
      same = tt;
      fit = tt;
      gains = gains_then _ _ _ c.loop-op.invariant.gains c.in_err-operation.ensures.gains;
    })
