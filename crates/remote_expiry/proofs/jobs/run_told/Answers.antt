use Rattle.std.proofs.Common.{arith, refl}
use Rattle.std.proofs.lemmas.Result.{err_from_is_err_and}
use Rattle.remote_expiry.proofs.jobs.run_told.Goals as goal

pub unwrap-requires : goal.unwrap-requires
unwrap-requires g c = c.push.ensures.enough c.requires.room

pub returns-clause-told : goal.returns-clause-told
returns-clause-told g c = record {
  run = c.in_ok-ran.ran;
  has = c.in_ok-ran.ensures;
  runs_are = rw c.unwrap.ensures at c.push.ensures.runs;
}

pub returns-clause-capacity : goal.returns-clause-capacity
returns-clause-capacity g c =
    let grown = rw c.unwrap.ensures at c.push.ensures.capacity in
    omega (arith, grown, c.requires.room)

pub returns-in_err-ran-clause-told : goal.returns-in_err-ran-clause-told
returns-in_err-ran-clause-told g c =
    let e = err_from_is_err_and c.from_residual.result c.from_residual.ensures.1 in
    rw e.1 (record {
      piece = c.in_err-ran.ensures.0;
      runs_are = refl;
      asked = c.in_err-ran.ensures.1;
    })
