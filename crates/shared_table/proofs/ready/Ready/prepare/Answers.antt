use Rattle.std.proofs.Common.{refl}
use Rattle.shared_table.proofs.ready.Ready.prepare.Goals as goal

pub laid_out-requires : goal.laid_out-requires
laid_out-requires g c = record {
  settled = c.requires.settled;
  whole = c.requires.whole;
  few = c.requires.few;
}

pub invariant_of-result : goal.invariant_of-result
invariant_of-result g c = (
  record {
    settled = c.requires.settled;
    whole = c.requires.whole;
    few = c.requires.few;
  },
  c.in-Ok.ensures.table,
  c.in-Ok.ensures.room,
)

pub returns-in-Ok-clause-core : goal.returns-in-Ok-clause-core
returns-in-Ok-clause-core g c = refl

pub returns-in-Ok-clause-made : goal.returns-in-Ok-clause-made
returns-in-Ok-clause-made g c = refl

pub returns-in-Ok-clause-err : goal.returns-in-Ok-clause-err
returns-in-Ok-clause-err g c = tt

pub returns-in-Err-clause-core : goal.returns-in-Err-clause-core
returns-in-Err-clause-core g c = tt

pub returns-in-Err-clause-made : goal.returns-in-Err-clause-made
returns-in-Err-clause-made g c = tt

pub returns-in-Err-clause-err : goal.returns-in-Err-clause-err
returns-in-Err-clause-err g c = refl
