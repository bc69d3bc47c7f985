use Rattle.refused_calls.proofs.Firsts.{still_of_run}
use Rattle.refused_calls.proofs.calls.arms.Goals as goal

pub arm-requires-in-Err-NoMemory-clause-run : goal.arm-requires-in-Err-NoMemory-clause-run
arm-requires-in-Err-NoMemory-clause-run g c =
    let told = c.in-Err-NoMemory.ensures in
    still_of_run g.N.RunName.table g.N.RunName.opening 3 told.0 c.args.pass.now c.arm.new.pass
    c.in-Err-NoMemory.field-0 c.in-Err-NoMemory.field-0-is told.2 c.requires.run
