use Rattle.std.proofs.Common.{refl, sym, subst}
use Rattle.shared_table.specs.Begun.{IsFree}
use Rattle.shared_calls.proofs.Asking.{asked}
use Rattle.shared_calls.proofs.cancelling.ask_part.Goals as goal

pub returns-clause-free : goal.returns-clause-free
returns-clause-free g c =
    let free = c.requires.free in
    subst IsFree (sym c.visit.ensures.part)
    (record { walkless = free.walkless; alone = refl; whole = free.whole })

pub returns-clause-asked : goal.returns-clause-asked
returns-clause-asked g c =
    let run = c.requires.run in
    let v = c.visit.ensures in
    asked g.N.RunName.table g.N.RunName.opening c.args.part.now c.visit.new.part c.args.pass.now
    c.visit.new.pass run.0 c.state.result c.cancel_fault.result run.1 c.requires.own
    c.state.ensures c.cancel_fault.ensures v.part v.pass v.opening v.own v.fits v.agree

pub visit-requires-clause-run : goal.visit-requires-clause-run
visit-requires-clause-run g c = c.requires.run

pub visit-requires-clause-own : goal.visit-requires-clause-own
visit-requires-clause-own g c = c.requires.own

pub visit-requires-clause-alone : goal.visit-requires-clause-alone
visit-requires-clause-alone g c = c.requires.free.alone
