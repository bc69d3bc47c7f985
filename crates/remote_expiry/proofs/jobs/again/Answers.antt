use Rattle.remote_expiry.proofs.Again.{armed_again, failed, skipped_at}
use Rattle.remote_expiry.proofs.jobs.again.Goals as goal

pub returns-in-Ok : goal.returns-in-Ok
returns-in-Ok g c =
    let table = g.N.RunName.table in
    let met = c.in-Ok.ensures in
    armed_again table g.N.RunName.opening c.args.now c.requires.now c.args.pass.now
    c.requires.inside (c.law.ensures table) met.0 met.1 c.args.item.now c.args.class c.args.delay
    c.arm.new.pass c.in-Ok.wheel met.2

pub returns-in-Some : goal.returns-in-Some
returns-in-Some g c =
    let table = g.N.RunName.table in
    let met = c.in-Err.ensures in
    skipped_at table g.N.RunName.opening c.args.now c.requires.now c.args.pass.now
    c.requires.inside (c.law.ensures table) met.0 met.1 c.args.item.now c.args.class c.args.delay
    c.arm.new.pass c.requires.timer.known c.in-Err.fault c.in-Some.cpu c.in-Some.ensures met.2

pub returns-in-None : goal.returns-in-None
returns-in-None g c =
    let table = g.N.RunName.table in
    let met = c.in-Err.ensures in
    failed table g.N.RunName.opening c.args.now c.requires.now c.args.pass.now c.requires.inside
    (c.law.ensures table) met.0 met.1 c.args.item.now.id c.arm.new.pass c.in-Err.fault
    c.in-None.ensures met.2
