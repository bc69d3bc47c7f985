use Rattle.std.proofs.Common.{◌+◌, List, length, subst, arith}
use Rattle.tm_report.specs.declared.lines.Line.{Line}
use Rattle.remote_expiry.specs.Interrupts.{most_walks}
use Rattle.run_shares.specs.Doing.{HasDone}
use Rattle.run_shares.specs.Standing.{HasRun, HaveAnswered}
use Rattle.run_rounds.proofs.Sharing.{may_answer, may_begin, share_done}
use Rattle.run_rounds.proofs.Telling.{on_ok}
use Rattle.run_rounds.proofs.shares.tell_share.Goals as goal

pub run_if_due-requires-clause-may : goal.run_if_due-requires-clause-may
run_if_due-requires-clause-may g c =
    may_begin g.N.RunName.table g.N.RunName.opening c.args.pass.now c.requires.first most_walks
    c.requires.cpu c.requires.outside (omega arith)

pub answer_all-requires-clause-may : goal.answer_all-requires-clause-may
answer_all-requires-clause-may g c =
    let table = g.N.RunName.table in
    let o = g.N.RunName.opening in
    let jobs = g.J.Jobs.replies c.args.jobs.now in
    let many = length c.args.ops.now in
    let few = c.requires.few in
    may_answer table o c.args.now jobs c.args.due many c.args.pass.now c.run_if_due.new.pass
    c.args.lines.now.items c.run_if_due.new.lines.items
    (may_begin table o c.args.pass.now c.requires.first (most_walks + many) c.requires.cpu
    c.requires.outside (omega (arith, few))) c.in_ok-run_if_due.ensures

pub returns : goal.returns
returns g c =
    let table = g.N.RunName.table in
    let o = g.N.RunName.opening in
    let jobs = g.J.Jobs.replies c.args.jobs.now in
    let held = c.args.pass.now in
    let mid = c.run_if_due.new.pass in
    let after = c.answer_all.new.pass in
    let runs = c.run_if_due.new.lines.items in
    let lines = c.answer_all.new.lines.items in
    let ops = c.args.ops.now in
    on_ok (HaveAnswered table o c.args.now ops mid after runs lines)
    (HasDone table o jobs c.args.due ops held.cpu after lines) c.answer_all.result
    (λ done. share_done table o held c.requires.first c.args.now jobs c.args.due ops mid after runs
    lines c.requires.now c.requires.outside
    (subst (λ (l : List Line). HasRun table o c.args.now jobs c.args.due held mid l runs)
    c.requires.none c.in_ok-run_if_due.ensures) done) c.answer_all.ensures
