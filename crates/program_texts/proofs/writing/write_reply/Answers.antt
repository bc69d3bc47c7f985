use Rattle.std.proofs.Common.{ℕ, sym, subst}
use Rattle.program_texts.specs.declared.replies.Reply.{Reply}
use Rattle.program_texts.specs.declared.statuses.TheConstants.{JOB_UNKNOWN, WORK_SPENT}
use Rattle.program_texts.specs.Texts.{refused_input_text, job_unknown_text, work_spent_text}
use Rattle.program_texts.specs.Ends.{EndsAs, EndsWith}
use Rattle.program_texts.proofs.Written.{made_ends}
use Rattle.program_texts.proofs.writing.write_reply.Goals as goal

pub returns-in-Refused : goal.returns-in-Refused
returns-in-Refused g c =
    let k = g.K.Sink.seen c.args.sink.now in
    let m = g.K.Sink.seen c.write_made.new.sink in
    let Ends : Reply → Type 0 = λ r. EndsAs r k m c.write_made.result in
    let wanted = refused_input_text c.in-Refused.form c.in-Refused.fault in
    let Own : ℕ → Type 0 = λ own. EndsWith wanted own own k m c.write_made.result in
    let wrote =
    made_ends k m c.write_made.result c.refused_text.result wanted c.refused_status.result
    c.refused_text.ensures c.write_made.ensures in
    subst Ends (sym c.in-Refused.is) (subst Own c.refused_status.ensures wrote)

pub returns-in-JobUnknown : goal.returns-in-JobUnknown
returns-in-JobUnknown g c =
    let k = g.K.Sink.seen c.args.sink.now in
    let m = g.K.Sink.seen c.write_made-in-JobUnknown.new.sink in
    let Ends : Reply → Type 0 = λ r. EndsAs r k m c.write_made-in-JobUnknown.result in
    let wanted = job_unknown_text c.in-JobUnknown.line c.in-JobUnknown.job in
    let wrote =
    made_ends k m c.write_made-in-JobUnknown.result c.job_unknown_text.result wanted JOB_UNKNOWN
    c.job_unknown_text.ensures c.write_made-in-JobUnknown.ensures in
    subst Ends (sym c.in-JobUnknown.is) wrote

pub returns-in-WorkSpent : goal.returns-in-WorkSpent
returns-in-WorkSpent g c =
    let k = g.K.Sink.seen c.args.sink.now in
    let m = g.K.Sink.seen c.write_made-in-WorkSpent.new.sink in
    let Ends : Reply → Type 0 = λ r. EndsAs r k m c.write_made-in-WorkSpent.result in
    let wanted = work_spent_text c.in-WorkSpent.count in
    let wrote =
    made_ends k m c.write_made-in-WorkSpent.result c.work_spent_text.result wanted WORK_SPENT
    c.work_spent_text.ensures c.write_made-in-WorkSpent.ensures in
    subst Ends (sym c.in-WorkSpent.is) wrote
