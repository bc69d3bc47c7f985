use Rattle.std.proofs.Common.{subst}
use Rattle.std.proofs.lemmas.Result.{IfOk-weaker}
use Rattle.program_texts.specs.declared.inputs.Form.{Form}
use Rattle.program_texts.specs.Inputs.{IsOnlyInputOf, SpellsInput}
use Rattle.program_replies.specs.Replies.{IsReplyTo}
use Rattle.program_replies.specs.Steps.{IsReplyToBytes}
use Rattle.program_replies.proofs.Replying.{to_bytes}
use Rattle.program_replies.proofs.words.reply_to_bytes.Goals as goal

pub returns-in-Ok : goal.returns-in-Ok
returns-in-Ok g c =
    let jobs = g.J.Jobs.replies c.args.jobs.now in
    let table = g.J.Jobs.count c.args.jobs.now in
    let command = c.args.command in
    let bytes = c.args.bytes.now in
    let input = c.in-Ok.input in
    let Spelled : Form → Type 0 = λ form. SpellsInput form bytes input in
    let Only : Form → Type 0 = λ form. IsOnlyInputOf form bytes input in
    IfOk-weaker c.reply_to_input.result (IsReplyTo jobs table command input)
    (IsReplyToBytes jobs table command bytes)
    (to_bytes jobs table command bytes input
    (subst Spelled c.form-form.ensures c.in-Ok.ensures.spelled)
    (subst Only c.form-form.ensures c.in-Ok.ensures.only))
    c.reply_to_input.ensures
