use Rattle.std.proofs.Common.{sym, subst}
use Rattle.std.specs.Prelude.{IfOk}
use Rattle.program_texts.specs.declared.commands.Command.{Command}
use Rattle.program_texts.specs.declared.inputs.Input.{Input}
use Rattle.program_texts.specs.declared.inputs.Input.TheVariants as inputs
use Rattle.program_texts.specs.Inputs.{IsInput}
use Rattle.program_texts.specs.Words.{form_of}
use Rattle.program_texts.proofs.Forms.{checks, script_input, trace_input, works, works_input}
use Rattle.program_replies.specs.Replies.{IsReplyTo}
use Rattle.program_replies.proofs.words.reply_to_input.Goals as goal

pub reply_to_script-requires-clause-grammar : goal.reply_to_script-requires-clause-grammar
reply_to_script-requires-clause-grammar g c =
    let form = form_of c.args.command in
    let Is : Input → Type 0 = λ input. IsInput form input in
    (script_input form c.in-Script.script (subst Is c.in-Script.is c.requires.input)).0

pub reply_to_script-requires-clause-form : goal.reply_to_script-requires-clause-form
reply_to_script-requires-clause-form g c =
    let form = form_of c.args.command in
    let Is : Input → Type 0 = λ input. IsInput form input in
    (script_input form c.in-Script.script (subst Is c.in-Script.is c.requires.input)).1

pub check_trace-requires : goal.check_trace-requires
check_trace-requires g c =
    let form = form_of c.args.command in
    let Is : Input → Type 0 = λ input. IsInput form input in
    (trace_input form c.in-Trace.trace (subst Is c.in-Trace.is c.requires.input)).0

pub returns-in-Trace : goal.returns-in-Trace
returns-in-Trace g c =
    let jobs = g.J.Jobs.replies c.args.jobs.now in
    let table = g.J.Jobs.count c.args.jobs.now in
    let form = form_of c.args.command in
    let Is : Input → Type 0 = λ input. IsInput form input in
    let is = (trace_input form c.in-Trace.trace (subst Is c.in-Trace.is c.requires.input)).1 in
    let By : Command → Type 0 =
    λ command. IfOk c.check_trace.result
    (IsReplyTo jobs table command (inputs.Trace c.in-Trace.trace)) in
    let To : Input → Type 0 =
    λ input. IfOk c.check_trace.result (IsReplyTo jobs table c.args.command input) in
    subst To (sym c.in-Trace.is)
    (subst By (sym (checks c.args.command is)) (c.check_trace.ensures jobs table))

pub play_delayed-requires : goal.play_delayed-requires
play_delayed-requires g c =
    let form = form_of c.args.command in
    let Is : Input → Type 0 = λ input. IsInput form input in
    (works_input form c.in-Works.works (subst Is c.in-Works.is c.requires.input)).0

pub returns-in-Works : goal.returns-in-Works
returns-in-Works g c =
    let jobs = g.J.Jobs.replies c.args.jobs.now in
    let table = g.J.Jobs.count c.args.jobs.now in
    let form = form_of c.args.command in
    let Is : Input → Type 0 = λ input. IsInput form input in
    let is = (works_input form c.in-Works.works (subst Is c.in-Works.is c.requires.input)).1 in
    let By : Command → Type 0 =
    λ command. IfOk c.play_delayed.result
    (IsReplyTo jobs table command (inputs.Works c.in-Works.works)) in
    let To : Input → Type 0 =
    λ input. IfOk c.play_delayed.result (IsReplyTo jobs table c.args.command input) in
    subst To (sym c.in-Works.is) (subst By (sym (works c.args.command is)) c.play_delayed.ensures)
