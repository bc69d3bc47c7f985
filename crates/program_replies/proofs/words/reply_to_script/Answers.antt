use Rattle.std.proofs.Common.{sym, subst}
use Rattle.std.specs.Prelude.{IfOk}
use Rattle.program_texts.specs.declared.commands.Command.{Command}
use Rattle.program_texts.specs.declared.inputs.Input.TheVariants as inputs
use Rattle.program_replies.specs.Replies.{IsReplyTo}
use Rattle.program_replies.proofs.words.reply_to_script.Goals as goal

pub returns-in-Tree : goal.returns-in-Tree
returns-in-Tree g c =
    let jobs = g.J.Jobs.replies c.args.jobs.now in
    let table = g.J.Jobs.count c.args.jobs.now in
    let To : Command → Type 0 =
    λ command. IfOk c.draw_tree.result (IsReplyTo jobs table command (inputs.Script c.args.script.now)) in
    subst To (sym c.in-Tree.is) (c.draw_tree.ensures jobs table)

pub returns-in-Day : goal.returns-in-Day
returns-in-Day g c =
    let jobs = g.J.Jobs.replies c.args.jobs.now in
    let table = g.J.Jobs.count c.args.jobs.now in
    let To : Command → Type 0 =
    λ command. IfOk c.sum_up.result (IsReplyTo jobs table command (inputs.Script c.args.script.now)) in
    subst To (sym c.in-Day.is) (c.sum_up.ensures c.in-Day.field-0)
