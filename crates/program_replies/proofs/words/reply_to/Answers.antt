use Rattle.std.proofs.Common.{Option, refl, sym, subst}
use Rattle.std.proofs.lemmas.Result.{IfOk-weaker}
use Rattle.program_texts.specs.declared.commands.Command.{Command}
use Rattle.program_texts.specs.declared.inputs.Input.TheVariants as inputs
use Rattle.program_texts.specs.Brought.{script_by}
use Rattle.program_texts.proofs.Told.{on_err, takes_none}
use Rattle.program_replies.specs.Replies.{IsReplyBy, IsReplyTo, IsProgramReply}
use Rattle.program_replies.proofs.Replying.{to_recipe}
use Rattle.program_replies.proofs.words.reply_to.Goals as goal

pub returns-in-Some-recipe-clause-reply : goal.returns-in-Some-recipe-clause-reply
returns-in-Some-recipe-clause-reply g c =
    let jobs = g.J.Jobs.replies c.args.jobs.now in
    let table = g.J.Jobs.count c.args.jobs.now in
    let s = g.S.Source.seen c.args.source.now in
    let command = c.in-Some.command in
    let recipe = c.in-Some-recipe.recipe in
    let maker = sym c.in-Some-recipe.ensures in
    IfOk-weaker c.reply_to_recipe.result
    (IsReplyTo jobs table command (inputs.Script (script_by recipe)))
    (IsProgramReply jobs table c.args.words.now s s)
    (λ reply to.
    let By : Option Command → Type 0 = λ o. IsReplyBy jobs table o s s reply in
    subst By c.in-Some.ensures.value (to_recipe jobs table command s recipe maker reply to))
    c.reply_to_recipe.ensures

pub returns-in-Some-recipe-clause-has_read : goal.returns-in-Some-recipe-clause-has_read
returns-in-Some-recipe-clause-has_read g c =
    on_err c.reply_to_recipe.result (record {
      command = c.in-Some.command;
      named = sym c.in-Some.ensures.value;
      unbroken = refl;
      read = takes_none (g.S.Source.seen c.args.source.now);
    })
