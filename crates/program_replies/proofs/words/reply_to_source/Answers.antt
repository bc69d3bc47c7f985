use Rattle.std.proofs.Common.{List, ℕ, sym, subst}
use Rattle.std.proofs.lemmas.Result.{IfOk-weaker}
use Rattle.tm_base.specs.declared.limits.TheConstants.{MOST_BYTES}
use Rattle.tm_io.specs.Sources.{TakesAll}
use Rattle.program_texts.proofs.Told.{on_err, takes_up}
use Rattle.program_replies.specs.Replies.{IsReplyOf}
use Rattle.program_replies.specs.Steps.{IsReplyToBytes}
use Rattle.program_replies.proofs.Replying.{to_source}
use Rattle.program_replies.proofs.words.reply_to_source.Goals as goal

pub returns-in-Ok-clause-reply : goal.returns-in-Ok-clause-reply
returns-in-Ok-clause-reply g c =
    let jobs = g.J.Jobs.replies c.args.jobs.now in
    let table = g.J.Jobs.count c.args.jobs.now in
    let s = g.S.Source.seen c.args.source.now in
    let t = g.S.Source.seen c.read_all.new.source in
    let bytes = c.deref.result.now in
    let Took : List ℕ → Type 0 = λ xs. TakesAll s t MOST_BYTES xs in
    let all = subst Took (sym c.deref.ensures.value) c.in-Ok.ensures.ok in
    let sound = c.in-Ok.ensures.unbroken (λ is. cc is) in
    IfOk-weaker c.reply_to_bytes.result (IsReplyToBytes jobs table c.args.command bytes)
    (IsReplyOf jobs table c.args.command s t)
    (to_source jobs table c.args.command s t bytes c.requires.no_recipe all sound) c.reply_to_bytes.ensures

pub returns-in-Ok-clause-read : goal.returns-in-Ok-clause-read
returns-in-Ok-clause-read g c =
    let s = g.S.Source.seen c.args.source.now in
    let t = g.S.Source.seen c.read_all.new.source in
    let bytes = c.deref.result.now in
    let Took : List ℕ → Type 0 = λ xs. TakesAll s t MOST_BYTES xs in
    let all = subst Took (sym c.deref.ensures.value) c.in-Ok.ensures.ok in
    on_err c.reply_to_bytes.result (takes_up s t bytes all)
