use Rattle.std.proofs.Common.{subst}
use Rattle.std.proofs.lemmas.Result.{IfOk-weaker}
use Rattle.view_story.specs.Ends.{IsJudged, answered}
use Rattle.view_story.proofs.program.judge_source.Goals as goal

pub returns-in-Ok : goal.returns-in-Ok
returns-in-Ok g c =
    IfOk-weaker c.judge_bytes.result
    (λ o. IsJudged c.args.play c.deref.result.now o.text.items o.status) _
    (λ o judged. answered c.in-Ok.bytes.items c.in-Ok.ensures.ok
    (subst (λ bytes. IsJudged c.args.play bytes o.text.items o.status)
    c.deref.ensures.value judged))
    c.judge_bytes.ensures
