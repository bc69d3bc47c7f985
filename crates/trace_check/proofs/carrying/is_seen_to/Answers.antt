use Rattle.std.proofs.Common.{arith, sym, ◌∙◌, true≢false}
use Rattle.std.proofs.lemmas.Bool.{false≢true}
use Rattle.trace_check.proofs.CarryLaws.{sees_more, sees_none}
use Rattle.trace_check.proofs.carrying.is_seen_to.Goals as goal

pub loop-other-preserved : goal.loop-other-preserved
loop-other-preserved g c =
    sees_more c.args.core.now c.args.cpu.0 c.args.level c.loop-other.other c.loop-other.invariant
    (λ sees. true≢false (sym (c.sees_to.ensures.1 sees) ∙ c.if-sees_to.false))

pub returns : goal.returns
returns g c = (
  λ yes. absurd (false≢true yes),
  λ seen. absurd (sees_none c.args.core.now c.args.cpu.0 c.args.level c.loop-other.other
      c.loop-other.invariant
      (let count = c.count-other-end.ensures in let end = c.loop-other-test.false in
      omega (arith, count, end)) seen.0 seen.1),
)
