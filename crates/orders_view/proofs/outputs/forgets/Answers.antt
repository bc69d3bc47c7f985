use Rattle.std.proofs.Common.{ap, ◌∙◌}
use Rattle.orders_answer.specs.Answers.{forgets}
use Rattle.orders_ends.specs.Sights.{SeenEnd}
use Rattle.orders_view.proofs.Forgets.{any_left}
use Rattle.orders_view.proofs.outputs.forgets.Goals as goal

pub returns : goal.returns
returns c =
    c.any_left.ensures
    ∙ (any_left c.deref.result.now
    ∙ ap forgets (c.deref.ensures.value ∙ ap (λ (v : SeenEnd). v.timers) c.sight.view_is))
