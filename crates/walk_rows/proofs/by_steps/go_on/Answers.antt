use Rattle.std.proofs.Common.{sym, ◌∙◌}
use Rattle.walk_rows.proofs.Driving.{rest_driven, step_driven}
use Rattle.walk_rows.proofs.by_steps.go_on.Goals as goal

pub returns-then-is_under_way : goal.returns-then-is_under_way
returns-then-is_under_way g c =
    let k = c.in-Some.walk in
    step_driven g.N.RunName.opening k k.stage c.walk_step.result c.args.part.now
    c.walk_step.new.part (c.walk_step.ensures k (sym c.walk.ensures ∙ c.in-Some.is))

pub returns-then-has_rested : goal.returns-then-has_rested
returns-then-has_rested g c =
    rest_driven c.args.part.now c.rest_step.new.part c.rest_step.ensures
