use Rattle.std.proofs.Common.{sym, ◌∙◌, true≢false}
use Rattle.orders_world.proofs.TopLaws.{is_told_here, no_event, no_levels, none_here, not_active}
use Rattle.orders_world.proofs.answering.top_time.Goals as goal

pub returns-in_default-clause-none : goal.returns-in_default-clause-none
returns-in_default-clause-none c =
    let w = c.args.world.now in
    no_levels w c.args.cpu.0 c.args.wheel (c.law_paths.ensures w.tree c.tree.ensures.planned)
    c.in_default.ensures.none

pub returns-in_default-group_at-clause-none : goal.returns-in_default-group_at-clause-none
returns-in_default-group_at-clause-none c = λ time told.
    let w = c.args.world.now in
    none_here w c.args.cpu.0 c.args.wheel (c.law_paths.ensures w.tree c.tree.ensures.planned)
    c.in-Some.level c.in-Some.ensures.last time told (sym c.in_default-group_at.ensures)

pub returns-then-is_on-clause-none : goal.returns-then-is_on-clause-none
returns-then-is_on-clause-none c = λ time told.
    let w = c.args.world.now in
    not_active w c.args.cpu.0 c.args.wheel (c.law_paths.ensures w.tree c.tree.ensures.planned)
    c.in-Some.level c.in-Some.ensures.last time told c.in-Some-group_at.top.0
    (sym c.in-Some-group_at.ensures) (sym c.is_on.ensures ∙ c.if-is_on.true)

pub returns-then-not-is_told-clause-none : goal.returns-then-not-is_told-clause-none
returns-then-not-is_told-clause-none c = λ time told.
    let w = c.args.world.now in
    true≢false
    (sym (c.is_told.ensures.1
    (is_told_here w c.args.cpu.0 c.args.wheel
    (c.law_paths.ensures w.tree c.tree.ensures.planned) c.in-Some.level c.in-Some.ensures.last
    time told))
    ∙ c.if-not-is_told.true)

pub returns-clause-none : goal.returns-clause-none
returns-clause-none c =
    let w = c.args.world.now in
    no_event w c.args.cpu.0 c.args.wheel (c.law_paths.ensures w.tree c.tree.ensures.planned)
    c.in-Some.level c.in-Some-group_at.top.0 c.in-Some.ensures.last
    (sym c.in-Some-group_at.ensures) c.event_towards.result c.event_towards.ensures
