use Rattle.std.proofs.Common.{ap, sym, ◌∙◌}
use Rattle.tree_plan.specs.Paths.{level_count_of}
use Rattle.orders_causes.proofs.GroupLaws.{no_place}
use Rattle.orders_causes.proofs.groups.place_of.Goals as goal

pub returns-then-levels-eq0 : goal.returns-then-levels-eq0
returns-then-levels-eq0 c =
    sym (no_place c.args.world.now.tree c.args.group.0
    (sym (c.levels.ensures ∙ ap level_count_of c.tree-tree.ensures.tree)
    ∙ c.if-levels-eq0.true))
