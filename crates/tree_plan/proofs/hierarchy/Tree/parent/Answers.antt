use Rattle.std.proofs.Common.{ap, ◌∙◌}
use Rattle.std.specs.Prelude.{is_some}
use Rattle.tree_plan.proofs.Stored.{top_where}
use Rattle.tree_plan.proofs.hierarchy.Tree.parent.Goals as goal

pub returns-clause-top : goal.returns-clause-top
returns-clause-top c =
    top_where c.args.self.now c.group_link.ensures.planned c.args.g.0 c.requires (is_some c.map.result) (c.map.ensures.variant ∙ ap is_some c.group_link.ensures.link)
