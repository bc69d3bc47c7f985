use Rattle.std.proofs.Common.{sym, ap, ◌∙◌, subst}
use Rattle.tree_plan.specs.Shape.{Shape}
use Rattle.core_world.specs.Start.{start_of}
use Rattle.core_machine.specs.step_play.Rules.Seen.{InPlay, resting}
use Rattle.core_machine.proofs.step_play.Starts.{core_starts}
use Rattle.core_plays.proofs.starting.start_core.Goals as goal

pub returns-clause-in_play : goal.returns-clause-in_play
returns-clause-in_play c =
    subst (InPlay resting)
    (sym (c.in_ok-core.ensures
    ∙ ap (λ (t : Shape). start_of t c.args.script.now.timers) c.in_ok-tree.ensures.tree))
    (core_starts c.law_start.ensures c.args.script.now c.requires)
