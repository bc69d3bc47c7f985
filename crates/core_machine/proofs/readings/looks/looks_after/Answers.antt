use Rattle.std.proofs.Common.{◌≡◌, Some, sym, ap, ◌∙◌}
use Rattle.std.specs.Prelude.{◌==◌}
use Rattle.tree_plan.specs.Paths.{group_at_of}
use Rattle.tree_plan.specs.Shape.{Shape}
use Rattle.core_machine.proofs.Views.Looking.{looks_alone, looks_by}
use Rattle.core_machine.proofs.readings.looks.looks_after.Goals as goal

pub returns-in-Some-migrator-clause-looks : goal.returns-in-Some-migrator-clause-looks
returns-in-Some-migrator-clause-looks g c =
    let w = c.args.core.now in
    let at : group_at_of w.tree c.args.cpu.0 c.args.level ≡ Some c.in-Some.group.0 =
    sym (c.in-Some.ensures.group
    ∙ ap (λ (t : Shape). group_at_of t c.args.cpu.0 c.args.level) c.tree.ensures.tree) in
    ap (λ n. n == c.in-Some-migrator.number) c.side.ensures.side
    ∙ sym (looks_by w c.kept.ensures.fits.planned c.args.cpu.0 c.args.level c.in-Some.group.0 at
    c.in-Some-migrator.number (sym c.migrator.ensures ∙ c.in-Some-migrator.is))

pub returns-in-None-clause-looks : goal.returns-in-None-clause-looks
returns-in-None-clause-looks g c =
    let w = c.args.core.now in
    let at : group_at_of w.tree c.args.cpu.0 c.args.level ≡ Some c.in-Some.group.0 =
    sym (c.in-Some.ensures.group
    ∙ ap (λ (t : Shape). group_at_of t c.args.cpu.0 c.args.level) c.tree.ensures.tree) in
    sym (looks_alone w c.kept.ensures.fits.planned c.args.cpu.0 c.args.level c.in-Some.group.0 at
    (sym c.migrator.ensures ∙ c.in-None.is))
