use Rattle.std.proofs.Common.{refl, sym, ap, ◌∙◌}
use Rattle.std.specs.Prelude.{is_some}
use Rattle.std.proofs.lemmas.Bool.{not-true}
use Rattle.core_world.specs.World.{cpu_of}
use Rattle.core_machine.proofs.Views.Looking.{waits_placed}
use Rattle.core_machine.proofs.readings.looks.hands_on.Goals as goal

pub returns-then-is_some-clause-placed : goal.returns-then-is_some-clause-placed
returns-then-is_some-clause-placed g c = λ waits.
    waits_placed c.args.core.now c.tree.ensures.lawful c.args.cpu.0
    (cpu_of c.args.core.now c.args.cpu.0).walk refl
    (sym (ap is_some c.walk.ensures) ∙ (sym c.is_some.ensures ∙ c.if-is_some.true))
    (sym c.goes_on.ensures ∙ not-true c.goes_on.result waits)
