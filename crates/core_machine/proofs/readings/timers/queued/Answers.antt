use Rattle.std.proofs.Common.{ap, sym, ◌∙◌}
use Rattle.std.specs.Prelude.{option_map}
use Rattle.play_rules.specs.Timers.{queued_as}
use Rattle.core_machine.proofs.Views.Where.{queued_by, queued_nowhere}
use Rattle.core_machine.proofs.readings.timers.queued.Goals as goal

pub returns-in_default : goal.returns-in_default
returns-in_default g c =
    sym (queued_nowhere c.args.core.now c.args.timer.0 c.in_default.ensures.nowhere)

pub returns-in_default-found : goal.returns-in_default-found
returns-in_default-found g c =
    sym (queued_by c.args.core.now c.args.timer.0 c.tree.ensures.lawful c.in-Some.cpu.0
    c.in-Some.ensures.in_range c.in-Some.ensures.there
    ∙ ap (option_map (queued_as c.in-Some.cpu.0)) (sym c.found.ensures ∙ c.in_default-found.is))

pub returns : goal.returns
returns g c =
    sym (queued_by c.args.core.now c.args.timer.0 c.tree.ensures.lawful c.in-Some.cpu.0
    c.in-Some.ensures.in_range c.in-Some.ensures.there
    ∙ ap (option_map (queued_as c.in-Some.cpu.0)) (sym c.found.ensures ∙ c.in-Some-found.is))
