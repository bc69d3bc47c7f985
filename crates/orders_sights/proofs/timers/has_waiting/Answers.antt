use Rattle.std.proofs.Common.{sym, ◌∙◌, true≢false}
use Rattle.core_world.specs.World.{cpu_of}
use Rattle.orders_sights.proofs.SeenLaws.{no_global}
use Rattle.orders_sights.proofs.timers.has_waiting.Goals as goal

pub returns-then-not-sleeps : goal.returns-then-not-sleeps
returns-then-not-sleeps c = λ none timer item waits.
    true≢false (sym waits.asleep ∙ (sym c.sleeps.ensures ∙ c.if-not-sleeps.true))

pub returns-in-Some : goal.returns-in-Some
returns-in-Some c = λ none timer item waits. true≢false none

pub returns-in-None : goal.returns-in-None
returns-in-None c = λ none timer item waits.
    no_global timer (cpu_of c.args.world.now c.args.cpu.0).bases (sym c.in-None.ensures)
    waits.class
