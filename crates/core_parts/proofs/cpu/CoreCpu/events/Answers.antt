use Rattle.core_parts.proofs.Ranges.{next_in_range}
use Rattle.core_parts.proofs.cpu.CoreCpu.events.Goals as goal

pub returns-clause-in_range : goal.returns-clause-in_range
returns-clause-in_range g c =
    rw c.next.ensures.events
    (next_in_range c.law_bases.ensures.first_was_armed c.self.inside.bases.plain
    c.journal.ensures.consistent)
