use Rattle.core_laws.proofs.Together.{step_lawful}
use Rattle.core_laws.proofs.law_step.Goals as goal

pub returns : goal.returns
returns c =
    step_lawful c.law_sizes.ensures c.law_walks.ensures c.law_edges.ensures c.law_bits.ensures c.law_marks.ensures
    c.law_locks.ensures c.law_events.ensures c.law_cpus.ensures c.law_markers.ensures c.law_timers.ensures
    c.law_wakeups.ensures c.law_tops.ensures c.law_origins.ensures
