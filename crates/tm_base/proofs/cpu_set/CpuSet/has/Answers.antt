use Rattle.std.proofs.Common.{◌∙◌, ap, subst}
use Rattle.std.specs.FinSet.{contains}
use Rattle.tm_base.specs.CpuSet.{FitsSet}
use Rattle.tm_base.proofs.Marks.{has_bit, past_end, set_fits}
use Rattle.tm_base.proofs.cpu_set.CpuSet.has.Goals as goal

pub returns-then-cpu-lt-CPU_SET_SIZE-clause-found :
    goal.returns-then-cpu-lt-CPU_SET_SIZE-clause-found
returns-then-cpu-lt-CPU_SET_SIZE-clause-found c =
    has_bit c.self.inside.words c.args.cpu.0 c.if-cpu-lt-CPU_SET_SIZE.true
    ∙ ap (λ cpus. contains cpus c.args.cpu.0) c.self.view_is

pub returns-then-cpu-lt-CPU_SET_SIZE-clause-fits :
    goal.returns-then-cpu-lt-CPU_SET_SIZE-clause-fits
returns-then-cpu-lt-CPU_SET_SIZE-clause-fits c = subst FitsSet c.self.view_is (set_fits _)

pub returns-else-cpu-lt-CPU_SET_SIZE-clause-found :
    goal.returns-else-cpu-lt-CPU_SET_SIZE-clause-found
returns-else-cpu-lt-CPU_SET_SIZE-clause-found c =
    past_end c.self.inside.words c.args.cpu.0 c.if-cpu-lt-CPU_SET_SIZE.false
    ∙ ap (λ cpus. contains cpus c.args.cpu.0) c.self.view_is

pub returns-else-cpu-lt-CPU_SET_SIZE-clause-fits :
    goal.returns-else-cpu-lt-CPU_SET_SIZE-clause-fits
returns-else-cpu-lt-CPU_SET_SIZE-clause-fits c = subst FitsSet c.self.view_is (set_fits _)
