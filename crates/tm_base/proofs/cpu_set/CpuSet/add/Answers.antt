use Rattle.std.proofs.Common.{◌∙◌, ap}
use Rattle.std.specs.FinSet.{insert}
use Rattle.tm_base.proofs.Marks.{mark_added, set_fits}
use Rattle.tm_base.proofs.cpu_set.CpuSet.add.Goals as goal

pub returns-clause-added : goal.returns-clause-added
returns-clause-added c =
    mark_added c.self.inside.words c.args.cpu.0 c.self.invariant c.requires
    ∙ ap (λ cpus. insert cpus c.args.cpu.0) c.self.view_is

pub returns-clause-fits : goal.returns-clause-fits
returns-clause-fits c = set_fits _
