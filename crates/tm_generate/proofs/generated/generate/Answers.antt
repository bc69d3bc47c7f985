use Rattle.tm_generate.proofs.GeneratedLaws.{made_is_script}
use Rattle.tm_generate.proofs.generated.generate.Goals as goal

pub returns-clause-script : goal.returns-clause-script
returns-clause-script c =
    made_is_script c.made.result c.args.number c.args.cpus c.args.timers c.args.moments c.requires.some_cpus c.requires.few_cpus c.requires.some_timers c.requires.few_timers c.requires.some_moments c.requires.few_moments c.made.ensures
