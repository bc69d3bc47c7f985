use Rattle.std.proofs.Common.{◌∙◌, ap, subst, sym}
use Rattle.shared_cpus.specs.Steps.{MayMake, made}
use Rattle.shared_cpus.proofs.stepping.cpu_step.Goals as goal

pub take_step-requires : goal.take_step-requires
take_step-requires g c =
    let may = subst (MayMake c.args.part.now) c.in-Take.is c.requires in
    (may.1.0, may.1.2)

pub idle_step-requires : goal.idle_step-requires
idle_step-requires g c = (subst (MayMake c.args.part.now) c.in-Idle.is c.requires).1

pub wake_step-requires : goal.wake_step-requires
wake_step-requires g c = (subst (MayMake c.args.part.now) c.in-Wake.is c.requires).1

pub enter_step-requires : goal.enter_step-requires
enter_step-requires g c = (subst (MayMake c.args.part.now) c.in-Enter.is c.requires).1

pub leave_step-requires : goal.leave_step-requires
leave_step-requires g c = (subst (MayMake c.args.part.now) c.in-Leave.is c.requires).1

pub retell_step-requires : goal.retell_step-requires
retell_step-requires g c = (subst (MayMake c.args.part.now) c.in-Reeval.is c.requires).1

pub carry_step-requires : goal.carry_step-requires
carry_step-requires g c = (subst (MayMake c.args.part.now) c.in-Carry.is c.requires).1

pub release_step-requires : goal.release_step-requires
release_step-requires g c = (subst (MayMake c.args.part.now) c.in-Release.is c.requires).1

pub returns-in-Idle : goal.returns-in-Idle
returns-in-Idle g c =
    c.idle_step.ensures ∙ ap (λ s. made s c.args.part.now) (sym c.in-Idle.is)

pub returns-in-Wake : goal.returns-in-Wake
returns-in-Wake g c =
    c.wake_step.ensures ∙ ap (λ s. made s c.args.part.now) (sym c.in-Wake.is)

pub returns-in-Enter : goal.returns-in-Enter
returns-in-Enter g c =
    c.enter_step.ensures ∙ ap (λ s. made s c.args.part.now) (sym c.in-Enter.is)

pub returns-in-Leave : goal.returns-in-Leave
returns-in-Leave g c =
    c.leave_step.ensures ∙ ap (λ s. made s c.args.part.now) (sym c.in-Leave.is)

pub returns-in-Reeval : goal.returns-in-Reeval
returns-in-Reeval g c =
    c.retell_step.ensures ∙ ap (λ s. made s c.args.part.now) (sym c.in-Reeval.is)

pub returns-in-Carry : goal.returns-in-Carry
returns-in-Carry g c =
    c.carry_step.ensures ∙ ap (λ s. made s c.args.part.now) (sym c.in-Carry.is)

pub returns-in-Release : goal.returns-in-Release
returns-in-Release g c =
    c.release_step.ensures ∙ ap (λ s. made s c.args.part.now) (sym c.in-Release.is)

pub returns-in-Take : goal.returns-in-Take
returns-in-Take g c =
    c.take_step.ensures ∙ ap (λ s. made s c.args.part.now) (sym c.in-Take.is)
