use Rattle.std.proofs.Common.{sym, subst}
use Rattle.walk_rules.specs.declared.walk.Stage.{Stage}
use Rattle.core_world.specs.declared.step.Step.TheVariants as steps
use Rattle.core_world.specs.Enabled.{MayGoOn}
use Rattle.core_world.specs.Lawful.{IsLawful}
use Rattle.core_world.specs.Steps.{walk_made, walked}
use Rattle.core_facts.proofs.law_stage.Goals as goal

pub returns : goal.returns
returns r w c k stage lawful may =
    let goes = subst (MayGoOn w c k) (sym may.at) may.may_go_on in
    let after =
    r.law_step.ensures w (steps.Walk (record { 0 = c })) lawful (record {
      in_range = may.in_range;
      made = k;
      walk = may.walk;
      may_go_on = goes;
    }) in
    let made = subst (λ m. IsLawful (walk_made w c m)) may.walk after in
    subst (λ (st : Stage). IsLawful (walked w c k st)) may.at made
