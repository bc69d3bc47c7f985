use Rattle.std.proofs.Common.{◌≡◌, sym, ap, ◌∙◌, subst, inl, inr}
use Rattle.std.proofs.lemmas.Option.{same_Some}
use Rattle.walk_rules.specs.declared.walk.Walk.{Walk}
use Rattle.walk_rules.specs.declared.walk.WalkKind.{WalkKind}
use Rattle.walk_rules.specs.declared.walk.WalkKind.TheVariants as kinds
use Rattle.shared_rule.specs.core_state.Shown.{as_cpu}
use Rattle.shared_cpus.specs.Conditions.{HasPassFor}
use Rattle.shared_cpus.proofs.Finished.{no_activation}
use Rattle.shared_cpus.proofs.stepping.finish_step.Goals as goal

pub carried_step-requires : goal.carried_step-requires
carried_step-requires g c =
    let can = c.requires in
    let same : c.in-Some.walk ≡ can.made = same_Some _ _
    (sym c.in-Some.is ∙ (c.walk.ensures ∙ can.walk)) in
    let kind : can.made.kind ≡ kinds.Remote c.in-Remote.by = sym (ap (λ (z : Walk). z.kind) same)
    ∙ c.in-Remote.is in
    let pass = subst (λ (z : WalkKind). HasPassFor z c.args.part.now) kind can.pass in
    record {
      pass = pass.0;
      brought = pass.1;
      made = can.made;
      ends = record {
        walk = can.walk;
        stage = can.stage;
        sort = kind ∙ ap (λ n. kinds.Remote (as_cpu n)) (sym pass.2);
      };
    }

pub unreachable-requires : goal.unreachable-requires
unreachable-requires g c =
    let can = c.requires in
    let part = c.args.part.now in
    let same : c.in-Some.walk ≡ can.made = same_Some _ _
    (sym c.in-Some.is ∙ (c.walk.ensures ∙ can.walk)) in
    let kind = ap (λ (z : Walk). z.kind) same in
    let fits = c.law.ensures.fits.walk can.made can.walk in
    elim c.in-Activate.is [
      | inl is ↦ no_activation part.box.opening part.box can.made fits can.stage (sym kind ∙ is)
      | inr is ↦ fits.staying (sym kind ∙ is)
    ]
