use Rattle.std.proofs.Common.{Some, ap, sym, ◌∙◌}
use Rattle.play_rules.specs.Covers.{answerer}
use Rattle.core_machine.proofs.Covers.Shown.{covered}
use Rattle.core_machine.proofs.answers.choice.answerer_of.Goals as goal

pub returns-in-Some-choose : goal.returns-in-Some-choose
returns-in-Some-choose g c =
    ap (λ s. Some (answerer c.in-Some.wheel s)) c.shown.ensures
    ∙ sym (covered c.args.core.now c.args.cpu.0 c.in-Some.wheel c.requires c.in-Some-choose.cover
    (sym c.first_global.ensures ∙ c.in-Some.is)
    (sym c.choose.ensures.choice ∙ c.in-Some-choose.is))
