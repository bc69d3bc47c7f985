use Rattle.std.proofs.Common.{ap, refl, sym, ◌∙◌}
use Rattle.std.proofs.lemmas.Result.{IfOk-weaker}
use Rattle.view_stat.specs.Alone.{first_leave}
use Rattle.view_stat.specs.Comparing.{IsCompared, both, leaves}
use Rattle.view_stat.specs.declared.comparing.Versus.TheVariants as versus
use Rattle.view_stat.proofs.comparing.tell_alone.Goals as goal

pub returns-in-Some : goal.returns-in-Some
returns-in-Some c =
    leaves c.in-Some.line
    (ap first_leave (sym c.as_slice.ensures) ∙ sym c.in-Some.ensures)
    c.in_ok-leaves.ensures refl

pub returns : goal.returns
returns c =
    IfOk-weaker c.tell_two.result
    (λ told. IsCompared versus.Alone c.args.script.now c.alone_machine-machine.result
    c.args.script.now told.text.items told.status) _
    (λ told compared. both c.alone_machine-machine.result
    (ap first_leave (sym c.as_slice.ensures) ∙ sym c.in_default.ensures)
    c.alone_machine-machine.ensures compared)
    c.tell_two.ensures
