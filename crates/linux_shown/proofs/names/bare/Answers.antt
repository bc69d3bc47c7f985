use Rattle.std.proofs.Common.{◌∙◌, ap}
use Rattle.std.specs.Prelude.{codes}
use Rattle.linux_lines.specs.Lines.{bare}
use Rattle.linux_lines.specs.Parts.{without}
use Rattle.linux_shown.proofs.names.bare.Goals as goal

pub returns : goal.returns
unfolding bare
returns c =
    c.without-3.ensures
    ∙ ap (without (codes "irq:"))
    (c.without-2.ensures ∙ ap (without (codes "timer:")) c.without.ensures)
