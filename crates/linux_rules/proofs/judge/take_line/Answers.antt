use Rattle.std.proofs.Common.{◌∙◌, ap, sym}
use Rattle.linux_rules.specs.Judge.{seen_after}
use Rattle.linux_rules.proofs.judge.take_line.Goals as goal

pub returns-in_ok-note_line-in-OfTimer-clause-after :
    goal.returns-in_ok-note_line-in-OfTimer-clause-after
unfolding seen_after
returns-in_ok-note_line-in-OfTimer-clause-after c = λ fits.
    c.in_ok-note_line-in-OfTimer.ensures ∙ ap (seen_after c.args.seen.now c.args.line) (sym c.in-OfTimer.is)

pub returns-in_ok-note_line-in-Foreign-clause-after :
    goal.returns-in_ok-note_line-in-Foreign-clause-after
unfolding seen_after
returns-in_ok-note_line-in-Foreign-clause-after c = λ fits.
    c.in_ok-note_line-in-Foreign.ensures ∙ ap (seen_after c.args.seen.now c.args.line) (sym c.in-Foreign.is)
