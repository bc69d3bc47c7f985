use Rattle.std.proofs.Common.{ap, sym, ◌∙◌}
use Rattle.std.specs.Prelude.{is_some}
use Rattle.core_machine.specs.declared.answers.cover.Cover.TheVariants as covers
use Rattle.core_machine.proofs.Covers.Settled.{chosen_by, there_is}
use Rattle.core_machine.proofs.answers.choice.cover_of.Goals as goal

pub returns-clause-held : goal.returns-clause-held
returns-clause-held g c = λ settled group m is.
    chosen_by c.args.core.now c.kept.ensures.fits.lawful settled c.kept.ensures.fits.planned
    c.args.cpu.0 (covers.Migrator group m) (sym c.choose.ensures.choice ∙ is)

pub returns-clause-woken : goal.returns-clause-woken
returns-clause-woken g c = λ settled d at is.
    chosen_by c.args.core.now c.kept.ensures.fits.lawful settled c.kept.ensures.fits.planned
    c.args.cpu.0 (covers.Wake d at) (sym c.choose.ensures.choice ∙ is)

pub returns-clause-there : goal.returns-clause-there
returns-clause-there g c = λ settled.
    ap is_some c.choose.ensures.choice
    ∙ there_is c.args.core.now c.kept.ensures.fits.lawful settled c.kept.ensures.fits.planned
    c.args.cpu.0
