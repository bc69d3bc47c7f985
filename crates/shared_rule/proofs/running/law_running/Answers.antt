use Rattle.std.proofs.Common.{◌<◌, ◌∙◌, subst, sym}
use Rattle.core_world.specs.World.{World}
use Rattle.shared_rule.specs.Rule.{Me}
use Rattle.shared_rule.specs.Running.{IsRunning}
use Rattle.shared_rule.proofs.Calls.{below, place}
use Rattle.shared_rule.proofs.Answering.{finds_running, opened_with}
use Rattle.shared_rule.proofs.running.law_running.Goals as goal

pub load-requires : goal.load-requires
load-requires g c =
    let run = c.args.run.now in
    let o : World = g.N.RunName.opening in
    let table = run.words.shared.table_id in
    let key : World = run.words.shared.key.core in
    let seat = c.args.seat.now in (
      c.requires.table ∙ sym run.fits.named,
      subst (λ n. n < table.words) (sym c.index-place.ensures)
          (below g.N.RunName.table o table key run.tree run.layout run.fits c.args.word
          c.requires.word),
      finds_running c.law_answered.ensures key table.slots seat.id c.index-place.result seat.me,
    )

pub returns-clause-running : goal.returns-clause-running
returns-clause-running g c =
    let run = c.args.run.now in
    let o : World = g.N.RunName.opening in
    let table = run.words.shared.table_id in
    let key : World = run.words.shared.key.core in
    let me : Me = c.args.seat.now.me in
    let told = c.load.ensures.2.1 in
    subst (λ n. IsRunning o me n c.load.result)
    (c.index-place.ensures
    ∙ place g.N.RunName.table o table key run.tree run.layout run.fits c.args.word)
    (opened_with o told.0 me c.index-place.result c.load.result c.requires.opening told.1)
