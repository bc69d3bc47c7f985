use Rattle.std.proofs.Common.{◌≡◌, ◌<◌, ◌∷◌, [], sym, ap, ◌∙◌, subst}
use Rattle.std.proofs.lemmas.Option.{same_Some}
use mathlib.Core.Option.{none}
use Rattle.atomic_table.specs.Table.{step}
use Rattle.core_world.specs.World.{World}
use Rattle.shared_words.specs.Layout.{index_of}
use Rattle.shared_rule.specs.Plays as plays
use Rattle.shared_rule.specs.Rule.{seat_of}
use Rattle.shared_rule.specs.Whole.{layout_of}
use Rattle.shared_rule.specs.Passes.{Seated}
use Rattle.shared_rule.proofs.Calls.{allowed, below, place}
use Rattle.shared_rule.proofs.Seated.{loaded, remembered, seat_there}
use Rattle.shared_rule.proofs.pass.Pass.see.Goals as goal

pub load-requires : goal.load-requires
load-requires g c =
    let run = c.args.run.now in
    let name = g.N.RunName.table in
    let o : World = g.N.RunName.opening in
    let table = run.words.shared.table_id in
    let key : World = run.words.shared.key.core in
    let pass = c.self.inside in
    let seat = c.in-Some.seat.now in
    let there = seat_there pass.seat seat pass.cpu.0 pass.walks pass.receipts.receipts
    (sym c.in-Some.ensures.value) c.self.invariant in
    let same : record { table = seat.table_id; pass = there.0 }
    ≡ record { table = name; pass = c.requires.run.0 } =
    same_Some _ _ (sym there.1 ∙ (ap (λ z. z.seated) c.self.view_is ∙ c.requires.run.1)) in (
      ap (λ (z : Seated). z.table) same ∙ sym run.fits.named,
      subst (λ n. n < table.words) (sym c.index-place.ensures)
          (below name o table key run.tree run.layout run.fits c.args.word c.requires.word),
      allowed o key table.slots seat.id seat.me (seat_of [] (there.0 ∷ [])) c.index-place.result
          (index_of (layout_of o) c.args.word) (λ n. n)
          (λ i v n w. plays.Sees (step table.slots i 0 0 none) v n w) run.fits.opened there.2.alone
          (c.index-place.ensures
          ∙ place name o table key run.tree run.layout run.fits c.args.word)
          (c.law_see.ensures.word o table.slots seat.id there.0 c.args.word c.requires.word).allowed,
    )

pub invariant_of-self : goal.invariant_of-self
invariant_of-self g c =
    let pass = c.self.inside in
    let seat = c.in-Some.seat.now in
    let there = seat_there pass.seat seat pass.cpu.0 pass.walks pass.receipts.receipts
    (sym c.in-Some.ensures.value) c.self.invariant in
    loaded seat.me c.load.new.seat.me there.0 pass.cpu.0 pass.walks pass.receipts.receipts
    c.index-place.result c.load.result there.2 c.load.ensures.2

pub returns : goal.returns
returns g c =
    let run = c.args.run.now in
    let o : World = g.N.RunName.opening in
    let key : World = run.words.shared.key.core in
    let pass = c.self.inside in
    let seat = c.in-Some.seat.now in
    let there = seat_there pass.seat seat pass.cpu.0 pass.walks pass.receipts.receipts
    (sym c.in-Some.ensures.value) c.self.invariant in
    remembered c.args.self.now pass.seat seat c.load.new.seat.table_id c.load.new.seat.me there.0
    pass.cpu.0 pass.receipts.capacity c.index-place.result (index_of (layout_of o) c.args.word)
    c.load.result c.self.view_is there.1 there.2.alone c.load.ensures.0 c.load.ensures.2
    (c.index-place.ensures
    ∙ place g.N.RunName.table o run.words.shared.table_id key run.tree run.layout run.fits
    c.args.word)
