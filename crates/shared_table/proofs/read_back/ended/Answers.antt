use Rattle.std.proofs.Common.{refl, sym, ap, ◌∙◌, subst}
use Rattle.core_world.specs.World.{World}
use Rattle.shared_table.specs.Endings.{IsEnd}
use Rattle.shared_table.proofs.Finished.{at_end, rebuilds}
use Rattle.shared_table.proofs.read_back.ended.Goals as goal

pub rebuilt-requires-clause-rest : goal.rebuilt-requires-clause-rest
rebuilt-requires-clause-rest g c =
    let o = c.args.table.shared.key.core in
    let v = c.args.seat.me.0 in
    let e = c.close-words.ensures.ends v.boxes v.passes c.requires.all.all refl in (
      e.whole.world,
      rebuilds o c.close-words.result c.args.parts.tree c.args.parts.clock c.args.parts.cpus.items v
          c.requires.all e (c.close-words.ensures.layout ∙ c.requires.opened) c.requires.tree
          c.requires.clock,
    )

pub returns-clause-end : goal.returns-clause-end
returns-clause-end g c =
    let o = c.args.table.shared.key.core in
    let v = c.args.seat.me.0 in
    let e = c.close-words.ensures.ends v.boxes v.passes c.requires.all.all refl in
    let layout = c.close-words.ensures.layout ∙ c.requires.opened in
    let h = c.close-words.result in
    let cpus = c.args.parts.cpus.items in
    let t = c.args.parts.tree in
    let k = c.args.parts.clock in
    subst (λ (x : World). IsEnd o x v.passes)
    (sym (c.rebuilt.ensures e.whole.world
    (rebuilds o h t k cpus v c.requires.all e layout c.requires.tree c.requires.clock)))
    (at_end o h t k cpus v c.requires.all e layout c.requires.tree c.requires.clock)

pub returns-clause-cpus : goal.returns-clause-cpus
returns-clause-cpus g c =
    let o = c.args.table.shared.key.core in
    let v = c.args.seat.me.0 in
    let e = c.close-words.ensures.ends v.boxes v.passes c.requires.all.all refl in
    let layout = c.close-words.ensures.layout ∙ c.requires.opened in
    let r = rebuilds o c.close-words.result c.args.parts.tree c.args.parts.clock
    c.args.parts.cpus.items v c.requires.all e layout c.requires.tree c.requires.clock in
    ap (λ (x : World). x.cpus) (c.rebuilt.ensures e.whole.world r) ∙ sym r.cpus_are
