use Rattle.std.proofs.Common.{◌∙◌, ap, sym, arith}
use Rattle.key_lists.specs.Tables.{KeyTable, list_of}
use Rattle.key_lists.specs.Rings.{no_link}
use Rattle.key_lists.proofs.Rings.{list_is, rings_grown}
use Rattle.key_lists.proofs.key_lists.KeyLists.grow.Goals as goal

pub invariant_of-self : goal.invariant_of-self
invariant_of-self c =
    let grown = c.in_ok-resize.ensures in
    let more = c.if-len.true in
    (rings_grown c.self.inside.lists c.self.inside.links.items c.resize.new.self.items c.self.invariant (omega (arith, grown.len, c.len.ensures)) (omega (arith, grown.len))
    (λ i l. grown.by_index.0 i no_link (omega (arith, c.len.ensures)) (omega arith))).rings

pub returns-in_ok-resize-clause-lists : goal.returns-in_ok-resize-clause-lists
returns-in_ok-resize-clause-lists c = λ list below.
    let grown = c.in_ok-resize.ensures in
    let more = c.if-len.true in
    let number = ap (λ (t : KeyTable). t.number) c.self.view_is in
    let keeps = rings_grown c.self.inside.lists c.self.inside.links.items c.resize.new.self.items c.self.invariant (omega (arith, grown.len, c.len.ensures)) (omega (arith, grown.len))
    (λ i l. grown.by_index.0 i no_link (omega (arith, c.len.ensures)) (omega arith)) in
    keeps.lists_are list (omega arith)
    ∙ (sym (list_is c.self.inside.lists c.self.inside.links.items list (omega arith)) ∙ ap (λ t. list_of t list) c.self.view_is)
