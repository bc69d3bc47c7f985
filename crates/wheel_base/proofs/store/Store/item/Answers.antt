use Rattle.std.proofs.Common.{Some, ap, sym, subst, ◌∙◌, rules}
use Rattle.std.specs.Prelude.{unwrap_or}
use Rattle.key_lists.specs.Tables.{list_of}
use Rattle.wheel_base.specs.Files.{HasKey, item_under, no_item}
use Rattle.wheel_base.proofs.Filing.{held_key, under}
use Rattle.wheel_base.proofs.Leaving.{slot_of}
use Rattle.wheel_base.proofs.store.Store.item.Goals as goal

pub index-requires : goal.index-requires
index-requires c =
    let keys = list_of c.self.inside.armed 0 in
    let has = subst (λ files. HasKey c.args.key files.filed) (sym c.self.view_is) c.requires.held in
    let held = held_key c.self.inside.items.slots c.args.key keys has in
    let at = slot_of c.self.inside.items c.args.key keys c.self.invariant.stored held in
    rw at.slot (search rules)

pub returns : goal.returns
returns c =
    let slots = c.self.inside.items.slots in
    let keys = list_of c.self.inside.armed 0 in
    let has = subst (λ files. HasKey c.args.key files.filed) (sym c.self.view_is) c.requires.held in
    let held = held_key slots c.args.key keys has in
    let is = ap (λ slot. unwrap_or slot no_item) c.index.ensures in
    ap Some (sym is)
    ∙ (sym (under slots c.args.key keys held) ∙ ap (λ files. item_under c.args.key files.filed) c.self.view_is)
