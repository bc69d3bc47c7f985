use Rattle.std.proofs.Common.{length, sym, subst, ◌∙◌}
use Rattle.core_world.specs.World.{World}
use Rattle.shared_rule.specs.core_state.Kept.{IsHeld, WorldFits}
use Rattle.shared_table.proofs.Finished.{fits, same_world}
use Rattle.shared_table.proofs.read_back.rebuilt.Goals as goal

pub from_parts-requires-clause-fits : goal.from_parts-requires-clause-fits
from_parts-requires-clause-fits g c =
    let w = c.requires.rest.0 in
    let r = c.requires.rest.1 in
    let p = c.args.parts in
    let same = same_world c.args.words p.tree p.clock p.cpus.items w r
    (length c.read_holders.new.holders.items) c.read_groups.new.groups.items
    (c.read_holders.ensures.count ∙ c.requires.holders) (c.read_groups.ensures w r.spelled) in
    subst WorldFits (sym same) (fits c.args.words p.tree p.clock p.cpus.items w r)

pub from_parts-requires-clause-held : goal.from_parts-requires-clause-held
from_parts-requires-clause-held g c =
    let w = c.requires.rest.0 in
    let r = c.requires.rest.1 in
    let p = c.args.parts in
    let same = same_world c.args.words p.tree p.clock p.cpus.items w r
    (length c.read_holders.new.holders.items) c.read_groups.new.groups.items
    (c.read_holders.ensures.count ∙ c.requires.holders) (c.read_groups.ensures w r.spelled) in
    subst (λ (x : World). IsHeld x c.read_holders.new.holders.items) (sym same)
    (c.read_holders.ensures.held w r.spelled)

pub returns : goal.returns
returns g c = λ w r.
    let p = c.args.parts in
    c.from_parts.ensures
    ∙ same_world c.args.words p.tree p.clock p.cpus.items w r
    (length c.read_holders.new.holders.items) c.read_groups.new.groups.items
    (c.read_holders.ensures.count ∙ c.requires.holders) (c.read_groups.ensures w r.spelled)
