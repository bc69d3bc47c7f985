use Rattle.std.proofs.Common.{◌≡◌, ◌<◌, ◌^◌, ◌∷◌, ◌++◌, ap, [], None, length, subst, sym, ◌∙◌}
use Rattle.wheel_core.specs.declared.item.Item.{Item}
use Rattle.wheel_core.specs.PlainBase.{NoneBehind, PlainBase, item_of, item_added, sooner}
use Rattle.wheel_core.proofs.Kept.{keeps_added}
use Rattle.wheel_core.proofs.Plain.{none_behind_added, placed_in_range}
use Rattle.wheel_core.proofs.list_base.ListBaseTimerBase.add.Goals as goal

-- the item that the timer becomes
item : goal.After-self-1 → Item
item c = item_added c.self.inside.clock c.args.id c.args.expires c.args.job c.args.arg

-- it is what was pushed
pushed : (c : goal.After-self-1)
    → c.push.new.self.items ≡ c.self.inside.items.items ++ item c ∷ []
unfolding item
pushed c =
    let items = c.self.inside.items.items in
    let says = c.wheel_expiry-wheel.ensures in
    let args = c.args in
    let came = rw c.unwrap.ensures at c.push.ensures.items in
    came
    ∙ (λ i.
    items
    ++ record {
      id = args.id;
      expires = args.expires;
      wheel = says.wheel i;
      level = says.level i;
      job = args.job;
      arg = args.arg;
    }
    ∷ [])

pub invariant_of-self : goal.invariant_of-self
unfolding item
invariant_of-self c =
    let first = c.self.inside.first in
    let in_time = subst (λ b. b.plain.clock < 2 ^ 47) (sym c.self.view_is) c.requires.clock_in_time in
    keeps_added c.self.inside.items.items c.push.new.self.items (item c) first c.sooner_of.result
    c.self.inside.capacity _ _ c.self.invariant (pushed c)
    (subst (λ b. length b.plain.items < b.capacity) (sym c.self.view_is) c.requires.room)
    c.push.ensures.capacity
    (c.sooner_of.ensures ∙ ap (λ wheel. sooner wheel first) c.wheel_expiry-wheel.ensures.wheel)
    (subst (λ b. item_of c.args.id b.plain.items ≡ None) (sym c.self.view_is) c.requires.not_queued)
    (placed_in_range c.self.inside.clock c.args.id c.args.expires c.args.job c.args.arg
    c.requires.expires_in_time in_time)

pub returns-clause-none_behind : goal.returns-clause-none_behind
unfolding item
returns-clause-none_behind c =
    let args = c.args in
    let clock = c.self.inside.clock in
    let base : PlainBase = record { items = c.self.inside.items.items; clock = clock } in
    subst (λ items. NoneBehind (record { items = items; clock = clock })) (sym (pushed c))
    (none_behind_added args.id args.expires args.job args.arg base c.requires.expires_in_time
    (subst (λ b. b.plain.clock < 2 ^ 47) (sym c.self.view_is) c.requires.clock_in_time)
    (subst (λ b. NoneBehind b.plain) (sym c.self.view_is) c.requires.none_behind))
