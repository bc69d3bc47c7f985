use Rattle.std.proofs.Common.{◌≡◌, None, length, subst, sym, ap, ◌∙◌, arith}
use Rattle.std.proofs.lemmas.List.Edits.{length-remove}
use Rattle.wheel_core.specs.PlainBase.{NoneBehind, PlainBase, item_of, least}
use Rattle.wheel_core.specs.Scan.{IsPlaceOf}
use Rattle.wheel_core.proofs.Ids.{gone_without, read_at, without_none}
use Rattle.wheel_core.proofs.Kept.{first_was, keeps_removed}
use Rattle.wheel_core.proofs.Plain.{none_behind_removed}
use Rattle.wheel_core.proofs.list_base.ListBaseTimerBase.remove.Goals as goal

pub returns-in_default-clause-base : goal.returns-in_default-clause-base
returns-in_default-clause-base c =
    let items = c.self.inside.items.items in
    let clock = c.self.inside.clock in
    let capacity = c.self.inside.capacity in
    let none =
    subst (λ items. item_of c.args.id items ≡ None) c.deref.ensures.value c.in_default.ensures in
    rw (← c.self.view_is)
    (ap (λ items. record { plain = record { items = items; clock = clock }; capacity = capacity })
    (sym (without_none c.args.id items none)))

pub least_left-self-inside-requires : goal.least_left-self-inside-requires
least_left-self-inside-requires c =
    let at =
    subst (λ items. IsPlaceOf c.args.id items c.in-Some.place) c.deref.ensures.value
    c.in-Some.ensures in
    let left = c.deref-2.ensures.value ∙ c.remove-item.ensures.items in
    first_was c.self.inside.items.items c.deref-2.result.now c.in-Some.place c.remove-item.result
    c.self.inside.first _ _ c.self.invariant at.within c.remove-item.ensures.value left

-- the place that was found
found_at : (c : goal.After-self-1)
    → IsPlaceOf c.args.id c.self.inside.items.items c.in-Some.place
found_at c =
    subst (λ items. IsPlaceOf c.args.id items c.in-Some.place) c.deref.ensures.value
    c.in-Some.ensures

pub invariant_of-self : goal.invariant_of-self
invariant_of-self c =
    let at = found_at c in
    let first = c.least_left-self-inside.ensures ∙ ap least c.deref-2.ensures.value in
    keeps_removed c.self.inside.items.items c.remove-item.new.self.items c.in-Some.place c.args.id
    c.self.inside.first c.least_left-self-inside.result _ _ _ c.self.invariant at.within
    c.remove-item.ensures.items at.rest first c.remove-item.ensures.capacity

pub returns-clause-item : goal.returns-clause-item
returns-clause-item c =
    let at = found_at c in
    rw (← c.self.view_is)
    (read_at c.self.inside.items.items c.in-Some.place _ _ at.within c.remove-item.ensures.value
    at.item)

pub returns-clause-gone : goal.returns-clause-gone
returns-clause-gone c =
    rw (c.remove-item.ensures.items ∙ (found_at c).rest)
    (gone_without c.args.id c.self.inside.items.items c.self.invariant.sound.distinct)

pub returns-clause-one_fewer : goal.returns-clause-one_fewer
returns-clause-one_fewer c =
    let shorter = length-remove c.self.inside.items.items c.in-Some.place (found_at c).within in
    let long = ap length c.remove-item.ensures.items in
    rw (← c.self.view_is) (omega arith)

pub returns-clause-none_behind : goal.returns-clause-none_behind
returns-clause-none_behind c =
    let left = c.remove-item.ensures.items ∙ (found_at c).rest in
    let clock = c.self.inside.clock in
    let base : PlainBase = record { items = c.self.inside.items.items; clock = clock } in
    λ ahead.
    let before = subst (λ b. NoneBehind b.plain) (sym c.self.view_is) ahead in
    subst (λ items. NoneBehind (record { items = items; clock = clock })) (sym left)
    (none_behind_removed c.args.id base before)
