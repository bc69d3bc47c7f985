use Rattle.std.proofs.Common.{◌≡◌, ◌<◌, ◌^◌, ◌∷◌, ◌++◌, [], None, length, subst, sym, ap, ◌∙◌}
use Rattle.std.proofs.lemmas.List.{map-append, length-map}
use Rattle.wheel_core.specs.declared.item.Item.{Item}
use Rattle.wheel_core.specs.PlainBase.{NoneBehind, PlainBase, item_of, item_added, FitsWheel}
use Rattle.wheel_core.proofs.Plain.{none_behind_added}
use Rattle.wheel_base.specs.Files.{Entry, items_of}
use Rattle.wheel_base.proofs.Timed.{Placed, keeps_added, placed_near}
use Rattle.wheel_base.proofs.wheel.WheelBaseTimerBase.add.Goals as goal

pub invariant_of-self : goal.invariant_of-self
invariant_of-self c =
    let wheel = c.wheel_expiry-wheel.result in
    let says = c.wheel_expiry-wheel.ensures in
    let item : Item = record { id = c.args.id; expires = c.args.expires; wheel = wheel.0; level = wheel.1; job = c.args.job; arg = c.args.arg } in
    let placed : FitsWheel item = record { expires = c.requires.expires_in_time; wheel = rw says.wheel says.keeps_time.in_time; level = rw says.level says.keeps_time.level } in
    let clock_in = subst (λ b. b.plain.clock < 2 ^ 47) (sym c.self.view_is) c.requires.clock_in_time in
    let near : Placed c.self.inside.clock wheel.0 wheel.1 = rw (says.wheel, says.level) (placed_near c.args.expires c.self.inside.clock c.requires.expires_in_time clock_in) in
    let room = subst (λ b. length b.plain.items < b.capacity) (sym c.self.view_is) c.requires.room in
    keeps_added c.self.inside.store c.insert.new.self c.insert.result item c.self.inside.clock c.self.inside.first c.sooner_of.result c.self.inside.capacity
    c.self.invariant c.insert.ensures.filed c.insert.ensures.room (subst (λ n. n < c.self.inside.capacity) (length-map c.self.inside.store.filed (λ (e : Entry). e.1)) room) c.sooner_of.ensures
    (subst (λ b. item_of c.args.id b.plain.items ≡ None) (sym c.self.view_is) c.requires.not_queued) placed
    (subst (λ b. NoneBehind b.plain) (sym c.self.view_is) c.requires.none_behind) near

pub returns-clause-none_behind : goal.returns-clause-none_behind
returns-clause-none_behind c =
    let args = c.args in
    let files = c.self.inside.store in
    let clock = c.self.inside.clock in
    let base : PlainBase = record { items = items_of files.filed; clock = clock } in
    let says = c.wheel_expiry-wheel.ensures in
    let item = item_added clock args.id args.expires args.job args.arg in
    let result = c.wheel_expiry-wheel.result in
    let made : Item = record { id = args.id; expires = args.expires; wheel = result.0; level = result.1; job = args.job; arg = args.arg } in
    let is : made ≡ item = λ i. record { id = args.id; expires = args.expires; wheel = says.wheel i; level = says.level i; job = args.job; arg = args.arg } in
    let came : items_of c.insert.new.self.filed ≡ items_of files.filed ++ made ∷ [] =
    ap items_of c.insert.ensures.filed ∙ map-append (λ (e : Entry). e.1) files.filed ((c.insert.result, made) ∷ []) in
    let pushed : items_of c.insert.new.self.filed ≡ items_of files.filed ++ item ∷ [] = came ∙ ap (λ last. items_of files.filed ++ last ∷ []) is in
    subst (λ items. NoneBehind (record { items = items; clock = clock })) (sym pushed)
    (none_behind_added args.id args.expires args.job args.arg base c.requires.expires_in_time
    (subst (λ b. b.plain.clock < 2 ^ 47) (sym c.self.view_is) c.requires.clock_in_time)
    (subst (λ b. NoneBehind b.plain) (sym c.self.view_is) c.requires.none_behind))
