use Rattle.std.proofs.Common.{◌≡◌, ◌-◌, [], refl, ◌∙◌, arith}
use Rattle.key_lists.specs.Tables.{list_of}
use Rattle.wheel_base.proofs.Stores.{empty_filed}
use Rattle.wheel_base.proofs.store.Store.with_room.Goals as goal

pub invariant_of-result : goal.invariant_of-result
invariant_of-result c =
    let armed = c.in_ok-armed.ensures in
    let buckets = c.in_ok-buckets.ensures in
    let names = c.in_ok-names.ensures in
    let grown = c.in_ok-grow.ensures in
    let grown_2 = c.in_ok-grow-2.ensures in
    let grown_3 = c.in_ok-grow-3.ensures in
    let capacity = c.capacity-room.ensures.value in
    empty_filed c.in_ok-items.items c.grow.new.self c.grow-2.new.self c.grow-3.new.self (c.max-lists.result - 1) c.in_ok-items.ensures.empty
    (grown.number ∙ armed.number_is) (grown_2.number ∙ buckets.number_is) (omega (arith, grown_3.number, names.number_is, c.max-lists.ensures))
    (grown.lists 0 (omega (arith, armed.number_is)) ∙ armed.empty 0 (omega arith))
    (λ b below. grown_2.lists b (omega (arith, buckets.number_is)) ∙ buckets.empty b below)
    (λ n below. grown_3.lists n (omega (arith, names.number_is, c.max-lists.ensures)) ∙ names.empty n (omega (arith, c.max-lists.ensures)))
    (omega (arith, grown.ok)) (omega (arith, grown_2.ok)) (omega (arith, grown_3.ok))

pub returns-clause-empty : goal.returns-clause-empty
returns-clause-empty c =
    let armed = c.in_ok-armed.ensures in
    let grown = c.in_ok-grow.ensures in
    let none : list_of c.grow.new.self 0 ≡ [] = grown.lists 0 (omega (arith, armed.number_is)) ∙ armed.empty 0 (omega arith) in
    rw none refl
