use Rattle.std.proofs.Common.{◌≡◌, ap, arith, length, subst, sym, ◌∙◌}
use Rattle.std.specs.Prelude.{◌+◌, max}
use Rattle.std.proofs.lemmas.Result.{on_err_weaker, on_ok_weaker}
use Rattle.shared_rule.specs.Receipts.{RoomyReceipts}
use Rattle.shared_rule.specs.Passes.{HeldPass, PassHolds, receipts_of, seat_in, with_receipts_room}
use Rattle.shared_rule.proofs.Seated.{held_pass, receipts_there, shown_seat}
use Rattle.shared_rule.proofs.pass.Pass.reserve.Goals as goal

pub invariant_of-self : goal.invariant_of-self
invariant_of-self c =
    let pass = c.self.inside in
    subst (PassHolds (shown_seat pass.seat) pass.cpu.0 pass.walks) (sym c.reserve.ensures.receipts)
    c.self.invariant

pub returns-clause-enough : goal.returns-clause-enough
returns-clause-enough c room =
    let pass = c.self.inside in
    let there = receipts_there pass.seat pass.cpu.0 pass.walks pass.receipts.receipts
    c.self.invariant in
    let same = ap length
    (sym there ∙ ap (λ (z : HeldPass). receipts_of z.seated) c.self.view_is) in
    let room_is = ap (λ (z : HeldPass). z.room) c.self.view_is in
    c.reserve.ensures.enough (omega (arith, room, same, room_is))

pub returns-clause-ok : goal.returns-clause-ok
returns-clause-ok c =
    let pass = c.self.inside in
    let there = receipts_there pass.seat pass.cpu.0 pass.walks pass.receipts.receipts
    c.self.invariant in
    on_ok_weaker c.reserve.result
    (λ (is : c.reserve.new.self.capacity
    ≡ max pass.receipts.capacity (length pass.receipts.receipts + c.args.n)). ap (λ r. held_pass pass.cpu.0 r (seat_in (shown_seat pass.seat)))
    (is ∙ ap (λ xs. max pass.receipts.capacity (length xs + c.args.n)) (sym there))
    ∙ ap (with_receipts_room c.args.n) c.self.view_is) c.reserve.ensures.ok

pub returns-clause-err : goal.returns-clause-err
returns-clause-err c =
    let pass = c.self.inside in
    on_err_weaker c.reserve.result
    (λ (is : c.reserve.new.self ≡ pass.receipts). ap (λ (r : RoomyReceipts). held_pass pass.cpu.0 r.capacity
    (seat_in (shown_seat pass.seat))) is ∙ c.self.view_is) c.reserve.ensures.err
