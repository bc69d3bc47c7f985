use Rattle.std.proofs.Common.{sym, ap, ◌∙◌}
use Rattle.shared_rule.proofs.Seated.{seat_there}
use Rattle.shared_rule.proofs.pass.Pass.into_seat.Goals as goal

pub returns : goal.returns
returns c =
    let pass = c.self.inside in
    let there = seat_there pass.seat c.in-Some.seat pass.cpu.0 pass.walks pass.receipts.receipts
    c.in-Some.is c.self.invariant in
    (there.0, ap (λ z. z.seated) (sym c.self.view_is) ∙ there.1, there.2.alone)
