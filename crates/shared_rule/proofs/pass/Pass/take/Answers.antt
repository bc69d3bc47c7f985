use Rattle.std.proofs.Common.{sym, ap, ◌∙◌}
use Rattle.shared_rule.proofs.Seated.{seat_there}
use Rattle.shared_rule.proofs.pass.Pass.take.Goals as goal

pub returns-clause-seat : goal.returns-clause-seat
returns-clause-seat c =
    let pass = c.self.inside in
    let there = seat_there pass.seat c.in-Some.seat pass.cpu.0 pass.walks pass.receipts.receipts
    (sym c.take-2.ensures.value ∙ c.in-Some.is) c.self.invariant in (
      there.0,
      ap (λ z. z.seated) (sym c.self.view_is) ∙ there.1,
      there.2.alone,
      record {
        cpu = there.2.cpu_is;
        walks = there.2.walks_are ∙ sym c.replace.ensures.value;
        receipts = there.2.receipts_are ∙ ap (λ z. z.receipts) (sym c.take.ensures.taken);
      },
    )
