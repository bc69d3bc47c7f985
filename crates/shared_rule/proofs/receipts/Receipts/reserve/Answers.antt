use Rattle.std.proofs.Common.{ap, ◌∙◌}
use Rattle.std.proofs.lemmas.Result.{err_from_is_err_and}
use Rattle.shared_rule.specs.Receipts.{RoomyReceipts}
use Rattle.shared_rule.proofs.receipts.Receipts.reserve.Goals as goal

pub returns-in_err-reserve-clause-receipts : goal.returns-in_err-reserve-clause-receipts
returns-in_err-reserve-clause-receipts c =
    c.reserve.ensures.items ∙ ap (λ (z : RoomyReceipts). z.receipts) c.self.view_is

pub returns-in_err-reserve-clause-ok : goal.returns-in_err-reserve-clause-ok
returns-in_err-reserve-clause-ok c =
    let p = err_from_is_err_and c.from_residual.result c.from_residual.ensures.1 in rw p.1 tt

pub returns-clause-receipts : goal.returns-clause-receipts
returns-clause-receipts c =
    c.reserve.ensures.items ∙ ap (λ (z : RoomyReceipts). z.receipts) c.self.view_is
