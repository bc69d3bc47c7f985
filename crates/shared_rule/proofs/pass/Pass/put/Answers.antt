use Rattle.std.proofs.Common.{sym, ap, ◌∙◌}
use Rattle.shared_rule.proofs.pass.Pass.put.Goals as goal

pub invariant_of-self : goal.invariant_of-self
invariant_of-self c =
    let part = c.requires.part in (
      part.0,
      record {
        alone = part.1;
        cpu_is = part.2.cpu ∙ (c.requires.cpu ∙ ap (λ z. z.cpu) (sym c.self.view_is));
        walks_are = part.2.walks;
        receipts_are = part.2.receipts;
      },
    )
