use Rattle.std.proofs.Common.{subst, sym}
use Rattle.std.proofs.lemmas.Result.{err_from_is_err_and}
use Rattle.delayed_work.specs.Ledger.{LedgerState}
use Rattle.delayed_work.specs.Works.{AreLawfulWorks}
use Rattle.delayed_work.proofs.Making.{new_lawful}
use Rattle.delayed_work.proofs.works.Works.new.Goals as goal

pub returns-in_err-ledger : goal.returns-in_err-ledger
returns-in_err-ledger g c =
    let p = err_from_is_err_and c.from_residual.result c.from_residual.ensures.1 in rw p.1 tt

pub invariant_of-result : goal.invariant_of-result
invariant_of-result g c =
    subst (λ (l : LedgerState). AreLawfulWorks (record { bases = c.args.bases.plain; ledger = l; time = 0 }))
    (sym c.in_ok-ledger.ensures)
    (new_lawful c.args.bases.plain c.args.count c.journal-journal.ensures.consistent c.requires.empty
    c.requires.few)
