use Rattle.std.proofs.Common.{◌≡◌, ◌∙◌, ap, arith, rules}
use Rattle.std.specs.Prelude.{replicate}
use Rattle.std.proofs.lemmas.Result.{err_from_is_err_and}
use Rattle.delayed_work.specs.declared.standing.Standing.TheVariants.{Free}
use Rattle.delayed_work.specs.Ledger.{RoomyStories}
use Rattle.delayed_work.proofs.Making.{kept_new}
use Rattle.delayed_work.proofs.ledger.Ledger.new.Goals as goal

pub returns-in_err-ready : goal.returns-in_err-ready
returns-in_err-ready c =
    let p = err_from_is_err_and c.from_residual.result c.from_residual.ensures.1 in rw p.1 tt

pub returns-in_err-grow : goal.returns-in_err-grow
returns-in_err-grow c =
    let left = c.from_residual-in_err-grow in
    let p = err_from_is_err_and left.result left.ensures.1 in rw p.1 tt

pub returns-in_err-resize : goal.returns-in_err-resize
returns-in_err-resize c =
    let left = c.from_residual-in_err-resize in
    let p = err_from_is_err_and left.result left.ensures.1 in rw p.1 tt

pub invariant_of-result : goal.invariant_of-result
invariant_of-result c =
    let ready = c.in_ok-ready.ensures in
    let grown = c.in_ok-grow.ensures in
    let all : c.resize.new.self.items ≡ replicate c.args.count Free = search rules in
    kept_new c.args.count _ _ _ all (grown.number ∙ ready.number_is)
    (grown.lists 0 (omega (arith, ready.number_is)) ∙ ready.empty 0 (omega arith))
    (omega (arith, grown.ok, c.from.ensures))
    (ap (λ (s : RoomyStories). s.entries) c.new-2.ensures) c.requires
