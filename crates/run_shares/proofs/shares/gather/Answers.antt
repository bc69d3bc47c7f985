use Rattle.std.proofs.Common.{List, ap, append-nil, arith, length, refl, subst, sym, ◌∙◌}
use Rattle.std.specs.Prelude.{IsOk}
use Rattle.std.proofs.lemmas.List.{nil_from_length}
use Rattle.std.proofs.lemmas.Result.{err_from_is_err_and}
use Rattle.run_shares.specs.Progress.{GatheredSoFar}
use Rattle.run_shares.specs.declared.shares.Share.{Share}
use Rattle.run_shares.proofs.Moving.{gathered_one}
use Rattle.run_shares.proofs.shares.gather.Goals as goal

pub loop-share-init : goal.loop-share-init
loop-share-init c =
    rw (
      c.into_iter-share-iterator.ensures.into_iter_gives.0,
      c.in_ok-passes.ensures.items,
      c.new-lines.ensures.items,
    ) (record {
      passes_are = refl;
      lines_are = refl;
      ended = λ ended. ended;
    })

pub returns-in_err-passes : goal.returns-in_err-passes
returns-in_err-passes c =
    let p = err_from_is_err_and c.from_residual.result c.from_residual.ensures.1 in rw p.1 tt

pub loop-share-preserved : goal.loop-share-preserved
loop-share-preserved c =
    gathered_one c.args.shares.items c.loop-share.share-iterator.rest.items
    c.next.new.self.rest.items c.loop-share.passes.items c.push.new.self.items
    c.loop-share.lines.items c.append.new.self.items c.in-Some.share c.in-Some.ensures.steps.0
    c.in_ok-push.ensures.items c.in_ok-append.ensures.items
    (subst IsOk (sym c.in_ok-ended.was) refl) c.loop-share.invariant

pub returns : goal.returns
returns c =
    let rest = c.loop-share.share-iterator.rest in
    let none = nil_from_length rest.items (sym rest.ok.0 ∙ c.in-None.ensures.steps.0) in
    let passes = c.loop-share.passes.items in
    let lines = c.loop-share.lines.items in
    let so_far = subst (λ (xs : List Share). GatheredSoFar c.args.shares.items xs passes lines) none
    c.loop-share.invariant in
    record {
      passes_are = sym (append-nil passes) ∙ so_far.passes_are;
      lines_are = sym (append-nil lines) ∙ so_far.lines_are;
      ended = so_far.ended tt;
    }

pub returns-in_err-ended : goal.returns-in_err-ended
returns-in_err-ended c =
    let left = c.from_residual-in_err-ended in
    let p = err_from_is_err_and left.result left.ensures.1 in rw p.1 tt

pub returns-in_err-push : goal.returns-in_err-push
returns-in_err-push c =
    let left = c.from_residual-in_err-push in
    let p = err_from_is_err_and left.result left.ensures.1 in rw p.1 tt

pub returns-in_err-append : goal.returns-in_err-append
returns-in_err-append c =
    let left = c.from_residual-in_err-append in
    let p = err_from_is_err_and left.result left.ensures.1 in rw p.1 tt

pub loop-share-smaller : goal.loop-share-smaller
loop-share-smaller c =
    let rest = c.loop-share.share-iterator.rest in
    let later = c.next.new.self.rest in
    let steps = ap length c.in-Some.ensures.steps.0 in
    omega (arith, rest.ok.0, later.ok.0, steps)
