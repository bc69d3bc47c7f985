use Rattle.std.proofs.Common.{◌≡◌, ◌<◌, List, [], ◌∷◌, ◌++◌, None, ap, append-nil, arith, length}
use Rattle.std.proofs.Common.{map, sym, ◌∙◌, ⊎_elim}
use Rattle.std.specs.Option.{option_copied}
use Rattle.std.specs.Prelude.{slice_get}
use Rattle.std.proofs.lemmas.List.{take_all}
use Rattle.std.proofs.lemmas.Option.{none-some, slice_get_cases}
use Rattle.std.proofs.lemmas.Result.{err_from_is_err_and}
use Rattle.tm_report.specs.declared.lines.Line.{Line}
use Rattle.shared_acts.specs.declared.runs.Ran.{Ran}
use Rattle.run_shares.specs.Lines.{ran_line}
use Rattle.run_shares.proofs.Running.{one_line}
use Rattle.run_shares.proofs.runs.tell_runs.Goals as goal

pub loop-i-preserved : goal.loop-i-preserved
loop-i-preserved c =
    one_line c.args.now c.args.runner c.args.runs.now.runs c.loop-i.i c.in-Some.ran.now
    c.args.lines.now.items c.loop-i.lines.items c.push.new.self.items (sym c.in-Some.ensures)
    c.loop-i.invariant
    (c.in_ok-push.ensures.items
    ∙ ap (λ (l : Line). c.loop-i.lines.items ++ l ∷ []) c.ran_line.ensures)

pub loop-i-init : goal.loop-i-init
loop-i-init c = sym (append-nil c.args.lines.now.items)

pub returns-in_err-push : goal.returns-in_err-push
returns-in_err-push c =
    let p = err_from_is_err_and c.from_residual.result c.from_residual.ensures.1 in rw p.1 tt

pub loop-i-smaller : goal.loop-i-smaller
loop-i-smaller c = omega (arith, c.loop-i-test.true)

pub returns : goal.returns
returns c =
    let runs = c.args.runs.now.runs in
    c.loop-i.invariant
    ∙ ap (λ (xs : List Ran). c.args.lines.now.items ++ map (ran_line c.args.now c.args.runner) xs)
    (take_all c.loop-i.i runs (omega (arith, c.loop-i-test.false, c.len-i-end.ensures)))

pub unreachable-requires : goal.unreachable-requires
unreachable-requires c =
    let runs = c.args.runs.now.runs in
    let i = c.loop-i.i in
    let none : slice_get runs i ≡ None = sym c.get.ensures ∙ ap option_copied c.in_default.is in
    let low : i < length runs = omega (arith, c.loop-i-test.true, c.len-i-end.ensures) in
    ⊎_elim (λ here. absurd (none-some here.0 (sym none ∙ here.2)))
    (λ past. absurd (omega (arith, past.0, low))) (slice_get_cases runs i).1
