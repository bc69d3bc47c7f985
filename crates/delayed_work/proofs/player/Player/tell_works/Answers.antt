use Rattle.std.proofs.Common.{◌≡◌, ◌-◌, ap, arith, length, ◌∙◌, ◌++◌}
use Rattle.std.proofs.lemmas.Result.{err_from_is_err_and}
use Rattle.delayed_work.specs.Lines.{left_work_line}
use Rattle.delayed_work.specs.Play.{Playing, left_lines}
use Rattle.delayed_work.specs.Works.{WorksState}
use Rattle.delayed_work.proofs.Rows.{left_end, left_more}
use Rattle.delayed_work.proofs.player.Player.tell_works.Goals as goal

pub loop-work-init : goal.loop-work-init
loop-work-init g c =
    let whole : c.args.count - 0 ≡ c.args.count = omega arith in
    record {
      rest =
          rw whole (ap (λ (p : Playing). p.text ++ left_lines c.args.count 0 p.works)
          c.self.view_is);
      works = ap (λ (p : Playing). p.works) c.self.view_is;
    }

pub left-left-requires : goal.left-left-requires
left-left-requires g c =
    let same =
    ap (λ (w : WorksState). length w.ledger.standings) c.loop-work.invariant.works in
    omega (arith, same, c.requires, c.loop-work-test.true)

pub returns-in_err-tell_left-clause-text : goal.returns-in_err-tell_left-clause-text
returns-in_err-tell_left-clause-text g c =
    let p = err_from_is_err_and c.from_residual.result c.from_residual.ensures.1 in rw p.1 tt

pub returns-in_err-tell_left-clause-works : goal.returns-in_err-tell_left-clause-works
returns-in_err-tell_left-clause-works g c = c.loop-work.invariant.works

pub loop-work-preserved : goal.loop-work-preserved
loop-work-preserved g c = record {
  rest =
      left_more c.args.count c.loop-work.work c.loop-work.self-inside.text.items _ _ c.loop-work.self-inside.works c.loop-work.invariant.rest c.loop-work-test.true
      (c.in_ok-tell_left.ensures ∙ ap (λ o. c.loop-work.self-inside.text.items ++ left_work_line c.loop-work.work o) c.left-left.ensures);
  works = c.loop-work.invariant.works;
}

pub returns-clause-text : goal.returns-clause-text
returns-clause-text g c =
    left_end c.args.count _ _ _ _ c.loop-work.invariant.rest c.loop-work-test.false

pub returns-clause-works : goal.returns-clause-works
returns-clause-works g c = c.loop-work.invariant.works
