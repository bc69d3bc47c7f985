use Rattle.std.proofs.Common.{[], refl, subst, sym}
use Rattle.shared_table.specs.shared_rule.Passes.{HeldPass}
use Rattle.shared_looks.proofs.Looks.{no_loads, still_of}
use Rattle.shared_calls.specs.Cancels.{HasTriedCancel, IsCancelled, IsGone, IsNowhere}
use Rattle.shared_calls.proofs.Trying.{looks_on, short_more}
use Rattle.shared_calls.proofs.cancelling.cancel_named.Goals as goal

pub loop-preserved : goal.loop-preserved
loop-preserved g c =
    let o = g.N.RunName.opening in
    let was = c.loop.invariant in
    let one : IsGone o c.args.timer.0 c.loop.pass c.try_cancel.new.pass =
    subst (HasTriedCancel g.N.RunName.table o c.args.timer.0 c.args.line c.loop.pass
    c.try_cancel.new.pass) c.in-Ok-Gone.field-0-is c.in-Ok-Gone.ensures in (
      looks_on o c.args.timer.0 c.args.pass.now c.loop.pass c.try_cancel.new.pass was.0 one,
      still_of g.N.RunName.table o c.loop.pass c.try_cancel.new.pass one.look.word one.look.found
          was.1 one.pass_is,
    )

pub returns-in-Err : goal.returns-in-Err
returns-in-Err g c =
    let was = c.loop.invariant in (
      refl,
      short_more g.N.RunName.opening c.args.timer.0 c.args.pass.now c.loop.pass
          c.try_cancel.new.pass was.0 c.in-Err.ensures,
    )

pub try_cancel-requires-clause-run : goal.try_cancel-requires-clause-run
try_cancel-requires-clause-run g c = c.loop.invariant.1

pub try_cancel-requires-clause-now : goal.try_cancel-requires-clause-now
try_cancel-requires-clause-now g c = c.requires.now

pub try_cancel-requires-clause-timer : goal.try_cancel-requires-clause-timer
try_cancel-requires-clause-timer g c = c.requires.timer

pub loop-init : goal.loop-init
loop-init g c = (
  record {
    looks = [];
    each = tt;
    pass_is = sym (no_loads c.args.pass.now);
  },
  c.requires.run,
)

pub returns-in-Ok-Nowhere : goal.returns-in-Ok-Nowhere
returns-in-Ok-Nowhere g c =
    let o = g.N.RunName.opening in
    let was = c.loop.invariant.0 in
    let after = c.try_cancel.new.pass in
    let last : IsNowhere o c.args.timer.0 c.loop.pass after =
    subst (HasTriedCancel g.N.RunName.table o c.args.timer.0 c.args.line c.loop.pass after)
    c.in-Ok-Nowhere.field-0-is c.in-Ok-Nowhere.ensures in
    record {
      looks = was.looks;
      each = was.each;
      ends = subst (λ (h : HeldPass). IsNowhere o c.args.timer.0 h after) was.pass_is last;
    }

pub returns-in-Ok-Cancelled : goal.returns-in-Ok-Cancelled
returns-in-Ok-Cancelled g c =
    let table = g.N.RunName.table in
    let o = g.N.RunName.opening in
    let was = c.loop.invariant.0 in
    let after = c.try_cancel.new.pass in
    let cpu = c.in-Ok-Cancelled.cpu in
    let last : IsCancelled table o c.args.timer.0 c.args.line c.loop.pass after cpu =
    subst (HasTriedCancel table o c.args.timer.0 c.args.line c.loop.pass after)
    c.in-Ok-Cancelled.field-0-is c.in-Ok-Cancelled.ensures in
    record {
      looks = was.looks;
      each = was.each;
      ends = subst (λ (h : HeldPass). IsCancelled table o c.args.timer.0 c.args.line h after cpu)
          was.pass_is last;
    }
