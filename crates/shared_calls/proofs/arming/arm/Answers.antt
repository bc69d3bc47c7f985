use Rattle.std.proofs.Common.{◌+◌, ◌<◌, arith, length, sym, ap, ◌∙◌, subst}
use Rattle.std.specs.Prelude.{MatchResult}
use Rattle.tm_base.specs.declared.names.TheConstants.{TIME_LIMIT}
use Rattle.shared_table.specs.shared_rule.Parts.{HeldPart, without_guest}
use Rattle.shared_calls.specs.Arms.{HasArmed, NotArmed, timer_arming_of}
use Rattle.shared_calls.proofs.arming.arm.Goals as goal

pub arm_in-requires-clause-own : goal.arm_in-requires-clause-own
arm_in-requires-clause-own g c =
    sym c.cpu.ensures
    ∙ (sym c.lock-guard.ensures ∙ sym (ap (λ (z : HeldPart). z.box.cpu) c.deref_mut.ensures.value))

pub arm_in-requires-clause-arming : goal.arm_in-requires-clause-arming
arm_in-requires-clause-arming g c =
    let now = c.requires.now in
    record {
      known = c.requires.timer;
      to_come = omega (arith, now);
      in_time = subst (λ n. c.args.now + n < TIME_LIMIT) (sym c.from.ensures) c.requires.in_time;
    }

pub returns : goal.returns
returns g c =
    let table = g.N.RunName.table in
    let part = without_guest c.deref_mut.result.now in
    let held = c.args.pass.now in
    let after = c.arm_in.new.pass in (
      part,
      c.arm_in.ensures.met,
      subst (λ n. MatchResult c.arm_in.result
          (HasArmed table c.args.now
          (timer_arming_of c.args.timer c.args.class (c.args.now + n) c.args.job c.args.arg c.args.line) part
          held after)
          (NotArmed table g.N.RunName.opening c.args.timer.0 part held after)) c.from.ensures
          c.arm_in.ensures.done,
    )

pub lock-guard-requires : goal.lock-guard-requires
lock-guard-requires g c =
    subst (λ n. n < length g.N.RunName.opening.cpus) (sym c.cpu.ensures) c.requires.cpu

pub arm_in-requires-clause-run : goal.arm_in-requires-clause-run
arm_in-requires-clause-run g c = c.requires.run

pub arm_in-requires-clause-now : goal.arm_in-requires-clause-now
arm_in-requires-clause-now g c = c.requires.now
