use Rattle.std.proofs.Common.{sym, ap, ◌∙◌, subst}
use Rattle.std.specs.Prelude.{MatchResult}
use Rattle.shared_table.specs.shared_rule.Parts.{HeldPart, without_guest}
use Rattle.shared_calls.specs.Arms.{HasArmed, MetBy, NotArmed}
use Rattle.shared_calls.proofs.arming.arm_in.Goals as goal

pub arm_part-requires-clause-own : goal.arm_part-requires-clause-own
arm_part-requires-clause-own g c =
    c.requires.own ∙ sym (ap (λ (z : HeldPart). z.box.cpu) c.cpu_box.view_is)

pub arm_part-requires-clause-free : goal.arm_part-requires-clause-free
arm_part-requires-clause-free g c = c.cpu_box.invariant

pub invariant_of-cpu_box : goal.invariant_of-cpu_box
invariant_of-cpu_box g c = c.arm_part.ensures.free

pub returns-clause-met : goal.returns-clause-met
returns-clause-met g c =
    subst (λ (z : HeldPart). MetBy g.N.RunName.table (without_guest z) c.args.pass.now)
    c.cpu_box.view_is c.arm_part.ensures.met

pub returns-clause-done : goal.returns-clause-done
returns-clause-done g c =
    let table = g.N.RunName.table in
    let held = c.args.pass.now in
    let after = c.arm_part.new.pass in
    subst (λ (z : HeldPart). MatchResult c.arm_part.result
    (HasArmed table c.args.now c.args.arming (without_guest z) held after)
    (NotArmed table g.N.RunName.opening c.args.arming.timer.0 (without_guest z) held after))
    c.cpu_box.view_is c.arm_part.ensures.done

pub arm_part-requires-clause-run : goal.arm_part-requires-clause-run
arm_part-requires-clause-run g c = c.requires.run

pub arm_part-requires-clause-now : goal.arm_part-requires-clause-now
arm_part-requires-clause-now g c = c.requires.now

pub arm_part-requires-clause-arming : goal.arm_part-requires-clause-arming
arm_part-requires-clause-arming g c = c.requires.arming
