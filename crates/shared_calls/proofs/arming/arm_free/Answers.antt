use Rattle.std.proofs.Common.{sym, ap, ◌∙◌, subst}
use Rattle.std.specs.Prelude.{MatchResult}
use Rattle.shared_table.specs.shared_rule.Parts.{HeldPart, with_guest}
use Rattle.shared_table.specs.shared_rule.Passes.{HeldPass, passes_of}
use Rattle.shared_timers.specs.Queueing.{ArmedWith, FoundWith, MayArm}
use Rattle.shared_calls.specs.Arms.{with_entry_room}
use Rattle.shared_calls.proofs.Free.{done_after, free_after, free_as, may_arm}
use Rattle.shared_calls.proofs.arming.arm_free.Goals as goal

pub arm_with-requires-clause-run : goal.arm_with-requires-clause-run
arm_with-requires-clause-run g c = (
  c.requires.run.0,
  ap (λ (z : HeldPass). z.seated) c.in-Ok.ensures.pass ∙ c.requires.run.1,
)

pub arm_with-requires-clause-alone : goal.arm_with-requires-clause-alone
arm_with-requires-clause-alone g c = c.take_room.ensures.brought ∙ c.requires.free.alone

pub arm_with-requires-clause-may : goal.arm_with-requires-clause-may
arm_with-requires-clause-may g c =
    let o = g.N.RunName.opening in
    let part = c.args.part.now in
    subst (λ (q : HeldPart). MayArm o (with_guest q c.take_room.new.pass) c.args.arming)
    (sym c.in-Ok.ensures.ok)
    (subst (λ (h : HeldPass). MayArm o (with_guest (with_entry_room part) h) c.args.arming)
    (sym c.in-Ok.ensures.pass)
    (may_arm g.N.RunName.table o part c.args.pass.now c.args.arming c.requires.may))

pub returns-in-Ok-clause-free : goal.returns-in-Ok-clause-free
returns-in-Ok-clause-free g c =
    let table = g.N.RunName.table in
    let o = g.N.RunName.opening in
    let part = c.args.part.now in
    let a = c.args.arming in
    free_after table o c.args.now a part c.take_room.new.pass c.requires.run.0 c.arm_with.new.part
    c.arm_with.new.pass c.arm_with.result
    (ap (λ (z : HeldPass). passes_of z.seated) c.in-Ok.ensures.pass
    ∙ ap passes_of c.requires.run.1) c.requires.free
    (subst (λ (q : HeldPart). MatchResult c.arm_with.result
    (ArmedWith table c.args.now a q c.take_room.new.pass c.arm_with.new.part c.arm_with.new.pass)
    (FoundWith table o a.timer.0 q c.take_room.new.pass c.arm_with.new.part c.arm_with.new.pass))
    c.in-Ok.ensures.ok c.arm_with.ensures)

pub returns-in-Ok-clause-done : goal.returns-in-Ok-clause-done
returns-in-Ok-clause-done g c =
    let table = g.N.RunName.table in
    let o = g.N.RunName.opening in
    let part = c.args.part.now in
    let a = c.args.arming in
    done_after table o c.args.now a part c.args.pass.now c.arm_with.new.part c.arm_with.new.pass
    c.arm_with.result
    (subst (λ (h : HeldPass). MatchResult c.arm_with.result
    (ArmedWith table c.args.now a (with_entry_room part) h c.arm_with.new.part c.arm_with.new.pass)
    (FoundWith table o a.timer.0 (with_entry_room part) h c.arm_with.new.part
    c.arm_with.new.pass)) c.in-Ok.ensures.pass
    (subst (λ (q : HeldPart). MatchResult c.arm_with.result
    (ArmedWith table c.args.now a q c.take_room.new.pass c.arm_with.new.part c.arm_with.new.pass)
    (FoundWith table o a.timer.0 q c.take_room.new.pass c.arm_with.new.part c.arm_with.new.pass))
    c.in-Ok.ensures.ok c.arm_with.ensures))

pub returns-in-Err-clause-free : goal.returns-in-Err-clause-free
returns-in-Err-clause-free g c =
    free_as c.args.part.now c.take_room.new.part c.take_room.ensures.kept
    (c.take_room.ensures.brought ∙ c.requires.free.alone) c.requires.free

pub arm_with-requires-clause-now : goal.arm_with-requires-clause-now
arm_with-requires-clause-now g c = c.requires.now

pub returns-in-Err-clause-done : goal.returns-in-Err-clause-done
returns-in-Err-clause-done g c = c.in-Err.ensures.err
