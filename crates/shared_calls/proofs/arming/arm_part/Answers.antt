use Rattle.std.proofs.Common.{refl, sym, ap, ◌∙◌, subst}
use Rattle.std.specs.Prelude.{MatchResult}
use Rattle.shared_table.specs.shared_rule.Parts.{HeldPart, without_guest}
use Rattle.shared_table.specs.shared_rule.Passes.{HeldPass, knowing}
use Rattle.shared_table.specs.Begun.{IsFree}
use Rattle.shared_calls.specs.Arms.{HasFailed, IsArmed}
use Rattle.shared_calls.proofs.Allowed.{by_pass, finish, may_arm_in, not_armed}
use Rattle.shared_table.proofs.shared_rule.Visits.{knows}
use Rattle.shared_calls.proofs.arming.arm_part.Goals as goal

pub arm_free-requires-clause-run : goal.arm_free-requires-clause-run
arm_free-requires-clause-run g c =
    let run = c.requires.run in
    let journal = c.args.part.now.box.own.bases.journal in (
      knowing journal run.0,
      ap (λ (z : HeldPass). z.seated) c.visit.ensures.pass
          ∙ knows c.args.part.now c.args.pass.now g.N.RunName.table run.0 run.1 journal,
    )

pub arm_free-requires-clause-free : goal.arm_free-requires-clause-free
arm_free-requires-clause-free g c =
    let free = c.requires.free in
    subst IsFree (sym c.visit.ensures.part)
    (record { walkless = free.walkless; alone = refl; whole = free.whole })

pub arm_free-requires-clause-may : goal.arm_free-requires-clause-may
arm_free-requires-clause-may g c =
    let run = c.requires.run in
    may_arm_in g.N.RunName.table g.N.RunName.opening c.args.part.now c.visit.new.part c.args.pass.now
    c.visit.new.pass run.0 c.args.arming c.state.result run.1 c.state.ensures c.visit.ensures.part
    c.visit.ensures.pass c.visit.ensures.opening c.visit.ensures.fits (c.visit.ensures.own run.0 run.1)
    c.requires.free c.requires.arming c.in-None.ensures

pub returns-in-Some-clause-free : goal.returns-in-Some-clause-free
returns-in-Some-clause-free g c =
    let free = c.requires.free in
    subst IsFree (sym c.visit.ensures.part)
    (record { walkless = free.walkless; alone = refl; whole = free.whole })

pub returns-in-Some-clause-met : goal.returns-in-Some-clause-met
returns-in-Some-clause-met g c = record {
  own = sym c.requires.own;
  fits = c.visit.ensures.fits;
  agree = c.visit.ensures.agree;
}

pub returns-in-Some-clause-done : goal.returns-in-Some-clause-done
returns-in-Some-clause-done g c =
    let part = c.args.part.now in
    let meets = c.visit.ensures in
    not_armed g.N.RunName.table g.N.RunName.opening c.args.arming.timer.0 (without_guest part)
    c.args.pass.now c.visit.new.pass c.in-Some.fault c.state.result c.in-Some.ensures
    (λ q there. by_pass part c.visit.new.part c.state.result q c.state.ensures meets.part meets.fits
    (meets.agree q there) (meets.own q there)) meets.pass

pub returns-in-None-clause-met : goal.returns-in-None-clause-met
returns-in-None-clause-met g c = record {
  own = sym c.requires.own;
  fits = c.visit.ensures.fits;
  agree = c.visit.ensures.agree;
}

pub returns-in-None-clause-done : goal.returns-in-None-clause-done
returns-in-None-clause-done g c =
    let table = g.N.RunName.table in
    let o = g.N.RunName.opening in
    let part = c.args.part.now in
    let meets = c.visit.ensures in
    let a = c.args.arming in
    let run = c.requires.run in
    let result = c.arm_free.result in
    let after = c.arm_free.new.pass in
    finish table o c.args.now a (without_guest part) c.args.pass.now after result
    (λ q there. sym (by_pass part c.visit.new.part c.state.result q c.state.ensures meets.part
    meets.fits (meets.agree q there) (meets.own q there)) ∙ sym c.in-None.ensures) run.0 run.1
    (subst (λ (h : HeldPass). MatchResult result
    (IsArmed table c.args.now a (without_guest part) h after)
    (HasFailed table o a.timer.0 (without_guest part) h after)) meets.pass
    (subst (λ (q : HeldPart). MatchResult result (IsArmed table c.args.now a q c.visit.new.pass after)
    (HasFailed table o a.timer.0 q c.visit.new.pass after)) meets.part c.arm_free.ensures.done))

pub visit-requires-clause-run : goal.visit-requires-clause-run
visit-requires-clause-run g c = c.requires.run

pub visit-requires-clause-own : goal.visit-requires-clause-own
visit-requires-clause-own g c = c.requires.own

pub visit-requires-clause-alone : goal.visit-requires-clause-alone
visit-requires-clause-alone g c = c.requires.free.alone

pub arm_free-requires-clause-now : goal.arm_free-requires-clause-now
arm_free-requires-clause-now g c = c.requires.now

pub returns-in-None-clause-free : goal.returns-in-None-clause-free
returns-in-None-clause-free g c = c.arm_free.ensures.free
