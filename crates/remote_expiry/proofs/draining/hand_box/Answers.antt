use Rattle.std.proofs.Common.{◌∙◌, ◌≤◌, [], ap, length, subst, sym}
use Rattle.std.proofs.lemmas.Result.{err_from_is_err_and}
use Rattle.cpu_bases.specs.CpuBases.{base_of}
use Rattle.walk_inactive.specs.shared_rule.declared.parts.BoxView.{BoxView}
use Rattle.walk_inactive.specs.shared_rule.Parts.{HeldPart}
use Rattle.walk_inactive.specs.shared_rule.Passes.{HeldPass}
use Rattle.walk_inactive.specs.shared_table.Readied.{HasNoneBehind}
use Rattle.shared_acts.specs.Handing.{HasHanded}
use Rattle.shared_acts.specs.Pieces.{Piece}
use Rattle.shared_acts.proofs.OwnDrains.{err_as, handed, may_run_own, room_alone}
use Rattle.remote_expiry.proofs.draining.hand_box.Goals as goal

pub returns-in_err-room_for-clause-done : goal.returns-in_err-room_for-clause-done
returns-in_err-room_for-clause-done g c =
    let table = g.N.RunName.table in
    let held = c.args.pass.now in
    let mid = c.room_for.new.pass in
    let e = err_from_is_err_and c.from_residual.result c.from_residual.ensures.1 in
    err_as c.from_residual.result
    (λ done. HasHanded table g.N.RunName.opening c.args.class held mid c.room_for.new.items.items
    c.room_for.new.runs.capacity c.args.runs.now.runs) (Piece table held mid [] [] 0) e.0 e.1
    (room_alone table g.N.RunName.opening held mid c.requires.inside
    (ap (λ (z : HeldPass). z.seated) c.room_for.ensures.pass)
    (ap (λ (z : HeldPass). z.cpu) c.room_for.ensures.pass))

pub hand_all-requires-clause-run : goal.hand_all-requires-clause-run
hand_all-requires-clause-run g c = (
  c.requires.inside.pass,
  ap (λ (z : HeldPass). z.seated) c.room_for.ensures.pass ∙ c.requires.inside.seated,
)

pub hand_all-requires-clause-may : goal.hand_all-requires-clause-may
hand_all-requires-clause-may g c p is agree =
    let table = g.N.RunName.table in
    may_run_own table g.N.RunName.opening c.args.pass.now c.room_for.new.pass
    c.room_for.new.part.box c.args.class p c.requires.inside
    (ap (λ (z : HeldPass). z.seated) c.room_for.ensures.pass)
    (c.law.ensures table)
    (c.requires.own ∙ ap (λ (z : HeldPart). z.box.cpu) (sym c.cpu_box.view_is)
    ∙ ap (λ (b : BoxView). b.cpu) (sym c.room_for.ensures.part)) is agree

pub returns-clause-done : goal.returns-clause-done
returns-clause-done g c =
    let all = c.hand_all.ensures in
    let queued = length (base_of c.args.class c.cpu_box.inside.part.box.own.bases).items in
    handed g.N.RunName.table g.N.RunName.opening c.args.class c.args.pass.now c.room_for.new.pass
    c.hand_all.new.pass c.room_for.new.part.box.cpu c.hand_all.new.items.items queued
    c.room_for.new.runs.capacity c.args.runs.now.runs
    (ap (λ (z : HeldPass). z.seated) c.room_for.ensures.pass)
    (ap (λ (z : HeldPass). z.cpu) c.room_for.ensures.pass)
    (ap (λ (b : BoxView). b.cpu) c.room_for.ensures.part
    ∙ ap (λ (z : HeldPart). z.box.cpu) c.cpu_box.view_is ∙ sym c.requires.own) all.pass all.timers
    (subst (λ (b : BoxView). length c.hand_all.new.items.items
    ≤ length (base_of c.args.class b.own.bases).items) c.room_for.ensures.part all.fewer)
    c.in_ok-room_for.ensures.told

pub hand_all-requires-clause-alone : goal.hand_all-requires-clause-alone
hand_all-requires-clause-alone g c = c.room_for.ensures.brought ∙ c.cpu_box.invariant.alone

pub hand_all-requires-clause-free : goal.hand_all-requires-clause-free
hand_all-requires-clause-free g c =
    ap (λ (b : BoxView). b.own.walk) c.room_for.ensures.part ∙ c.cpu_box.invariant.walkless

pub hand_all-requires-clause-now : goal.hand_all-requires-clause-now
hand_all-requires-clause-now g c = c.requires.now

pub hand_all-requires-clause-room : goal.hand_all-requires-clause-room
hand_all-requires-clause-room g c = c.in_ok-room_for.ensures.ok

pub hand_all-requires-clause-none : goal.hand_all-requires-clause-none
hand_all-requires-clause-none g c = c.room_for.ensures.items ∙ c.requires.none

pub invariant_of-cpu_box : goal.invariant_of-cpu_box
invariant_of-cpu_box g c =
    let free = c.cpu_box.invariant in
    let box = c.room_for.ensures.part in
    record {
      walkless = ap (λ (b : BoxView). b.own.walk) box ∙ free.walkless;
      alone = c.room_for.ensures.brought ∙ free.alone;
      whole = subst (λ (b : BoxView). HasNoneBehind b.own.bases) (sym box) free.whole;
    }
