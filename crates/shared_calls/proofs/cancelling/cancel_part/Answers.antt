use Rattle.std.proofs.Common.{refl, sym, ap, ◌∙◌, subst}
use Rattle.std.specs.Prelude.{is_some, not}
use Rattle.std.proofs.lemmas.Result.{err_from_is_err_and}
use Rattle.cpu_bases.specs.CpuBases.{CpuBases, class_in}
use Rattle.cpu_bases.specs.Laws.{CallKeeps}
use Rattle.shared_table.specs.shared_rule.declared.parts.BoxView.{BoxView}
use Rattle.shared_table.specs.shared_rule.Parts.{HeldPart, with_guest, without_guest}
use Rattle.shared_table.specs.shared_rule.Passes.{HeldPass, passes_of}
use Rattle.shared_timers.specs.Queueing.{MayCancel, cancelled_part}
use Rattle.shared_looks.specs.Rooms.{with_more_room}
use Rattle.shared_calls.proofs.Free.{free_as}
use Rattle.shared_calls.proofs.Taking.{class_found, class_gone, free_after, may_cancel, taken_out}
use Rattle.shared_calls.proofs.cancelling.cancel_part.Goals as goal

pub cancel_with-requires-clause-run : goal.cancel_with-requires-clause-run
cancel_with-requires-clause-run g c = (
  c.requires.run.0,
  ap (λ (z : HeldPass). z.seated) c.in_ok-take_room.ensures.pass ∙ c.requires.run.1,
)

pub cancel_with-requires-clause-may : goal.cancel_with-requires-clause-may
cancel_with-requires-clause-may g c =
    let o = g.N.RunName.opening in
    let part = c.args.part.now in
    let run = c.requires.run in
    let timer = c.args.timer in
    let found = c.where_is.ensures ∙ ap (λ (z : CpuBases). class_in timer.0 z) c.bases.ensures.plain in
    let class = class_found (class_in timer.0 part.box.own.bases)
    (ap is_some (sym found) ∙ (c.is_none.ensures ∙ ap not c.if-is_none.false)) in
    subst (λ (q : HeldPart). MayCancel o (with_guest q c.take_room.new.pass) timer)
    (sym c.in_ok-take_room.ensures.ok)
    (subst (λ (h : HeldPass). MayCancel o (with_guest (with_more_room 0 1 part) h) timer)
    (sym c.in_ok-take_room.ensures.pass)
    (may_cancel g.N.RunName.table o part c.args.pass.now run.0 timer class.0 run.1
    c.law.ensures.opening c.law.ensures.fits c.requires.free c.requires.timer class.1))

pub returns-clause-done : goal.returns-clause-done
returns-clause-done g c =
    let part = c.args.part.now in
    let timer = c.args.timer in
    let found = c.where_is.ensures ∙ ap (λ (z : CpuBases). class_in timer.0 z) c.bases.ensures.plain in
    let class = class_found (class_in timer.0 part.box.own.bases)
    (ap is_some (sym found) ∙ (c.is_none.ensures ∙ ap not c.if-is_none.false)) in
    taken_out g.N.RunName.table timer.0 c.args.line part c.take_room.new.part c.args.pass.now
    c.take_room.new.pass c.cancel_with.new.pass class.0 class.1 c.in_ok-take_room.ensures.ok
    c.in_ok-take_room.ensures.pass c.cancel_with.ensures.agree c.cancel_with.ensures.pass

pub cancel_with-requires-clause-alone : goal.cancel_with-requires-clause-alone
cancel_with-requires-clause-alone g c = c.take_room.ensures.brought ∙ c.requires.free.alone

pub cancel_with-requires-clause-now : goal.cancel_with-requires-clause-now
cancel_with-requires-clause-now g c = c.requires.now

pub returns-clause-part : goal.returns-clause-part
returns-clause-part g c =
    record {
      cpu_is = refl;
      opening = c.law.ensures.opening;
      fits = c.law.ensures.fits;
    }

pub returns-clause-free : goal.returns-clause-free
returns-clause-free g c =
    let part = c.args.part.now in
    let new = c.cancel_with.new.part in
    let room = c.in_ok-take_room.ensures in
    let roomy = c.take_room.new.pass in
    free_after c.args.now c.args.timer.0 c.args.line part roomy c.requires.run.0 new
    (ap (λ (z : HeldPass). passes_of z.seated) room.pass ∙ ap passes_of c.requires.run.1)
    c.requires.free
    (c.cancel_with.ensures.part
    ∙ ap (λ (q : HeldPart). without_guest
    (cancelled_part c.args.timer.0 c.args.line (with_guest q roomy))) room.ok)
    (subst (λ (b : BoxView). CallKeeps c.args.now b.own.bases new.box.own.bases)
    c.take_room.ensures.kept c.cancel_with.ensures.keeps)

pub returns-then-is_none-clause-free : goal.returns-then-is_none-clause-free
returns-then-is_none-clause-free g c = c.requires.free

pub returns-then-is_none-clause-part : goal.returns-then-is_none-clause-part
returns-then-is_none-clause-part g c =
    record {
      cpu_is = refl;
      opening = c.law.ensures.opening;
      fits = c.law.ensures.fits;
    }

pub returns-then-is_none-clause-done : goal.returns-then-is_none-clause-done
returns-then-is_none-clause-done g c =
    let timer = c.args.timer in
    let found = c.where_is.ensures ∙ ap (λ (z : CpuBases). class_in timer.0 z) c.bases.ensures.plain in (
      class_gone (class_in timer.0 c.args.part.now.box.own.bases)
          (ap is_some (sym found) ∙ (c.is_none.ensures ∙ ap not c.if-is_none.true)),
      refl,
    )

pub returns-in_err-take_room-clause-part : goal.returns-in_err-take_room-clause-part
returns-in_err-take_room-clause-part g c =
    record {
      cpu_is = refl;
      opening = c.law.ensures.opening;
      fits = c.law.ensures.fits;
    }

pub returns-in_err-take_room-clause-free : goal.returns-in_err-take_room-clause-free
returns-in_err-take_room-clause-free g c =
    free_as c.args.part.now c.take_room.new.part c.take_room.ensures.kept
    (c.take_room.ensures.brought ∙ c.requires.free.alone) c.requires.free

pub returns-in_err-take_room-clause-done : goal.returns-in_err-take_room-clause-done
returns-in_err-take_room-clause-done g c =
    let p = err_from_is_err_and c.from_residual.result c.from_residual.ensures.1 in
    rw p.1 c.in_err-take_room.ensures.err
