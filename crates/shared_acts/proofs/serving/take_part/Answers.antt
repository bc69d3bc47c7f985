use Rattle.std.proofs.Common.{[], sym, ap, ◌∙◌, subst}
use Rattle.std.proofs.lemmas.Result.{err_from_is_err_and}
use Rattle.tm_base.specs.declared.names.Class.TheVariants.{Global}
use Rattle.tree_plan.specs.Paths.{is_placed_in}
use Rattle.walk_rules.specs.Hierarchy.{HasGroup}
use Rattle.shared_timers.specs.shared_rule.declared.parts.BoxView.{BoxView}
use Rattle.shared_timers.specs.shared_rule.Parts.{HeldPart}
use Rattle.shared_timers.specs.shared_rule.Passes.{HeldPass}
use Rattle.shared_timers.specs.shared_rule.Plays.{PartFits}
use Rattle.shared_looks.specs.Marks.{IsTakable}
use Rattle.shared_acts.specs.Pieces.{HandsOutItems, Piece}
use Rattle.shared_acts.specs.Tries.{HasLeftAlone, HasMarked, TakesOrLeaves}
use Rattle.shared_acts.proofs.Closing.{free_with}
use Rattle.shared_acts.proofs.OwnDrains.{err_as, room_alone}
use Rattle.shared_acts.proofs.Served.{inside_of}
use Rattle.shared_acts.proofs.Taking.{left_there, looked_work, may_run_marked, not_takable}
use Rattle.shared_acts.proofs.Taking.{roomed_look, still_roomy, taken}
use Rattle.shared_acts.proofs.Trials.{noted}
use Rattle.shared_acts.proofs.serving.take_part.Goals as goal

pub returns-in_err-room_for-clause-done : goal.returns-in_err-room_for-clause-done
returns-in_err-room_for-clause-done g c =
    let table = g.N.RunName.table in
    let o = g.N.RunName.opening in
    let held = c.args.pass.now in
    let mid = c.room_for.new.pass in
    let e = err_from_is_err_and c.from_residual.result c.from_residual.ensures.1 in
    err_as c.from_residual.result
    (TakesOrLeaves table o c.args.part.now.box.cpu c.room_for.new.items.items held mid)
    (Piece table held mid [] [] 0) e.0 e.1
    (room_alone table o held mid (inside_of table o [] 1 held c.requires.at_work)
    (ap (λ (z : HeldPass). z.seated) c.room_for.ensures.pass)
    (ap (λ (z : HeldPass). z.cpu) c.room_for.ensures.pass))

pub may_take-requires-clause-run : goal.may_take-requires-clause-run
may_take-requires-clause-run g c = (
  c.requires.at_work.pass,
  ap (λ (z : HeldPass). z.seated) c.room_for.ensures.pass ∙ c.requires.at_work.seated,
)

pub returns-then-not-may_take-clause-done : goal.returns-then-not-may_take-clause-done
returns-then-not-may_take-clause-done g c =
    let table = g.N.RunName.table in
    let o = g.N.RunName.opening in
    let held = c.args.pass.now in
    let mid = c.room_for.new.pass in
    let seen = c.may_take.new.pass in
    let part : HeldPart = c.room_for.new.part in
    let w = c.requires.at_work in
    let same = ap (λ (z : HeldPass). z.seated) c.room_for.ensures.pass in
    let cpu = ap (λ (z : HeldPass). z.cpu) c.room_for.ensures.pass in
    let box = c.room_for.ensures.part in
    let is = same ∙ w.seated in
    let agree = c.may_take.ensures.agree w.pass is in
    let n = noted table part mid seen w.pass is agree c.may_take.ensures.seen in
    subst (λ (b : BoxView). HasLeftAlone table o b.cpu held seen) box
    (left_there table o part.box held mid seen w same cpu (c.law.ensures table w.pass w.seated)
    (subst PartFits (sym box) c.law-2.ensures.fits) agree
    (subst (λ (b : BoxView). HasGroup o.tree b.cpu) (sym box) c.requires.grouped)
    (not_takable part.box c.may_take.result c.if-not-may_take.true c.may_take.ensures.takable.1) n)

pub mark-requires-clause-at_work : goal.mark-requires-clause-at_work
mark-requires-clause-at_work g c =
    let table = g.N.RunName.table in
    let mid = c.room_for.new.pass in
    let seen = c.may_take.new.pass in
    let part : HeldPart = c.room_for.new.part in
    let w = c.requires.at_work in
    let same = ap (λ (z : HeldPass). z.seated) c.room_for.ensures.pass in
    let cpu = ap (λ (z : HeldPass). z.cpu) c.room_for.ensures.pass in
    let is = same ∙ w.seated in
    let n = noted table part mid seen w.pass is (c.may_take.ensures.agree w.pass is)
    c.may_take.ensures.seen in
    looked_work table g.N.RunName.opening [] part.box c.args.pass.now mid seen w same cpu n

pub mark-requires-clause-placed : goal.mark-requires-clause-placed
mark-requires-clause-placed g c =
    ap (is_placed_in g.N.RunName.opening.tree)
    (ap (λ (z : HeldPass). z.cpu) c.may_take.ensures.seen.pass_is
    ∙ ap (λ (z : HeldPass). z.cpu) c.room_for.ensures.pass) ∙ c.requires.placed

pub mark-requires-clause-free : goal.mark-requires-clause-free
mark-requires-clause-free g c =
    free_with c.may_take.new.part c.args.part.now.box
    (ap (λ (z : HeldPart). z.box) c.may_take.ensures.part ∙ c.room_for.ensures.part)
    (ap (λ (z : HeldPart). z.brought) c.may_take.ensures.part) c.requires.free.walkless
    c.requires.free.whole

pub mark-requires-clause-takable : goal.mark-requires-clause-takable
mark-requires-clause-takable g c =
    subst IsTakable (sym (ap (λ (z : HeldPart). z.box) c.may_take.ensures.part))
    (c.may_take.ensures.takable.0 c.if-not-may_take.false)

pub hand_all-requires-clause-run : goal.hand_all-requires-clause-run
hand_all-requires-clause-run g c = (c.mark.ensures.pass.later, c.mark.ensures.pass.has)

pub hand_all-requires-clause-alone : goal.hand_all-requires-clause-alone
hand_all-requires-clause-alone g c = c.mark.ensures.free.alone

pub hand_all-requires-clause-may : goal.hand_all-requires-clause-may
hand_all-requires-clause-may g c q has agree =
    let table = g.N.RunName.table in
    let mid = c.room_for.new.pass in
    let seen = c.may_take.new.pass in
    let part : HeldPart = c.room_for.new.part in
    let w = c.requires.at_work in
    let is = ap (λ (z : HeldPass). z.seated) c.room_for.ensures.pass ∙ w.seated in
    let n = noted table part mid seen w.pass is (c.may_take.ensures.agree w.pass is)
    c.may_take.ensures.seen in
    may_run_marked table part.box c.may_take.new.part.box.cpu mid seen c.mark.new.pass n
    c.mark.ensures.pass w.pass q c.mark.new.part.box is has
    (c.law.ensures table w.pass w.seated ∙ ap (λ (z : HeldPass). z.cpu) (sym c.room_for.ensures.pass))
    c.mark.ensures.mark

pub hand_all-requires-clause-room : goal.hand_all-requires-clause-room
hand_all-requires-clause-room g c =
    let table = g.N.RunName.table in
    let mid = c.room_for.new.pass in
    let seen = c.may_take.new.pass in
    let part : HeldPart = c.room_for.new.part in
    let w = c.requires.at_work in
    let is = ap (λ (z : HeldPass). z.seated) c.room_for.ensures.pass ∙ w.seated in
    let n = noted table part mid seen w.pass is (c.may_take.ensures.agree w.pass is)
    c.may_take.ensures.seen in
    still_roomy table part.box c.may_take.new.part.box.cpu mid seen c.mark.new.pass n
    c.mark.ensures.pass part c.mark.new.part _
    (c.mark.ensures.kept.bases ∙ ap (λ (z : HeldPart). z.box.own.bases) c.may_take.ensures.part)
    (c.mark.ensures.kept.room ∙ ap (λ (z : HeldPart). z.room) c.may_take.ensures.part)
    c.in_ok-room_for.ensures.ok

pub returns-clause-free : goal.returns-clause-free
returns-clause-free g c = record {
  walkless =
      ap (λ (z : HeldPart). z.box.own.walk) c.hand_all.ensures.part ∙ c.mark.ensures.free.walkless;
  alone = ap (λ (z : HeldPart). z.brought) c.hand_all.ensures.part;
  whole = c.hand_all.ensures.whole c.mark.ensures.free.whole;
}

pub returns-clause-done : goal.returns-clause-done
returns-clause-done g c =
    let table = g.N.RunName.table in
    let o = g.N.RunName.opening in
    let held = c.args.pass.now in
    let mid = c.room_for.new.pass in
    let seen = c.may_take.new.pass in
    let mark = c.mark.new.pass in
    let after = c.hand_all.new.pass in
    let part : HeldPart = c.room_for.new.part in
    let w = c.requires.at_work in
    let same = ap (λ (z : HeldPass). z.seated) c.room_for.ensures.pass in
    let cpu = ap (λ (z : HeldPass). z.cpu) c.room_for.ensures.pass in
    let is = same ∙ w.seated in
    let n = noted table part mid seen w.pass is (c.may_take.ensures.agree w.pass is)
    c.may_take.ensures.seen in
    let own = ap (λ (z : HeldPart). z.box.cpu) c.may_take.ensures.part
    ∙ ap (λ (b : BoxView). b.cpu) c.room_for.ensures.part in
    let marked = subst (λ d. HasMarked table d seen mark) own c.mark.ensures.pass in
    let out = c.hand_all.ensures.pass in
    taken table o c.args.part.now.box.cpu c.hand_all.new.items.items held seen mark after n.did
    (roomed_look table held mid seen n.did same cpu n.piece) marked (
      out.0,
      out.1,
      subst (λ d. HandsOutItems d mark.cpu Global c.hand_all.new.items.items out.0)
          (c.mark.ensures.kept.cpu ∙ own) out.2,
    )
