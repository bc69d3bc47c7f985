use Rattle.std.proofs.Common.{◌≡◌, ℕ, [], ◌∷◌, None, Option, sym, ap, subst, ◌∙◌}
use Rattle.std.specs.Prelude.{option_map}
use Rattle.event_queue.specs.declared.event.Event.{Event}
use Rattle.cpu_bases.specs.CpuBases.{CpuBases}
use Rattle.walk_rules.specs.Stages.{forget}
use Rattle.core_world.specs.World.{CpuRecord, World, cpu_of}
use Rattle.shared_rule.specs.core_state.Status.{CpuStatus, record_of}
use Rattle.shared_rule.specs.declared.parts.BoxView.{BoxView}
use Rattle.shared_rule.specs.Rule.{Me, first_box, seat_of, without_box}
use Rattle.shared_rule.specs.Parts.{HeldPart, box_held}
use Rattle.shared_rule.specs.Whole.{leaf_of, no_looks, quiet}
use Rattle.shared_table.specs.Begun.{first_box_of}
use Rattle.shared_table.specs.Readied.{HasNoneBehind}
use Rattle.shared_rule.proofs.Calls.{some_word}
use Rattle.shared_table.proofs.Rows.{first_box_alone}
use Rattle.shared_table.proofs.cutting.box_off.Goals as goal

-- a box part as a run begins, with its CPU
abbrev box_with : World → ℕ → Option Event → CpuRecord → BoxView
box_with o c leaf y =
    record { opening = o; cpu = c; own = y; leaf = leaf; read = 0; looked = no_looks }

-- that of a CPU without a walk is the first one
first_box_is : (o : World) (c : ℕ) (own : CpuRecord) (status : CpuStatus) (bases : CpuBases)
    (leaf : Option Event) → record_of status bases ≡ own → own ≡ cpu_of o c → leaf ≡ leaf_of o c
    → own.walk ≡ None → box_held o c status bases leaf 0 no_looks ≡ first_box_of o c
first_box_is o c own status bases leaf made same stands walkless =
    (λ i. box_with o c (stands i) (made i))
    ∙ ((λ i. box_with o c (leaf_of o c) (record own { walk = still i }))
    ∙ ap (λ y. box_with o c (leaf_of o c) (quiet y)) same)
  where
    still : own.walk ≡ option_map forget own.walk
    still = walkless ∙ ap (option_map forget) (sym walkless)

pub split_seat-off-requires : goal.split_seat-off-requires
split_seat-off-requires g c =
    let run = c.args.run.now in
    let o : World = g.N.RunName.opening in
    let key : World = run.words.shared.key.core in
    let seat = c.args.seat.now in
    let first = c.requires.first in (
      c.requires.table ∙ sym run.fits.named,
      some_word g.N.RunName.table o run.words.shared.table_id key run.tree run.layout run.fits,
      (c.law_seats.ensures key).box_off seat.id seat.me.0
          (first_box_alone o c.args.cpu.0 first.0 seat.me.0.boxes
          (ap (λ (m : Me). m.0.boxes) first.1)),
    )

pub new-requires-clause-table : goal.new-requires-clause-table
new-requires-clause-table g c = c.split_seat-off.ensures.3 ∙ c.requires.table

pub new-requires-clause-cpu : goal.new-requires-clause-cpu
new-requires-clause-cpu g c = c.requires.cpu

pub new-requires-clause-view : goal.new-requires-clause-view
new-requires-clause-view g c =
    let o : World = g.N.RunName.opening in
    let parts = c.into_parts-bases.ensures in
    let is = first_box_is o c.args.cpu.0 c.args.own c.into_parts-bases.result.0
    c.into_parts-bases.result.1.plain c.args.leaf
    (λ i. record_of (parts.status i) (parts.bases i)) c.requires.own c.requires.leaf
    c.requires.walkless in
    c.split_seat-off.ensures.4
    ∙ (ap (λ (m : Me). (first_box m.0, [])) c.requires.first.1
    ∙ ap (λ (b : BoxView). seat_of (b ∷ []) []) (sym is))

pub invariant_of-result : goal.invariant_of-result
invariant_of-result g c =
    let part = c.new.ensures in
    let parts = c.into_parts-bases.ensures in
    record {
      walkless = ap (λ (z : HeldPart). z.box.own.walk) part
          ∙ (ap (λ (s : CpuStatus). s.walk) parts.status ∙ c.requires.walkless);
      alone = ap (λ (z : HeldPart). z.brought) part;
      whole = subst (λ (y : CpuBases). HasNoneBehind y)
          (sym (ap (λ (z : HeldPart). z.box.own.bases) part ∙ parts.bases)) c.requires.whole;
    }

pub returns-clause-table : goal.returns-clause-table
returns-clause-table g c = c.split_seat-off.ensures.0 ∙ c.requires.table

pub returns-clause-left : goal.returns-clause-left
returns-clause-left g c =
    let m : Me = c.args.seat.now.me in
    c.split_seat-off.ensures.2
    ∙ ap (λ (k : Me). (without_box m.0, k.1)) c.requires.first.1

pub returns-clause-part : goal.returns-clause-part
returns-clause-part g c =
    let parts = c.into_parts-bases.ensures in
    ap (λ (z : HeldPart). z.box) c.new.ensures
    ∙ first_box_is g.N.RunName.opening c.args.cpu.0 c.args.own c.into_parts-bases.result.0
    c.into_parts-bases.result.1.plain c.args.leaf
    (λ i. record_of (parts.status i) (parts.bases i)) c.requires.own c.requires.leaf
    c.requires.walkless
