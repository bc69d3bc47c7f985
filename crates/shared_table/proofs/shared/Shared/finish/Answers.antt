use Rattle.std.proofs.Common.{◌≤◌, List, length, sym, subst, ap, ◌∙◌}
use Rattle.std.proofs.lemmas.List.{length-map}
use Rattle.std.specs.Prelude.{vec_capacity}
use Rattle.core_world.specs.World.{World}
use Rattle.atomic_table.specs.Seated.{TableId}
use Rattle.shared_words.specs.declared.layout.Layout.{Layout}
use Rattle.shared_rule.specs.declared.parts.PassView.{PassView}
use Rattle.shared_rule.specs.Whole.{layout_of}
use Rattle.shared_table.specs.Ended.{AreCpusWhole}
use Rattle.shared_table.specs.Endings.{HasAllParts, IsEnd, own_of}
use Rattle.shared_table.specs.Joined.{parts_of}
use Rattle.shared_table.proofs.shared.Shared.finish.Goals as goal

pub in_order-taken-requires : goal.in_order-taken-requires
in_order-taken-requires g c =
    let room = c.args.self.room in
    record {
      room = record {
        none = room.none;
        enough = subst (λ n. n ≤ vec_capacity c.args.self.rooms.boxes) (sym c.args.self.each)
            room.enough;
      };
    }

pub gather-requires-clause-table : goal.gather-requires-clause-table
gather-requires-clause-table g c = c.args.self.spare.seated

pub gather-requires-clause-none : goal.gather-requires-clause-none
gather-requires-clause-none g c = c.args.self.spare.knows

pub gather-requires-clause-boxes : goal.gather-requires-clause-boxes
gather-requires-clause-boxes g c =
    sym c.in_order-taken.result.ok.0 ∙ c.in_order-taken.ensures.count ∙ c.args.self.each

pub gather-requires-clause-order : goal.gather-requires-clause-order
gather-requires-clause-order g c = c.in_order-taken.ensures.order

pub gather-requires-clause-passes : goal.gather-requires-clause-passes
gather-requires-clause-passes g c = c.requires

pub gather-requires-clause-room : goal.gather-requires-clause-room
gather-requires-clause-room g c = c.args.self.kept.cpus_fit

pub ended-requires-clause-seat : goal.ended-requires-clause-seat
ended-requires-clause-seat g c = c.gather.ensures.table ∙ sym c.args.self.run.fits.named

pub ended-requires-clause-count : goal.ended-requires-clause-count
ended-requires-clause-count g c = c.args.self.run.fits.count

pub ended-requires-clause-slots : goal.ended-requires-clause-slots
ended-requires-clause-slots g c =
    ap (λ (t : TableId). t.slots) c.args.self.run.fits.named ∙ c.args.self.spare.slots

pub ended-requires-clause-opened : goal.ended-requires-clause-opened
ended-requires-clause-opened g c =
    c.args.self.run.fits.places ∙ sym (ap layout_of c.args.self.run.fits.opened)

pub ended-requires-clause-tree : goal.ended-requires-clause-tree
ended-requires-clause-tree g c =
    c.args.self.run.fits.shape ∙ sym (ap (λ (w : World). w.tree) c.args.self.run.fits.opened)

pub ended-requires-clause-clock : goal.ended-requires-clause-clock
ended-requires-clause-clock g c =
    c.args.self.kept.clock_is ∙ sym (ap (λ (w : World). w.clock) c.args.self.run.fits.opened)

pub ended-requires-clause-groups : goal.ended-requires-clause-groups
ended-requires-clause-groups g c =
    sym c.args.self.rooms.groups.ok.0 ∙ c.args.self.kept.groups_are
    ∙ sym (ap (λ (l : Layout). l.groups) c.args.self.run.fits.places)

pub ended-requires-clause-holders : goal.ended-requires-clause-holders
ended-requires-clause-holders g c =
    sym c.args.self.rooms.holders.ok.0 ∙ c.args.self.kept.holders_are
    ∙ sym (ap (λ (l : Layout). l.timers) c.args.self.run.fits.places)

pub ended-requires-clause-tally : goal.ended-requires-clause-tally
ended-requires-clause-tally g c =
    let all = c.gather.ensures.all in
    c.args.self.kept.marks_are
    ∙ sym (ap length all.cpus_are ∙ length-map c.gather.new.seat.me.0.boxes own_of
    ∙ all.all.boxes.count)

pub ended-requires-clause-all : goal.ended-requires-clause-all
ended-requires-clause-all g c =
    subst (λ (w : World). HasAllParts w c.gather.new.seat.me.0 c.gather.new.cpus.items)
    (sym c.args.self.run.fits.opened) c.gather.ensures.all

pub returns-clause-end : goal.returns-clause-end
returns-clause-end g c =
    subst (λ (w : World). IsEnd w c.ended.result (parts_of c.args.passes.items))
    c.args.self.run.fits.opened
    (subst (λ (ps : List PassView). IsEnd c.args.self.run.words.shared.key.core c.ended.result ps)
    c.gather.ensures.passes c.ended.ensures.end)

pub returns-clause-whole : goal.returns-clause-whole
returns-clause-whole g c =
    subst AreCpusWhole (sym c.ended.ensures.cpus) c.gather.ensures.whole
