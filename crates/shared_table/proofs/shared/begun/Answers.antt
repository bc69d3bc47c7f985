use Rattle.std.proofs.Common.{◌≡◌, [], length, ap, sym, ◌∙◌, arith, subst}
use Rattle.core_world.specs.Covered.{IsSettled}
use Rattle.atomic_table.specs.Seated.{TableId}
use Rattle.core_world.specs.World.{World}
use Rattle.core_world.specs.Frames.{IsSized}
use Rattle.shared_rule.specs.core_state.Kept.{world_of}
use Rattle.shared_words.specs.Layout.{count_of}
use Rattle.shared_rule.specs.Whole.{layout_of}
use Rattle.shared_rule.specs.Rule.{Me, seat_of}
use Rattle.shared_table.specs.Begun.{begun_passes, boxes_from}
use Rattle.shared_table.specs.Ended.{AreAllPasses}
use Rattle.shared_table.specs.Readied.{MayBegin}
use Rattle.shared_table.proofs.Passes.{all_begun}
use Rattle.shared_table.proofs.Rows.{begins_with}
use Rattle.shared_table.proofs.shared.begun.Goals as goal

pub fill_boxes-requires-clause-all : goal.fill_boxes-requires-clause-all
fill_boxes-requires-clause-all g c =
    let o : World = g.N.RunName.opening in
    let core : World = c.ready.inside.opening.core in
    let me : Me = c.ready.inside.seat.me in
    let opened : core ≡ o = ap (λ z. z.core) c.ready.view_is ∙ c.requires.opening in
    let all = begins_with o core c.ready.inside.opening.made me opened
    c.ready.invariant.1.knows in
    all ∙ ap (seat_of (boxes_from o 0 (length o.cpus))) (sym (ap (λ (m : Me). m.0.passes) all))

pub fill_passes-requires-clause-all : goal.fill_passes-requires-clause-all
fill_passes-requires-clause-all g c =
    let o : World = g.N.RunName.opening in
    let core : World = c.ready.inside.opening.core in
    let me : Me = c.ready.inside.seat.me in
    let opened : core ≡ o = ap (λ z. z.core) c.ready.view_is ∙ c.requires.opening in
    let all = begins_with o core c.ready.inside.opening.made me opened
    c.ready.invariant.1.knows in
    c.fill_boxes.ensures.left ∙ ap (seat_of []) (ap (λ (m : Me). m.0.passes) all)

pub returns-clause-all : goal.returns-clause-all
returns-clause-all g c =
    let o : World = g.N.RunName.opening in
    let opened : c.ready.inside.opening.core ≡ o
    = ap (λ z. z.core) c.ready.view_is ∙ c.requires.opening in
    subst (AreAllPasses g.N.RunName.table (length o.cpus)) (sym c.fill_passes.ensures.passes)
    (all_begun g.N.RunName.table o c.ready.inside.opening.made
    (subst IsSettled opened c.ready.invariant.0.settled))

pub invariant_of-result : goal.invariant_of-result
invariant_of-result g c =
    let o : World = g.N.RunName.opening in
    let core : World = c.ready.inside.opening.core in
    let opened : core ≡ o = ap (λ z. z.core) c.ready.view_is ∙ c.requires.opening in
    let parts = c.into_parts-tree.result in
    let is : world_of parts.tree (length parts.holders.items) parts.clock parts.groups.items
    parts.cpus.items ≡ o = c.into_parts-tree.ensures.world ∙ opened in
    let many : length core.cpus ≡ length o.cpus = ap (λ (w : World). length w.cpus) opened in
    let groups : length parts.groups.items ≡ length o.groups
    = ap (λ (w : World). length w.groups) is in
    let timers : length parts.holders.items ≡ o.timers = ap (λ (w : World). w.timers) is in
    record {
      each = c.fill_boxes.ensures.each;
      room = c.requires.taken;
      spare = record {
        seated = c.fill_passes.ensures.table;
        knows = c.fill_passes.ensures.left;
        slots =
            ap (λ (t : TableId). t.slots)
            (sym c.requires.table ∙ sym (ap (λ z. z.table) c.ready.view_is))
            ∙ c.ready.invariant.1.slots;
      };
      kept = record {
        clock_is = ap (λ (w : World). w.clock) is;
        groups_are = parts.groups.ok.0 ∙ groups;
        holders_are = parts.holders.ok.0 ∙ timers;
        cpus_fit = record {
          none = c.ready.invariant.2.none;
          enough = omega (arith, many, c.ready.invariant.2.enough);
        };
        marks_are =
            c.into_parts-tree.ensures.room ∙ ap (λ (w : World). length w.cpus) is;
      };
    }

pub invariant_of-run : goal.invariant_of-run
invariant_of-run g c =
    let o : World = g.N.RunName.opening in
    let core : World = c.ready.inside.opening.core in
    let opened : core ≡ o = ap (λ z. z.core) c.ready.view_is ∙ c.requires.opening in
    let sized = subst IsSized opened c.tree.ensures.sized in
    record {
      fits = record {
        named = ap (λ z. z.table) c.ready.view_is ∙ c.requires.table;
        opened = c.ready.invariant.1.opened ∙ opened;
        shape = ap (λ (w : World). w.tree) (c.into_parts-tree.ensures.world ∙ opened);
        places = c.layout-layout.ensures ∙ ap layout_of opened;
        count = c.ready.invariant.1.count ∙ sym (ap count_of c.layout-layout.ensures);
        groups = sized.groups;
        cpus = sized.cpus;
      };
    }

pub fill_boxes-requires-clause-may : goal.fill_boxes-requires-clause-may
fill_boxes-requires-clause-may g c =
    let opened : c.ready.inside.opening.core ≡ g.N.RunName.opening
    = ap (λ z. z.core) c.ready.view_is ∙ c.requires.opening in (
      c.ready.inside.opening.made,
      subst (λ (w : World). MayBegin w c.ready.inside.opening.made) opened c.ready.invariant.0,
    )

pub fill_boxes-requires-clause-groups : goal.fill_boxes-requires-clause-groups
fill_boxes-requires-clause-groups g c =
    let opened : c.ready.inside.opening.core ≡ g.N.RunName.opening
    = ap (λ z. z.core) c.ready.view_is ∙ c.requires.opening in
    c.as_slice.ensures.value
    ∙ ap (λ (w : World). w.groups) (c.into_parts-tree.ensures.world ∙ opened)

pub fill_boxes-requires-clause-cpus : goal.fill_boxes-requires-clause-cpus
fill_boxes-requires-clause-cpus g c =
    let opened : c.ready.inside.opening.core ≡ g.N.RunName.opening
    = ap (λ z. z.core) c.ready.view_is ∙ c.requires.opening in
    ap (λ (w : World). w.cpus) (c.into_parts-tree.ensures.world ∙ opened)

pub fill_boxes-requires-clause-room : goal.fill_boxes-requires-clause-room
fill_boxes-requires-clause-room g c = c.requires.boxes

pub fill_boxes-requires-clause-table : goal.fill_boxes-requires-clause-table
fill_boxes-requires-clause-table g c =
    c.ready.invariant.1.seated ∙ ap (λ z. z.table) c.ready.view_is ∙ c.requires.table

pub fill_passes-requires-clause-room : goal.fill_passes-requires-clause-room
fill_passes-requires-clause-room g c = c.requires.passes.1

pub fill_passes-requires-clause-none : goal.fill_passes-requires-clause-none
fill_passes-requires-clause-none g c = c.requires.passes.0

pub fill_passes-requires-clause-table : goal.fill_passes-requires-clause-table
fill_passes-requires-clause-table g c = c.fill_boxes.ensures.table

pub returns-clause-passes : goal.returns-clause-passes
returns-clause-passes g c =
    c.fill_passes.ensures.passes
    ∙ ap (begun_passes g.N.RunName.table g.N.RunName.opening)
    (ap (λ z. z.made) c.ready.view_is)

pub returns-clause-settled : goal.returns-clause-settled
returns-clause-settled g c =
    subst IsSettled (ap (λ z. z.core) c.ready.view_is ∙ c.requires.opening)
    c.ready.invariant.0.settled
