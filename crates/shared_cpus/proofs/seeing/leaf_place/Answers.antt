use Rattle.std.proofs.Common.{◌≡◌, ◌<◌, ℕ, length, ap, sym, subst, ◌∙◌}
use Rattle.std.specs.Prelude.{unwrap_or, Option}
use Rattle.tree_plan.specs.Shape.{Shape}
use Rattle.walk_rules.specs.Hierarchy.{group_on, side}
use Rattle.core_world.specs.World.{World}
use Rattle.shared_words.specs.declared.layout.Layout.{Layout}
use Rattle.shared_words.specs.Layout.{index_of}
use Rattle.shared_rule.specs.Whole.{layout_of, slot_at}
use Rattle.shared_cpus.proofs.seeing.leaf_place.Goals as goal

pub returns : goal.returns
returns g c =
    let run = c.args.run.now in
    let o : World = g.N.RunName.opening in
    let group = c.leaf_of-group.result.0 in
    let on : group_on o.tree c.args.cpu.0 0 ≡ group =
    ap (λ (m : Option ℕ). unwrap_or m 0) c.leaf_of-group.ensures.path in
    let side_is : c.leaf_side-side.result ≡ side o.tree c.args.cpu.0 0 =
    c.leaf_side-side.ensures.side
    ∙ ap (λ (t : Shape). side t c.args.cpu.0 0) run.fits.shape in
    record {
      place =
          c.index.ensures
          ∙ ap (λ (l : Layout). index_of l (slot_at group c.leaf_side-side.result)) run.fits.places
          ∙ (λ i. index_of (layout_of o) (slot_at ((sym on) i) (side_is i)));
      group = subst (λ n. n < length o.groups) (sym on) c.leaf_of-group.ensures.group;
      side = subst (λ n. n < 8) side_is c.leaf_side-side.ensures.a_child;
    }
