use Rattle.std.proofs.Common.{◌≡◌, ◌<◌, ℕ, length, ap, sym, subst, ◌∙◌}
use Rattle.walk_rules.specs.Hierarchy.{group_on}
use Rattle.core_world.specs.World.{World}
use Rattle.shared_words.specs.declared.layout.Layout.{Layout}
use Rattle.shared_words.specs.Layout.{index_of}
use Rattle.shared_rule.specs.Whole.{layout_of, lock_at}
use Rattle.shared_walks.proofs.Standing.{on_path}
use Rattle.shared_walks.proofs.path.lock_place.Goals as goal

pub returns : goal.returns
returns g c =
    let o : World = g.N.RunName.opening in
    let group = c.group_on-group.result.0 in
    let on : group_on o.tree c.args.cpu.0 c.args.level ≡ group =
    on_path o.tree c.args.cpu.0 c.args.level group c.group_on-group.ensures.path in
    record {
      place =
          c.index.ensures
          ∙ ap (λ (l : Layout). index_of l (lock_at group)) c.args.run.now.fits.places
          ∙ ap (λ (n : ℕ). index_of (layout_of o) (lock_at n)) (sym on);
      group = subst (λ n. n < length o.groups) (sym on) c.group_on-group.ensures.group;
    }
