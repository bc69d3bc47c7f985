use Rattle.std.proofs.Common.{rules, ◌≡◌, ℕ, ◌+◌, ◌<◌, length, sym, subst, ◌∙◌}
use Rattle.std.specs.Prelude.{slice_index_or, slice_set}
use Rattle.std.proofs.lemmas.List.{length-set}
use Rattle.walk_rules.specs.Scene.{no_group}
use Rattle.core_world.specs.World.{group_of}
use Rattle.shared_table.proofs.Spellings.{all_groups, one_more}
use Rattle.shared_table.proofs.groups.read_groups.Goals as goal

pub loop-group-preserved : goal.loop-group-preserved
loop-group-preserved c =
    let n = c.loop-group.group in
    let low : n < length c.loop-group.groups.items = search rules in
    record {
      count = length-set c.loop-group.groups.items c.from.result c.read_group.result
          ∙ c.loop-group.invariant.count;
      each = λ w r. subst
          (λ i. (k : ℕ) → k < n + 1
          → slice_index_or (slice_set c.loop-group.groups.items i c.read_group.result) k no_group
          ≡ group_of w k) (sym c.from.ensures)
          (one_more no_group c.loop-group.groups.items n (group_of w) c.read_group.result low
          (c.read_group.ensures w r) (c.loop-group.invariant.each w r));
    }

pub returns : goal.returns
returns c = λ w r.
    all_groups c.args.words.now w r c.loop-group.groups.items c.loop-group.invariant.count
    (λ g low. c.loop-group.invariant.each w r g (search rules))
