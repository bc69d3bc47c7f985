use Rattle.std.proofs.Common.{◌≡◌, ℕ, ◌+◌, ◌<◌, ◌≤◌, ◌∙◌, List, ap, arith, get_or, length}
use Rattle.std.proofs.Common.{length-set, refl, sym}
use Rattle.std.specs.Prelude.{slice_index_or, slice_set}
use Rattle.core_world.specs.tree_plan.Shape.{Shape}
use Rattle.core_world.specs.World.{CpuRecord, no_cpu, stale}
use Rattle.core_parts.proofs.Readings.{each_below, one_more, the_rest}
use Rattle.core_parts.proofs.Under.{untouched}
use Rattle.core_parts.proofs.stale.make_all_stale.Goals as goal

pub loop-below-init : goal.loop-below-init
loop-below-init g c = record {
  same_length = refl;
  before =
      λ d low. sym
      (untouched c.args.tree.now c.args.group.0 d (slice_index_or c.args.cpus.now.items d no_cpu)
      (λ it. absurd (omega (arith, low, c.first_below-first.ensures.first d it))));
  after = λ d high. refl;
}

pub returns : goal.returns
returns g c =
    each_below c.args.tree.now c.args.group.0 c.behind_below-behind.result c.args.cpus.now.items
    c.loop-below.cpus.items c.loop-below.invariant.same_length c.behind_below-behind.ensures.behind
    (λ d low. c.loop-below.invariant.before d (omega (arith, low, c.loop-below-test.false)))
    (λ d high. (let some = c.behind_below-behind.ensures.behind c.args.cpu.0 c.requires.below in
    c.loop-below.invariant.after d (omega (arith, high, some, c.first_below-first.ensures.within))))

-- one more CPU is stale
one_stale : (t : Shape) (g n : ℕ) (old now new : List CpuRecord) → n < length old
    → length now ≡ length old
    → ((k : ℕ) → k < n → get_or now k no_cpu ≡ stale t g k (get_or old k no_cpu))
    → ((k : ℕ) → n ≤ k → get_or now k no_cpu ≡ get_or old k no_cpu)
    → new ≡ slice_set now n (stale t g n (get_or now n no_cpu))
    → (length new ≡ length old)
    × ((d : ℕ) → d < n + 1 → get_or new d no_cpu ≡ stale t g d (get_or old d no_cpu))
    × ((d : ℕ) → n + 1 ≤ d → get_or new d no_cpu ≡ get_or old d no_cpu)
one_stale t g n old now new within same before after is =
    let here = after n (omega arith) in (
      ap length is ∙ (length-set now n _ ∙ same),
      λ d low. ap (λ ys. get_or ys d no_cpu) is
          ∙ one_more t g n old now within same here d (omega (arith, low)) before,
      λ d high. ap (λ ys. get_or ys d no_cpu) is
          ∙ the_rest t g n old now within same here d (omega (arith, high)) after,
    )

pub loop-below-preserved : goal.loop-below-preserved
loop-below-preserved g c =
    let (same_length, before, after) =
    one_stale c.args.tree.now c.args.group.0 c.loop-below.below c.args.cpus.now.items
    c.loop-below.cpus.items c.make_stale.new.cpus.items
    (let w = c.behind_below-behind.ensures.within in let e = c.requires.each_cpu in
    let l = c.args.cpus.now.ok.0 in let t = c.loop-below-test.true in omega (arith, w, e, l, t))
    c.loop-below.invariant.same_length c.loop-below.invariant.before c.loop-below.invariant.after
    c.make_stale.ensures in
    record { same_length = same_length; before = before; after = after }
