use Rattle.std.proofs.Common.{◌≡◌, ℕ, ◌+◌, ◌<◌, ◌≤◌, ◌∙◌, List, ap, arith, get_or, length}
use Rattle.std.proofs.Common.{length-set, refl}
use Rattle.std.specs.Prelude.{slice_set}
use Rattle.core_world.specs.tree_plan.Shape.{Shape}
use Rattle.core_world.specs.World.{CpuRecord, no_cpu, stale}
use Rattle.core_parts.proofs.Readings.{each_stale, one_more, the_rest}
use Rattle.plain_world.proofs.stale.make_all_stale.Goals as goal

pub loop-cpu-init : goal.loop-cpu-init
loop-cpu-init c = record {
  same_length = refl;
  before = λ d low. absurd (omega (arith, low));
  after = λ d high. refl;
}

pub returns : goal.returns
returns c =
    each_stale c.args.tree.now c.args.group.0 c.args.cpus.now.items c.loop-cpu.cpus.items
    c.loop-cpu.invariant.same_length
    (λ d low. c.loop-cpu.invariant.before d
    (let e = c.requires in let l = c.args.cpus.now.ok.0 in let t = c.loop-cpu-test.false in
    let n = c.cpu_count-cpu-end.ensures in omega (arith, low, e, l, t, n)))

-- one more CPU is stale
one_stale : (t : Shape) (g n : ℕ) (old now new : List CpuRecord) → n < length old
    → length now ≡ length old
    → ((k : ℕ) → k < n → get_or now k no_cpu ≡ stale t g k (get_or old k no_cpu))
    → ((k : ℕ) → n ≤ k → get_or now k no_cpu ≡ get_or old k no_cpu)
    → new ≡ slice_set now n (stale t g n (get_or now n no_cpu))
    → (length new ≡ length old)
    × ((d : ℕ) → d < n + 1 → get_or new d no_cpu ≡ stale t g d (get_or old d no_cpu))
    × ((d : ℕ) → n + 1 ≤ d → get_or new d no_cpu ≡ get_or old d no_cpu)
one_stale t g n old now new within same before after is =
    let here = after n (omega arith) in (
      ap length is ∙ (length-set now n _ ∙ same),
      λ d low. ap (λ ys. get_or ys d no_cpu) is
          ∙ one_more t g n old now within same here d (omega (arith, low)) before,
      λ d high. ap (λ ys. get_or ys d no_cpu) is
          ∙ the_rest t g n old now within same here d (omega (arith, high)) after,
    )

pub loop-cpu-preserved : goal.loop-cpu-preserved
loop-cpu-preserved c =
    let (same_length, before, after) =
    one_stale c.args.tree.now c.args.group.0 c.loop-cpu.cpu c.args.cpus.now.items
    c.loop-cpu.cpus.items c.make_stale.new.cpus.items
    (let e = c.requires in let l = c.args.cpus.now.ok.0 in let t = c.loop-cpu-test.true in
    let n = c.cpu_count-cpu-end.ensures in omega (arith, e, l, t, n))
    c.loop-cpu.invariant.same_length c.loop-cpu.invariant.before c.loop-cpu.invariant.after
    c.make_stale.ensures in
    record { same_length = same_length; before = before; after = after }
