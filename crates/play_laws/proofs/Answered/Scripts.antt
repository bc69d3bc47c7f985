-- for crates above: what a script of the grammar says of its play: a planned tree, numbers in
-- range, moments that rise
use Rattle.std.proofs.Common.{◌≡◌, ℕ, suc, ◌+◌, ◌<◌, ◌≤◌, List, [], ◌∷◌, map, refl, arith}
use Rattle.std.specs.Prelude.{All}
use Rattle.std.specs.List.Sorted.{IsStrictlyIncreasing}
use Rattle.std.proofs.lemmas.List.Elements.{All-head, All-tail, All-weaker}
use Rattle.tm_script.specs.declared.syntax.Moment.{Moment}
use Rattle.tm_script.specs.declared.syntax.Op.{Op}
use Rattle.tm_script.specs.declared.syntax.Script.{Script}
use Rattle.tm_script.specs.declared.syntax.What.{What}
use Rattle.tm_script.specs.declared.syntax.What.TheVariants as whats
use Rattle.tm_script.specs.Texts.{cpu_count}
use Rattle.tm_script.specs.Grammar.{IsMoment, IsOp, IsScript, IsWhat}
use Rattle.tree_plan.specs.Shape.{IsPlanned, Shape, tree_of}
use Rattle.play_laws.proofs.Shape.ShapeOperations.{IsOpIn, IsTimerIn}
use Rattle.play_laws.proofs.Shape.ShapeTurns.{IsMomentIn, Rise}

abbrev pub tree_for : Script → Shape
tree_for s = tree_of s.nodes s.cpus s.isolated

pub planned_for : (s : Script) → IsScript s → IsPlanned (tree_for s)
planned_for s is = record {
  limits = record {
    some_node = is.some_nodes;
    few_nodes = is.few_nodes;
    some_cpu = is.some_cpus;
    few_cpus = is.few_node_cpus;
    some_placed = is.some_placed;
  };
  tree = refl;
}

timer_in : (version timers : ℕ) (what : What) → IsWhat version timers what → IsTimerIn timers what
timer_in version timers (whats.Arm timer class delay job arg) is = (is.timer_in_range, is.delay_in_range)
timer_in version timers (whats.Cancel timer) is = is
timer_in version timers whats.Idle is = is
timer_in version timers whats.Wake is = is
timer_in version timers whats.Offline is = is
timer_in version timers whats.Online is = is

op_in : (version cpus timers : ℕ) (o : Op) → IsOp version cpus timers o → IsOpIn cpus timers o
op_in version cpus timers o is =
    record { cpu = is.cpu_in_range; timer = timer_in version timers o.what is.what }

pub moments_in : (s : Script) → IsScript s → All (IsMomentIn (cpu_count s) s.timers) s.moments
moments_in s is =
    All-weaker (IsMoment s.version (cpu_count s) s.timers) (IsMomentIn (cpu_count s) s.timers)
    (λ m known. All-weaker (IsOp s.version (cpu_count s) s.timers) (IsOpIn (cpu_count s) s.timers)
    (op_in s.version (cpu_count s) s.timers) m.ops known.ops)
    s.moments is.moments

abbrev times : List Moment → List ℕ
times ms = map (λ (m : Moment). m.at) ms

rest_ascends : (x : ℕ) (xs : List ℕ) → IsStrictlyIncreasing (x ∷ xs) → IsStrictlyIncreasing xs
rest_ascends x xs h k lt =
    let more : suc k + 1 ≡ suc (k + 1) = omega arith in
    rw more at (h (suc k) (omega arith))

rise_after : (from end : ℕ) (m : Moment) (ms : List Moment) → from ≤ m.at
    → IsStrictlyIncreasing (times (m ∷ ms))
    → All (λ (n : Moment). n.at ≤ end) (m ∷ ms) → Rise from end (m ∷ ms)
rise_after from end m [] low ascends by = (low, (All-head (λ (n : Moment). n.at ≤ end) m [] by, tt))
rise_after from end m (n ∷ ms) low ascends by =
    let next : m.at < n.at = ascends 0 (omega arith) in (
      low,
      (
        All-head (λ (k : Moment). k.at ≤ end) m (n ∷ ms) by,
        rise_after (m.at + 1) end n ms (omega (arith, next))
            (rest_ascends m.at (times (n ∷ ms)) ascends)
            (All-tail (λ (k : Moment). k.at ≤ end) m (n ∷ ms) by),
      ),
    )

rise_from : (end : ℕ) (ms : List Moment) → IsStrictlyIncreasing (times ms)
    → All (λ (n : Moment). n.at ≤ end) ms → Rise 0 end ms
rise_from end [] ascends by = tt
rise_from end (m ∷ ms) ascends by = rise_after 0 end m ms (omega arith) ascends by

pub moments_rise : (s : Script) → IsScript s → Rise 0 s.end s.moments
moments_rise s is = rise_from s.end s.moments is.ascending is.by_the_end
