-- for crates above: every script of the grammar can be played on the machine of its start
use Rattle.std.proofs.Common.{◌≡◌, ℕ, suc, ◌+◌, ◌≤◌, ◌<◌, List, [], ◌∷◌, refl, sym, ap, subst, arith, map}
use Rattle.std.specs.Prelude.{All, slice_index}
use Rattle.std.specs.List.Sorted.{IsStrictlyIncreasing}
use Rattle.std.proofs.lemmas.List.Elements.{All-head, All-tail}
use Rattle.tm_script.specs.declared.syntax.Moment.{Moment}
use Rattle.tm_script.specs.declared.syntax.Op.{Op}
use Rattle.tm_script.specs.declared.syntax.What.{What}
use Rattle.tm_script.specs.declared.syntax.What.TheVariants as whats
use Rattle.tm_script.specs.declared.syntax.Script.{Script}
use Rattle.tm_script.specs.Texts.{cpu_count}
use Rattle.tm_script.specs.Grammar.{IsMoment, IsOp, IsScript, IsWhat}
use Rattle.tree_plan.specs.Shape.{IsWithinLimits}
use Rattle.play_driver.specs.Conditions.{IsMomentInRange, IsOpInRange, IsPlayable, IsTimerInRange, Rise}

abbrev head_at : List Moment → ℕ
head_at [] = 0
head_at (m ∷ ms) = m.at

pub within_limits : (s : Script) → IsScript s → IsWithinLimits s.nodes s.cpus s.isolated
within_limits s is = record {
  some_node = is.some_nodes;
  few_nodes = is.few_nodes;
  some_cpu = is.some_cpus;
  few_cpus = is.few_node_cpus;
  some_placed = is.some_placed;
}

timer_in_range : (version timers : ℕ) (w : What) → IsWhat version timers w → IsTimerInRange timers w
timer_in_range version timers (whats.Arm timer class delay job arg) is = is.timer_in_range
timer_in_range version timers (whats.Cancel timer) is = is
timer_in_range version timers whats.Idle is = tt
timer_in_range version timers whats.Wake is = tt
timer_in_range version timers whats.Offline is = tt
timer_in_range version timers whats.Online is = tt

op_in_range : (version cpus timers : ℕ) (o : Op) → IsOp version cpus timers o → IsOpInRange cpus timers o
op_in_range version cpus timers o is = record {
  cpu = is.cpu_in_range;
  timer = timer_in_range version timers o.what is.what;
}

moments_in_range : (version cpus timers : ℕ) (ms : List Moment) → All (IsMoment version cpus timers) ms → All (IsMomentInRange cpus timers) ms
moments_in_range version cpus timers ms all =
    λ k m few i o less. op_in_range version cpus timers _ ((all k m few).ops i o less)

next_after : (k : ℕ) → suc k + 1 ≡ suc (k + 1)
next_after k = omega arith

rises : (from end : ℕ) (ms : List Moment) → IsStrictlyIncreasing (map (λ (m : Moment). m.at) ms) → All (λ (m : Moment). m.at ≤ end) ms
    → ((m : Moment) (ns : List Moment) → ms ≡ m ∷ ns → from ≤ m.at) → Rise from end ms
rises from end [] up by low = tt
rises from end (m ∷ []) up by low = (low m [] refl, (All-head (λ (m : Moment). m.at ≤ end) m [] by, tt))
rises from end (m ∷ n ∷ ms) up by low =
    let first : m.at < n.at = up 0 (omega arith) in (
      low m (n ∷ ms) refl,
      (
        All-head (λ (m : Moment). m.at ≤ end) m (n ∷ ms) by,
        rises (m.at + 1) end (n ∷ ms) (λ k few. subst (λ i. slice_index (map (λ (x : Moment). x.at) (m ∷ n ∷ ms)) (suc k) < slice_index (map (λ (x : Moment). x.at) (m ∷ n ∷ ms)) i) (next_after k) (up (suc k) (omega (arith, few)))) (All-tail (λ (m : Moment). m.at ≤ end) m (n ∷ ms) by)
            (λ o os is. let same : n.at ≡ o.at = ap head_at is in omega (arith, first, same)),
      ),
    )

pub playable : (s : Script) → IsScript s → (cpus : ℕ) → cpus ≡ cpu_count s → IsPlayable cpus s.timers s
playable s is cpus count = record {
  in_range = subst (λ n. All (IsMomentInRange n s.timers) s.moments) (sym count) (moments_in_range s.version (cpu_count s) s.timers s.moments is.moments);
  rise = rises 0 s.end s.moments is.ascending is.by_the_end (λ m ns from. omega arith);
  in_time = is.early_end;
}
