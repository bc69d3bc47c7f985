-- how far the loop of a walk has come, and who has no walk
use Rattle.std.proofs.Common.{◌≡◌, ◌≢◌, inl, inr, ℕ, suc, ◌+◌, ◌*◌, ◌-◌, ◌<◌, ◌≤◌}
use Rattle.std.proofs.Common.{true, false, length, sym, ap, ◌∙◌, arith}
use Rattle.std.proofs.lemmas.Bool.{cases_lt}
use Rattle.std.proofs.lemmas.List.{get_or_past}
use Rattle.tree_plan.specs.Paths.{level_count_of}
use Rattle.core_world.specs.declared.step.Step.TheVariants as steps
use Rattle.core_world.specs.Steps.{stepped}
use Rattle.core_world.specs.World.{CpuRecord, World, cpu_of, no_cpu}
use Rattle.step_play.specs.Rules.Alone.{goes_on, most_steps, walk_steps}
use Rattle.step_play.specs.Rules.Lone.{IsLone}
use Rattle.step_play.proofs.Activation.Walking.{goes, stays}

-- HOW FAR the loop of a walk has come
pub walked_more : (n i c : ℕ) (v w : World) (whole : World) → walk_steps (n - i) c v ≡ whole → i < n
    →
    goes_on (cpu_of v c).walk ≡ true → w ≡ stepped v (steps.Walk (record { 0 = c })) →
    walk_steps (n - (i + 1)) c w ≡ whole
walked_more n i c v w whole so_far low on is =
    let same : n - i ≡ suc (n - (i + 1)) = omega arith in
    ap (walk_steps (n - (i + 1)) c) is
    ∙ (sym (goes c (n - (i + 1)) v on) ∙ (ap (λ m. walk_steps m c v) (sym same) ∙ so_far))

pub walked_off : (n i c : ℕ) (v : World) (whole : World) → walk_steps (n - i) c v ≡ whole →
    goes_on (cpu_of v c).walk ≡ false → v ≡ whole
walked_off n i c v whole so_far off = sym (stays c (n - i) v off) ∙ so_far

pub walked_all : (n i c : ℕ) (v : World) (whole : World) → walk_steps (n - i) c v ≡ whole → n ≤ i →
    v ≡ whole
unfolding walk_steps
walked_all n i c v whole so_far high =
    let none : n - i ≡ 0 = omega arith in
    sym (ap (λ m. walk_steps m c v) none) ∙ so_far

-- the bound, as it is computed
pub most_is : (w : World) (levels most : ℕ) → levels ≡ level_count_of w.tree →
    most ≡ 32 * (levels + 1) → most ≡ most_steps w
most_is w levels most same is = is ∙ ap (λ n. 32 * (n + 1)) same

-- a CPU that isn't there has no walk
pub none_else : (w : World) (c n : ℕ) → length w.cpus ≤ n →
    ((d : ℕ) → d < n → d ≢ c → goes_on (cpu_of w d).walk ≡ false) → IsLone w c
none_else w c n all none d ne = elim (cases_lt d (length w.cpus)) [
  | inl low ↦ none d (omega (arith, low, all)) ne
  | inr past ↦ ap (λ (y : CpuRecord). goes_on y.walk) (get_or_past w.cpus d no_cpu past)
]
