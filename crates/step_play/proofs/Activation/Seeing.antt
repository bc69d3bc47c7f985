-- for crates above: what Play sees in a world, CPU by CPU and group by group
use Rattle.std.proofs.Common.{◌≡◌, ◌≢◌, inl, inr, ℕ, ◌<◌, length, get_or-set_other}
use Rattle.std.proofs.Common.{get_or-set_same, length-set, Option, None, sym, ap, ◌∙◌, arith}
use Rattle.std.proofs.lemmas.Bool.{cases_lt}
use Rattle.std.proofs.lemmas.List.{get_or_past}
use Rattle.std.proofs.lemmas.List.FromFn.{fill_by_all, get_or-map-range_with_len}
use Rattle.std.proofs.lemmas.List.FromFn.{length-map-range_with_len}
use Rattle.tree_plan.specs.Paths.{group_count_of}
use Rattle.play_rules.specs.State.{Cpu, State, cpu_at, migrator_at, new_cpu, with_cpu}
use Rattle.play_rules.specs.Hierarchy.{with_migrators}
use Rattle.walk_rules.specs.Scene.{no_group}
use Rattle.core_world.specs.World.{World, group_of}
use Rattle.step_play.specs.Rules.Seen.{cpu_seen, state_of}

module _ (w : World) where
  pub cpus_seen : length (state_of w).cpus ≡ length w.cpus
  cpus_seen = length-map-range_with_len (cpu_seen w) 0 (length w.cpus)

  pub groups_seen : length (state_of w).migrators ≡ length w.groups
  groups_seen = length-map-range_with_len (λ g. (group_of w g).migrator) 0 (length w.groups)

  pub seen_at : (c : ℕ) → c < length w.cpus → cpu_at (state_of w) c ≡ cpu_seen w c
  seen_at c low = get_or-map-range_with_len (cpu_seen w) 0 (length w.cpus) c c new_cpu low
      (omega arith)

  pub migrator_seen : (g : ℕ) → migrator_at (state_of w) g ≡ (group_of w g).migrator
  migrator_seen g = elim (cases_lt g (length w.groups)) [
    | inl low ↦ get_or-map-range_with_len (λ h. (group_of w h).migrator) 0 (length w.groups) g g
        None low (omega arith)
    | inr high ↦ get_or_past (state_of w).migrators g None (omega (arith, high, groups_seen))
        ∙ sym (ap (λ (x : _). x.migrator) (get_or_past w.groups g no_group (omega arith)))
  ]

  -- a state that has the same at each place is the one that is seen
  pub seen_as : (s : State) → s.clock ≡ w.clock → s.timers ≡ w.timers → s.tree ≡ w.tree →
      length s.cpus ≡ length w.cpus →
      ((c : ℕ) → c < length w.cpus → cpu_at s c ≡ cpu_seen w c) →
      length s.migrators ≡ length w.groups →
      ((g : ℕ) → g < length w.groups → migrator_at s g ≡ (group_of w g).migrator) →
      state_of w ≡ s
  seen_as s clock timers tree cpus cpu groups group = λ i. record {
    clock = sym clock i;
    timers = sym timers i;
    tree = sym tree i;
    cpus = sym (fill_by_all (cpu_seen w) s.cpus (length w.cpus) new_cpu cpus cpu) i;
    migrators = sym (fill_by_all (λ g. (group_of w g).migrator) s.migrators (length w.groups) None
        groups group) i;
  }

-- a state with one CPU changed, and with migrators by a rule
module _ (s : State) (c : ℕ) (y : Cpu) where
  pub with_same : c < length s.cpus → cpu_at (with_cpu s c y) c ≡ y
  with_same low = get_or-set_same s.cpus c y new_cpu low

  pub with_else : (d : ℕ) → d ≢ c → cpu_at (with_cpu s c y) d ≡ cpu_at s d
  with_else d ne = get_or-set_other s.cpus c d y new_cpu ne

  pub with_count : length (with_cpu s c y).cpus ≡ length s.cpus
  with_count = length-set s.cpus c y

module _ (s : State) (rule : ℕ → Option ℕ) where
  pub rule_at : (g : ℕ) → g < group_count_of s.tree → migrator_at (with_migrators s rule) g ≡ rule g
  rule_at g low = get_or-map-range_with_len rule 0 (group_count_of s.tree) g g None low
      (omega arith)

  pub rule_count : length (with_migrators s rule).migrators ≡ group_count_of s.tree
  rule_count = length-map-range_with_len rule 0 (group_count_of s.tree)
