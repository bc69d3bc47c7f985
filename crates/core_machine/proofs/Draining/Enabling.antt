-- for crates above: where a play lets a CPU arm and drain, its steps are enabled
use Rattle.std.proofs.Common.{◌≡◌, ◌⊎◌, ℕ, ◌<◌, true, length, Some, None, sym, ap, ◌∙◌}
use Rattle.std.proofs.Common.{inl, inr, refl}
use Rattle.std.specs.Prelude.{◌==◌}
use Rattle.std.proofs.lemmas.Bool.{both_ways, cases_Bool, cond-true, eq-eqb}
use Rattle.tm_base.specs.declared.names.Class.{Class}
use Rattle.play_rules.specs.Phases.{MayArmIn, MayDrain, Phase, handing, inside, resting}
use Rattle.play_rules.specs.Phases.{serving}
use Rattle.core_world.specs.Enabled.{IsFree}
use Rattle.core_world.specs.World.{World, cpu_of, is_active}
use Rattle.step_play.specs.Rules.Seen.{InRun}
use Rattle.step_play.specs.Rules.StepRules.{step_rules}
use Rattle.step_play.proofs.Hotplug.{runs}
use Rattle.step_play.proofs.Worlds.{free_in}
use Rattle.core_machine.specs.Draining.Turns.{Drains}

-- whoever is in its interrupt is online
pub inside_online : (ph : Phase) (w : World) (c : ℕ) → InRun ph w → (cpu_of w c).inside ≡ true →
    (cpu_of w c).online ≡ true
inside_online ph w c i within = elim (cases_Bool (cpu_of w c).online) [
  | inl online ↦ online
  | inr off ↦
      absurd (both_ways (cpu_of w c).inside (i.lawful.off_at_rest c off).outside within)
]

-- WHO ARMS
pub record Arms (w : World) (c : ℕ) : Type 0 where
  pub free : IsFree w c
  pub online : (cpu_of w c).online ≡ true
  pub may : (is_active (cpu_of w c) ≡ true) ⊎ ((cpu_of w c).inside ≡ true)

module _ (w : World) (c : ℕ) (low : c < length w.cpus) where
  arms_inside : (ph : Phase) → InRun ph w → IsFree w c → (cpu_of w c).inside ≡ true → Arms w c
  arms_inside ph i free within = record {
    free = free;
    online = inside_online ph w c i within;
    may = inr within;
  }

  pub arms_in : (ph : Phase) → MayArmIn step_rules w ph c → InRun ph w → Arms w c
  arms_in resting up i = record {
    free = free_in resting w c i refl low;
    online = up.online;
    may = inl (runs w c up.online up.idles);
  }
  arms_in (inside r) same i =
      arms_inside (inside r) i (free_in (inside r) w c i refl low)
      (i.inside c ∙ eq-eqb c r same)
  arms_in (serving r d) same i =
      arms_inside (serving r d) i (free_in (serving r d) w c i refl low)
      (i.inside c ∙ eq-eqb c r same)
  arms_in (handing h) none i = absurd none

-- WHO DRAINS
module _ (w : World) (home : ℕ) (class : Class) (runner : ℕ) (low : home < length w.cpus) where
  pub drains_in : (ph : Phase) → MayDrain ph home class runner → InRun ph w →
      Drains w home class runner
  drains_in resting none i = absurd none
  drains_in (inside r) own i = record {
    free = free_in (inside r) w home i refl low;
    may = inl (own.1 ∙ sym own.0, i.inside home ∙ eq-eqb home r own.0);
  }
  drains_in (serving r d) other i = record {
    free = free_in (serving r d) w home i refl low;
    may = inr (
      other.1,
      i.marks home ∙ (cond-true (home == d) (Some r) None
          (eq-eqb home d other.0) ∙ ap (λ n. Some n) (sym other.2)),
    );
  }
  drains_in (handing h) none i = absurd none
