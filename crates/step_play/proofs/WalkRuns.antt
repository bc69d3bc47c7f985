-- for crates above: a walk that is alone is a run: each of its steps is enabled where it stands
use Rattle.std.proofs.Common.{◌≡◌, ℕ, zero, suc, ◌<◌, length, refl, sym, subst}
use Rattle.std.proofs.Common.{arith, inl, inr}
use Rattle.std.proofs.lemmas.Bool.{cases_Bool}
use Rattle.core_world.specs.declared.step.Step.{Step}
use Rattle.core_world.specs.declared.step.Step.TheVariants as steps
use Rattle.core_world.specs.Enabled.{Enabled}
use Rattle.core_world.specs.Frames.{SizesStay}
use Rattle.core_world.specs.Lawful.{IsLawful}
use Rattle.core_world.specs.Steps.{stepped}
use Rattle.core_world.specs.World.{World, cpu_of}
use Rattle.core_facts.specs.core_laws.Laws.{StepsStayLawful}
use Rattle.step_play.specs.Rules.Alone.{goes_on, most_steps, walk_steps, walked_out}
use Rattle.step_play.specs.Rules.Lone.{IsLone, IsRunOf, IsWalkRun}
use Rattle.step_play.proofs.Activation.Walking.{goes, stays}
use Rattle.step_play.proofs.Lone.{lone_made, may_walk}

no_steps : (c : ℕ) (w : World) → walk_steps zero c w ≡ w
unfolding walk_steps
no_steps c w = refl

-- a step, and then a walk
pub step_run : (step : Step) (c : ℕ) (w v u : World) → Enabled w step → v ≡ stepped w step
    → IsWalkRun c v u → IsRunOf step c w u
step_run step c w v u may is run =
    let from = subst (λ x. IsWalkRun c x u) is run in
    (from.0, record { enabled = (may, from.1.enabled); done = from.1.done })

module _ (stay : StepsStayLawful) (sizes : SizesStay) (c : ℕ) where
  pub walk_run : (m : ℕ) (w : World) → IsLawful w → c < length w.cpus → IsLone w c
      → IsWalkRun c w (walk_steps m c w)
  walk_run zero w lawful low lone = (0, record { enabled = tt; done = no_steps c w })
  walk_run (suc m) w lawful low lone = elim (cases_Bool (goes_on (cpu_of w c).walk)) [
    | inl on ↦
        let step = steps.Walk (record { 0 = c }) in
        let may : Enabled w step = may_walk w c low lawful lone on in
        let count = (sizes w step).cpus in
        let rest = walk_run m (stepped w step) (stay w step lawful may) (omega (arith, low, count))
        (lone_made w c lone (cpu_of w c).walk) in
        subst (IsWalkRun c w) (sym (goes c m w on))
        (suc rest.0, record { enabled = (may, rest.1.enabled); done = rest.1.done })
    | inr off ↦
        subst (IsWalkRun c w) (sym (stays c (suc m) w off))
        (0, record { enabled = tt; done = refl })
  ]

  -- a step after which CPU c's walk alone goes on, and that walk made to its end
  pub begun_run : (step : Step) (w : World) → IsLawful w → c < length w.cpus → Enabled w step →
      IsLone (stepped w step) c → IsRunOf step c w (walked_out c (stepped w step))
  begun_run step w lawful low may lone =
      let v = stepped w step in
      let count = (sizes w step).cpus in
      step_run step c w v (walked_out c v) may refl
      (walk_run (most_steps v) v (stay w step lawful may) (omega (arith, low, count)) lone)
