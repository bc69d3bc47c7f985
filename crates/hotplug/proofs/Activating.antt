-- a CPU is made active
use Rattle.std.proofs.Common.{◌≡◌, ℕ, true, false, refl, sym, ◌∙◌, subst}
use Rattle.std.proofs.lemmas.Bool.{cond-false, cond-true}
use Rattle.tm_base.specs.declared.names.TheConstants.{NEVER}
use Rattle.walk_rules.specs.declared.walk.WalkKind.TheVariants as kinds
use Rattle.walk_rules.specs.declared.walk.Stage.TheVariants as stages
use Rattle.core_world.specs.Enabled.{MayWake}
use Rattle.core_world.specs.Lawful.{IsLawful}
use Rattle.core_world.specs.Steps.{begins}
use Rattle.core_world.specs.World.{CpuRecord, World, cpu_of}
use Rattle.core_machine.specs.step_play.Rules.Alone.{goes_on}
use Rattle.core_machine.specs.step_play.Rules.StepRules.{made_active, woken_by_steps}
use Rattle.core_machine.proofs.step_play.Hotplug.{runs}
use Rattle.hotplug.specs.Frames.{Activated, MayActivate}
use Rattle.core_machine.proofs.Alone.Frames.{Framed, begun_framed}
use Rattle.hotplug.proofs.Settling.{online_free}

module _ (w : World) (d : ℕ) (may : MayActivate w d) where
  pub may_wake : (cpu_of w d).idle ≡ true → MayWake w d
  may_wake idle = record {
    is_free = record { in_range = may.low; free = may.free };
    online = may.online;
    idle = idle;
  }

  -- it is active
  pub active_off : (cpu_of w d).idle ≡ false → w ≡ made_active w d
  active_off busy = sym (cond-false (cpu_of w d).idle (woken_by_steps w d) w busy)

  pub active_same : (cpu_of w d).idle ≡ false → Activated w d w
  active_same busy = record {
    tree = refl;
    clock = refl;
    cpus = refl;
    others = λ e ne. refl;
    bases = refl;
    outside = λ out. out;
    active = runs w d may.online busy;
    free = may.free;
  }

  -- it is idle
  pub active_on : (cpu_of w d).idle ≡ true → woken_by_steps w d ≡ made_active w d
  active_on idle = sym (cond-true (cpu_of w d).idle (woken_by_steps w d) w idle)

  abbrev y : CpuRecord
  y = record (cpu_of w d) {
    idle = false;
    wakeup = NEVER;
    walk = begins w d kinds.Activate stages.Own;
  }

  framed : Framed w d y (woken_by_steps w d)
  framed = begun_framed w d y may.low may.lone

  module _ (v : World) (is : v ≡ woken_by_steps w d) (lawful : IsLawful v)
      (ends : goes_on (cpu_of v d).walk ≡ false) where
    f : Framed w d y v
    f = subst (Framed w d y) (sym is) framed

    online : (cpu_of v d).online ≡ true
    online = f.itself.online ∙ may.online

    pub active_woken : Activated w d v
    active_woken = record {
      tree = f.tree;
      clock = f.clock;
      cpus = f.cpus;
      others = f.others;
      bases = f.itself.bases;
      outside = f.itself.outside;
      active = runs v d online f.itself.idle;
      free = online_free v d lawful online ends;
    }
