-- for crates above: what stays of a core where bases alone are written
use Rattle.std.proofs.Common.{◌≡◌, ℕ, ◌<◌, length, length-set, Option, Some, None, refl, sym, ◌∙◌}
use Rattle.std.proofs.Common.{subst}
use Rattle.tm_base.specs.declared.names.Class.{Class}
use Rattle.wheel_core.specs.declared.item.Item.{Item}
use Rattle.cpu_bases.specs.CpuBases.{CpuBases}
use Rattle.play_rules.specs.Machines.{Same, SameOnline}
use Rattle.core_world.specs.Steps.{giver, moved_with, with_bases}
use Rattle.core_world.specs.World.{World, cpu_of}
use Rattle.step_play.specs.Rules.StepRules.{step_rules}
use Rattle.step_play.proofs.Drains.{Rebases}
use Rattle.step_play.proofs.Worlds.{put_count, put_field}

-- those of one CPU
module _ (w : World) (c : ℕ) (b : CpuBases) (v : World) (low : c < length w.cpus)
    (r : Rebases w c b v) where
  pub rebased_same : Same step_rules w v
  rebased_same =
      subst (Same step_rules w) (sym r.is) (record {
        clock = refl;
        timers = refl;
        cpus = put_count w c (with_bases (cpu_of w c) b) low;
        levels = refl;
        placed = λ d. refl;
      })

  pub rebased_online : SameOnline step_rules w v
  rebased_online =
      subst (SameOnline step_rules w) (sym r.is) (record {
        online = put_field w c (with_bases (cpu_of w c) b) low (λ y. y.online) refl;
      })

-- one change after another, and none
pub same_then : (u w v : World) → Same step_rules u w → Same step_rules w v → Same step_rules u v
same_then u w v first second = record {
  clock = second.clock ∙ first.clock;
  timers = second.timers ∙ first.timers;
  cpus = second.cpus ∙ first.cpus;
  levels = second.levels ∙ first.levels;
  placed = λ d. second.placed d ∙ first.placed d;
}

pub online_then : (u w v : World) → SameOnline step_rules u w → SameOnline step_rules w v →
    SameOnline step_rules u v
online_then u w v first second = record { online = λ d. second.online d ∙ first.online d }

pub same_self : (w v : World) → v ≡ w → Same step_rules w v
same_self w v is =
    subst (Same step_rules w) (sym is) (record {
      clock = refl;
      timers = refl;
      cpus = refl;
      levels = refl;
      placed = λ d. refl;
    })

pub online_self : (w v : World) → v ≡ w → SameOnline step_rules w v
online_self w v is = subst (SameOnline step_rules w) (sym is) (record { online = λ d. refl })

-- those between which a timer moved
pub moved_same : (w : World) (from to : ℕ) (o : Option (Class × Item)) →
    Same step_rules w (moved_with w from to o)
moved_same w from to None = record {
  clock = refl;
  timers = refl;
  cpus = refl;
  levels = refl;
  placed = λ d. refl;
}
moved_same w from to (Some (class, item)) = record {
  clock = refl;
  timers = refl;
  cpus = length-set _ to _ ∙ length-set w.cpus from (giver w from to class);
  levels = refl;
  placed = λ d. refl;
}
