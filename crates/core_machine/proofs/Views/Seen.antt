-- for crates above: a CPU of a core, as Play sees it
use Rattle.std.proofs.Common.{◌≡◌, ℕ, ◌<◌, length, ap}
use Rattle.std.specs.Prelude.{min}
use Rattle.cpu_bases.specs.CpuBases.{events_of}
use Rattle.play_rules.specs.Hierarchy.{first_event}
use Rattle.play_rules.specs.State.{Cpu, cpu_at}
use Rattle.core_world.specs.World.{World, cpu_of}
use Rattle.step_play.specs.Rules.Seen.{state_of}
use Rattle.step_play.proofs.Queues.Sights.{seen_at}

module _ (w : World) (d : ℕ) (low : d < length w.cpus) where
  pub online_seen : (cpu_at (state_of w) d).online ≡ (cpu_of w d).online
  online_seen = ap (λ (x : Cpu). x.online) (seen_at w d low)

  pub idle_seen : (cpu_at (state_of w) d).idle ≡ (cpu_of w d).idle
  idle_seen = ap (λ (x : Cpu). x.idle) (seen_at w d low)

  pub wakeup_seen : (cpu_at (state_of w) d).wakeup ≡ (cpu_of w d).wakeup
  wakeup_seen = ap (λ (x : Cpu). x.wakeup) (seen_at w d low)

  pub first_seen : first_event (state_of w) d
      ≡ min (events_of (cpu_of w d).bases).pin (events_of (cpu_of w d).bases).first_global
  first_seen =
      ap (λ (x : Cpu). min (events_of x.bases).pin (events_of x.bases).first_global)
      (seen_at w d low)
