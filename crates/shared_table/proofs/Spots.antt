-- where a timer is queued, by the CPU that is noted for it
use Rattle.std.proofs.Common.{◌≡◌, ℕ, false, true≢false, Option, Some, None, length, refl}
use Rattle.std.proofs.Common.{sym, ap, ◌∙◌}
use Rattle.std.specs.Prelude.{is_some}
use Rattle.core_world.specs.World.{World, cpu_of}
use Rattle.shared_rule.specs.core_state.Kept.{WorldFits, is_queued}
use Rattle.shared_words.specs.declared.spot.Spot.{Spot}
use Rattle.shared_rule.specs.Starts.{spot_in}
use Rattle.shared_rule.proofs.Starting.{names_below}

module _ (o : World) (h : WorldFits o) (t : ℕ)
    (none : (d : ℕ) → is_queued t (cpu_of o d).bases ≡ false) where
  nowhere : (m : Option Spot) → spot_in o t ≡ m → ◌≡◌ {A = Option Spot} None m
  nowhere None e = refl
  nowhere (Some p) e =
      absurd (true≢false (sym (ap is_some (names_below o h t (length o.cpus) p e).1)
      ∙ none p.cpu.0))

  -- a timer that is queued on no CPU has no place
  pub spot_nowhere : ◌≡◌ {A = Option Spot} None (spot_in o t)
  spot_nowhere = nowhere (spot_in o t) refl
