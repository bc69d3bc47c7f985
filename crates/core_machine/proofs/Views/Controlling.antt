-- the next interrupt, and the CPU that controls
use Rattle.std.proofs.Common.{◌≡◌, ℕ, ◌+◌, ◌<◌, Bool, true, Option, Some, None, length}
use Rattle.std.proofs.Common.{refl, sym, ap, ◌∙◌, arith}
use Rattle.std.specs.Prelude.{◌&&◌, IfSome, find, min, not, option_map}
use Rattle.std.specs.List.{fold, list_any, range_with_len}
use Rattle.std.specs.Option.{option_or}
use Rattle.std.proofs.lemmas.Bool.{and_parts, cond-false, cond-true}
use Rattle.tm_base.specs.declared.names.CpuId.{CpuId}
use Rattle.tm_base.specs.declared.names.TheConstants.{NEVER}
use Rattle.tree_plan.specs.Paths.{is_placed_in}
use Rattle.play_rules.specs.Play.{next_interrupt}
use Rattle.play_rules.specs.State.{all_cpus, cpu_at, is_active}
use Rattle.play_rules.specs.Timers.{controller}
use Rattle.step_play.proofs.play_laws.Answered.Ranges.{found_there}
use Rattle.core_world.specs.World.{World, cpu_of}
use Rattle.step_play.specs.Rules.Seen.{state_of}
use Rattle.step_play.proofs.Queues.Sights.{cpus_seen}
use Rattle.core_machine.proofs.Views.Searches.{NoneBelow, any_here, any_none, find_here, find_none}
use Rattle.core_machine.proofs.Views.Seen.{online_seen}

module _ (w : World) where
  abbrev least_wakeup : ℕ → ℕ
  least_wakeup n =
      fold (λ m c. min m (cpu_at (state_of w) c).wakeup) NEVER (range_with_len 0 n)

  -- THE NEXT INTERRUPT
  abbrev some_active : Bool
  some_active = list_any (is_active (state_of w)) (all_cpus (state_of w))

  abbrev least_of_all : ℕ
  least_of_all =
      fold (λ m c. min m (cpu_at (state_of w) c).wakeup) NEVER (all_cpus (state_of w))

  pub next_active : (k : ℕ) → k < length w.cpus → is_active (state_of w) k ≡ true →
      next_interrupt (state_of w) ≡ w.clock + 1
  next_active k low is =
      cond-true some_active (w.clock + 1) least_of_all
      (any_here w (is_active (state_of w)) k low is)

  pub next_idle : (k least : ℕ) → NoneBelow w (is_active (state_of w)) k → k ≡ length w.cpus →
      least ≡ least_wakeup k → least ≡ next_interrupt (state_of w)
  next_idle k least none end is =
      is
      ∙ (ap least_wakeup end
      ∙ (sym (ap (fold (λ m c. min m (cpu_at (state_of w) c).wakeup) NEVER) (cpus_seen w))
      ∙ sym (cond-false some_active (w.clock + 1) least_of_all
      (any_none w (is_active (state_of w)) k none (omega (arith, end))))))

  -- WHO CONTROLS
  abbrev pub runs : ℕ → Bool
  runs d = is_placed_in w.tree d && is_active (state_of w) d

  abbrev pub is_up : ℕ → Bool
  is_up d = is_placed_in w.tree d && (cpu_at (state_of w) d).online

  pub runs_first : (k : ℕ) → NoneBelow w runs k → k < length w.cpus → runs k ≡ true →
      controller (state_of w) ≡ Some k
  runs_first k none low is =
      ap (λ o. option_or o (find is_up (all_cpus (state_of w)))) (find_here w runs k none low is)

  pub up_first : (k : ℕ) (o : Option ℕ) → NoneBelow w runs k → k ≡ length w.cpus →
      o ≡ find is_up (range_with_len 0 k) → o ≡ controller (state_of w)
  up_first k o none end is =
      is
      ∙ (ap (λ n. find is_up (range_with_len 0 n)) end
      ∙ (sym (ap (find is_up) (cpus_seen w))
      ∙ sym (ap (λ m. option_or m (find is_up (all_cpus (state_of w))))
      (find_none w runs k none (omega (arith, end))))))

  -- it has a number, and is online
  pub record IsThere (d : ℕ) : Type 0 where
    pub low : d < length w.cpus
    pub online : (cpu_of w d).online ≡ true

  found_online : (p : ℕ → Bool) (d : ℕ) → ((e : ℕ) → p e ≡ true →
      (cpu_at (state_of w) e).online ≡ true) → find p (all_cpus (state_of w)) ≡ Some d → IsThere d
  found_online p d online is =
      let at = found_there p 0 (length w.cpus) d (sym (ap (find p) (cpus_seen w)) ∙ is) in
      let below = at.below in
      let low : d < length w.cpus = omega (arith, below) in
      record { low = low; online = sym (online_seen w d low) ∙ online d at.passes }

  controls : (d : ℕ) → controller (state_of w) ≡ Some d → IsThere d
  controls d is = by_first (find runs (all_cpus (state_of w))) refl is
    where
      up_online : (e : ℕ) → is_up e ≡ true → (cpu_at (state_of w) e).online ≡ true
      up_online e up = (and_parts (is_placed_in w.tree e) (cpu_at (state_of w) e).online up).1

      runs_online : (e : ℕ) → runs e ≡ true → (cpu_at (state_of w) e).online ≡ true
      runs_online e on =
          (and_parts (cpu_at (state_of w) e).online (not (cpu_at (state_of w) e).idle)
          (and_parts (is_placed_in w.tree e) (is_active (state_of w) e) on).1).0

      by_first : (o : Option ℕ) → find runs (all_cpus (state_of w)) ≡ o →
          option_or o (find is_up (all_cpus (state_of w))) ≡ Some d → IsThere d
      by_first None none up = found_online is_up d up_online up
      by_first (Some e) some same = found_online runs d runs_online (some ∙ same)

  pub control_in_range : (o : Option CpuId) → option_map (λ d. d.0) o ≡ controller (state_of w) →
      IfSome o (λ d. d.0 < length w.cpus)
  control_in_range None is = tt
  control_in_range (Some d) is = (controls d.0 (sym is)).low

  pub control_online : (o : Option CpuId) → option_map (λ d. d.0) o ≡ controller (state_of w) →
      IfSome o (λ d. (cpu_of w d.0).online ≡ true)
  control_online None is = tt
  control_online (Some d) is = (controls d.0 (sym is)).online
