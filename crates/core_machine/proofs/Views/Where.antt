-- where a timer is queued, as Play looks for it
use Rattle.std.proofs.Common.{◌≡◌, ℕ, ◌+◌, ◌<◌, Bool, true, false, Option, Some, None}
use Rattle.std.proofs.Common.{length, refl, sym, ap, ◌∙◌, arith, true≢false}
use Rattle.std.specs.Prelude.{IfNone, IfSome, is_some, option_and_then, option_map}
use Rattle.tm_base.specs.declared.names.Class.{Class}
use Rattle.tm_base.specs.declared.names.CpuId.{CpuId}
use Rattle.wheel_core.specs.declared.item.Item.{Item}
use Rattle.tm_base.specs.declared.names.Class.TheVariants.{Pinned, Global, Deferrable}
use Rattle.cpu_bases.specs.CpuBases.{base_of, class_in, found_in}
use Rattle.play_rules.specs.declared.asks.Queued.{Queued}
use Rattle.play_rules.specs.State.{Cpu}
use Rattle.play_rules.specs.Timers.{bases_at, count_on, holder_of, queued_as, queued_at}
use Rattle.play_rules.specs.Timers.{where_queued}
use Rattle.core_world.specs.Lawful.{IsLawful}
use Rattle.core_world.specs.World.{World, cpu_of}
use Rattle.core_steps.specs.core_state.Kept.{is_queued}
use Rattle.step_play.specs.Rules.Seen.{state_of}
use Rattle.step_play.proofs.Queues.Sights.{seen_at}
use Rattle.core_machine.proofs.Views.Searches.{find_here, find_none}

some_class : (o : Option Class) → is_some o ≡ true → (class : Class) × (o ≡ Some class)
some_class None is = absurd (true≢false (sym is))
some_class (Some class) is = (class, refl)

module _ (w : World) (timer : ℕ) where
  abbrev queued_there : ℕ → Bool
  queued_there c = is_some (class_in timer (bases_at (state_of w) c))

  there_seen : (c : ℕ) → c < length w.cpus →
      queued_there c ≡ is_queued timer (cpu_of w c).bases
  there_seen c low = ap (λ (x : Cpu). is_some (class_in timer x.bases)) (seen_at w c low)

  -- the only CPU on which it is queued is the lowest
  pub held_by : IsLawful w → (c : ℕ) → c < length w.cpus →
      is_queued timer (cpu_of w c).bases ≡ true → holder_of (state_of w) timer ≡ Some c
  held_by lawful c low is =
      find_here w queued_there c (λ d below. others d below) low (there_seen c low ∙ is)
    where
      others : (d : ℕ) → d < c → queued_there d ≡ false
      others d below =
          there_seen d (omega (arith, below, low))
          ∙ by_class (is_queued timer (cpu_of w d).bases) refl
        where
          by_class : (b : Bool) → is_queued timer (cpu_of w d).bases ≡ b → b ≡ false
          by_class false here = refl
          by_class true here =
              let one = some_class (class_in timer (cpu_of w c).bases) is in
              let other = some_class (class_in timer (cpu_of w d).bases) here in
              let same = lawful.timers.one_cpu c d timer one.0 other.0 one.1 other.1 in
              absurd (omega (arith, same, below))

  pub held_nowhere : ((d : ℕ) → is_queued timer (cpu_of w d).bases ≡ false) →
      holder_of (state_of w) timer ≡ None
  held_nowhere none =
      find_none w queued_there (length w.cpus) (λ d low. there_seen d low ∙ none d) (omega arith)

  -- QUEUED there
  pub queued_nowhere : ((d : ℕ) → is_queued timer (cpu_of w d).bases ≡ false) →
      where_queued (state_of w) timer ≡ None
  queued_nowhere none = ap (option_and_then (queued_at (state_of w) timer)) (held_nowhere none)

  pub queued_by : IsLawful w → (c : ℕ) → c < length w.cpus →
      is_queued timer (cpu_of w c).bases ≡ true →
      where_queued (state_of w) timer ≡ option_map (queued_as c) (found_in timer (cpu_of w c).bases)
  queued_by lawful c low is =
      ap (option_and_then (queued_at (state_of w) timer)) (held_by lawful c low is)
      ∙ ap (λ (x : Cpu). option_map (queued_as c) (found_in timer x.bases)) (seen_at w c low)

  -- WHAT IS SAID of the CPU that is noted for it
  there_as : (d : CpuId) (o : Option (Class × Item)) → is_some (option_map (λ f. f.0) o) ≡ true →
      option_map (λ (held : Queued). held.cpu) (option_map (queued_as d.0) o) ≡ Some d
  there_as d None is = absurd (true≢false (sym is))
  there_as d (Some found) is = refl

  pub holder_is : IsLawful w → (o : Option CpuId) →
      IfSome o (λ d. is_queued timer (cpu_of w d.0).bases ≡ true) →
      IfSome o (λ d. d.0 < length w.cpus) →
      IfNone o ((d : ℕ) → is_queued timer (cpu_of w d).bases ≡ false) →
      o ≡ option_map (λ (held : Queued). held.cpu) (where_queued (state_of w) timer)
  holder_is lawful None there low nowhere =
      sym (ap (option_map (λ (held : Queued). held.cpu)) (queued_nowhere nowhere))
  holder_is lawful (Some d) there low nowhere =
      sym (ap (option_map (λ (held : Queued). held.cpu)) (queued_by lawful d.0 low there)
      ∙ there_as d (found_in timer (cpu_of w d.0).bases) there)

-- HOW MANY timers a CPU has
pub counted : (w : World) (c : ℕ) → c < length w.cpus → count_on (state_of w) c
    ≡ length (base_of Pinned (cpu_of w c).bases).items
    + (length (base_of Global (cpu_of w c).bases).items
    + length (base_of Deferrable (cpu_of w c).bases).items)
counted w c low =
    ap (λ (x : Cpu). length (base_of Pinned x.bases).items
    + (length (base_of Global x.bases).items + length (base_of Deferrable x.bases).items))
    (seen_at w c low)
