-- a timer that is queued is in a base
use Rattle.std.proofs.Common.{◌≡◌, ℕ, ◌<◌, Option, Some, None, refl, subst, arith}
use Rattle.std.specs.Prelude.{is_some, option_and_then, option_map}
use Rattle.std.proofs.lemmas.Option.{none-some, same_Some}
use Rattle.tm_base.specs.declared.names.Class.{Class}
use Rattle.wheel_core.specs.declared.item.Item.{Item}
use Rattle.cpu_bases.specs.CpuBases.{class_in, found_in}
use Rattle.play_rules.specs.declared.asks.Queued.{Queued}
use Rattle.play_rules.specs.State.{State, cpu_count}
use Rattle.play_rules.specs.Timers.{bases_at, holder_of, queued_as, queued_at, where_queued}
use Rattle.play_laws.proofs.Answered.Ranges.{found_there}

-- WHERE a timer is queued: on a CPU of the machine, in a class, as an item
pub record HeldIs (s : State) (timer : ℕ) (held : Queued) : Type 0 where
  pub item : Item
  pub low : held.cpu.0 < cpu_count s
  pub found : found_in timer (bases_at s held.cpu.0) ≡ Some (held.class, item)
  pub wheel : item.wheel ≡ held.wheel

module _ (s : State) (timer : ℕ) (held : Queued) where
  on_it : (c : ℕ) (o : Option (Class × Item)) → found_in timer (bases_at s c) ≡ o
      → option_map (queued_as c) o ≡ Some held → c < cpu_count s → HeldIs s timer held
  on_it c None at is low = absurd (none-some held is)
  on_it c (Some (class, item)) at is low =
      let same : queued_as c (class, item) ≡ held = same_Some (queued_as c (class, item)) held is in
      subst (HeldIs s timer) same (record { item = item; low = low; found = at; wheel = refl })

  by_holder : (o : Option ℕ) → holder_of s timer ≡ o
      → option_and_then (queued_at s timer) o ≡ Some held → HeldIs s timer held
  by_holder None holder is = absurd (none-some held is)
  by_holder (Some c) holder is =
      let at =
      found_there (λ d. is_some (class_in timer (bases_at s d))) 0 (cpu_count s) c holder in
      let low = at.below in
      on_it c (found_in timer (bases_at s c)) refl is (omega (arith, low))

  pub held_is : where_queued s timer ≡ Some held → HeldIs s timer held
  held_is is = by_holder (holder_of s timer) refl is
