-- what a walk stores fits into the word of a slot
use Rattle.std.proofs.Common.{◌≡◌, ◌<◌, ◌≤◌, ℕ, zero, suc, Bool, true, false, Option, Some, None}
use Rattle.std.proofs.Common.{refl, subst, arith, length}
use Rattle.std.specs.Prelude.{◌==◌, if◌then◌else◌}
use Rattle.std.proofs.lemmas.Option.{none-some, same_Some}
use Rattle.std.specs.Option.{ForSome}
use Rattle.tm_base.specs.declared.names.TheConstants.{NEVER}
use Rattle.event_queue.specs.declared.event.Event.{Event}
use Rattle.event_queue.specs.EventMap.{FitsWord}
use Rattle.walk_rules.specs.declared.walk.Walk.{Walk}
use Rattle.walk_rules.specs.Stages.{best_event, stored_event}
use Rattle.core_world.specs.World.{World}
use Rattle.shared_rule.specs.core_facts.Ranges.{WalkInRange}

-- what a walk of a CPU stores at a level, where there are few CPUs
pub stored_fits : (o : World) (cpu : ℕ) (k : Walk) → length o.cpus ≤ 512 → cpu < length o.cpus
    → WalkInRange o k → ForSome (stored_event k.level cpu k) FitsWord
stored_fits o cpu k many low range = by_level k.level refl
  where
    told : Event
    told = record { expiry = k.next; cpu = record { 0 = cpu }; ignored = false }

    told_fits : FitsWord told
    told_fits = record { expiry = range.next; cpu = omega (arith, many, low) }

    leaf : (never : Bool) → ForSome (if never then None else Some told) FitsWord
    leaf true = λ e is. absurd (none-some e is)
    leaf false = λ e is. subst FitsWord (same_Some told e is) told_fits

    best : (m : Option Event) → k.best ≡ m → 0 < k.level → ForSome (best_event m) FitsWord
    best None is high = λ e there. absurd (none-some e there)
    best (Some x) is high =
        let time = range.best x is in
        let one = range.best_cpu x is high in
        let fits : FitsWord (record x { ignored = false }) = record {
          expiry = omega (arith, time);
          cpu = omega (arith, many, one);
        } in
        λ e there. subst FitsWord (same_Some (record x { ignored = false }) e there) fits

    by_level : (l : ℕ) → k.level ≡ l → ForSome (stored_event l cpu k) FitsWord
    by_level zero is = leaf (k.next == NEVER)
    by_level (suc l) is = best k.best refl (omega (arith, is))
