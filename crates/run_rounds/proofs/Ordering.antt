-- an interrupt drains its own bases first, as its lines tell it
use Rattle.std.proofs.Common.{◌≡◌, inl, inr, ℕ, List, [], ◌∷◌, ◌++◌, ap, ◌∙◌, map, subst}
use Rattle.std.proofs.lemmas.List.{map-append}
use Rattle.std.specs.List.{AllByRecursion}
use Rattle.tm_base.specs.declared.names.Class.{Class}
use Rattle.core_world.specs.World.{World}
use Rattle.run_shares.specs.shared_rule.declared.parts.Did.{Did}
use Rattle.run_shares.specs.shared_rule.declared.parts.Receipt.{Receipt}
use Rattle.remote_expiry.specs.Order.{IsWholeDrain, RunsOwnFirst}
use Rattle.remote_expiry.proofs.Drains.{drained_each, drained_ticked}
use Rattle.run_shares.specs.run_story.Runs.{DrainsOwnBase, IsOfOwnBase, WritesOwnFirst}
use Rattle.run_shares.specs.Doing.{written_of}
use Rattle.run_shares.proofs.Running.{ticked_told}

-- what holds of what receipts say was written
each_written : (cpu : ℕ) (class : Class) (rs : List Receipt)
    → AllByRecursion (λ (r : Receipt). IsOfOwnBase cpu class (written_of r)) rs
    → AllByRecursion (IsOfOwnBase cpu class) (map written_of rs)
each_written cpu class [] h = tt
each_written cpu class (r ∷ rs) h = (h.0, each_written cpu class rs h.1)

-- a drain of an own base
drain_written : (cpu : ℕ) (class : Class) (rs : List Receipt) → IsWholeDrain cpu cpu class rs
    → DrainsOwnBase cpu class (map written_of rs)
drain_written cpu class rs h = record {
  ticked = ticked_told cpu class rs (drained_ticked cpu class rs h);
  each =
      each_written cpu class rs
      (drained_each cpu cpu class (λ (r : Receipt). IsOfOwnBase cpu class (written_of r))
      (λ r armed. inl armed) (λ r home of_class. inr (home, of_class)) rs h);
}

-- ITS OWN TIMERS FIRST
pub own_first : (o : World) (cpu first : ℕ) (rs : List Receipt) (did : List Did)
    → RunsOwnFirst o cpu first rs did → WritesOwnFirst cpu (map written_of rs)
own_first o cpu first rs did h = record {
  pinned = map written_of h.pinned;
  global = map written_of h.global;
  deferrable = map written_of h.deferrable;
  others = map written_of h.others;
  wrote_is =
      ap (map written_of) h.receipts_are
      ∙ (map-append written_of (h.pinned ++ (h.global ++ h.deferrable)) h.others
      ∙ ap (λ l. l ++ map written_of h.others)
      (map-append written_of h.pinned (h.global ++ h.deferrable)
      ∙ ap (λ l. map written_of h.pinned ++ l) (map-append written_of h.global h.deferrable)));
  of_pinned = drain_written cpu _ h.pinned h.of_pinned;
  of_global = drain_written cpu _ h.global h.of_global;
  of_deferrable = drain_written cpu _ h.deferrable h.of_deferrable;
}
