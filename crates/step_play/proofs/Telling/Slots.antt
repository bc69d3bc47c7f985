-- what a walk finds in the slots of a group, one after the other
use Rattle.std.proofs.Common.{◌≡◌, ℕ, ◌+◌, ◌<◌, ◌≤◌, inl, inr, None, length, take, refl, sym, ap}
use Rattle.std.specs.Prelude.{◌==◌}
use Rattle.std.specs.List.{fold}
use Rattle.std.proofs.lemmas.Bool.{cases_Bool, eqb-true}
use Rattle.std.proofs.lemmas.List.{take_all}
use Rattle.std.proofs.lemmas.List.Sums.{fold_more}
use Rattle.tm_base.specs.declared.names.TheConstants.{NEVER}
use Rattle.event_queue.specs.EventMap.{EventMap, event_at}
use Rattle.walk_rules.specs.Stages.{first_of, leaf_event}
use Rattle.step_play.specs.Rules.Live.{counting, expiry_of}

-- the least live expiry of the first n slots, and of all
abbrev pub first_upto : (n : ℕ) → EventMap → ℕ
first_upto n events = fold first_of NEVER (take n events)

abbrev pub least_live : EventMap → ℕ
least_live events = fold first_of NEVER events

pub first_more : (n : ℕ) (events : EventMap) → n < length events →
    first_upto (n + 1) events ≡ first_of (first_upto n events) (event_at events n)
first_more n events low = fold_more first_of NEVER events n None low

pub first_all : (n : ℕ) (events : EventMap) → length events ≤ n →
    first_upto n events ≡ least_live events
first_all n events high = ap (fold first_of NEVER) (take_all n events high)

-- the event that a CPU tells its leaf is at the time that it tells
pub leaf_time : (c next : ℕ) → expiry_of (counting (leaf_event c next)) ≡ next
leaf_time c next = elim (cases_Bool (next == NEVER)) [
  | inl is ↦ rw is (sym (eqb-true next NEVER is))
  | inr not ↦ rw not refl
]
