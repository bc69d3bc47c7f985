use Rattle.std.proofs.Common.{◌≡◌, ℕ, ◌<◌, length}
use Rattle.event_queue.specs.EventMap.{event_at}
use Rattle.event_queue.specs.Word.{slot_of}
use Rattle.shared_rule.specs.Whole.{slot_at}
use Rattle.shared_table.specs.Endings.{word_in}
use Rattle.shared_table.proofs.groups.read_events.Given as goal

abbrev pub invariant-loop-child : goal.invariant-loop-child
invariant-loop-child l =
    record {
      eight : length l.events ≡ 8;
      each : (k : ℕ) → k < l.child
          → event_at l.events k ≡ slot_of (word_in l.words (slot_at l.group.0 k));
    }
