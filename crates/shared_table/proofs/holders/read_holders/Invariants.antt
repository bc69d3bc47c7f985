use Rattle.std.proofs.Common.{◌≡◌, ℕ, ◌<◌, length}
use Rattle.std.specs.Prelude.{option_map}
use Rattle.shared_rule.specs.core_state.Kept.{noted}
use Rattle.shared_words.specs.Words.{spot_of}
use Rattle.shared_rule.specs.Whole.{timer_at}
use Rattle.shared_table.specs.Endings.{cpu_of_spot, word_in}
use Rattle.shared_table.proofs.holders.read_holders.Given as goal

abbrev pub invariant-loop-timer : goal.invariant-loop-timer
invariant-loop-timer l =
    record {
      count : length l.holders.items ≡ l.words.layout.timers;
      each : (t : ℕ) → t < l.timer
          → noted l.holders.items t ≡ option_map cpu_of_spot (spot_of (word_in l.words (timer_at t)));
    }
