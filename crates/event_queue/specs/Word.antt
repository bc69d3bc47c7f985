-- the word of a slot
use Rattle.std.specs.Prelude.{ℕ, ◌+◌, ◌*◌, ◌/◌, ◌%◌, ◌^◌, ◌==◌, Option, Some, None, if◌then◌else◌}
use Rattle.std.specs.Int.{bit_at, from_bool}
use Rattle.event_queue.specs.declared.event.Event.{Event}

-- bits 0 to 47 are the expiry, 48 to 57 the CPU, 58 says that the event is ignored, and 59 that
-- there is one
abbrev pub slot_word : Option Event → ℕ
slot_word None = 0
slot_word (Some e) = e.expiry + 2 ^ 48 * e.cpu.0 + 2 ^ 58 * from_bool e.ignored + 2 ^ 59

-- the event in the bits of a word: the expiry below, then CPU and whether it is ignored
abbrev pub event_of : ℕ → Event
event_of word = record {
  expiry = word % 2 ^ 48;
  cpu = record { 0 = word / 2 ^ 48 % 2 ^ 10 };
  ignored = bit_at word 58 == 1;
}

-- the event that a word spells: none where bit 59 isn't set; bits 60 to 63 say nothing
abbrev pub slot_of : ℕ → Option Event
slot_of word = if bit_at word 59 == 1 then Some (event_of word) else None
