use Rattle.std.proofs.Common.{◌<◌, ◌-◌, ◌^◌, ℕ, Option, Some, None, arith, refl}
use Rattle.std.proofs.lemmas.Nat.Bits.{bit_at-zero}
use Rattle.group_word.specs.Group.{GroupLaw}
use Rattle.group_word.specs.State.{state_word}
use Rattle.shared_words.specs.Exchanges.{HasRoom}
use Rattle.shared_words.proofs.tests.an_exchange_changes_the_set_and_raises_the_sequence.Goals as goal

room : (active seq : ℕ) (migrator : Option ℕ) → active < 2 ^ 8 → GroupLaw active migrator
    → seq < 2 ^ 48 - 1
    → HasRoom (state_word (record { active = active; migrator = migrator; seq = seq }))
room active seq migrator eight law low = (
  record { active = active; migrator = migrator; seq = seq },
  record {
    lawful = record { eight_children = eight; group = law; sequence = omega arith };
    spelled = refl;
  },
  low,
)

three : HasRoom 328199
three = room 7 5 (Some 1) (omega arith) refl (omega arith)

pub joined_word-requires-clause-room : goal.joined_word-requires-clause-room
joined_word-requires-clause-room g c = three

pub joined_word-requires-2-clause-room : goal.joined_word-requires-2-clause-room
joined_word-requires-2-clause-room g c =
    room 0 0 None (omega arith) (λ k h. omega (arith, bit_at-zero k)) (omega arith)

pub swapped_word-requires-clause-room : goal.swapped_word-requires-clause-room
swapped_word-requires-clause-room g c = three

pub swapped_word-requires-2-clause-room : goal.swapped_word-requires-2-clause-room
swapped_word-requires-2-clause-room g c = three
