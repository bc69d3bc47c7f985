use Rattle.std.proofs.Common.{◌≡◌, ◌<◌, ◌^◌, drop}
use Rattle.text_words.specs.Numbers.{value_from}
use Rattle.text_words.proofs.words.value.Given as goal

abbrev pub invariant-loop-digit : goal.invariant-loop-digit
invariant-loop-digit l =
    record { value : value_from l.number (drop l.digit-index l.word) ≡ value_from 0 l.word; bound : l.number < 10 ^ l.digit-index }
