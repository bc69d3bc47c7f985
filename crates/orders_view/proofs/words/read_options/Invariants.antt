use Rattle.std.proofs.Common.{◌≡◌, drop}
use Rattle.orders_view.specs.Words.{first_options, options_from}
use Rattle.orders_view.proofs.words.read_options.Given as goal

abbrev pub invariant-loop-word : goal.invariant-loop-word
invariant-loop-word l =
    options_from l.options (drop l.word-index l.fn.words)
    ≡ options_from first_options l.fn.words
