use Rattle.std.proofs.Common.{◌≡◌, drop}
use Rattle.view_main.specs.Words.{first_options, options_from}
use Rattle.view_main.proofs.words.read_options.Given as goal

abbrev pub invariant-loop-word : goal.invariant-loop-word
invariant-loop-word l =
    options_from l.options (drop l.word-index l.fn.words)
    ≡ options_from first_options l.fn.words
