use Rattle.std.proofs.Common.{◌≡◌, ◌++◌, drop, map}
use Rattle.std.specs.List.{flat_map}
use Rattle.text_words.specs.Words.{ended}
use Rattle.program_texts.specs.Entries.{entry_line}
use Rattle.program_texts.proofs.entries.push_entries.Given as goal

abbrev pub invariant-loop-word : goal.invariant-loop-word
invariant-loop-word l =
    l.text.items ++ flat_map ended (map entry_line (drop l.word-index l.entries))
    ≡ l.fn.text.items ++ flat_map ended (map entry_line l.entries)
