use Rattle.std.proofs.Common.{rules}
use Rattle.std.specs.Slots.{slots_items}
use Rattle.shared_table.proofs.Spellings.{got}
use Rattle.shared_table.proofs.last_words.LastWords.get.Goals as goal

pub returns : goal.returns
returns c =
    let e = got (slots_items c.self.inside.closed.words) c.index.result c.word.result c.word.ensures
    in
    search rules
