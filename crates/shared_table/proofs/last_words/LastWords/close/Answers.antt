use Rattle.std.proofs.Common.{subst}
use Rattle.std.specs.Slots.{slots_items}
use Rattle.atomic_table.specs.Table.{Final, Seen}
use Rattle.shared_rule.specs.declared.parts.Said.{Said}
use Rattle.shared_rule.specs.declared.parts.View.{View}
use Rattle.shared_rule.specs.Rule.{Holds}
use Rattle.shared_table.proofs.last_words.LastWords.close.Goals as goal

pub returns-clause-ends : goal.returns-clause-ends
returns-clause-ends g c = λ boxes passes all is.
    let o = c.args.table.shared.key.core in
    c.law_ends.ensures o c.args.seat.id boxes passes (slots_items c.close_with.result.words)
    (slots_items c.close_with.result.slots) all
    (subst (λ (v : View). Final (Seen {S = Said} {V = View} (Holds o) c.args.seat.id v)
    (slots_items c.close_with.result.words) (slots_items c.close_with.result.slots)) is
    c.close_with.ensures.values.2)
