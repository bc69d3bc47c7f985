use Rattle.std.proofs.Common.{◌++◌, ◌∙◌, ap}
use Rattle.std.specs.Prelude.{codes}
use Rattle.linux_shown.proofs.Joined.{four}
use Rattle.linux_shown.proofs.facts.push_word_fact.Goals as goal
use Rattle.linux_shown.specs.Facts.{late_text, word_fact, word_text}
use Rattle.linux_shown.specs.Pieces.{pointer_text}

pub returns : goal.returns
unfolding word_fact
returns c =
    four c.args.text.now.items c.push_pointer.new.text.items c.push_bytes.new.text.items
    c.push_word.new.text.items c.push_bytes-2.new.text.items
    (pointer_text (codes "  known: group ") c.args.group.now.pointer) (codes ": ")
    (word_text c.args.group.now.word) (late_text c.args.group.now.late)
    c.in_ok-push_pointer.ensures (c.in_ok-push_bytes.ensures).ok c.in_ok-push_word.ensures
    ((c.in_ok-push_bytes-2.ensures).ok
    ∙ ap (λ x. c.push_word.new.text.items ++ x) c.late_text.ensures)
