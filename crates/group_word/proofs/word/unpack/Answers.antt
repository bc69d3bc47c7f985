use Rattle.std.proofs.Common.{ap, sym, ◌∙◌, Some}
use Rattle.std.proofs.lemmas.Bool.{false≢true}
use Rattle.group_word.specs.State.{migrator_bits}
use Rattle.group_word.proofs.Words.{parts, migrator_back, state_back}
use Rattle.group_word.proofs.word.unpack.Goals as goal
use Rattle.group_word.proofs.word.unpack.Goals.{else-mark-bit-via-then-mark-bit+else-meets_law, else-mark-bit-via-else-mark-bit}

pub returns-then-meets_law-clause-back : goal.returns-then-meets_law-clause-back
returns-then-meets_law-clause-back c =
    λ s is. ap Some (state_back c.args.word s _ c.lowest-migrator.ensures.exact is)

pub returns-else-mark-bit-clause-none : goal.returns-else-mark-bit-clause-none
returns-else-mark-bit-clause-none c = λ s is.
    let read = parts c.args.word s is in
    let back = migrator_back c.args.word s _ c.lowest-migrator.ensures.exact is in
    elim c.else-mark-bit.branch [
      | else-mark-bit-via-then-mark-bit+else-meets_law w ↦
          absurd (false≢true (w.if-meets_law.ensures.1 (rw (read.0, back) is.lawful.group)))
      | else-mark-bit-via-else-mark-bit w ↦
          absurd (w.if-mark-bit.false (c.mark.ensures ∙ (ap migrator_bits back ∙ sym read.1)))
    ]

pub returns-else-mark-bit-clause-back : goal.returns-else-mark-bit-clause-back
returns-else-mark-bit-clause-back c = λ s is. absurd (returns-else-mark-bit-clause-none c s is)
