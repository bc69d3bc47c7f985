use Rattle.std.proofs.Common.{arith}
use Rattle.text_words.proofs.Digits.{few, digits_true}
use Rattle.text_words.proofs.words.value.Goals as goal

pub overflow_mul-number : goal.overflow_mul-number
overflow_mul-number c =
    let short = (digits_true c.args.word.now c.requires).short in
    omega (arith, c.loop-digit.invariant.bound, few c.loop-digit.digit-index (omega arith))

pub overflow_add-number : goal.overflow_add-number
overflow_add-number c =
    let short = (digits_true c.args.word.now c.requires).short in
    omega (arith, c.loop-digit.invariant.bound, few c.loop-digit.digit-index (omega arith), c.type_inv.word c.loop-digit.digit-index)

pub returns-clause-bound : goal.returns-clause-bound
returns-clause-bound c =
    let short = (digits_true c.args.word.now c.requires).short in
    omega (arith, c.loop-digit.invariant.bound, few c.loop-digit.digit-index (omega arith))
