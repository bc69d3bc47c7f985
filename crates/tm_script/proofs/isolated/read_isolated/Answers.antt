use Rattle.std.proofs.Common.{sym, ap, ◌∙◌}
use Rattle.std.specs.Option.{option_copied}
use Rattle.std.proofs.lemmas.Result.{err_from_is_err_and}
use Rattle.tm_script.specs.declared.isolated.Named.{Named}
use Rattle.tm_script.specs.Reading.{words_behind, isolated_from}
use Rattle.tm_script.proofs.Steps.{isolated_step, isolated_fails, isolated_done}
use Rattle.tm_script.proofs.isolated.read_isolated.Goals as goal

pub returns-in_err-number : goal.returns-in_err-number
returns-in_err-number c =
    let p = err_from_is_err_and c.from_residual.result c.from_residual.ensures.1 in
    rw (p.1, p.2)
    (sym (isolated_fails c.args.count c.loop-rest.named (option_copied c.loop-rest.rest) c.in-Some.words.now c.first_word.result.0.now (words_behind (option_copied c.first_word.result.1)) _
    (ap option_copied c.in-Some.is) c.first_word.ensures.words (sym c.in_err-number.ensures.value))
    ∙ c.loop-rest.invariant)

pub loop-rest-preserved : goal.loop-rest-preserved
loop-rest-preserved c =
    ap (λ (s : Named). isolated_from c.args.count s (words_behind (option_copied c.first_word.result.1))) c.add.ensures
    ∙ sym (isolated_step c.args.count c.loop-rest.named (option_copied c.loop-rest.rest) c.in-Some.words.now c.first_word.result.0.now (words_behind (option_copied c.first_word.result.1)) _
    (ap option_copied c.in-Some.is) c.first_word.ensures.words (sym c.in_ok-number.ensures.value))
    ∙ c.loop-rest.invariant

pub returns : goal.returns
returns c = c.finish.ensures ∙ sym (isolated_done c.args.count c.loop-rest.named (option_copied c.loop-rest.rest) (ap option_copied c.in_default.is)) ∙ c.loop-rest.invariant
