use Rattle.std.proofs.Common.{ap, ◌∙◌}
use Rattle.std.specs.Prelude.{string_bytes}
use Rattle.orders_view.specs.Words.{take_word}
use Rattle.orders_view.proofs.Chosen.{word_next, word_none, words_end}
use Rattle.orders_view.proofs.words.read_options.Goals as goal

pub returns-in-None : goal.returns-in-None
returns-in-None c =
    word_none _ _ _ c.word-item.result c.loop-word-test.true c.loop-word.invariant
    (c.in-None.ensures
    ∙ ap (take_word c.loop-word.options)
    (c.as_bytes.ensures.value ∙ ap string_bytes c.word-item.is))

pub loop-word-preserved : goal.loop-word-preserved
loop-word-preserved c =
    word_next _ _ _ c.word-item.result _ c.loop-word-test.true c.loop-word.invariant
    (c.in-Some.ensures
    ∙ ap (take_word c.loop-word.options)
    (c.as_bytes.ensures.value ∙ ap string_bytes c.word-item.is))

pub returns : goal.returns
returns c =
    c.asked_of.ensures ∙ words_end _ _ _ c.loop-word-test.false c.loop-word.invariant
