use Rattle.std.proofs.Common.{◌++◌, ap, sym, ◌∙◌, List, ℕ}
use Rattle.text_words.specs.Words.{words_of}
use Rattle.page_rows.specs.Rows.{filled}
use Rattle.page_rows.proofs.WordLaws.{filled_done, filled_next}
use Rattle.page_rows.proofs.filling.push_filled.Goals as goal

pub loop-word-preserved : goal.loop-word-preserved
loop-word-preserved c =
    let old = c.loop-word.text.items in
    record {
      text =
          filled_next c.args.indent c.args.width c.loop-word.at c.in_ok-at.at c.in-Some.word.now
          (words_of c.in-Some.behind.now) old c.push_word.new.text.items
          c.in_ok-at.ensures.text c.in_ok-at.ensures.place
          ∙ (ap
          (λ (ws : List (List ℕ)). old ++ filled c.args.indent c.args.width c.loop-word.at ws)
          (sym c.in-Some.ensures.found)
          ∙ c.loop-word.invariant.text);
    }

pub returns : goal.returns
returns c =
    let old = c.loop-word.text.items in
    filled_done c.args.indent c.args.width c.loop-word.at c.loop-word.rest.now old
    c.push_word-2.new.text.items c.in_ok-push_word.ensures.text
    ∙ (ap
    (λ (ws : List (List ℕ)). old ++ filled c.args.indent c.args.width c.loop-word.at ws)
    (sym c.in_default.ensures.none)
    ∙ c.loop-word.invariant.text)
