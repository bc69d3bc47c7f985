use Rattle.std.proofs.Common.{◌≡◌, ◌+◌, ap, subst, ◌∙◌, arith}
use Rattle.std.specs.Prelude.{OnOk}
use Rattle.std.proofs.lemmas.Result.{err_from_is_err_and}
use Rattle.cpu_word.specs.Word.{cpu_word}
use Rattle.shared_words.specs.declared.layout.TheConstants.{WORDS_OF_LINE}
use Rattle.shared_words.specs.Layout.{index_of}
use Rattle.shared_rule.specs.Whole.{cpu_at, layout_of}
use Rattle.shared_table.specs.Spelled.{SpelledBelow, SpelledTo}
use Rattle.shared_table.proofs.Spelling.{cpu_done, one_more}
use Rattle.shared_table.proofs.first_words.push_cpu.Goals as goal

pub fill-requires : goal.fill-requires
fill-requires g c =
    let o = c.args.core.now in
    let place = cpu_at c.args.cpu.0 in
    let here : index_of (layout_of o) place ≡ c.len-index.result
    = omega (arith, c.len-index.ensures, c.args.words.now.ok.0, c.requires.before.count) in
    let word = c.pack_cpu.ensures ∙ ap cpu_word c.cpu.ensures in
    let written = one_more c.law_words_apart.ensures o place c.args.words.now.items
    c.pack_cpu.result c.requires.low c.requires.before word in
    let pushed : SpelledTo o (1 + index_of (layout_of o) place) c.push.new.self.items
    = rw c.in_ok-push.ensures.items written in
    subst (λ n. SpelledBelow o (n + WORDS_OF_LINE) c.push.new.self.items) here
    (cpu_done o c.push.new.self.items c.args.cpu.0 c.requires.low pushed)

pub returns : goal.returns
returns g c =
    let o = c.args.core.now in
    let next : c.len-index.result + WORDS_OF_LINE
    ≡ index_of (layout_of o) (cpu_at (c.args.cpu.0 + 1))
    = omega (arith, c.len-index.ensures, c.args.words.now.ok.0, c.requires.before.count) in
    subst (λ n. OnOk c.fill.result (SpelledTo o n c.fill.new.words.items)) next c.fill.ensures

pub returns-in_err-push : goal.returns-in_err-push
returns-in_err-push g c =
    let p = err_from_is_err_and c.from_residual.result c.from_residual.ensures.1 in rw p.1 tt
