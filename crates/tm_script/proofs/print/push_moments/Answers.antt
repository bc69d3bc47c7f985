use Rattle.std.proofs.Common.{List, ◌≡◌, ◌∷◌, ◌++◌, drop, append-nil, append_assoc, length, ◌<◌}
use Rattle.std.proofs.Common.{◌≤◌, ◌+◌, ℕ, refl, sym, ap, ◌∙◌, arith}
use Rattle.std.specs.List.{flat_map}
use Rattle.std.proofs.lemmas.List.{drop_more, at_drop_all}
use Rattle.std.proofs.lemmas.Result.{err_from_is_err_and}
use Rattle.text_words.specs.Words.{ended}
use Rattle.tm_script.specs.declared.syntax.Moment.{Moment}
use Rattle.tm_script.specs.Texts.{moment_lines}
use Rattle.tm_script.proofs.PrintLaws.{printed_moment}
use Rattle.tm_script.proofs.print.push_moments.Goals as goal

pub loop-moment-init : goal.loop-moment-init
loop-moment-init c = refl

pub loop-moment-preserved : goal.loop-moment-preserved
loop-moment-preserved c =
    let before = c.loop-moment.text.items in
    let moments = c.args.moments.now in
    let i = c.loop-moment.moment-index in
    let m = c.moment-item.result in
    let rest = drop (i + 1) moments in
    let lines = λ (ms : List Moment). flat_map ended (flat_map moment_lines ms) in
    let low : i < length moments = omega (arith, c.loop-moment-test.true) in
    let left : drop i moments ≡ m ∷ rest =
    drop_more moments i _ low ∙ ap (λ (x : Moment). x ∷ rest) (sym c.moment-item.is) in
    ap (λ (t : List ℕ). t ++ lines rest) c.in_ok-push_moment.ensures
    ∙ append_assoc before (flat_map ended (moment_lines m)) (lines rest)
    ∙ ap (λ (t : List ℕ). before ++ t) (sym (ap lines left ∙ printed_moment m rest))
    ∙ c.loop-moment.invariant

pub returns : goal.returns
returns c =
    let text = c.loop-moment.text.items in
    let moments = c.args.moments.now in
    let i = c.loop-moment.moment-index in
    let lines = λ (ms : List Moment). flat_map ended (flat_map moment_lines ms) in
    let past : length moments ≤ i = omega (arith, c.loop-moment-test.false) in
    sym (append-nil text)
    ∙ sym (ap (λ (t : List ℕ). text ++ t) (at_drop_all lines moments i past))
    ∙ c.loop-moment.invariant

pub returns-in_err-push_moment : goal.returns-in_err-push_moment
returns-in_err-push_moment c =
    let p = err_from_is_err_and c.from_residual.result c.from_residual.ensures.1 in rw p.1 tt
