use Rattle.std.proofs.Common.{List, ◌++◌, map, append-nil, append_assoc, length, ◌<◌, ◌≤◌, ℕ}
use Rattle.std.proofs.Common.{sym, ap, ◌∙◌, arith}
use Rattle.std.specs.Prelude.{codes}
use Rattle.std.specs.List.{flat_map}
use Rattle.std.proofs.lemmas.List.{at_drop_more, at_drop_all}
use Rattle.std.proofs.lemmas.Result.{err_from_is_err_and}
use Rattle.text_words.specs.Words.{ended}
use Rattle.tm_script.specs.declared.syntax.Op.{Op}
use Rattle.tm_script.specs.Texts.{op_line, number_line}
use Rattle.tm_script.proofs.print.push_moment.Goals as goal

pub loop-op-init : goal.loop-op-init
loop-op-init c =
    let old = c.args.text.now.items in
    let line = ended (number_line (codes "at") c.args.moment.now.at) in
    let lines = λ (ops : List Op). flat_map ended (map op_line ops) in
    let items = c.as_slice-op-items.result.now in
    record {
      items = c.as_slice-op-items.ensures;
      text =
          ap (λ (t : List ℕ). t ++ lines items) c.in_ok-push_field.ensures
          ∙ append_assoc old line (lines items)
          ∙ ap (λ (ops : List Op). old ++ (line ++ lines ops)) c.as_slice-op-items.ensures;
    }

pub loop-op-preserved : goal.loop-op-preserved
loop-op-preserved c =
    let before = c.loop-op.text.items in
    let items = c.as_slice-op-items.result.now in
    let i = c.loop-op.op-index in
    let lines = λ (ops : List Op). flat_map ended (map op_line ops) in
    let low : i < length items = omega (arith, c.loop-op-test.true) in
    record {
      items = c.loop-op.invariant.items;
      text =
          rw c.in_ok-push_op.ensures
          (append_assoc before _ _
          ∙ ap (λ (t : List ℕ). before ++ t) (sym (at_drop_more lines items i _ low))
          ∙ c.loop-op.invariant.text);
    }

pub loop-op-smaller : goal.loop-op-smaller
loop-op-smaller c = omega (arith, c.loop-op-test.true)

pub returns : goal.returns
returns c =
    let text = c.loop-op.text.items in
    let items = c.as_slice-op-items.result.now in
    let i = c.loop-op.op-index in
    let lines = λ (ops : List Op). flat_map ended (map op_line ops) in
    let past : length items ≤ i = omega (arith, c.loop-op-test.false) in
    sym (append-nil text)
    ∙ sym (ap (λ (t : List ℕ). text ++ t) (at_drop_all lines items i past))
    ∙ c.loop-op.invariant.text

pub returns-in_err-push_field : goal.returns-in_err-push_field
returns-in_err-push_field c =
    let p = err_from_is_err_and c.from_residual.result c.from_residual.ensures.1 in rw p.1 tt

pub returns-in_err-push_op : goal.returns-in_err-push_op
returns-in_err-push_op c =
    let left = c.from_residual-in_err-push_op in
    let p = err_from_is_err_and left.result left.ensures.1 in rw p.1 tt
