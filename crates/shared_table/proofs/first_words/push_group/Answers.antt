use Rattle.std.proofs.Common.{◌≡◌, ◌+◌, subst, arith}
use Rattle.std.specs.Prelude.{OnOk}
use Rattle.std.proofs.lemmas.Result.{err_from_is_err_and}
use Rattle.shared_words.specs.declared.layout.TheConstants.{WORDS_OF_GROUP}
use Rattle.shared_words.specs.Layout.{index_of}
use Rattle.shared_rule.specs.Whole.{layout_of, slot_at, state_at}
use Rattle.shared_table.specs.Spelled.{SpelledBelow, SpelledTo}
use Rattle.shared_table.proofs.Spelling.{group_done}
use Rattle.shared_table.proofs.first_words.push_group.Goals as goal

pub push_state-requires-clause-before : goal.push_state-requires-clause-before
push_state-requires-clause-before g c = c.requires.before

pub push_lock-requires-clause-before : goal.push_lock-requires-clause-before
push_lock-requires-clause-before g c = c.in_ok-push_state.ensures

pub push_slot-requires-clause-before : goal.push_slot-requires-clause-before
push_slot-requires-clause-before g c = c.loop-child.invariant

pub loop-child-init : goal.loop-child-init
loop-child-init g c = c.in_ok-push_lock.ensures

pub loop-child-preserved : goal.loop-child-preserved
loop-child-preserved g c = c.in_ok-push_slot.ensures

pub fill-requires : goal.fill-requires
fill-requires g c =
    let o = c.args.core.now in
    let words = c.loop-child.words.items in
    let here : index_of (layout_of o) (state_at c.args.group.0) ≡ c.len-index.result
    = omega (arith, c.len-index.ensures, c.args.words.now.ok.0, c.requires.before.count) in
    let all : c.loop-child.child ≡ 8
    = omega (arith, c.loop-child-test.false, c.loop-child.auto.child-end) in
    subst (λ n. SpelledBelow o (n + WORDS_OF_GROUP) words) here
    (group_done o words c.args.group.0 c.requires.low
    (subst (λ k. SpelledTo o (index_of (layout_of o) (slot_at c.args.group.0 k)) words) all
    c.loop-child.invariant))

pub returns : goal.returns
returns g c =
    let o = c.args.core.now in
    let next : c.len-index.result + WORDS_OF_GROUP
    ≡ index_of (layout_of o) (state_at (c.args.group.0 + 1))
    = omega (arith, c.len-index.ensures, c.args.words.now.ok.0, c.requires.before.count) in
    subst (λ n. OnOk c.fill.result (SpelledTo o n c.fill.new.words.items)) next c.fill.ensures

pub returns-in_err-push_state : goal.returns-in_err-push_state
returns-in_err-push_state g c =
    let p = err_from_is_err_and c.from_residual.result c.from_residual.ensures.1 in rw p.1 tt

pub returns-in_err-push_lock : goal.returns-in_err-push_lock
returns-in_err-push_lock g c =
    let left = c.from_residual-in_err-push_lock in
    let p = err_from_is_err_and left.result left.ensures.1 in rw p.1 tt

pub returns-in_err-push_slot : goal.returns-in_err-push_slot
returns-in_err-push_slot g c =
    let left = c.from_residual-in_err-push_slot in
    let p = err_from_is_err_and left.result left.ensures.1 in rw p.1 tt
