use Rattle.std.proofs.Common.{◌≡◌, ◌-◌, ◌%◌, ◌∙◌, sym, subst, arith, inl, inr}
use Rattle.wheel_core.specs.WheelExpiry.{granularity}
use Rattle.std.proofs.lemmas.Bool.{cases_eq}
use Rattle.wheel_base.proofs.GoingOut.{some_goes_out, none_lower}
use Rattle.wheel_base.proofs.outs.out_of.Goals as goal

pub loop-down-init : goal.loop-down-init
loop-down-init c = λ e among is.
    let at = c.requires.near e among in
    let top = c.top_level-top.ensures.top e.1.level at.level (subst (λ w. w % granularity e.1.level ≡ 0) is at.granule) in omega arith

pub returns-then-is_some : goal.returns-then-is_some
returns-then-is_some c =
    some_goes_out (c.top_level-top.result - c.loop-down.down) c.args.wheel c.args.store.now.filed c.newest_at-entry.result (sym c.is_some.ensures ∙ c.if-is_some.true)
    c.newest_at-entry.ensures.last c.newest_at-entry.ensures.stored (λ e among is. let level = c.loop-down.invariant e among is in omega arith)

pub loop-down-preserved : goal.loop-down-preserved
loop-down-preserved c = λ e among is.
    let level = c.loop-down.invariant e among is in
    let other = none_lower (c.top_level-top.result - c.loop-down.down) c.args.wheel c.args.store.now.filed c.newest_at-entry.result (sym c.is_some.ensures ∙ c.if-is_some.false) c.newest_at-entry.ensures.last e among is in
    let within = c.loop-down-test.true in
    elim (cases_eq e.1.level (c.top_level-top.result - c.loop-down.down)) [ inl same ↦ absurd (other same) | inr less ↦ omega arith ]

pub returns : goal.returns
returns c = λ e among is. let level = c.loop-down.invariant e among is in let end = c.loop-down-test.false in omega arith
