use Rattle.std.proofs.Common.{sym, ◌∙◌, true≢false}
use Rattle.std.proofs.lemmas.Option.{none-some}
use Rattle.orders_sights.proofs.timers.waiting_item.Goals as goal

pub returns-then-not-sleeps-clause-passes : goal.returns-then-not-sleeps-clause-passes
returns-then-not-sleeps-clause-passes c = λ item waits.
    true≢false (sym waits.asleep ∙ (sym c.sleeps.ensures ∙ c.if-not-sleeps.true))

pub returns-then-not-is_global-clause-passes : goal.returns-then-not-is_global-clause-passes
returns-then-not-is_global-clause-passes c = λ item waits.
    true≢false
    (sym (c.is_global.ensures.1 (c.class_of.ensures ∙ waits.class)) ∙ c.if-not-is_global.true)

pub returns-in_default-clause-passes : goal.returns-in_default-clause-passes
returns-in_default-clause-passes c = λ item waits.
    none-some item (c.in_default.ensures ∙ waits.item_is)

pub returns-clause-waits : goal.returns-clause-waits
returns-clause-waits c = record {
  asleep = sym c.sleeps.ensures ∙ c.if-not-sleeps.false;
  class = sym c.class_of.ensures ∙ c.is_global.ensures.0 c.if-not-is_global.false;
  item_is = sym c.in-Some.ensures;
}
