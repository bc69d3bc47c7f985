use Rattle.std.proofs.Common.{ℕ, Option, sym, ap, ap₂, ◌∙◌}
use Rattle.tm_base.specs.declared.names.CpuId.{CpuId}
use Rattle.linux_seen.specs.declared.seen.CpuSeen.{CpuSeen}
use Rattle.linux_seen.specs.declared.seen.Late.{Late}
use Rattle.linux_seen.specs.declared.seen.Word.{Word}
use Rattle.std.specs.Prelude.{List, position}
use Rattle.linux_rules.specs.Orders.{is_next}
use Rattle.linux_rules.specs.Exchanges.{with_late}
use Rattle.linux_rules.proofs.Places.{found, none}
use Rattle.linux_rules.proofs.orders.take_next.Goals as goal

-- the place of the next one, where these are the CPUs and the late exchanges
abbrev place : CpuId → ℕ → Word → List CpuSeen → List Late → Option ℕ
place own group word cs ls = position (is_next cs own group word ls) ls

pub returns-in_err-at-clause-value : goal.returns-in_err-at-clause-value
returns-in_err-at-clause-value c =
    c.from_residual.ensures
    ∙ (none (is_next c.args.seen.now.cpus c.args.own c.args.group c.args.word c.args.seen.now.late)
    c.args.seen.now.late
    (sym (ap₂ (place c.args.own c.args.group c.args.word) c.cpus.ensures c.late.ensures)
    ∙ sym (c.place_of_next.ensures).value ∙ c.in_err-at.was)).0

pub returns-clause-value : goal.returns-clause-value
returns-clause-value c =
    (found (is_next c.args.seen.now.cpus c.args.own c.args.group c.args.word c.args.seen.now.late)
    c.args.seen.now.late c.in_ok-at.at c.take_late.result
    (sym (ap₂ (place c.args.own c.args.group c.args.word) c.cpus.ensures c.late.ensures)
    ∙ sym (c.place_of_next.ensures).value ∙ c.in_ok-at.was) (c.take_late.ensures).value).0

pub returns-clause-left : goal.returns-clause-left
returns-clause-left c =
    (c.take_late.ensures).left
    ∙ ap (λ (ls : List Late). with_late c.args.seen.now ls)
    (found (is_next c.args.seen.now.cpus c.args.own c.args.group c.args.word c.args.seen.now.late)
    c.args.seen.now.late c.in_ok-at.at c.take_late.result
    (sym (ap₂ (place c.args.own c.args.group c.args.word) c.cpus.ensures c.late.ensures)
    ∙ sym (c.place_of_next.ensures).value ∙ c.in_ok-at.was) (c.take_late.ensures).value).1
