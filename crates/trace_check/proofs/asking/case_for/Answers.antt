use Rattle.std.proofs.Common.{sym, subst, ◌∙◌, true≢false}
use Rattle.trace_check.specs.declared.reach.End.TheVariants as ends
use Rattle.trace_check.specs.Told.{EndsAt}
use Rattle.trace_check.proofs.CarryLaws.{case_1, case_2, case_3, case_4}
use Rattle.trace_check.proofs.asking.case_for.Goals as goal

pub returns-then-is_busy : goal.returns-then-is_busy
returns-then-is_busy g c =
    case_1 c.args.core.now c.args.cpu.0 c.args.wheel (sym c.is_busy.ensures ∙ c.if-is_busy.true)

pub returns-then-is_seen_to : goal.returns-then-is_seen_to
returns-then-is_seen_to g c =
    let by = c.is_seen_to.ensures.0 c.if-is_seen_to.true in
    case_2 c.args.core.now c.args.cpu.0 c.args.wheel (sym c.is_busy.ensures ∙ c.if-is_busy.false)
    c.args.reach.level c.requires.reach.below by.0 by.1

pub returns-in-Active : goal.returns-in-Active
returns-in-Active g c =
    let w = c.args.core.now in
    case_3 w c.args.cpu.0 c.args.wheel (sym c.is_busy.ensures ∙ c.if-is_busy.false)
    c.args.reach.level c.requires.reach.below
    (λ d sees. true≢false (sym (c.is_seen_to.ensures.1 (d, sees)) ∙ c.if-is_seen_to.false))
    (ends.Active c.in-Active.field-0)
    (subst (EndsAt w c.args.cpu.0 c.args.wheel c.args.reach.level) c.in-Active.is
    c.requires.reach.end) (λ o at. at) c.requires.left

pub returns-in-Top : goal.returns-in-Top
returns-in-Top g c =
    let w = c.args.core.now in
    case_4 w c.args.cpu.0 c.args.wheel (sym c.is_busy.ensures ∙ c.if-is_busy.false)
    c.args.reach.level c.requires.reach.below
    (λ d sees. true≢false (sym (c.is_seen_to.ensures.1 (d, sees)) ∙ c.if-is_seen_to.false))
    (ends.Top c.in-Top.field-0)
    (subst (EndsAt w c.args.cpu.0 c.args.wheel c.args.reach.level) c.in-Top.is
    c.requires.reach.end) (λ n at. at) c.requires.left

pub returns-in-Untold : goal.returns-in-Untold
returns-in-Untold g c =
    let w = c.args.core.now in
    case_4 w c.args.cpu.0 c.args.wheel (sym c.is_busy.ensures ∙ c.if-is_busy.false)
    c.args.reach.level c.requires.reach.below
    (λ d sees. true≢false (sym (c.is_seen_to.ensures.1 (d, sees)) ∙ c.if-is_seen_to.false))
    ends.Untold
    (subst (EndsAt w c.args.cpu.0 c.args.wheel c.args.reach.level) c.in-Untold.is
    c.requires.reach.end) (λ n at. at) c.requires.left
