use Rattle.std.proofs.Common.{sym, subst, ap, ◌∙◌, arith}
use Rattle.wheel_core.specs.PlainBase.{IsDue, OutIsDue, PlainBase, least, after_out}
use Rattle.wheel_core.specs.Scan.{IsNext}
use Rattle.wheel_core.proofs.Ids.{gone_without}
use Rattle.wheel_core.proofs.Kept.{TakesOut, keeps_removed, takes_out}
use Rattle.wheel_core.proofs.Plain.{due_out, none_behind_out}
use Rattle.wheel_core.proofs.list_base.ListBaseTimerBase.take_next.Goals as goal

-- what the scan's place says of what was taken out
taken_out : (c : goal.After-self-2-1)
    → TakesOut c.args.now c.self.inside.items.items c.scan_at-scan.result.others c.in-Some.place
    c.remove-out.result
taken_out c =
    takes_out c.args.now c.self.inside.items.items c.deref.result.now c.scan_at-scan.result
    c.in-Some.place c.remove-out.result c.scan_at-scan.ensures.next c.deref.ensures.value
    c.in-Some.is c.self.invariant.sound c.remove-out.ensures.value

is_due : (c : goal.After-self-2-1)
    → IsDue c.args.now c.self.inside.items.items c.remove-out.result
is_due c =
    let items = c.self.inside.items.items in
    let base : PlainBase = record { items = items; clock = c.self.inside.clock } in
    subst (OutIsDue c.args.now items) (sym (taken_out c).out)
    (due_out c.args.now base c.self.invariant.sound)

pub invariant_of-self : goal.invariant_of-self
invariant_of-self c =
    let out = taken_out c in
    keeps_removed c.self.inside.items.items c.remove-out.new.self.items c.in-Some.place
    c.remove-out.result.id c.self.inside.first c.scan_at-scan.result.others _ _ _ c.self.invariant
    out.within c.remove-out.ensures.items out.gone
    (out.left ∙ sym (ap least c.remove-out.ensures.items)) c.remove-out.ensures.capacity

pub returns-clause-item : goal.returns-clause-item
returns-clause-item c = rw (← c.self.view_is) (taken_out c).out

pub returns-clause-base : goal.returns-clause-base
returns-clause-base c =
    let out = taken_out c in
    let rest = c.remove-out.ensures.items ∙ out.gone in
    let past = c.max-self-inside.ensures in
    let base : PlainBase =
    record { items = c.self.inside.items.items; clock = c.self.inside.clock } in
    let capacity = c.self.inside.capacity in
    rw (← c.self.view_is)
    ((λ i. record { plain = record { items = rest i; clock = past i }; capacity = capacity })
    ∙ ap (λ gone. record { plain = after_out base gone; capacity = capacity }) out.out)

pub returns-in_default-clause-none_behind : goal.returns-in_default-clause-none_behind
returns-in_default-clause-none_behind c =
    let items = c.self.inside.items.items in
    let base : PlainBase = record { items = items; clock = c.self.inside.clock } in
    let next =
    subst (λ seen. IsNext c.args.now seen c.scan_at-scan.result) c.deref.ensures.value
    c.scan_at-scan.ensures.next in
    let none = rw c.in_default.is at next in
    rw (← c.self.view_is) (none_behind_out c.args.now base c.self.invariant.sound none)

pub returns-clause-due : goal.returns-clause-due
returns-clause-due c = rw (← c.self.view_is) (is_due c)

pub returns-clause-gone : goal.returns-clause-gone
returns-clause-gone c =
    rw (c.remove-out.ensures.items ∙ (taken_out c).gone)
    (gone_without c.remove-out.result.id c.self.inside.items.items c.self.invariant.sound.distinct)

pub returns-clause-clock : goal.returns-clause-clock
returns-clause-clock c =
    let due = (is_due c).due in
    let past = c.max-self-inside.ensures in
    rw (← c.self.view_is) (omega arith)
