use Rattle.std.proofs.Common.{◌≡◌, None, subst, sym}
use Rattle.wheel_core.specs.PlainBase.{OutIsDue, PlainBase, next_out}
use Rattle.wheel_core.specs.Scan.{IsNext}
use Rattle.wheel_core.proofs.Kept.{TakesOut, takes_out}
use Rattle.wheel_core.proofs.Plain.{due_out}
use Rattle.wheel_core.proofs.list_base.ListBaseTimerBase.peek_next.Goals as goal

-- nothing is due
none_out : (c : goal.In_default)
    → next_out c.args.now
    (record { items = c.self.inside.items.items; clock = c.self.inside.clock }) ≡ None
none_out c =
    let next =
    subst (λ seen. IsNext c.args.now seen c.scan_at.result) c.deref.ensures.value
    c.scan_at.ensures.next in
    rw c.in_default.is at next

pub returns-in_default-clause-item : goal.returns-in_default-clause-item
returns-in_default-clause-item c = rw (← c.self.view_is) (sym (none_out c))

pub returns-in_default-clause-due : goal.returns-in_default-clause-due
returns-in_default-clause-due c =
    let items = c.self.inside.items.items in
    let base : PlainBase = record { items = items; clock = c.self.inside.clock } in
    rw (← c.self.view_is)
    (subst (OutIsDue c.args.now items) (none_out c)
    (due_out c.args.now base c.self.invariant.sound))

-- what the scan's place says of what is read there
read_out : (c : goal.After-result-1)
    → TakesOut c.args.now c.self.inside.items.items c.scan_at.result.others c.in-Some.place
    c.index.result.now
read_out c =
    takes_out c.args.now c.self.inside.items.items c.deref.result.now c.scan_at.result
    c.in-Some.place c.index.result.now c.scan_at.ensures.next c.deref.ensures.value c.in-Some.is
    c.self.invariant.sound c.index.ensures

pub returns-clause-item : goal.returns-clause-item
returns-clause-item c = rw (← c.self.view_is) (read_out c).out

pub returns-clause-due : goal.returns-clause-due
returns-clause-due c =
    let items = c.self.inside.items.items in
    let base : PlainBase = record { items = items; clock = c.self.inside.clock } in
    rw (← c.self.view_is)
    (subst (OutIsDue c.args.now items) (sym (read_out c).out)
    (due_out c.args.now base c.self.invariant.sound))
