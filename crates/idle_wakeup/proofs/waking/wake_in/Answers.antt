use Rattle.std.proofs.Common.{◌∙◌, ap, subst, sym, suc, ◌<◌, ◌^◌}
use Rattle.cpu_word.specs.declared.state.CpuState.{CpuState}
use Rattle.walk_active.specs.shared_rule.Parts.{HeldPart}
use Rattle.walk_active.specs.shared_rule.Passes.{with_pass}
use Rattle.walk_active.specs.Activated.{IsOwnPass, activated_pass}
use Rattle.idle_wakeup.specs.Calls.{Renews, awake, wake_fault_of}
use Rattle.idle_wakeup.proofs.Meetings as meetings
use Rattle.idle_wakeup.proofs.waking.wake_in.Goals as goal

pub returns-in-Some-clause-refused : goal.returns-in-Some-clause-refused
returns-in-Some-clause-refused g c =
    let b = c.args.cpu_box.now in
    let held = c.args.pass.now in
    let own = c.requires.own in
    let p = own.of_run.0 in
    let is = own.of_run.1 in
    sym (meetings.fault_is b held g.N.RunName.table p is wake_fault_of c.wake_fault.result c.state.result
    c.walks.result c.meet_own.new.cpu_box c.meet_own.new.pass c.meet_own.ensures.fits
    (c.meet_own.ensures.agree p is) (own.own p is) c.meet_own.ensures.part c.meet_own.ensures.pass
    c.state.ensures c.walks.ensures c.wake_fault.ensures) ∙ c.in-Some.is

pub returns-in-Some-clause-err : goal.returns-in-Some-clause-err
returns-in-Some-clause-err g c =
    let b = c.args.cpu_box.now in
    let held = c.args.pass.now in
    let own = c.requires.own in
    let p = own.of_run.0 in
    let is = own.of_run.1 in
    subst (Renews (λ q. q) held) (sym c.meet_own.ensures.pass)
    (meetings.renews b held g.N.RunName.table p is (c.meet_own.ensures.agree p is) (own.own p is))

pub activate-requires-clause-own : goal.activate-requires-clause-own
activate-requires-clause-own g c =
    let b = c.args.cpu_box.now in
    let held = c.args.pass.now in
    let own = c.requires.own in
    let table = g.N.RunName.table in
    subst (λ (z : HeldPart). IsOwnPass table z.box.cpu c.meet_own.new.pass)
    (sym c.meet_own.ensures.part)
    (subst (IsOwnPass table b.box.cpu) (sym c.meet_own.ensures.pass)
    (meetings.still_own b held table own.of_run.0 own.of_run.1 b.box.own.bases.journal own))

pub activate-requires-clause-left : goal.activate-requires-clause-left
activate-requires-clause-left g c =
    let may = meetings.may_wake c.state.result.online c.state.result.idle c.walks.result
    (sym c.wake_fault.ensures ∙ c.in_default.is) in
    subst (λ n. suc n < 2 ^ 32) c.walks.ensures may.2

pub activate-requires-clause-online : goal.activate-requires-clause-online
activate-requires-clause-online g c =
    let may = meetings.may_wake c.state.result.online c.state.result.idle c.walks.result
    (sym c.wake_fault.ensures ∙ c.in_default.is) in
    sym (ap (λ (z : CpuState). z.online) c.state.ensures) ∙ may.0

pub activate-requires-clause-idle : goal.activate-requires-clause-idle
activate-requires-clause-idle g c =
    let may = meetings.may_wake c.state.result.online c.state.result.idle c.walks.result
    (sym c.wake_fault.ensures ∙ c.in_default.is) in
    sym (ap (λ (z : CpuState). z.idle) c.state.ensures) ∙ may.1

pub returns-clause-refused : goal.returns-clause-refused
returns-clause-refused g c =
    let b = c.args.cpu_box.now in
    let held = c.args.pass.now in
    let own = c.requires.own in
    let p = own.of_run.0 in
    let is = own.of_run.1 in
    sym (meetings.fault_is b held g.N.RunName.table p is wake_fault_of c.wake_fault.result c.state.result
    c.walks.result c.meet_own.new.cpu_box c.meet_own.new.pass c.meet_own.ensures.fits
    (c.meet_own.ensures.agree p is) (own.own p is) c.meet_own.ensures.part c.meet_own.ensures.pass
    c.state.ensures c.walks.ensures c.wake_fault.ensures) ∙ c.in_default.is

pub returns-clause-ok : goal.returns-clause-ok
returns-clause-ok g c =
    let b = c.args.cpu_box.now in
    let held = c.args.pass.now in
    let own = c.requires.own in
    let p = own.of_run.0 in
    let is = own.of_run.1 in
    let after = c.activate.ensures.pass
    ∙ ap (λ (z : HeldPart). with_pass (activated_pass z.box) c.meet_own.new.pass)
    c.meet_own.ensures.part
    ∙ ap (with_pass (activated_pass b.box)) c.meet_own.ensures.pass in
    subst (Renews awake held) (sym after)
    (meetings.renews_awake b held g.N.RunName.table p is (c.meet_own.ensures.agree p is)
    (own.own p is))
