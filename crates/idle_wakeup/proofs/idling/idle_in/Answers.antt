use Rattle.std.proofs.Common.{◌∙◌, ap, subst, sym, suc, ◌<◌, ◌^◌, arith}
use Rattle.cpu_word.specs.declared.state.CpuState.{CpuState}
use Rattle.core_world.specs.World.{World}
use Rattle.walk_active.specs.shared_rule.Parts.{HeldPart}
use Rattle.walk_active.specs.shared_rule.Passes.{HeldPass}
use Rattle.walk_active.specs.Activated.{IsOwnPass}
use Rattle.idle_wakeup.specs.Calls.{Renews, idle_fault_of}
use Rattle.idle_wakeup.specs.Resting.{IsBoxAnswer}
use Rattle.idle_wakeup.proofs.Answering as answering
use Rattle.idle_wakeup.proofs.Meetings as meetings
use Rattle.idle_wakeup.proofs.idling.idle_in.Goals as goal

pub returns-in-Some-clause-refused : goal.returns-in-Some-clause-refused
returns-in-Some-clause-refused g c =
    let b = c.args.cpu_box.now in
    let held = c.args.pass.now in
    let own = c.requires.own in
    let p = own.of_run.0 in
    let is = own.of_run.1 in
    sym (meetings.fault_is b held g.N.RunName.table p is idle_fault_of c.idle_fault.result c.state.result
    c.walks.result c.meet_own.new.cpu_box c.meet_own.new.pass c.meet_own.ensures.fits
    (c.meet_own.ensures.agree p is) (own.own p is) c.meet_own.ensures.part c.meet_own.ensures.pass
    c.state.ensures c.walks.ensures c.idle_fault.ensures) ∙ c.in-Some.is

pub returns-in-Some-clause-err : goal.returns-in-Some-clause-err
returns-in-Some-clause-err g c =
    let b = c.args.cpu_box.now in
    let held = c.args.pass.now in
    let own = c.requires.own in
    let p = own.of_run.0 in
    let is = own.of_run.1 in
    subst (Renews (λ q. q) held) (sym c.meet_own.ensures.pass)
    (meetings.renews b held g.N.RunName.table p is (c.meet_own.ensures.agree p is) (own.own p is))

pub rest-requires-clause-own : goal.rest-requires-clause-own
rest-requires-clause-own g c =
    let b = c.args.cpu_box.now in
    let held = c.args.pass.now in
    let own = c.requires.own in
    let table = g.N.RunName.table in
    subst (λ (z : HeldPart). IsOwnPass table z.box.cpu c.meet_own.new.pass)
    (sym c.meet_own.ensures.part)
    (subst (IsOwnPass table b.box.cpu) (sym c.meet_own.ensures.pass)
    (meetings.still_own b held table own.of_run.0 own.of_run.1 b.box.own.bases.journal own))

pub rest-requires-clause-left : goal.rest-requires-clause-left
rest-requires-clause-left g c =
    let may = meetings.may_idle c.state.result.online c.state.result.idle c.walks.result
    (sym c.idle_fault.ensures ∙ c.in_default.is) in
    subst (λ n. suc n < 2 ^ 32) c.walks.ensures may.2

pub rest-requires-clause-online : goal.rest-requires-clause-online
rest-requires-clause-online g c =
    let may = meetings.may_idle c.state.result.online c.state.result.idle c.walks.result
    (sym c.idle_fault.ensures ∙ c.in_default.is) in
    sym (ap (λ (z : CpuState). z.online) c.state.ensures) ∙ may.0

pub rest-requires-clause-awake : goal.rest-requires-clause-awake
rest-requires-clause-awake g c =
    let may = meetings.may_idle c.state.result.online c.state.result.idle c.walks.result
    (sym c.idle_fault.ensures ∙ c.in_default.is) in
    sym (ap (λ (z : CpuState). z.idle) c.state.ensures) ∙ may.1

pub rest-requires-clause-outside : goal.rest-requires-clause-outside
rest-requires-clause-outside g c =
    let own = c.requires.own in
    let p = own.of_run.0 in
    let is = own.of_run.1 in
    ap (λ (z : HeldPart). z.box.own.inside) c.meet_own.ensures.part
    ∙ sym ((c.meet_own.ensures.agree p is).inside (own.own p is)) ∙ c.requires.outside p is

pub rest-requires-clause-clock : goal.rest-requires-clause-clock
rest-requires-clause-clock g c =
    c.requires.clock ∙ ap (λ (w : World). w.clock) (sym c.meet_own.ensures.opening)
    ∙ ap (λ (z : HeldPart). z.box.opening.clock) (sym c.meet_own.ensures.part)

pub rest-requires-clause-in_time : goal.rest-requires-clause-in_time
rest-requires-clause-in_time g c =
    let is = c.requires.clock ∙ ap (λ (w : World). w.clock) (sym c.meet_own.ensures.opening) in
    let below = c.meet_own.ensures.fits.opening.in_time in
    subst (λ n. n < 2 ^ 47) (sym is) (omega arith)

pub returns-clause-refused : goal.returns-clause-refused
returns-clause-refused g c =
    let b = c.args.cpu_box.now in
    let held = c.args.pass.now in
    let own = c.requires.own in
    let p = own.of_run.0 in
    let is = own.of_run.1 in
    sym (meetings.fault_is b held g.N.RunName.table p is idle_fault_of c.idle_fault.result c.state.result
    c.walks.result c.meet_own.new.cpu_box c.meet_own.new.pass c.meet_own.ensures.fits
    (c.meet_own.ensures.agree p is) (own.own p is) c.meet_own.ensures.part c.meet_own.ensures.pass
    c.state.ensures c.walks.ensures c.idle_fault.ensures) ∙ c.in_default.is

pub returns-clause-ok : goal.returns-clause-ok
returns-clause-ok g c =
    let b = c.args.cpu_box.now in
    let held = c.args.pass.now in
    let own = c.requires.own in
    let p = own.of_run.0 in
    let is = own.of_run.1 in
    let journal = b.box.own.bases.journal in
    let by_part = subst (λ (z : HeldPart). IsBoxAnswer z.box c.rest.result c.meet_own.new.pass
    c.rest.new.pass) c.meet_own.ensures.part c.rest.ensures in
    let by_box = subst (λ (z : HeldPass). IsBoxAnswer b.box c.rest.result z c.rest.new.pass)
    c.meet_own.ensures.pass by_part in
    answering.said b held g.N.RunName.table p is g.N.RunName.opening c.meet_own.ensures.opening
    c.meet_own.ensures.fits (c.meet_own.ensures.agree p is) (own.own p is) (sym own.cpu_is)
    c.rest.result c.rest.new.pass by_box
