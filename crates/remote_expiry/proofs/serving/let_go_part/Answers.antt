use Rattle.std.proofs.Common.{[], ◌∷◌, inl, inr, refl, sym, ap, ◌∙◌, subst}
use Rattle.walk_inactive.specs.core_state.Shown.{shown_cpu}
use Rattle.cpu_word.specs.declared.state.CpuState.{CpuState}
use Rattle.walk_inactive.specs.shared_rule.Parts.{HeldPart}
use Rattle.walk_inactive.specs.shared_table.Begun.{IsFree}
use Rattle.shared_acts.specs.Tries.{AtWork}
use Rattle.shared_acts.proofs.Taking.{awake_by_line, awake_by_rest, let_go_carried}
use Rattle.shared_acts.proofs.Taking.{let_go_released, looked_work}
use Rattle.shared_acts.proofs.Trials.{noted}
use Rattle.remote_expiry.proofs.serving.let_go_part.Goals as goal
use Rattle.remote_expiry.proofs.serving.let_go_part.Goals.{else-state-via-else-state}
use Rattle.remote_expiry.proofs.serving.let_go_part.Goals.{else-state-via-then-state+else-state-2}

pub carry_for-requires-clause-marked : goal.carry_for-requires-clause-marked
carry_for-requires-clause-marked g c =
    let table = g.N.RunName.table in
    let o = g.N.RunName.opening in
    let part : HeldPart = c.args.part.now in
    let held = c.args.pass.now in
    let seen = c.may_take.new.pass in
    let w = c.requires.marked in
    let n = noted table part held seen w.pass w.seated (c.may_take.ensures.agree w.pass w.seated)
    c.may_take.ensures.seen in
    subst (λ (z : HeldPart). AtWork table o (z.box.cpu ∷ []) 1 seen)
    (sym c.may_take.ensures.part)
    (looked_work table o (part.box.cpu ∷ []) part.box held held seen w refl refl n)

pub take_back-requires-clause-marked : goal.take_back-requires-clause-marked
take_back-requires-clause-marked g c =
    let table = g.N.RunName.table in
    let o = g.N.RunName.opening in
    let part : HeldPart = c.args.part.now in
    let held = c.args.pass.now in
    let seen = c.may_take.new.pass in
    let w = c.requires.marked in
    let n = noted table part held seen w.pass w.seated (c.may_take.ensures.agree w.pass w.seated)
    c.may_take.ensures.seen in
    subst (λ (z : HeldPart). AtWork table o (z.box.cpu ∷ []) 1 seen)
    (sym c.may_take.ensures.part)
    (looked_work table o (part.box.cpu ∷ []) part.box held held seen w refl refl n)

pub returns-then-state-2-clause-pass : goal.returns-then-state-2-clause-pass
returns-then-state-2-clause-pass g c =
    let table = g.N.RunName.table in
    let part : HeldPart = c.args.part.now in
    let held = c.args.pass.now in
    let seen = c.may_take.new.pass in
    let w = c.requires.marked in
    let n = noted table part held seen w.pass w.seated (c.may_take.ensures.agree w.pass w.seated)
    c.may_take.ensures.seen in
    let_go_carried table g.N.RunName.opening part.box c.may_take.new.part.box.cpu held seen
    c.carry_for.new.pass (ap (λ (z : HeldPart). z.box.cpu) c.may_take.ensures.part) n
    c.carry_for.ensures.pass

pub returns-else-state-clause-pass : goal.returns-else-state-clause-pass
returns-else-state-clause-pass g c =
    let table = g.N.RunName.table in
    let part : HeldPart = c.args.part.now in
    let held = c.args.pass.now in
    let seen = c.may_take.new.pass in
    let w = c.requires.marked in
    let n = noted table part held seen w.pass w.seated (c.may_take.ensures.agree w.pass w.seated)
    c.may_take.ensures.seen in
    let shown = ap (λ (z : HeldPart). shown_cpu z.box.own) (sym c.may_take.ensures.part)
    ∙ sym c.state-state.ensures in
    let online = ap (λ (s : CpuState). s.online) shown in
    let idle = ap (λ (s : CpuState). s.idle) shown in
    let_go_released table g.N.RunName.opening part.box c.may_take.new.part.box.cpu held seen
    c.take_back.new.pass (ap (λ (z : HeldPart). z.box.cpu) c.may_take.ensures.part)
    c.law.ensures.opening c.law.ensures.fits
    (elim c.else-state.branch [
      | else-state-via-then-state+else-state-2 w ↦
          awake_by_rest part.box.own.online part.box.own.idle (online ∙ w.if-state.true)
          (idle ∙ w.if-state-2.false)
      | else-state-via-else-state w ↦
          awake_by_line part.box.own.online part.box.own.idle (online ∙ w.if-state.false)
    ]) n c.take_back.ensures.pass

pub may_take-requires-clause-run : goal.may_take-requires-clause-run
may_take-requires-clause-run g c = (c.requires.marked.pass, c.requires.marked.seated)

pub may_take-requires-clause-alone : goal.may_take-requires-clause-alone
may_take-requires-clause-alone g c = c.requires.free.alone

pub may_take-requires-clause-now : goal.may_take-requires-clause-now
may_take-requires-clause-now g c = c.requires.now

pub carry_for-requires-clause-free : goal.carry_for-requires-clause-free
carry_for-requires-clause-free g c =
    let free = c.requires.free in
    subst IsFree (sym c.may_take.ensures.part)
    (record { walkless = free.walkless; alone = refl; whole = free.whole })

pub carry_for-requires-clause-online : goal.carry_for-requires-clause-online
carry_for-requires-clause-online g c =
    ap (λ (s : CpuState). s.online) (sym c.state-state.ensures) ∙ c.if-state.true

pub carry_for-requires-clause-idle : goal.carry_for-requires-clause-idle
carry_for-requires-clause-idle g c =
    ap (λ (s : CpuState). s.idle) (sym c.state-state.ensures) ∙ c.if-state-2.true

pub take_back-requires-clause-free : goal.take_back-requires-clause-free
take_back-requires-clause-free g c =
    let free = c.requires.free in
    subst IsFree (sym c.may_take.ensures.part)
    (record { walkless = free.walkless; alone = refl; whole = free.whole })

pub take_back-requires-clause-awake : goal.take_back-requires-clause-awake
take_back-requires-clause-awake g c =
    let shown = sym c.state-state.ensures in
    elim c.else-state.branch [
      | else-state-via-then-state+else-state-2 w ↦
          inr (ap (λ (s : CpuState). s.idle) shown ∙ w.if-state-2.false)
      | else-state-via-else-state w ↦
          inl (ap (λ (s : CpuState). s.online) shown ∙ w.if-state.false)
    ]

pub returns-then-state-2-clause-free : goal.returns-then-state-2-clause-free
returns-then-state-2-clause-free g c = c.carry_for.ensures.free

pub returns-else-state-clause-free : goal.returns-else-state-clause-free
returns-else-state-clause-free g c = c.take_back.ensures.free
