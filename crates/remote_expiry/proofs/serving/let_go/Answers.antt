use Rattle.std.proofs.Common.{[], ◌∷◌, sym, ap, ◌∙◌, subst}
use Rattle.walk_inactive.specs.shared_rule.Parts.{HeldPart}
use Rattle.shared_acts.specs.Tries.{AtWork, HasLetGo}
use Rattle.remote_expiry.proofs.serving.let_go.Goals as goal

pub lock-guard-requires : goal.lock-guard-requires
lock-guard-requires g c = c.requires.due.0

pub let_go_box-requires-clause-marked : goal.let_go_box-requires-clause-marked
let_go_box-requires-clause-marked g c =
    let cpu = ap (λ (z : HeldPart). z.box.cpu) c.deref_mut.ensures.value ∙ c.lock-guard.ensures in
    subst (λ n. AtWork g.N.RunName.table g.N.RunName.opening (n ∷ []) 1 c.args.pass.now) (sym cpu)
    c.requires.marked

pub returns : goal.returns
returns g c =
    let cpu = ap (λ (z : HeldPart). z.box.cpu) c.deref_mut.ensures.value ∙ c.lock-guard.ensures in
    subst (λ n. HasLetGo g.N.RunName.table g.N.RunName.opening n c.args.pass.now
    c.let_go_box.new.pass) cpu c.let_go_box.ensures

pub let_go_box-requires-clause-now : goal.let_go_box-requires-clause-now
let_go_box-requires-clause-now g c = c.requires.now
