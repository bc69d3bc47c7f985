use Rattle.std.proofs.Common.{[], ◌∷◌, sym, subst}
use Rattle.walk_inactive.specs.shared_rule.Parts.{HeldPart}
use Rattle.shared_acts.specs.Tries.{AtWork, HasLetGo}
use Rattle.remote_expiry.proofs.serving.let_go_box.Goals as goal

pub let_go_part-requires-clause-marked : goal.let_go_part-requires-clause-marked
let_go_part-requires-clause-marked g c =
    subst (λ (z : HeldPart). AtWork g.N.RunName.table g.N.RunName.opening (z.box.cpu ∷ []) 1
    c.args.pass.now) (sym c.cpu_box.view_is) c.requires.marked

pub let_go_part-requires-clause-free : goal.let_go_part-requires-clause-free
let_go_part-requires-clause-free g c = c.cpu_box.invariant

pub invariant_of-cpu_box : goal.invariant_of-cpu_box
invariant_of-cpu_box g c = c.let_go_part.ensures.free

pub returns : goal.returns
returns g c =
    subst (λ (z : HeldPart). HasLetGo g.N.RunName.table g.N.RunName.opening z.box.cpu c.args.pass.now
    c.let_go_part.new.pass) c.cpu_box.view_is c.let_go_part.ensures.pass

pub let_go_part-requires-clause-now : goal.let_go_part-requires-clause-now
let_go_part-requires-clause-now g c = c.requires.now
