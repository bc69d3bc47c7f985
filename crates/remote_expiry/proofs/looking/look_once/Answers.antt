use Rattle.std.proofs.Common.{◌<◌, ◌∙◌, [], ap, arith, length, refl, subst}
use Rattle.std.proofs.lemmas.Result.{err_from_is_err_and}
use Rattle.tree_plan.specs.Paths.{is_placed_in}
use Rattle.core_world.specs.World.{World}
use Rattle.walk_inactive.specs.shared_rule.Slots.{IsGrouped}
use Rattle.shared_acts.proofs.OwnDrains.{err_as}
use Rattle.shared_acts.proofs.Served.{still_at_work}
use Rattle.remote_expiry.specs.Trying.{BreaksRound, IsLookRound}
use Rattle.remote_expiry.proofs.Rounds.{due_piece, round_off, sees_no_group, sees_nothing}
use Rattle.remote_expiry.proofs.Rounds.{sees_others, tries_one}
use Rattle.remote_expiry.proofs.looking.look_once.Goals as goal

pub serve-requires-clause-at_work : goal.serve-requires-clause-at_work
serve-requires-clause-at_work g c =
    let table = g.N.RunName.table in
    let o = g.N.RunName.opening in
    let w = c.requires.at_work in
    let piece = due_piece table o c.args.now c.args.level c.args.tried.now c.args.pass.now
    c.look.new.pass c.in-Due.cpu w.pass w.seated c.in-Due.ensures in
    still_at_work table o [] 1 1 c.args.pass.now c.look.new.pass [] piece.0 0 w piece.1
    (omega arith)

pub returns-in_err-serve-in-Due : goal.returns-in_err-serve-in-Due
returns-in_err-serve-in-Due g c =
    let table = g.N.RunName.table in
    let o = g.N.RunName.opening in
    let jobs = g.J.Jobs.replies c.args.jobs.now in
    let held = c.args.pass.now in
    let mid = c.look.new.pass in
    let after = c.serve.new.pass in
    let first = c.args.runs.now.runs in
    let last = c.serve.new.runs.runs in
    let w = c.requires.at_work in
    let e = err_from_is_err_and c.from_residual.result c.from_residual.ensures.1 in
    err_as c.from_residual.result
    (IsLookRound table o jobs c.args.level c.args.tried.now c.add.new.self held after first last)
    (BreaksRound table o jobs c.args.tried.now held after first last) e.0 e.1
    (round_off table o jobs c.args.now c.args.level c.args.tried.now held mid after first last
    c.in-Due.cpu w.pass w.seated w.is.opening c.in-Due.ensures c.in_err-serve-in-Due.ensures)

pub returns-in-NoGroup : goal.returns-in-NoGroup
returns-in-NoGroup g c =
    let w = c.requires.at_work in (
      sees_no_group g.N.RunName.table g.N.RunName.opening c.args.level c.args.pass.now
          c.look.new.pass w.pass w.seated c.in-NoGroup.ensures.0 c.in-NoGroup.ensures.1,
      refl,
    )

pub returns-in-Other : goal.returns-in-Other
returns-in-Other g c =
    let w = c.requires.at_work in (
      sees_others g.N.RunName.table g.N.RunName.opening c.args.level c.args.pass.now
          c.look.new.pass w.pass w.seated c.in-Other.ensures,
      refl,
    )

pub returns-in-Nothing : goal.returns-in-Nothing
returns-in-Nothing g c =
    let w = c.requires.at_work in (
      sees_nothing g.N.RunName.table g.N.RunName.opening c.args.now c.args.level c.args.tried.now
          c.args.pass.now c.look.new.pass w.pass w.seated c.requires.now c.in-Nothing.ensures,
      refl,
    )

pub returns-in_ok-serve-in-Due : goal.returns-in_ok-serve-in-Due
returns-in_ok-serve-in-Due g c =
    let w = c.requires.at_work in
    tries_one g.N.RunName.table g.N.RunName.opening (g.J.Jobs.replies c.args.jobs.now) c.args.now
    c.args.level c.args.tried.now c.add.new.self c.args.pass.now c.look.new.pass
    c.serve.new.pass c.args.runs.now.runs c.serve.new.runs.runs c.in-Due.cpu w.pass w.seated
    w.is.opening c.in-Due.ensures c.add.ensures.added c.in_ok-serve-in-Due.ensures

pub look-requires-clause-run : goal.look-requires-clause-run
look-requires-clause-run g c = (c.requires.at_work.pass, c.requires.at_work.seated)

pub look-requires-clause-cpu : goal.look-requires-clause-cpu
look-requires-clause-cpu g c =
    let w = c.requires.at_work in
    subst (λ n. n < length g.N.RunName.opening.cpus)
    (c.law.ensures g.N.RunName.table w.pass w.seated) w.is.cpu

pub add-requires : goal.add-requires
add-requires g c =
    let w = c.requires.at_work in
    let due = subst (λ (z : World). IsGrouped z c.in-Due.cpu.0) w.is.opening
    (c.in-Due.ensures.of_run w.pass w.seated) in
    let many = c.law_shape.ensures.many in
    omega (arith, due.0, many)

pub serve-requires-clause-placed : goal.serve-requires-clause-placed
serve-requires-clause-placed g c =
    let table = g.N.RunName.table in
    let o = g.N.RunName.opening in
    let held = c.args.pass.now in
    let w = c.requires.at_work in
    let piece = due_piece table o c.args.now c.args.level c.args.tried.now held c.look.new.pass
    c.in-Due.cpu w.pass w.seated c.in-Due.ensures in
    let seen = c.in-Due.ensures.seen in
    ap (is_placed_in o.tree) piece.1.cpu
    ∙ c.law_shape.ensures.placed held.cpu c.args.level seen.group seen.path

pub serve-requires-clause-due : goal.serve-requires-clause-due
serve-requires-clause-due g c =
    let w = c.requires.at_work in
    subst (λ (z : World). IsGrouped z c.in-Due.cpu.0) w.is.opening
    (c.in-Due.ensures.of_run w.pass w.seated)

pub serve-requires-clause-now : goal.serve-requires-clause-now
serve-requires-clause-now g c = c.requires.now

pub serve-requires-clause-in_time : goal.serve-requires-clause-in_time
serve-requires-clause-in_time g c = c.requires.in_time
