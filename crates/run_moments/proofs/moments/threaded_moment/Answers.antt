use Rattle.std.proofs.Common.{arith, ◌∙◌, List, Ok, ap, length, subst, sym}
use Rattle.std.proofs.lemmas.Result.{err_from_is_err_and}
use Rattle.std.specs.Option.{option_copied}
use Rattle.tm_report.specs.declared.lines.Line.{Line}
use Rattle.tm_script.specs.declared.syntax.Op.{Op}
use Rattle.core_world.specs.World.{World}
use Rattle.run_plain.specs.run_story.Rounds.{IsRound}
use Rattle.run_plain.specs.run_story.Stories.{count_due, ops_of}
use Rattle.run_moments.proofs.Threaded.{asks}
use Rattle.run_moments.proofs.moments.threaded_moment.Goals as goal

pub round-requires : goal.round-requires
round-requires g c =
    let asked = asks c.args.player c.into_core.result c.args.due.now (option_copied c.args.m)
    c.ops_of.result.now c.into_core.ensures c.ops_of.ensures c.requires.fit c.requires.in_time
    c.requires.online c.requires.in_range c.requires.stay in
    c.requires.rounds.may c.into_core.result c.args.due c.ops_of.result asked

pub new-player-requires : goal.new-player-requires
new-player-requires g c =
    let asked = asks c.args.player c.into_core.result c.args.due.now (option_copied c.args.m)
    c.ops_of.result.now c.into_core.ensures c.ops_of.ensures c.requires.fit c.requires.in_time
    c.requires.online c.requires.in_range c.requires.stay in
    let made = c.requires.rounds.makes c.into_core.result c.args.due c.ops_of.result
    (Ok (c.in_ok-core.core, c.in_ok-core.lines)) asked c.in_ok-core.ensures in
    let at = ap (λ (w : World). w.clock) c.into_core.ensures in
    omega (arith, made.clock, at, c.requires.in_time)

pub tell_round-told-requires : goal.tell_round-told-requires
tell_round-told-requires g c =
    let asked = asks c.args.player c.into_core.result c.args.due.now (option_copied c.args.m)
    c.ops_of.result.now c.into_core.ensures c.ops_of.ensures c.requires.fit c.requires.in_time
    c.requires.online c.requires.in_range c.requires.stay in
    let made = c.requires.rounds.makes c.into_core.result c.args.due c.ops_of.result
    (Ok (c.in_ok-core.core, c.in_ok-core.lines)) asked c.in_ok-core.ensures in
    record { fit = rw c.new-player.ensures made.in_run }

pub returns-in-Ok-clause-tells : goal.returns-in-Ok-clause-tells
returns-in-Ok-clause-tells g c =
    let asked = asks c.args.player c.into_core.result c.args.due.now (option_copied c.args.m)
    c.ops_of.result.now c.into_core.ensures c.ops_of.ensures c.requires.fit c.requires.in_time
    c.requires.online c.requires.in_range c.requires.stay in
    let made = c.requires.rounds.makes c.into_core.result c.args.due c.ops_of.result
    (Ok (c.in_ok-core.core, c.in_ok-core.lines)) asked c.in_ok-core.ensures in
    let jobs = g.J.Jobs.replies c.args.jobs.now in
    let due = c.args.due.now in
    let m = option_copied c.args.m in
    let core = c.in_ok-core.core in
    let lines = c.in_ok-core.lines.items in
    let given : IsRound jobs c.into_core.result due (ops_of m) core lines =
    subst (λ (ops : List Op). IsRound jobs c.into_core.result due ops core lines) c.ops_of.ensures made in
    let round : IsRound jobs c.args.player due (ops_of m) core lines =
    subst (λ (o : World). IsRound jobs o due (ops_of m) core lines) c.into_core.ensures given in
    let told : IsRound jobs c.args.player due (ops_of m) core c.as_slice.result.now =
    subst (λ (ls : List Line). IsRound jobs c.args.player due (ops_of m) core ls) (sym c.as_slice.ensures.value) round in
    c.in-Ok.ensures.tells jobs due c.args.player
    (subst (λ (w : World). IsRound jobs c.args.player due (ops_of m) w c.as_slice.result.now) (sym c.new-player.ensures) told)
    (c.count_due-count.ensures.count ∙ ap (λ n. count_due n due) c.cpu_count.ensures.count)

pub returns-in_err-core-clause-tells : goal.returns-in_err-core-clause-tells
returns-in_err-core-clause-tells g c =
    let p = err_from_is_err_and c.from_residual.result c.from_residual.ensures.1 in rw p.1 tt

pub returns-in_err-core-clause-clock : goal.returns-in_err-core-clause-clock
returns-in_err-core-clause-clock g c =
    let p = err_from_is_err_and c.from_residual.result c.from_residual.ensures.1 in rw p.1 tt

pub returns-in_err-core-clause-same : goal.returns-in_err-core-clause-same
returns-in_err-core-clause-same g c =
    let p = err_from_is_err_and c.from_residual.result c.from_residual.ensures.1 in rw p.1 tt

pub returns-in_err-core-clause-fit : goal.returns-in_err-core-clause-fit
returns-in_err-core-clause-fit g c =
    let p = err_from_is_err_and c.from_residual.result c.from_residual.ensures.1 in rw p.1 tt

pub returns-in-Ok-clause-gains : goal.returns-in-Ok-clause-gains
returns-in-Ok-clause-gains g c = c.tell_round-told.ensures.gains

pub returns-in-Err-clause-gains : goal.returns-in-Err-clause-gains
returns-in-Err-clause-gains g c = c.tell_round-told.ensures.gains

pub returns-in-Ok-clause-clock : goal.returns-in-Ok-clause-clock
returns-in-Ok-clause-clock g c =
    let asked = asks c.args.player c.into_core.result c.args.due.now (option_copied c.args.m)
    c.ops_of.result.now c.into_core.ensures c.ops_of.ensures c.requires.fit c.requires.in_time
    c.requires.online c.requires.in_range c.requires.stay in
    let made = c.requires.rounds.makes c.into_core.result c.args.due c.ops_of.result
    (Ok (c.in_ok-core.core, c.in_ok-core.lines)) asked c.in_ok-core.ensures in
    rw c.new-player.ensures
    (made.clock ∙ ap (λ (w : World). w.clock) c.into_core.ensures)

pub returns-in-Ok-clause-same : goal.returns-in-Ok-clause-same
returns-in-Ok-clause-same g c =
    let asked = asks c.args.player c.into_core.result c.args.due.now (option_copied c.args.m)
    c.ops_of.result.now c.into_core.ensures c.ops_of.ensures c.requires.fit c.requires.in_time
    c.requires.online c.requires.in_range c.requires.stay in
    let made = c.requires.rounds.makes c.into_core.result c.args.due c.ops_of.result
    (Ok (c.in_ok-core.core, c.in_ok-core.lines)) asked c.in_ok-core.ensures in
    rw c.new-player.ensures
    (record {
      timers = made.timers ∙ ap (λ (w : World). w.timers) c.into_core.ensures;
      cpus = made.cpus ∙ ap (λ (w : World). length w.cpus) c.into_core.ensures;
    })

pub returns-in-Ok-clause-fit : goal.returns-in-Ok-clause-fit
returns-in-Ok-clause-fit g c =
    let asked = asks c.args.player c.into_core.result c.args.due.now (option_copied c.args.m)
    c.ops_of.result.now c.into_core.ensures c.ops_of.ensures c.requires.fit c.requires.in_time
    c.requires.online c.requires.in_range c.requires.stay in
    let made = c.requires.rounds.makes c.into_core.result c.args.due c.ops_of.result
    (Ok (c.in_ok-core.core, c.in_ok-core.lines)) asked c.in_ok-core.ensures in
    rw c.new-player.ensures made.in_run
