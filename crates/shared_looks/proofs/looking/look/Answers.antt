use Rattle.std.proofs.Common.{subst}
use Rattle.core_world.specs.World.{World}
use Rattle.shared_looks.specs.Sights.{ShowsDue, ShowsNothing, state_look}
use Rattle.shared_looks.proofs.Sighted.{shows_due, shows_nothing, still_run}
use Rattle.shared_looks.proofs.looking.look.Goals as goal

pub see_events-events-requires-clause-run : goal.see_events-events-requires-clause-run
see_events-events-requires-clause-run g c =
    let o : World = g.N.RunName.opening in
    let word = c.see_state-word.result in
    still_run g.N.RunName.table c.args.pass.now c.see_state-word.new.self
    (state_look o c.in-Some.group.0 word).word word c.requires.run c.see_state-word.ensures.remembered

pub returns-in-Some-due : goal.returns-in-Some-due
returns-in-Some-due g c =
    let table = g.N.RunName.table in
    let o : World = g.N.RunName.opening in
    let now = c.args.now in
    let tried = c.args.tried.now in
    let held = c.args.pass.now in
    let after = c.see_events-events.new.pass in
    let due = c.in-Some-due.due in
    subst (λ n. ShowsDue table o now tried n c.args.level held after due.1.cpu) c.cpu-cpu.ensures
    (shows_due table o now tried c.cpu-cpu.result.0 c.args.level c.in-Some.group.0
    c.see_state-word.result c.side_on.result held c.see_state-word.new.self after
    c.see_events-events.result due.0 due.1 c.in-Some.ensures.path
    (c.looks_after.ensures.yes c.if-not-looks_after.false) c.side_on.ensures
    c.see_state-word.ensures.remembered c.see_events-events.ensures c.in-Some-due.ensures.found)

pub returns-in-None : goal.returns-in-None
returns-in-None g c =
    let table = g.N.RunName.table in
    let o : World = g.N.RunName.opening in
    let now = c.args.now in
    let tried = c.args.tried.now in
    let held = c.args.pass.now in
    let after = c.see_events-events.new.pass in
    subst (λ n. ShowsNothing o now tried n c.args.level held after) c.cpu-cpu.ensures
    (shows_nothing table o now tried c.cpu-cpu.result.0 c.args.level c.in-Some.group.0
    c.see_state-word.result c.side_on.result held c.see_state-word.new.self after
    c.see_events-events.result c.in-Some.ensures.path
    (c.looks_after.ensures.yes c.if-not-looks_after.false) c.side_on.ensures
    c.see_state-word.ensures.remembered c.see_events-events.ensures c.in-None.ensures.none)
