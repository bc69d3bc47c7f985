use Rattle.std.proofs.Common.{sym}
use Rattle.core_machine.proofs.Views.Looking.{first_within, named_first, named_nobody}
use Rattle.core_machine.proofs.readings.looks.named_at.Goals as goal

pub returns-in-Some-clause-named : goal.returns-in-Some-clause-named
returns-in-Some-clause-named g c =
    sym (named_first c.args.core.now c.args.group.0 c.now.result c.args.tried.now
    c.events.result.now c.now.ensures c.events.ensures c.in-Some.field-0-0 c.in-Some.event
    c.in-Some.ensures.found)

pub returns-in-Some-clause-in_range : goal.returns-in-Some-clause-in_range
returns-in-Some-clause-in_range g c =
    first_within c.args.core.now c.args.group.0 c.now.result c.args.tried.now
    c.events.result.now c.now.ensures c.events.ensures c.kept.ensures.fits.lawful
    c.kept.ensures.fits.planned c.in-Some.field-0-0 c.in-Some.event c.in-Some.ensures.found

pub returns-in-None-clause-named : goal.returns-in-None-clause-named
returns-in-None-clause-named g c =
    sym (named_nobody c.args.core.now c.args.group.0 c.now.result c.args.tried.now
    c.events.result.now c.now.ensures c.events.ensures c.in-None.ensures.none)
