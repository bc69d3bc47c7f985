use Rattle.std.proofs.Common.{Option, subst}
use Rattle.tm_base.specs.declared.names.TimerId.{TimerId}
use Rattle.shared_timers.specs.Exchanging.{MayTryDrain}
use Rattle.shared_timers.proofs.Drained.{handed_told, ticked_told}
use Rattle.shared_timers.proofs.exchanges.drain.Goals as goal

pub returns-in-Some-clause-told : goal.returns-in-Some-clause-told
returns-in-Some-clause-told g c =
    let o = g.N.RunName.opening in
    let me = c.args.seat.now.me in
    handed_told o me c.hand_out.new.seat.me c.args.cpu.0 c.args.class c.in-Some.timer
    (subst (λ (m : Option TimerId). MayTryDrain o me c.args.cpu.0 c.args.class m) c.in-Some.is
    c.requires.may) c.hand_out.ensures.told

pub returns-in-None-clause-told : goal.returns-in-None-clause-told
returns-in-None-clause-told g c =
    let o = g.N.RunName.opening in
    let me = c.args.seat.now.me in
    ticked_told o me c.tick.new.seat.me c.args.cpu.0 c.args.class
    (subst (λ (m : Option TimerId). MayTryDrain o me c.args.cpu.0 c.args.class m) c.in-None.is
    c.requires.may) c.tick.ensures.told

pub hand_out-requires-clause-table : goal.hand_out-requires-clause-table
hand_out-requires-clause-table g c = c.requires.table

pub hand_out-requires-clause-may : goal.hand_out-requires-clause-may
hand_out-requires-clause-may g c =
    subst (λ (m : Option TimerId). MayTryDrain g.N.RunName.opening c.args.seat.now.me c.args.cpu.0
    c.args.class m) c.in-Some.is c.requires.may

pub tick-requires-clause-table : goal.tick-requires-clause-table
tick-requires-clause-table g c = c.requires.table

pub tick-requires-clause-may : goal.tick-requires-clause-may
tick-requires-clause-may g c =
    subst (λ (m : Option TimerId). MayTryDrain g.N.RunName.opening c.args.seat.now.me c.args.cpu.0
    c.args.class m) c.in-None.is c.requires.may

pub returns-in-Some-clause-table : goal.returns-in-Some-clause-table
returns-in-Some-clause-table g c = c.hand_out.ensures.table

pub returns-in-Some-clause-sound : goal.returns-in-Some-clause-sound
returns-in-Some-clause-sound g c = c.hand_out.ensures.sound

pub returns-in-None-clause-table : goal.returns-in-None-clause-table
returns-in-None-clause-table g c = c.tick.ensures.table

pub returns-in-None-clause-sound : goal.returns-in-None-clause-sound
returns-in-None-clause-sound g c = c.tick.ensures.sound
