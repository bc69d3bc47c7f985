use Rattle.std.proofs.Common.{ap, sym}
use Rattle.std.specs.Prelude.{vec_capacity}
use Rattle.shared_timers.specs.shared_rule.Passes.{HeldPass}
use Rattle.shared_acts.proofs.Parting.{all_timers, few_out, may_each, off_is, off_pass, off_whole}
use Rattle.shared_acts.proofs.Parting.{still_there}
use Rattle.shared_acts.proofs.draining.hand_all.Goals as goal

pub hand_each-requires-clause-may : goal.hand_each-requires-clause-may
hand_each-requires-clause-may g c =
    let run = c.requires.run in
    may_each g.N.RunName.table c.args.class c.args.part.now c.args.pass.now run.0 c.bring.new.part
    (vec_capacity c.args.items.now) run.1 c.bring.ensures.part c.bring.ensures.agrees
    c.requires.free (c.requires.may run.0 run.1) c.requires.room

pub part_off-requires-clause-brought : goal.part_off-requires-clause-brought
part_off-requires-clause-brought g c =
    let table = g.N.RunName.table in
    let run = c.requires.run in
    still_there table g.N.RunName.opening c.args.class c.args.part.now c.args.pass.now run.0 run.1
    (c.law.ensures table run.0 run.1) c.bring.new.part c.bring.ensures.part c.bring.ensures.agrees
    c.hand_each.new.part c.hand_each.new.items.items c.hand_each.ensures c.bring.new.pass.cpu
    (sym (ap (λ (z : HeldPass). z.cpu) c.bring.ensures.pass))

pub returns-clause-part : goal.returns-clause-part
returns-clause-part g c =
    let table = g.N.RunName.table in
    let run = c.requires.run in
    off_is table g.N.RunName.opening c.args.class c.args.part.now c.args.pass.now run.0 run.1
    (c.law.ensures table run.0 run.1) c.bring.new.part c.bring.ensures.part c.bring.ensures.agrees
    c.hand_each.new.part c.hand_each.new.items.items c.hand_each.ensures c.part_off.new.part
    c.part_off.ensures.part

pub returns-clause-whole : goal.returns-clause-whole
returns-clause-whole g c =
    let table = g.N.RunName.table in
    let run = c.requires.run in
    off_whole table g.N.RunName.opening c.args.class c.args.part.now c.args.pass.now run.0 run.1
    (c.law.ensures table run.0 run.1) c.bring.new.part c.bring.ensures.part c.bring.ensures.agrees
    c.hand_each.new.part c.hand_each.new.items.items c.hand_each.ensures c.part_off.new.part
    c.part_off.ensures.part

pub returns-clause-pass : goal.returns-clause-pass
returns-clause-pass g c =
    let table = g.N.RunName.table in
    let run = c.requires.run in
    off_pass table g.N.RunName.opening c.args.class c.args.part.now c.args.pass.now run.0 run.1
    (c.law.ensures table run.0 run.1) c.bring.new.part c.bring.ensures.part c.bring.ensures.agrees
    c.hand_each.new.part c.hand_each.new.items.items c.hand_each.ensures c.bring.new.pass.cpu
    c.part_off.new.pass (ap (λ (z : HeldPass). z.cpu) c.bring.ensures.pass) c.part_off.ensures.pass

pub returns-clause-timers : goal.returns-clause-timers
returns-clause-timers g c =
    let table = g.N.RunName.table in
    let run = c.requires.run in
    all_timers table g.N.RunName.opening c.args.class c.args.part.now c.args.pass.now run.0 run.1
    (c.law.ensures table run.0 run.1) c.bring.new.part c.bring.ensures.part c.bring.ensures.agrees
    c.hand_each.new.part c.hand_each.new.items.items c.hand_each.ensures

pub returns-clause-fewer : goal.returns-clause-fewer
returns-clause-fewer g c =
    let table = g.N.RunName.table in
    let run = c.requires.run in
    few_out table g.N.RunName.opening c.args.class c.args.part.now c.args.pass.now run.0 run.1
    (c.law.ensures table run.0 run.1) c.bring.new.part c.bring.ensures.part c.bring.ensures.agrees
    c.hand_each.new.part c.hand_each.new.items.items c.hand_each.ensures
