use Rattle.std.proofs.Common.{Some, None, refl, sym, ◌∙◌, arith}
use Rattle.std.specs.Prelude.{find}
use Rattle.linux_seen.specs.Tree.{group_stands}
use Rattle.linux_told.proofs.Steps.{leads_found, led_is}
use Rattle.linux_told.proofs.told.+leads.Goals as goal

pub returns-in-Some-cpu_below : goal.returns-in-Some-cpu_below
returns-in-Some-cpu_below t c =
    let some = c.if-levels-eq0.false in
    c.is_awake.ensures
    ∙ sym (leads_found c.args.seen.now c.args.levels c.args.pointer c.in-Some.number
    (Some c.in-Some-cpu_below.cpu)
    (find (λ g. group_stands g c.args.pointer c.in-Some.number) c.args.seen.now.groups)
    (omega (arith, some))
    (led_is c.args.seen.now c.args.pointer c.in-Some.number c.group-group.result
    c.known_word.result c.migrator_in.result c.group-group.ensures c.known_word.ensures
    c.migrator_in.ensures c.in-Some.is) (sym c.in-Some-cpu_below.is ∙ c.cpu_below.ensures) refl)

pub returns-in-Some-group_below : goal.returns-in-Some-group_below
returns-in-Some-group_below t c =
    let some = c.if-levels-eq0.false in
    c.leads.ensures
    ∙ sym (leads_found c.args.seen.now c.args.levels c.args.pointer c.in-Some.number None
    (Some c.in-Some-group_below.child) (omega (arith, some))
    (led_is c.args.seen.now c.args.pointer c.in-Some.number c.group-group.result
    c.known_word.result c.migrator_in.result c.group-group.ensures c.known_word.ensures
    c.migrator_in.ensures c.in-Some.is) (sym c.in-None.is ∙ c.cpu_below.ensures)
    (sym c.in-Some-group_below.is ∙ c.group_below.ensures))

pub returns-in-None-group_below : goal.returns-in-None-group_below
returns-in-None-group_below t c =
    let some = c.if-levels-eq0.false in
    sym (leads_found c.args.seen.now c.args.levels c.args.pointer c.in-Some.number None None
    (omega (arith, some))
    (led_is c.args.seen.now c.args.pointer c.in-Some.number c.group-group.result
    c.known_word.result c.migrator_in.result c.group-group.ensures c.known_word.ensures
    c.migrator_in.ensures c.in-Some.is) (sym c.in-None.is ∙ c.cpu_below.ensures)
    (sym c.in-None-group_below.is ∙ c.group_below.ensures))
