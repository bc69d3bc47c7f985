use Rattle.std.proofs.Common.{refl, sym, ◌∙◌, subst}
use Rattle.tm_base.specs.declared.names.Child.TheVariants as sorts
use Rattle.orders_world.specs.Seeking.{LooksAfter}
use Rattle.orders_world.proofs.Leaders.{leads_by, some_by, some_child}
use Rattle.orders_world.proofs.leading.+led_from.Goals as goal

pub returns-in_default-clause-none : goal.returns-in_default-clause-none
returns-in_default-clause-none t c = λ m leads.
    let some = some_child c.args.world.now m c.args.group.0 leads in
    c.in_default.ensures.none some.0 some.1

pub returns-then-is_active-clause-leads : goal.returns-then-is_active-clause-leads
returns-then-is_active-clause-leads t c =
    let w = c.args.world.now in
    leads_by w c.in-Cpu.cpu.0 c.args.group.0 (sorts.Cpu c.in-Cpu.cpu)
    (subst (LooksAfter w c.args.group.0) c.in-Cpu.is c.in-Some.ensures.some)
    (sym c.is_active.ensures ∙ c.if-is_active.true, refl)

pub returns-in-Group-clause-leads : goal.returns-in-Group-clause-leads
returns-in-Group-clause-leads t c =
    let w = c.args.world.now in
    some_by w c.led_from.result c.args.group.0 c.in-Group.below.0
    (subst (LooksAfter w c.args.group.0) c.in-Group.is c.in-Some.ensures.some)
    c.led_from.ensures.leads
