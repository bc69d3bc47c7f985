use Rattle.std.proofs.Common.{arith, refl, sym, ◌∙◌, subst, true≢false}
use Rattle.tm_base.specs.declared.names.Child.TheVariants as sorts
use Rattle.trace_check.specs.Leading.{IsChildInWorld, IsMigrator}
use Rattle.trace_check.proofs.LeadLaws.{leads_by, led_through, level_lower, none_above}
use Rattle.trace_check.proofs.LeadLaws.{some_above, some_migrator}
use Rattle.trace_check.proofs.leading.+led_from.Goals as goal

pub returns-in_default-clause-none : goal.returns-in_default-clause-none
returns-in_default-clause-none g t c = λ m leads.
    let some = some_migrator c.args.core.now m c.args.group.0 leads in
    c.in_default.ensures.none some.0 some.1

pub led_from-requires : goal.led_from-requires
led_from-requires g t c =
    let w = c.args.core.now in
    let low = c.requires.levels in
    let fits = c.decreases in
    let there = subst (IsChildInWorld w) c.in-Group.is c.in-Some.ensures.in_world in
    let lower = level_lower w c.kept.ensures.fits.lawful.sized c.kept.ensures.fits.planned
    c.args.group.0 c.in-Group.below.0 c.args.levels
    (subst (IsMigrator w c.args.group.0) c.in-Group.is c.in-Some.ensures.migrator) low in
    λ κs under. (omega (arith, low, fits), (under, (there, lower)))

pub returns-then-is_active-clause-leads : goal.returns-then-is_active-clause-leads
returns-then-is_active-clause-leads g t c =
    let w = c.args.core.now in
    leads_by w c.in-Cpu.cpu.0 c.args.group.0 (sorts.Cpu c.in-Cpu.cpu)
    (subst (IsMigrator w c.args.group.0) c.in-Cpu.is c.in-Some.ensures.migrator)
    (sym c.is_active.ensures ∙ c.if-is_active.true, refl)

pub returns-else-is_active-clause-none : goal.returns-else-is_active-clause-none
returns-else-is_active-clause-none g t c = λ m leads.
    let w = c.args.core.now in
    let through = led_through w m c.args.group.0 leads (sorts.Cpu c.in-Cpu.cpu)
    (subst (IsMigrator w c.args.group.0) c.in-Cpu.is c.in-Some.ensures.migrator) in
    true≢false (sym through.0 ∙ (sym c.is_active.ensures ∙ c.if-is_active.false))

pub returns-in-Group-clause-leads : goal.returns-in-Group-clause-leads
returns-in-Group-clause-leads g t c =
    let w = c.args.core.now in
    some_above w c.led_from.result c.args.group.0 c.in-Group.below
    (subst (IsMigrator w c.args.group.0) c.in-Group.is c.in-Some.ensures.migrator)
    c.led_from.ensures.leads

pub returns-in-Group-clause-none : goal.returns-in-Group-clause-none
returns-in-Group-clause-none g t c =
    let w = c.args.core.now in
    none_above w c.led_from.result c.args.group.0 c.in-Group.below
    (subst (IsMigrator w c.args.group.0) c.in-Group.is c.in-Some.ensures.migrator)
    c.led_from.ensures.none
