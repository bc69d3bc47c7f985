use Rattle.std.proofs.Common.{◌≤◌, ◌^◌, arith, sym}
use Rattle.tm_base.specs.declared.names.Class.TheVariants.{Pinned, Global, Deferrable}
use Rattle.core_world.specs.World.{cpu_of}
use Rattle.cpu_bases.proofs.Counts.{few_queued}
use Rattle.core_machine.proofs.Views.Where.{counted}
use Rattle.core_machine.proofs.readings.timers.count_queued.Goals as goal

pub overflow_add-result : goal.overflow_add-result
overflow_add-result g c =
    let b = (cpu_of c.args.core.now c.args.cpu.0).bases in
    let global = few_queued b Global c.timers_kept.ensures in
    let deferrable = few_queued b Deferrable c.timers_kept.ensures in
    let second : c.len-2.result ≤ 2 ^ 16 =
    rw (c.len-2.ensures, c.base-2.ensures.base, c.bases-bases.ensures) global in
    let third : c.len-3.result ≤ 2 ^ 16 =
    rw (c.len-3.ensures, c.base-3.ensures.base, c.bases-bases.ensures) deferrable in
    omega (arith, second, third)

pub overflow_add-result-2 : goal.overflow_add-result-2
overflow_add-result-2 g c =
    let b = (cpu_of c.args.core.now c.args.cpu.0).bases in
    let pinned = few_queued b Pinned c.timers_kept.ensures in
    let global = few_queued b Global c.timers_kept.ensures in
    let deferrable = few_queued b Deferrable c.timers_kept.ensures in
    let first : c.len.result ≤ 2 ^ 16 =
    rw (c.len.ensures, c.base.ensures.base, c.bases-bases.ensures) pinned in
    let second : c.len-2.result ≤ 2 ^ 16 =
    rw (c.len-2.ensures, c.base-2.ensures.base, c.bases-bases.ensures) global in
    let third : c.len-3.result ≤ 2 ^ 16 =
    rw (c.len-3.ensures, c.base-3.ensures.base, c.bases-bases.ensures) deferrable in
    omega (arith, first, second, third)

pub returns : goal.returns
returns g c = rw (
  c.len.ensures,
  c.len-2.ensures,
  c.len-3.ensures,
  c.base.ensures.base,
  c.base-2.ensures.base,
  c.base-3.ensures.base,
  c.bases-bases.ensures,
)
    (sym (counted c.args.core.now c.args.cpu.0 c.requires))
