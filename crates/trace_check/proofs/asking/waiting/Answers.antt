use Rattle.std.proofs.Common.{◌≡◌, ap, sym, ◌∙◌}
use Rattle.std.specs.Prelude.{not}
use Rattle.tm_base.specs.declared.names.Class.TheVariants.{Global}
use Rattle.wheel_core.specs.PlainBase.{item_of}
use Rattle.cpu_bases.specs.CpuBases.{base_of}
use Rattle.core_world.specs.World.{cpu_of}
use Rattle.step_core.specs.core_state.Status.{CpuStatus}
use Rattle.trace_check.proofs.AskLaws.{asked, not_asked}
use Rattle.trace_check.proofs.asking.waiting.Goals as goal

pub returns-clause-asked : goal.returns-clause-asked
returns-clause-asked g c =
    let w = c.args.core.now in
    let is : c.get.result
    ≡ item_of c.args.timer.0 (base_of Global (cpu_of w c.args.cpu.0).bases).items =
    cc (c.get.ensures, c.from.ensures, c.base.ensures.base, c.bases.ensures) in
    let status = c.status-status.ensures.status in
    asked w c.args.cpu.0 c.args.timer.0 c.get.result is
    (ap (λ (s : CpuStatus). not s.online) (sym status) ∙ c.if-not-status.false)
    (ap (λ (s : CpuStatus). not s.idle) (sym status) ∙ c.if-not-status-2.false)

pub returns-clause-none : goal.returns-clause-none
returns-clause-none g c =
    let w = c.args.core.now in
    let is : c.get.result
    ≡ item_of c.args.timer.0 (base_of Global (cpu_of w c.args.cpu.0).bases).items =
    cc (c.get.ensures, c.from.ensures, c.base.ensures.base, c.bases.ensures) in
    not_asked w c.args.cpu.0 c.args.timer.0 c.get.result is
