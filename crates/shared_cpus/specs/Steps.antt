-- the steps of a CPU by cases: where each may be made, and what it makes of the part
use Rattle.std.specs.Prelude.{◌≡◌, Option, Some, None}
use Rattle.tm_base.specs.declared.names.CpuId.{CpuId}
use Rattle.walk_rules.specs.declared.walk.Walk.{Walk}
use Rattle.walk_rules.specs.declared.walk.WalkKind.{WalkKind}
use Rattle.walk_rules.specs.declared.walk.WalkKind.TheVariants as kinds
use Rattle.core_world.specs.declared.step.Step.{Step}
use Rattle.core_world.specs.declared.step.Step.TheVariants as steps
use Rattle.shared_rule.specs.declared.parts.PassView.{PassView}
use Rattle.shared_rule.specs.Plays.{woken_box, woken_pass}
use Rattle.shared_rule.specs.Turns.{carried_box, carried_pass, carry_ended_box, carry_ended_pass}
use Rattle.shared_rule.specs.Turns.{entered_box, entered_pass, finished_box, idled_box, idled_pass}
use Rattle.shared_rule.specs.Turns.{outside_box, outside_pass, reevaluated_pass, released_box}
use Rattle.shared_rule.specs.Turns.{released_pass, rested_pass, retold_box, retold_pass, taken_box}
use Rattle.shared_rule.specs.Turns.{taken_pass}
use Rattle.shared_rule.specs.Parts.{HeldPart}
use Rattle.shared_cpus.specs.Conditions.{CanCarry, CanEnter, CanIdle, CanLeave, CanRelease}
use Rattle.shared_cpus.specs.Conditions.{CanRetell, CanTake, CanWake}
use Rattle.shared_cpus.specs.Pairs.{by_pair, of_box}

-- the step is of the part's CPU, and this condition holds
abbrev pub IsOf : (HeldPart → Type 0) → HeldPart → CpuId → Type 0
IsOf P part cpu = (cpu.0 ≡ part.box.cpu) × P part

-- the mark that is to be set is that of the CPU of the pass that is brought
abbrev pub IsTakenBy : CpuId → HeldPart → Type 0
IsTakenBy by part = (p : PassView) × (p.cpu ≡ by.0) × CanTake part p

-- MAY MAKE: where `cpu_step` may make a step, by the part and the pass that is brought
abbrev pub MayMake : HeldPart → Step → Type 0
MayMake part (steps.Clock now) = ⊥
MayMake part (steps.Enter cpu) = IsOf CanEnter part cpu
MayMake part (steps.Leave cpu) = IsOf CanLeave part cpu
MayMake part (steps.Arm cpu timer class expires job arg line) = ⊥
MayMake part (steps.Cancel cpu timer by line) = ⊥
MayMake part (steps.Hand cpu timer runner) = ⊥
MayMake part (steps.Ticked cpu class runner) = ⊥
MayMake part (steps.Move from to timer) = ⊥
MayMake part (steps.Idle cpu) = IsOf CanIdle part cpu
MayMake part (steps.Wake cpu) = IsOf CanWake part cpu
MayMake part (steps.Offline cpu) = ⊥
MayMake part (steps.Online cpu) = ⊥
MayMake part (steps.Reeval cpu) = IsOf CanRetell part cpu
MayMake part (steps.Take cpu by) = IsOf (IsTakenBy by) part cpu
MayMake part (steps.Carry cpu) = IsOf CanCarry part cpu
MayMake part (steps.Release cpu) = IsOf CanRelease part cpu
MayMake part (steps.Walk cpu) = ⊥
MayMake part (steps.HandOn cpu to) = ⊥

-- MADE: the part after a step
abbrev pub made : Step → HeldPart → HeldPart
made (steps.Clock now) part = part
made (steps.Enter cpu) part = by_pair (of_box entered_box) entered_pass part
made (steps.Leave cpu) part = by_pair (of_box outside_box) outside_pass part
made (steps.Arm cpu timer class expires job arg line) part = part
made (steps.Cancel cpu timer by line) part = part
made (steps.Hand cpu timer runner) part = part
made (steps.Ticked cpu class runner) part = part
made (steps.Move from to timer) part = part
made (steps.Idle cpu) part = by_pair (of_box idled_box) idled_pass part
made (steps.Wake cpu) part = by_pair (of_box woken_box) woken_pass part
made (steps.Offline cpu) part = part
made (steps.Online cpu) part = part
made (steps.Reeval cpu) part = by_pair (of_box retold_box) retold_pass part
made (steps.Take cpu by) part = by_pair taken_box taken_pass part
made (steps.Carry cpu) part = by_pair carried_box carried_pass part
made (steps.Release cpu) part = by_pair released_box released_pass part
made (steps.Walk cpu) part = part
made (steps.HandOn cpu to) part = part

-- FINISH: the part after the end of its walk, of this kind; no walk of the other two kinds comes to
-- an end of its own
abbrev pub ended_as : WalkKind → HeldPart → HeldPart
ended_as kinds.Activate part = part
ended_as kinds.Deactivate part = by_pair (of_box (finished_box kinds.Deactivate)) rested_pass part
ended_as kinds.Offline part = part
ended_as kinds.Reeval part = by_pair (of_box (finished_box kinds.Reeval)) reevaluated_pass part
ended_as (kinds.Remote by) part = by_pair carry_ended_box carry_ended_pass part

-- and of whatever kind it was
abbrev pub ended : Option Walk → HeldPart → HeldPart
ended None part = part
ended (Some k) part = ended_as k.kind part
