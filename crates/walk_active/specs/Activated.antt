-- what an activation makes of the part of its CPU and of its pass
use Rattle.std.specs.Prelude.{◌≡◌, ℕ, Bool, true, false, Option, None, is_some, option_map}
use Rattle.atomic_table.specs.Seated.{TableId}
use Rattle.tm_base.specs.declared.names.TheConstants.{NEVER}
use Rattle.event_queue.specs.declared.event.Event.{Event}
use Rattle.event_queue.specs.EventMap.{as_ignored}
use Rattle.tree_plan.specs.Paths.{group_at_of}
use Rattle.core_world.specs.World.{CpuRecord}
use Rattle.shared_cpus.specs.shared_rule.declared.parts.BoxView.{BoxView}
use Rattle.shared_cpus.specs.shared_rule.declared.parts.PassView.{PassView}
use Rattle.shared_cpus.specs.shared_rule.Whole.{no_looks}
use Rattle.shared_cpus.specs.shared_rule.Plays.{woken_pass}
use Rattle.shared_cpus.specs.shared_rule.Parts.{HeldPart, without_guest}
use Rattle.shared_cpus.specs.shared_rule.Passes.{HeldPass, IsOfRun, IsPassIn}
use Rattle.shared_walks.specs.Steps.{on_part}

-- THE CPU, awake: it isn't idle, has nothing to be woken for, and no walk is under way
abbrev pub activated : CpuRecord → CpuRecord
activated y = record y { idle = false; wakeup = NEVER; walk = None }

-- an event, which is marked as ignored where a walk comes by
abbrev pub ignored_where : Bool → Option Event → Option Event
ignored_where true e = option_map as_ignored e
ignored_where false e = e

-- its box: the CPU's slot in its leaf is marked as ignored, where the CPU has a group, and the walk
-- has nothing to remember
abbrev pub activated_box : BoxView → BoxView
activated_box b = record b {
  own = activated b.own;
  leaf = ignored_where (is_some (group_at_of b.opening.tree b.cpu 0)) b.leaf;
  looked = no_looks;
}

-- its part, in which no pass is
abbrev pub activated_part : HeldPart → HeldPart
activated_part part = without_guest (on_part activated_box part)

-- its pass, with which one walk more was begun: the CPU is awake, and the journal is that of the
-- box
abbrev pub activated_pass : BoxView → PassView → PassView
activated_pass b p = record (woken_pass b p) { journal = b.own.bases.journal }

-- a pass is that of this CPU, in this run
pub record IsOwnPass (table : TableId) (cpu : ℕ) (held : HeldPass) : Type 0 where
  pub of_run : IsOfRun table held
  pub cpu_is : held.cpu ≡ cpu
  pub own : (p : PassView) → IsPassIn table held p → p.cpu ≡ cpu
