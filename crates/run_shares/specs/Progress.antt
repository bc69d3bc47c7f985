-- what may be done of a round, and what is done so far (no public clause cites it)
use Rattle.std.specs.Prelude.{◌≡◌, ◌+◌, ◌-◌, ◌^◌, ◌<◌, ◌≤◌, ℕ, Bool, true, false, List, []}
use Rattle.std.specs.Prelude.{◌∷◌, ◌++◌, All, OnOk, length, map}
use Rattle.std.specs.FinSet.{contains}
use Rattle.std.specs.List.{flat_map}
use Rattle.atomic_table.specs.Seated.{TableId}
use Rattle.tm_base.specs.CpuSet.{Cpus}
use Rattle.tm_base.specs.declared.limits.TheConstants.{MOST_OPS}
use Rattle.tm_base.specs.declared.names.TheConstants.{TIME_LIMIT}
use Rattle.tm_script.specs.declared.syntax.Op.{Op}
use Rattle.tm_report.specs.declared.lines.Line.{Line}
use Rattle.core_world.specs.Covered.{IsSettled}
use Rattle.core_world.specs.World.{World, cpu_of}
use Rattle.idle_wakeup.specs.shared_rule.Passes.{HeldPass}
use Rattle.idle_wakeup.specs.shared_rule.Rule.{Each}
use Rattle.idle_wakeup.specs.shared_table.Begun.{begun_pass}
use Rattle.play_rules.specs.Interrupts.{Replies}
use Rattle.run_story.specs.Shares.{own_ops}
use Rattle.run_story.specs.Asked.{IsRoundOp}
use Rattle.run_shares.specs.Doing.{HasDone, IsShareOp}
use Rattle.run_shares.specs.declared.shares.Share.{Share}
use Rattle.run_shares.specs.declared.tasks.Task.{Task}
use Rattle.run_shares.specs.Tasks.{AreGathered, AreTasks, EachFrom, HasShareEnded, IsTaskOf}
use Rattle.run_shares.specs.Tasks.{RoundPlan}
use Rattle.run_shares.specs.Tasks.{pass_of, told_of}

-- a plan that a core allows, at its time
pub record MayRound (o : World) (now : ℕ) (plan : RoundPlan) : Type 0 where
  pub settled : IsSettled o
  pub now_is : now ≡ o.clock
  pub in_time : now ≤ TIME_LIMIT - 2 ^ 32
  pub online : (c : ℕ) → contains plan.due c ≡ true → (cpu_of o c).online ≡ true
  pub ops : All (IsRoundOp (length o.cpus) o.timers) plan.ops
  pub few : length plan.ops ≤ MOST_OPS

-- the pass of CPU c as the round begins
abbrev pub IsFirstPass : TableId → World → (c : ℕ) → HeldPass → Type 0
IsFirstPass table o c pass = pass ≡ begun_pass table o 0 c

-- one more operation is given to its CPU, whatever it was that the CPUs had to do
abbrev pub IsGiven : Op → (old new : List Task) → Type 0
IsGiven op old new =
    (table : TableId) (o : World) (due : Cpus) (ops : List Op) (n : ℕ)
    → AreTasks table o (record { due = due; ops = ops }) n old
    → AreTasks table o (record { due = due; ops = ops ++ op ∷ [] }) n new

-- all these operations are given to their CPUs
abbrev pub AreGiven : List Op → (old new : List Task) → Type 0
AreGiven more old new =
    (table : TableId) (o : World) (due : Cpus) (n : ℕ)
    → AreTasks table o (record { due = due; ops = [] }) n old
    → AreTasks table o (record { due = due; ops = more }) n new

-- some of them are given so far, and no task has come or gone
pub record GivenSoFar (some : List Op) (first now : List Task) : Type 0 where
  pub count : length now ≡ length first
  pub given : AreGiven some first now

-- a task that may be done, from the pass with which the round began for its CPU
pub record MayShare (table : TableId) (o : World) (x : Task) : Type 0 where
  pub first : x.pass ≡ begun_pass table o 0 x.pass.cpu
  pub cpu : x.pass.cpu < length o.cpus
  pub outside : (cpu_of o x.pass.cpu).inside ≡ false
  pub online : x.due ≡ true → (cpu_of o x.pass.cpu).online ≡ true
  pub ops : All (IsShareOp x.pass.cpu o.timers) x.ops.items
  pub few : length x.ops.items ≤ MOST_OPS

-- DONE: what came of a share, where memory was enough for it
abbrev pub IsShareDone : TableId → World → Replies → (due : Bool) → List Op → (cpu : ℕ) → Share
    → Type 0
IsShareDone table o jobs due ops cpu s =
    OnOk s.ended (HasDone table o jobs due ops cpu s.pass s.lines.items)

-- the same of CPU c by a plan
abbrev pub IsDoneAt : TableId → World → Replies → RoundPlan → (c : ℕ) → Share → Type 0
IsDoneAt table o jobs plan c s =
    IsShareDone table o jobs (contains plan.due c) (own_ops c plan.ops) c s

-- from tasks to shares
abbrev pub AllDone : TableId → World → Replies → List Task → List Share → Type 0
AllDone table o jobs tasks shares =
    (plan : RoundPlan) → EachFrom (IsTaskOf table o plan) 0 tasks
    → EachFrom (IsDoneAt table o jobs plan) 0 shares

-- MOVED SO FAR: of so many elements, those that are left are still as they were, and what was made
-- of the others is as wanted
pub record MovedSoFar {X Y : Type 0} (P : ℕ → X → Type 0) (Q : ℕ → Y → Type 0) (count : ℕ)
    (rest : List X) (made : List Y) : Type 0 where
  pub left : EachFrom P (length made) rest
  pub done : EachFrom Q 0 made
  pub all : length made + length rest ≡ count

-- TASKS SO FAR: one for each of the passes that are taken, with no operation yet
abbrev pub TasksSoFar : Cpus → (all rest : List HeldPass) → List Task → Type 0
TasksSoFar due all rest tasks =
    (table : TableId) (o : World) → EachFrom (IsFirstPass table o) 0 all
    → MovedSoFar (IsFirstPass table o) (IsTaskOf table o (record { due = due; ops = [] }))
    (length all) rest tasks

-- gathered so far, with those that are left
pub record GatheredSoFar (all rest : List Share) (passes : List HeldPass) (lines : List Line) :
    Type 0 where
  pub passes_are : passes ++ map pass_of rest ≡ map pass_of all
  pub lines_are : lines ++ flat_map told_of rest ≡ flat_map told_of all
  pub ended : Each HasShareEnded rest → Each HasShareEnded all

-- ALL DONE: what came of the shares of all CPUs, with the passes and the lines that they leave
pub record AreAllDone (table : TableId) (o : World) (jobs : Replies) (plan : RoundPlan)
    (passes : List HeldPass) (lines : List Line) : Type 0 where
  pub shares : List Share
  pub count : length shares ≡ length o.cpus
  pub each : EachFrom (IsDoneAt table o jobs plan) 0 shares
  pub gathered : AreGathered shares passes lines
