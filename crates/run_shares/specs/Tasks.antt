-- what each CPU has to do in a round, and what all CPUs leave
use Rattle.std.specs.Prelude.{◌≡◌, ℕ, suc, List, [], ◌∷◌, IsOk, length, map}
use Rattle.std.specs.FinSet.{contains}
use Rattle.std.specs.List.{flat_map}
use Rattle.atomic_table.specs.Seated.{TableId}
use Rattle.tm_base.specs.CpuSet.{Cpus}
use Rattle.tm_script.specs.declared.syntax.Op.{Op}
use Rattle.tm_report.specs.declared.lines.Line.{Line}
use Rattle.core_world.specs.World.{World}
use Rattle.idle_wakeup.specs.shared_rule.Passes.{HeldPass}
use Rattle.idle_wakeup.specs.shared_rule.Rule.{Each}
use Rattle.idle_wakeup.specs.shared_table.Begun.{begun_pass}
use Rattle.run_story.specs.Shares.{own_ops}
use Rattle.run_shares.specs.declared.shares.Share.{Share}
use Rattle.run_shares.specs.declared.tasks.Task.{Task}

-- a fact of each element of a list and its number, counted from k on
abbrev pub EachFrom : {X : Type 0} → (ℕ → X → Type 0) → (k : ℕ) → List X → Type 0
EachFrom P k [] = Unit {0}
EachFrom P k (x ∷ xs) = P k x × EachFrom P (suc k) xs

-- THE PLAN of a round: which CPUs are due an interrupt, and the operations of all
pub record RoundPlan : Type 0 where
  pub due : Cpus
  pub ops : List Op

-- THE TASK of CPU c by a plan, with the pass with which it begins
pub record IsTaskOf (table : TableId) (o : World) (plan : RoundPlan) (c : ℕ) (x : Task)
    : Type 0 where
  pub pass : x.pass ≡ begun_pass table o 0 c
  pub due : x.due ≡ contains plan.due c
  pub ops : x.ops.items ≡ own_ops c plan.ops

-- the tasks of the first so many CPUs
pub record AreTasks (table : TableId) (o : World) (plan : RoundPlan) (n : ℕ) (xs : List Task)
    : Type 0
  where
    pub count : length xs ≡ n
    pub each : EachFrom (IsTaskOf table o plan) 0 xs

-- the pass of a share
abbrev pub pass_of : Share → HeldPass
pass_of s = s.pass

-- the lines of a share
abbrev pub told_of : Share → List Line
told_of s = s.lines.items

-- a share for which memory wasn't wanting
abbrev pub HasShareEnded : Share → Type 0
HasShareEnded s = IsOk s.ended

-- GATHERED: the passes and the lines of shares, in their order, where memory was enough for all
pub record AreGathered (shares : List Share) (passes : List HeldPass) (lines : List Line) : Type 0
  where
    pub passes_are : passes ≡ map pass_of shares
    pub lines_are : lines ≡ flat_map told_of shares
    pub ended : Each HasShareEnded shares
