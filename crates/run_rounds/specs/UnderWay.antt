-- what is under way of a round, in threads or done (no public clause cites it)
use Rattle.std.specs.Prelude.{◌≡◌, ◌+◌, ℕ, Bool, List, length}
use Rattle.std.specs.FinSet.{contains}
use Rattle.atomic_table.specs.Seated.{TableId}
use Rattle.tm_script.specs.declared.syntax.Op.{Op}
use Rattle.core_world.specs.World.{World}
use Rattle.run_shares.specs.shared_rule.Rule.{Each}
use Rattle.play_rules.specs.Interrupts.{Replies}
use Rattle.run_shares.specs.run_story.Shares.{own_ops}
use Rattle.run_shares.specs.Tasks.{EachFrom, IsTaskOf, RoundPlan}
use Rattle.run_shares.specs.Progress.{IsDoneAt, IsShareDone, MayShare, MovedSoFar}
use Rattle.run_shares.specs.declared.shares.Share.{Share}
use Rattle.run_shares.specs.declared.tasks.Task.{Task}
use Rattle.run_rounds.specs.declared.threads.Begun.{Begun}
use Rattle.run_rounds.specs.declared.threads.Begun.TheVariants.{Here, There}
use Rattle.run_rounds.specs.declared.threads.Does.{Does}

-- PROMISED: a thread promises the share of this CPU, with these jobs, as their replies are read
pub record Promises {N J : Type 0} (replies : J → Replies) (jobs : Replies) (due : Bool)
    (ops : List Op) (cpu : ℕ) (p : Does N J) : Type 0 where
  pub cpu_is : p.cpu.0 ≡ cpu
  pub due_is : p.due ≡ due
  pub ops_are : p.ops.value.items ≡ ops
  pub jobs_are : replies p.jobs.value ≡ jobs

-- UNDER WAY: a thread promises the share, or it is done
abbrev pub IsBegun : {N J : Type 0} → TableId → World → (J → Replies) → Replies → (due : Bool)
    → List Op → (cpu : ℕ) → Begun N J → Type 0
IsBegun table o replies jobs due ops cpu (There child) =
    Promises replies jobs due ops cpu child.promise
IsBegun table o replies jobs due ops cpu (Here share) = IsShareDone table o jobs due ops cpu share

-- the same of CPU c by a plan
abbrev pub IsBegunAt : {N J : Type 0} → TableId → World → (J → Replies) → Replies → RoundPlan
    → (c : ℕ) → Begun N J → Type 0
IsBegunAt table o replies jobs plan c b =
    IsBegun table o replies jobs (contains plan.due c) (own_ops c plan.ops) c b

-- what was under way is done
abbrev pub IsKept : {N J : Type 0} → TableId → World → (J → Replies) → Begun N J → Share → Type 0
IsKept table o replies begun s =
    (jobs : Replies) (due : Bool) (ops : List Op) (cpu : ℕ)
    → IsBegun table o replies jobs due ops cpu begun → IsShareDone table o jobs due ops cpu s

-- all tasks are under way, whatever the plan was
abbrev pub AllBegun : {N J : Type 0} → TableId → World → (J → Replies) → Replies → List Task
    → List (Begun N J) → Type 0
AllBegun table o replies jobs tasks begun =
    (plan : RoundPlan) → EachFrom (IsTaskOf table o plan) 0 tasks
    → EachFrom (IsBegunAt table o replies jobs plan) 0 begun

-- and all that were under way are done
abbrev pub AllEnded : {N J : Type 0} → TableId → World → (J → Replies) → List (Begun N J)
    → List Share → Type 0
AllEnded table o replies begun shares =
    (jobs : Replies) (plan : RoundPlan) → EachFrom (IsBegunAt table o replies jobs plan) 0 begun
    → EachFrom (IsDoneAt table o jobs plan) 0 shares

-- BEGUN SO FAR: the tasks that are left may be done, and the others are under way
pub record BegunSoFar {N J : Type 0} (table : TableId) (o : World) (replies : J → Replies)
    (jobs : Replies) (all rest : List Task) (begun : List (Begun N J)) : Type 0 where
  pub may : Each (MayShare table o) rest
  pub all_are : length begun + length rest ≡ length all
  pub moved : (plan : RoundPlan) → EachFrom (IsTaskOf table o plan) 0 all
      → MovedSoFar (IsTaskOf table o plan) (IsBegunAt table o replies jobs plan) (length all) rest
      begun

-- ENDED SO FAR: those that are left are under way, and the others are done
pub record EndedSoFar {N J : Type 0} (table : TableId) (o : World) (replies : J → Replies)
    (all rest : List (Begun N J)) (shares : List Share) : Type 0 where
  pub all_are : length shares + length rest ≡ length all
  pub moved : (jobs : Replies) (plan : RoundPlan)
      → EachFrom (IsBegunAt table o replies jobs plan) 0 all
      → MovedSoFar (IsBegunAt table o replies jobs plan) (IsDoneAt table o jobs plan)
      (length all) rest shares
