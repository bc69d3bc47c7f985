-- where want of memory stops an interrupt, and what stands of it
use Rattle.std.specs.Prelude.{◌≡◌, ◌⊎◌, ℕ, suc, ◌+◌, ⊤, List, [], ◌∷◌, ◌++◌, length}
use Rattle.tm_base.specs.declared.names.Class.{Class}
use Rattle.cpu_bases.specs.declared.entry.Act.TheVariants.{Handed}
use Rattle.core_world.specs.World.{World}
use Rattle.job_table.specs.declared.jobs.JobCall.{JobCall}
use Rattle.job_table.specs.declared.jobs.JobReply.{JobReply}
use Rattle.job_table.specs.declared.jobs.JobReply.TheVariants as replies
use Rattle.walk_inactive.specs.shared_rule.declared.parts.Did.{Did}
use Rattle.walk_inactive.specs.shared_rule.declared.parts.Receipt.{Receipt}
use Rattle.shared_acts.specs.declared.runs.Ran.{Ran}
use Rattle.shared_acts.specs.Following.{Follows, FollowsBy, Owed, call_of}
use Rattle.remote_expiry.specs.Order.{IsWholeDrain}

-- a job would have its timer armed again
abbrev pub AsksAgain : JobReply → Type 0
AsksAgain replies.Done = ⊥
AsksAgain (replies.Mark m) = ⊥
AsksAgain (replies.Again class delay) = ⊤

-- as `Follows`, but for timers whose job would have them armed again, for which memory was wanting:
-- these have no run and no arming
unfoldable pub FollowsInPart : World → (ℕ → JobCall → JobReply) → (runner : ℕ) → List Did
    → (place : ℕ) → List Receipt → List Owed → List Ran → Type 0
FollowsInPart o jobs runner seen place [] owed runs = (owed ≡ []) × (runs ≡ [])
FollowsInPart o jobs runner seen place (r ∷ rs) owed runs =
    FollowsBy o jobs runner seen place r.entry.act r
    (FollowsInPart o jobs runner seen (suc place) rs) owed runs
    ⊎ ((r.entry.act ≡ Handed)
    × AsksAgain (jobs r.entry.job (call_of o.clock runner r.entry))
    × FollowsInPart o jobs runner seen (suc place) rs owed runs)

-- THE LAST DRAIN, where memory was wanting for armings: all that was due of a base went out, and
-- each timer has its run with its job's reply, but for those that were to be armed again and found
-- no room
pub record DrainsInPart (o : World) (jobs : ℕ → JobCall → JobReply) (runner : ℕ)
    (seen : List Did) (place : ℕ) (receipts : List Receipt) (runs : List Ran) : Type 0 where
  pub home : ℕ
  pub class : Class
  pub whole : IsWholeDrain home runner class receipts
  pub follows : FollowsInPart o jobs runner seen place receipts [] runs

-- where memory was wanting: before a drain, of which nothing went out, or for the armings of one
abbrev pub StopsIn : World → (ℕ → JobCall → JobReply) → (runner : ℕ) → List Did → (place : ℕ)
    → List Receipt → List Ran → Type 0
StopsIn o jobs runner seen place receipts runs =
    ((receipts ≡ []) × (runs ≡ [])) ⊎ DrainsInPart o jobs runner seen place receipts runs

-- STOPPED by want of memory: the drains before the one that found none are whole, as after Ok, each
-- timer with its run and its job's reply; nothing went out behind that one
pub record IsStopped (o : World) (jobs : ℕ → JobCall → JobReply) (runner : ℕ)
    (seen : List Did) (place : ℕ) (receipts : List Receipt) (runs : List Ran) : Type 0 where
  pub worked : List Receipt
  pub last : List Receipt
  pub told : List Ran
  pub rest : List Ran
  pub receipts_are : receipts ≡ worked ++ last
  pub runs_are : runs ≡ told ++ rest
  pub follows : Follows o jobs runner seen place worked [] told
  pub stops : StopsIn o jobs runner seen (place + length worked) last rest
