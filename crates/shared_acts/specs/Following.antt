-- how the runs of an interrupt and the receipts of its pass go together: each timer that was handed
-- out was run once, in that order, and its job's reply was done
use Rattle.std.specs.Prelude.{◌≡◌, ◌+◌, ◌<◌, ℕ, suc, ⊤, ◌⊎◌, List, [], ◌∷◌, ◌++◌, Some}
use Rattle.std.specs.Prelude.{Contains}
use Rattle.tm_base.specs.declared.names.Class.{Class}
use Rattle.cpu_bases.specs.declared.entry.Act.{Act}
use Rattle.cpu_bases.specs.declared.entry.Act.TheVariants.{Armed, Cancelled, Handed, MovedIn}
use Rattle.cpu_bases.specs.declared.entry.Act.TheVariants.{MovedOut, Ticked}
use Rattle.cpu_bases.specs.declared.entry.Entry.{Entry}
use Rattle.core_world.specs.World.{World}
use Rattle.shared_timers.specs.core_state.Shown.{as_cpu}
use Rattle.job_table.specs.declared.jobs.JobCall.{JobCall}
use Rattle.job_table.specs.declared.jobs.JobReply.{JobReply}
use Rattle.job_table.specs.declared.jobs.JobReply.TheVariants as replies
use Rattle.shared_words.specs.declared.spot.Spot.{Spot}
use Rattle.shared_words.specs.Words.{spot_of}
use Rattle.shared_timers.specs.shared_rule.declared.parts.Deed.TheVariants as deeds
use Rattle.shared_timers.specs.shared_rule.declared.parts.Did.{Did}
use Rattle.shared_timers.specs.shared_rule.declared.parts.Receipt.{Receipt}
use Rattle.shared_timers.specs.Exchanging.{timer_word}
use Rattle.shared_acts.specs.declared.runs.Ran.{Ran}
use Rattle.shared_acts.specs.declared.runs.RanReply.{RanReply}
use Rattle.shared_acts.specs.declared.runs.RanReply.TheVariants as ran

-- what the job of a timer is told that was handed out
abbrev pub call_of : (now runner : ℕ) → Entry → JobCall
call_of now runner e =
    record { timer = e.timer; arg = e.arg; now = now; runner = as_cpu runner }

-- a run is that of a timer that was handed out
pub record IsRunOfReceipt (r : Receipt) (x : Ran) : Type 0 where
  pub timer : x.timer ≡ r.entry.timer
  pub home : x.home ≡ r.cpu
  pub wheel : x.wheel ≡ r.entry.wheel

-- FOUND AFTER THE HAND-OUT: the word of a timer of the run named this CPU, as the pass found it
-- once it had the receipt of this place among all of its receipts
pub record FoundOn (o : World) (timer cpu place : ℕ) (seen : List Did) : Type 0 where
  -- the timer is one of the run
  pub there : timer < o.timers
  -- the deed that found its word
  pub look : Did
  pub has : Contains seen look
  -- what it found
  pub found : ℕ
  pub saw : look.deed ≡ deeds.Saw (timer_word o timer) found
  -- the receipt stood among those that the pass had then
  pub since : place < look.held
  -- the word named the CPU
  pub spot : Spot
  pub spelled : spot_of found ≡ Some spot
  pub named : spot.cpu.0 ≡ cpu

-- AGAIN: a timer whose job would have it armed again is told as armed in the class of the reply, or
-- as skipped where its word, found after the hand-out whose receipt has this place, named a CPU
abbrev pub IsAgain : World → (timer place : ℕ) → List Did → Class → RanReply → Type 0
IsAgain o timer place seen class ran.Done = ⊥
IsAgain o timer place seen class (ran.Mark m) = ⊥
IsAgain o timer place seen class (ran.Again c wheel) = c ≡ class
IsAgain o timer place seen class (ran.Skip cpu) = FoundOn o timer cpu.0 place seen

-- REPLIES: what a run tells is what the job replied, after the hand-out whose receipt has this
-- place
abbrev pub IsHandOutTold : World → (timer place : ℕ) → List Did → JobReply → RanReply → Type 0
IsHandOutTold o timer place seen replies.Done reply = reply ≡ ran.Done
IsHandOutTold o timer place seen (replies.Mark m) reply = reply ≡ ran.Mark m
IsHandOutTold o timer place seen (replies.Again class delay) reply =
    IsAgain o timer place seen class reply

-- a timer that is still to be armed again: its run's reply, and how it was handed out
pub record Owed : Type 0 where
  pub class : Class
  pub wheel : ℕ
  pub delay : ℕ
  pub out : Entry

-- what a run leaves to be armed
abbrev pub owed_by : JobReply → RanReply → Entry → List Owed
owed_by replies.Done reply e = []
owed_by (replies.Mark m) reply e = []
owed_by (replies.Again class delay) ran.Done e = []
owed_by (replies.Again class delay) (ran.Mark m) e = []
owed_by (replies.Again class delay) (ran.Again c wheel) e =
    record { class = c; wheel = wheel; delay = delay; out = e } ∷ []
owed_by (replies.Again class delay) (ran.Skip cpu) e = []

-- an arming is that of a timer which was to be armed again: by the CPU that ran it, asked for its
-- delay from now, with the class and the wheel expiry that were told, and with its job and number
pub record IsOwed (now runner : ℕ) (x : Owed) (r : Receipt) : Type 0 where
  pub cpu : r.cpu.0 ≡ runner
  pub line : r.entry.line ≡ 0
  pub timer : r.entry.timer ≡ x.out.timer
  pub expires : r.entry.expires ≡ now + x.delay
  pub class : r.entry.class ≡ x.class
  pub wheel : r.entry.wheel ≡ x.wheel
  pub job : r.entry.job ≡ x.out.job
  pub arg : r.entry.arg ≡ x.out.arg

-- a timer was handed out, with the receipt of this place: it has the next run, and what that leaves
-- to be armed comes last
abbrev pub FollowsOut : World → (ℕ → JobCall → JobReply) → (runner : ℕ) → List Did → (place : ℕ)
    → Receipt → (rest : List Owed → List Ran → Type 0) → List Owed → List Ran → Type 0
FollowsOut o jobs runner seen place r rest owed [] = ⊥
FollowsOut o jobs runner seen place r rest owed (x ∷ xs) =
    IsRunOfReceipt r x
    × IsHandOutTold o r.entry.timer.0 place seen (jobs r.entry.job (call_of o.clock runner r.entry))
    x.reply
    × rest
    (owed ++ owed_by (jobs r.entry.job (call_of o.clock runner r.entry)) x.reply r.entry) xs

-- a timer was armed: it is the first of those to come
abbrev pub FollowsArmed : (now runner : ℕ) → Receipt → (rest : List Owed → List Ran → Type 0)
    → List Owed → List Ran → Type 0
FollowsArmed now runner r rest [] runs = ⊥
FollowsArmed now runner r rest (x ∷ owed) runs = IsOwed now runner x r × rest owed runs

-- what comes with a receipt of this place and act
abbrev pub FollowsBy : World → (ℕ → JobCall → JobReply) → (runner : ℕ) → List Did → (place : ℕ)
    → Act → Receipt → (rest : List Owed → List Ran → Type 0) → List Owed → List Ran → Type 0
FollowsBy o jobs runner seen place Armed r rest owed runs =
    FollowsArmed o.clock runner r rest owed runs
FollowsBy o jobs runner seen place Handed r rest owed runs =
    FollowsOut o jobs runner seen place r rest owed runs
FollowsBy o jobs runner seen place Cancelled r rest owed runs = ⊥
FollowsBy o jobs runner seen place MovedOut r rest owed runs = ⊥
FollowsBy o jobs runner seen place MovedIn r rest owed runs = ⊥
FollowsBy o jobs runner seen place Ticked r rest owed runs = rest owed runs

-- FOLLOWS: the new receipts of a pass, from the first on, which has this place among all of its
-- receipts, with the armings that are still to come and the runs that are still to be told: each
-- timer handed out has the next run, each arming is the first one to come, and else there are
-- drains alone
unfoldable pub Follows : World → (ℕ → JobCall → JobReply) → (runner : ℕ) → List Did
    → (place : ℕ) → List Receipt → List Owed → List Ran → Type 0
Follows o jobs runner seen place [] owed runs = (owed ≡ []) × (runs ≡ [])
Follows o jobs runner seen place (r ∷ rs) owed runs =
    FollowsBy o jobs runner seen place r.entry.act r (Follows o jobs runner seen (suc place) rs)
    owed runs

-- SOME of the hand-outs among these receipts have these runs, in their order
unfoldable pub RunsOfSome : List Receipt → List Ran → Type 0
RunsOfSome [] runs = runs ≡ []
RunsOfSome (r ∷ rs) [] = ⊤
RunsOfSome (r ∷ rs) (x ∷ xs) =
    ((r.entry.act ≡ Handed) × IsRunOfReceipt r x × RunsOfSome rs xs) ⊎ RunsOfSome rs (x ∷ xs)
