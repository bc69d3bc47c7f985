-- for crates above: pieces of an interrupt follow one another: their receipts and runs stand one
-- behind the other
use Rattle.std.proofs.Common.{◌≡◌, ℕ, suc, ◌+◌, List, [], ◌∷◌, ◌++◌, Contains, arith, length, sym}
use Rattle.std.proofs.Common.{subst, subst₂}
use Rattle.cpu_bases.specs.declared.entry.Act.{Act}
use Rattle.cpu_bases.specs.declared.entry.Act.TheVariants.{Armed, Cancelled, Handed, MovedIn}
use Rattle.cpu_bases.specs.declared.entry.Act.TheVariants.{MovedOut, Ticked}
use Rattle.core_world.specs.World.{World}
use Rattle.tm_base.specs.declared.names.Class.{Class}
use Rattle.job_table.specs.declared.jobs.JobCall.{JobCall}
use Rattle.job_table.specs.declared.jobs.JobReply.{JobReply}
use Rattle.job_table.specs.declared.jobs.JobReply.TheVariants as replies
use Rattle.shared_timers.specs.shared_rule.declared.parts.Did.{Did}
use Rattle.shared_timers.specs.shared_rule.declared.parts.Receipt.{Receipt}
use Rattle.shared_acts.specs.declared.runs.Ran.{Ran}
use Rattle.shared_acts.specs.declared.runs.RanReply.{RanReply}
use Rattle.shared_acts.specs.declared.runs.RanReply.TheVariants as ran
use Rattle.shared_acts.specs.Following.{FollowsArmed, FollowsBy, Follows, FollowsOut, IsAgain}
use Rattle.shared_acts.specs.Following.{IsHandOutTold, Owed}

-- what follows after a piece, whatever is owed by then
abbrev GoesOn : (rest more : List Owed → List Ran → Type 0) → List Ran → Type 0
GoesOn rest more behind =
    (owed : List Owed) (runs : List Ran) → rest owed runs → more owed (runs ++ behind)

out_on : (o : World) (jobs : ℕ → JobCall → JobReply) (runner : ℕ) (seen : List Did) (place : ℕ)
    (r : Receipt) (rest more : List Owed → List Ran → Type 0) (owed : List Owed) (runs behind : List Ran)
    → GoesOn rest more behind → FollowsOut o jobs runner seen place r rest owed runs
    → FollowsOut o jobs runner seen place r more owed (runs ++ behind)
out_on o jobs runner seen place r rest more owed [] behind on h = absurd h
out_on o jobs runner seen place r rest more owed (x ∷ xs) behind on h =
    (h.0, h.1, on _ xs h.2)

armed_on : (now runner : ℕ) (r : Receipt) (rest more : List Owed → List Ran → Type 0)
    (owed : List Owed) (runs behind : List Ran) → GoesOn rest more behind
    → FollowsArmed now runner r rest owed runs
    → FollowsArmed now runner r more owed (runs ++ behind)
armed_on now runner r rest more [] runs behind on h = absurd h
armed_on now runner r rest more (x ∷ owed) runs behind on h = (h.0, on owed runs h.1)

act_on : (o : World) (jobs : ℕ → JobCall → JobReply) (runner : ℕ) (seen : List Did) (place : ℕ)
    (act : Act) (r : Receipt) (rest more : List Owed → List Ran → Type 0) (owed : List Owed)
    (runs behind : List Ran) → GoesOn rest more behind
    → FollowsBy o jobs runner seen place act r rest owed runs
    → FollowsBy o jobs runner seen place act r more owed (runs ++ behind)
act_on o jobs runner seen place Armed r rest more owed runs behind on h =
    armed_on o.clock runner r rest more owed runs behind on h
act_on o jobs runner seen place Handed r rest more owed runs behind on h =
    out_on o jobs runner seen place r rest more owed runs behind on h
act_on o jobs runner seen place Cancelled r rest more owed runs behind on h = absurd h
act_on o jobs runner seen place MovedOut r rest more owed runs behind on h = absurd h
act_on o jobs runner seen place MovedIn r rest more owed runs behind on h = absurd h
act_on o jobs runner seen place Ticked r rest more owed runs behind on h = on owed runs h

-- PIECES: after receipts that leave nothing to be armed others follow, from the place behind them
pub follow : (o : World) (jobs : ℕ → JobCall → JobReply) (runner : ℕ) (seen : List Did)
    (place : ℕ) (rs more : List Receipt) (owed : List Owed) (runs behind : List Ran)
    → Follows o jobs runner seen place rs owed runs
    → Follows o jobs runner seen (place + length rs) more [] behind
    → Follows o jobs runner seen place (rs ++ more) owed (runs ++ behind)
unfolding Follows
follow o jobs runner seen place [] more owed runs behind h later =
    let same : place + length {A = Receipt} [] ≡ place = omega arith in
    subst₂ (λ x y. Follows o jobs runner seen place more x (y ++ behind)) (sym h.0) (sym h.1)
    (subst (λ n. Follows o jobs runner seen n more [] behind) same later)
follow o jobs runner seen place (r ∷ rs) more owed runs behind h later =
    let next : place + length (r ∷ rs) ≡ suc place + length rs = omega arith in
    act_on o jobs runner seen place r.entry.act r (Follows o jobs runner seen (suc place) rs)
    (Follows o jobs runner seen (suc place) (rs ++ more)) owed runs behind
    (λ x y k. follow o jobs runner seen (suc place) rs more x y behind k
    (subst (λ n. Follows o jobs runner seen n more [] behind) next later)) h

-- MORE SEEN: what was seen is still seen behind further deeds
abbrev pub Wider : (seen wider : List Did) → Type 0
Wider seen wider = (d : Did) → Contains seen d → Contains wider d

again_wider : (o : World) (timer place : ℕ) (seen wider : List Did) (class : Class)
    (reply : RanReply) → Wider seen wider → IsAgain o timer place seen class reply
    → IsAgain o timer place wider class reply
again_wider o timer place seen wider class ran.Done w h = h
again_wider o timer place seen wider class (ran.Mark m) w h = h
again_wider o timer place seen wider class (ran.Again c wheel) w h = h
again_wider o timer place seen wider class (ran.Skip cpu) w h = record {
  there = h.there;
  look = h.look;
  has = w h.look h.has;
  found = h.found;
  saw = h.saw;
  since = h.since;
  spot = h.spot;
  spelled = h.spelled;
  named = h.named;
}

pub told_wider : (o : World) (timer place : ℕ) (seen wider : List Did) (job : JobReply)
    (reply : RanReply) → Wider seen wider → IsHandOutTold o timer place seen job reply
    → IsHandOutTold o timer place wider job reply
told_wider o timer place seen wider replies.Done reply w h = h
told_wider o timer place seen wider (replies.Mark m) reply w h = h
told_wider o timer place seen wider (replies.Again class delay) reply w h =
    again_wider o timer place seen wider class reply w h

-- what follows where more was seen
abbrev Sees : (rest more : List Owed → List Ran → Type 0) → Type 0
Sees rest more = (owed : List Owed) (runs : List Ran) → rest owed runs → more owed runs

out_wider : (o : World) (jobs : ℕ → JobCall → JobReply) (runner : ℕ) (seen wider : List Did)
    (place : ℕ) (r : Receipt) (rest more : List Owed → List Ran → Type 0) (owed : List Owed)
    (runs : List Ran) → Wider seen wider → Sees rest more
    → FollowsOut o jobs runner seen place r rest owed runs
    → FollowsOut o jobs runner wider place r more owed runs
out_wider o jobs runner seen wider place r rest more owed [] w on h = absurd h
out_wider o jobs runner seen wider place r rest more owed (x ∷ xs) w on h =
    (h.0, told_wider o r.entry.timer.0 place seen wider _ x.reply w h.1, on _ xs h.2)

armed_wider : (now runner : ℕ) (r : Receipt) (rest more : List Owed → List Ran → Type 0)
    (owed : List Owed) (runs : List Ran) → Sees rest more → FollowsArmed now runner r rest owed runs
    → FollowsArmed now runner r more owed runs
armed_wider now runner r rest more [] runs on h = absurd h
armed_wider now runner r rest more (x ∷ owed) runs on h = (h.0, on owed runs h.1)

act_wider : (o : World) (jobs : ℕ → JobCall → JobReply) (runner : ℕ) (seen wider : List Did)
    (place : ℕ) (act : Act) (r : Receipt) (rest more : List Owed → List Ran → Type 0)
    (owed : List Owed) (runs : List Ran) → Wider seen wider → Sees rest more
    → FollowsBy o jobs runner seen place act r rest owed runs
    → FollowsBy o jobs runner wider place act r more owed runs
act_wider o jobs runner seen wider place Armed r rest more owed runs w on h =
    armed_wider o.clock runner r rest more owed runs on h
act_wider o jobs runner seen wider place Handed r rest more owed runs w on h =
    out_wider o jobs runner seen wider place r rest more owed runs w on h
act_wider o jobs runner seen wider place Cancelled r rest more owed runs w on h = absurd h
act_wider o jobs runner seen wider place MovedOut r rest more owed runs w on h = absurd h
act_wider o jobs runner seen wider place MovedIn r rest more owed runs w on h = absurd h
act_wider o jobs runner seen wider place Ticked r rest more owed runs w on h = on owed runs h

-- what followed follows still where more was seen
pub follow_wider : (o : World) (jobs : ℕ → JobCall → JobReply) (runner : ℕ)
    (seen wider : List Did) (place : ℕ) (rs : List Receipt) (owed : List Owed) (runs : List Ran)
    → Wider seen wider → Follows o jobs runner seen place rs owed runs
    → Follows o jobs runner wider place rs owed runs
unfolding Follows
follow_wider o jobs runner seen wider place [] owed runs w h = h
follow_wider o jobs runner seen wider place (r ∷ rs) owed runs w h =
    act_wider o jobs runner seen wider place r.entry.act r
    (Follows o jobs runner seen (suc place) rs) (Follows o jobs runner wider (suc place) rs) owed
    runs w (λ x y k. follow_wider o jobs runner seen wider (suc place) rs x y w k) h
