-- for crates above: what an interrupt ran and wrote, as its lines tell it
use Rattle.std.proofs.Common.{◌≡◌, ℕ, zero, suc, ◌+◌, List, [], ◌∷◌, ◌++◌, Contains}
use Rattle.std.proofs.Common.{Some, refl, sym, ap, ◌∙◌, subst, arith, map, append_assoc, take}
use Rattle.std.specs.Prelude.{slice_get}
use Rattle.std.proofs.lemmas.List.{map-append}
use Rattle.std.proofs.lemmas.Option.{none-some, same_Some}
use Rattle.tm_base.specs.declared.names.Class.{Class}
use Rattle.tm_base.specs.declared.names.CpuId.{CpuId}
use Rattle.tm_report.specs.declared.lines.Line.{Line}
use Rattle.tm_report.specs.declared.lines.Line.TheVariants as lines
use Rattle.cpu_bases.specs.declared.entry.Act.{Act}
use Rattle.cpu_bases.specs.declared.entry.Act.TheVariants.{Armed, Cancelled, Handed, MovedIn}
use Rattle.cpu_bases.specs.declared.entry.Act.TheVariants.{MovedOut, Ticked}
use Rattle.cpu_bases.specs.declared.entry.Entry.{Entry}
use Rattle.core_world.specs.World.{World}
use Rattle.job_table.specs.declared.jobs.JobReply.{JobReply}
use Rattle.job_table.specs.declared.jobs.JobReply.TheVariants as replies
use Rattle.idle_wakeup.specs.shared_rule.declared.parts.Did.{Did}
use Rattle.idle_wakeup.specs.shared_rule.declared.parts.Receipt.{Receipt}
use Rattle.shared_acts.specs.declared.runs.Ran.{Ran}
use Rattle.shared_acts.specs.declared.runs.RanReply.{RanReply}
use Rattle.shared_acts.specs.declared.runs.RanReply.TheVariants as ran
use Rattle.shared_acts.specs.Following.{Follows, FollowsArmed, FollowsBy, FollowsOut, FoundOn}
use Rattle.shared_acts.specs.Following.{IsHandOutTold, call_of}
use Rattle.shared_acts.specs.Following as from
use Rattle.shared_acts.specs.Interrupts as interrupts
use Rattle.play_rules.specs.Interrupts.{Replies, cpu_id}
use Rattle.run_story.specs.Runs.{HasTickedWriting, OwedTimer, ShowsReply, TellsByAct, TellsRuns, timers_owed_by}
use Rattle.run_shares.specs.Doing.{SawQueued, written_of}
use Rattle.run_shares.specs.Lines.{ran_line, reply_shown_of}

-- the value of an element is an element of the values
into_map : {X Y : Type 0} (f : X → Y) (xs : List X) (x : X) → Contains xs x
    → Contains (map f xs) (f x)
into_map f [] x (k, low, at) = absurd (omega (arith, low))
into_map f (y ∷ xs) x (zero, low, at) = (zero, omega arith, ap f at)
into_map f (y ∷ xs) x (suc k, low, at) =
    let rest = into_map f xs x (k, omega (arith, low), at) in
    (suc rest.0, omega (arith, rest.1), rest.2)

-- what is owed, as the story has it
abbrev owed_as : from.Owed → OwedTimer
owed_as x =
    record { class = x.class; wheel = x.wheel; delay = x.delay; out = x.out }

owed_same : (job : JobReply) (reply : RanReply) (e : Entry)
    → map owed_as (from.owed_by job reply e) ≡ timers_owed_by job (reply_shown_of reply) e
owed_same replies.Done reply e = refl
owed_same (replies.Mark m) reply e = refl
owed_same (replies.Again class delay) ran.Done e = refl
owed_same (replies.Again class delay) (ran.Mark m) e = refl
owed_same (replies.Again class delay) (ran.Again c wheel) e = refl
owed_same (replies.Again class delay) (ran.Skip cpu) e = refl

module _ (o : World) (jobs : Replies) (runner : ℕ) (did : List Did) where
  -- a story has no place for when the word was found
  found_told : (timer cpu place : ℕ) → FoundOn o timer cpu place did → SawQueued o did timer cpu
  found_told timer cpu place h = record {
    there = h.there;
    seen = h.look;
    found = h.found;
    spot = h.spot;
    has = h.has;
    deed = h.saw;
    spelled = h.spelled;
    named = h.named;
  }

  reply_told : (timer place : ℕ) (job : JobReply) (reply : RanReply)
      → IsHandOutTold o timer place did job reply
      → ShowsReply (SawQueued o did) timer job (reply_shown_of reply)
  reply_told timer place replies.Done reply h = ap reply_shown_of h
  reply_told timer place (replies.Mark m) reply h = ap reply_shown_of h
  reply_told timer place (replies.Again class delay) ran.Done h = absurd h
  reply_told timer place (replies.Again class delay) (ran.Mark m) h = absurd h
  reply_told timer place (replies.Again class delay) (ran.Again c wheel) h = h
  reply_told timer place (replies.Again class delay) (ran.Skip cpu) h =
      found_told timer cpu.0 place h

  -- what comes behind is told, whatever is owed by then
  abbrev GoesOn : (rest : List from.Owed → List Ran → Type 0)
      → (more : List OwedTimer → List Line → Type 0) → Type 0
  GoesOn rest more = (owed : List from.Owed) (runs : List Ran) → rest owed runs
      → more (map owed_as owed) (map (ran_line o.clock (cpu_id runner)) runs)

  out_told : (place : ℕ) (r : Receipt) (rest : List from.Owed → List Ran → Type 0)
      (more : List OwedTimer → List Line → Type 0) (owed : List from.Owed) (runs : List Ran)
      → GoesOn rest more → FollowsOut o jobs runner did place r rest owed runs
      → TellsByAct (SawQueued o did) jobs o.clock runner Handed (written_of r) more
      (map owed_as owed) (map (ran_line o.clock (cpu_id runner)) runs)
  out_told place r rest more owed [] on h = absurd h
  out_told place r rest more owed (x ∷ xs) on h =
      let job = jobs r.entry.job (call_of o.clock runner r.entry) in
      record {
        reply = reply_shown_of x.reply;
        behind = map (ran_line o.clock (cpu_id runner)) xs;
        line = λ i.
            lines.Run o.clock (cpu_id runner) (h.0.timer i) (h.0.home i) (h.0.wheel i)
            (reply_shown_of x.reply) ∷ map (ran_line o.clock (cpu_id runner)) xs;
        shows = reply_told r.entry.timer.0 place job x.reply h.1;
        goes_on =
            subst (λ (l : List OwedTimer). more l (map (ran_line o.clock (cpu_id runner)) xs))
            (map-append owed_as owed (from.owed_by job x.reply r.entry)
            ∙ ap (λ (l : List OwedTimer). map owed_as owed ++ l) (owed_same job x.reply r.entry))
            (on _ xs h.2);
      }

  armed_told : (r : Receipt) (rest : List from.Owed → List Ran → Type 0)
      (more : List OwedTimer → List Line → Type 0) (owed : List from.Owed) (runs : List Ran)
      → GoesOn rest more → FollowsArmed o.clock runner r rest owed runs
      → TellsByAct (SawQueued o did) jobs o.clock runner Armed (written_of r) more
      (map owed_as owed) (map (ran_line o.clock (cpu_id runner)) runs)
  armed_told r rest more [] runs on h = absurd h
  armed_told r rest more (x ∷ owed) runs on h = record {
    first = owed_as x;
    others = map owed_as owed;
    owed_are = refl;
    pays = record {
      home = h.0.cpu;
      line = h.0.line;
      timer = h.0.timer;
      expires = h.0.expires;
      class = h.0.class;
      wheel = h.0.wheel;
      job = h.0.job;
      arg = h.0.arg;
    };
    goes_on = on owed runs h.1;
  }

  act_told : (place : ℕ) (act : Act) (r : Receipt) (rest : List from.Owed → List Ran → Type 0)
      (more : List OwedTimer → List Line → Type 0) (owed : List from.Owed) (runs : List Ran)
      → GoesOn rest more → FollowsBy o jobs runner did place act r rest owed runs
      → TellsByAct (SawQueued o did) jobs o.clock runner act (written_of r) more
      (map owed_as owed) (map (ran_line o.clock (cpu_id runner)) runs)
  act_told place Armed r rest more owed runs on h = armed_told r rest more owed runs on h
  act_told place Handed r rest more owed runs on h = out_told place r rest more owed runs on h
  act_told place Cancelled r rest more owed runs on h = absurd h
  act_told place MovedOut r rest more owed runs on h = absurd h
  act_told place MovedIn r rest more owed runs on h = absurd h
  act_told place Ticked r rest more owed runs on h = on owed runs h

  -- the lines of the runs tell what follows
  pub runs_told : (place : ℕ) (rs : List Receipt) (owed : List from.Owed) (runs : List Ran)
      → Follows o jobs runner did place rs owed runs
      → TellsRuns (SawQueued o did) jobs o.clock runner (map written_of rs) (map owed_as owed)
      (map (ran_line o.clock (cpu_id runner)) runs)
  unfolding Follows TellsRuns
  runs_told place [] owed runs h =
      (ap (map owed_as) h.0, ap (map (ran_line o.clock (cpu_id runner))) h.1)
  runs_told place (r ∷ rs) owed runs h =
      act_told place r.entry.act r (Follows o jobs runner did (suc place) rs)
      (TellsRuns (SawQueued o did) jobs o.clock runner (map written_of rs)) owed runs
      (λ w x i. runs_told (suc place) rs w x i) h

-- a drain that a receipt tells
pub ticked_told : (cpu : ℕ) (class : Class) (rs : List Receipt)
    → interrupts.HasTicked cpu class rs → HasTickedWriting cpu class (map written_of rs)
ticked_told cpu class rs h = record {
  drain = written_of h.receipt;
  has = into_map written_of rs h.receipt h.has;
  home = h.home;
  act = h.act;
  of_class = h.of_class;
}

-- one line more
taken_more : {X : Type 0} (xs : List X) (i : ℕ) (x : X) → slice_get xs i ≡ Some x
    → take (suc i) xs ≡ take i xs ++ x ∷ []
taken_more [] i x at = absurd (none-some x at)
taken_more (y ∷ ys) zero x at = ap (λ z. z ∷ []) (same_Some y x at)
taken_more (y ∷ ys) (suc i) x at = ap (λ l. y ∷ l) (taken_more ys i x at)

pub one_line : (now : ℕ) (runner : CpuId) (runs : List Ran) (i : ℕ) (x : Ran)
    (old before new : List Line) → slice_get runs i ≡ Some x
    → before ≡ old ++ map (ran_line now runner) (take i runs)
    → new ≡ before ++ ran_line now runner x ∷ []
    → new ≡ old ++ map (ran_line now runner) (take (i + 1) runs)
one_line now runner runs i x old before new at was is =
    let next : suc i ≡ i + 1 = omega arith in
    is
    ∙ (ap (λ (l : List Line). l ++ ran_line now runner x ∷ []) was
    ∙ (append_assoc old (map (ran_line now runner) (take i runs)) (ran_line now runner x ∷ [])
    ∙ ap (λ (l : List Line). old ++ l)
    (sym (map-append (ran_line now runner) (take i runs) (x ∷ []))
    ∙ ap (map (ran_line now runner))
    (sym (taken_more runs i x at) ∙ ap (λ n. take n runs) next))))
