-- for crates above: what is told with less known is told with more
use Rattle.std.proofs.Common.{ℕ, inl, inr, Bool, true, false, List, [], ◌∷◌, Option, Some, None}
use Rattle.tm_base.specs.declared.names.Class.{Class}
use Rattle.tm_base.specs.declared.faults.OpFault.{OpFault}
use Rattle.tm_script.specs.declared.syntax.Op.{Op}
use Rattle.tm_script.specs.declared.syntax.What.{What}
use Rattle.tm_script.specs.declared.syntax.What.TheVariants as whats
use Rattle.cpu_bases.specs.declared.entry.Act.{Act}
use Rattle.cpu_bases.specs.declared.entry.Act.TheVariants.{Armed, Cancelled, Handed, MovedIn}
use Rattle.cpu_bases.specs.declared.entry.Act.TheVariants.{MovedOut, Ticked}
use Rattle.job_table.specs.declared.jobs.JobReply.{JobReply}
use Rattle.job_table.specs.declared.jobs.JobReply.TheVariants as replies
use Rattle.tm_report.specs.declared.lines.Line.{Line}
use Rattle.tm_report.specs.declared.lines.ShownReply.{ShownReply}
use Rattle.tm_report.specs.declared.lines.ShownReply.TheVariants as shown
use Rattle.play_rules.specs.Interrupts.{Replies}
use Rattle.run_story.specs.Written.{WrittenEntry}
use Rattle.run_story.specs.Runs.{OwedTimer, Queues, ShowsAgain, ShowsReply, TellsByAct, TellsInterrupt}
use Rattle.run_story.specs.Runs.{TellsRuns}
use Rattle.run_story.specs.Shares.{Known, Standing, TellsDone, TellsIfDue, TellsOp, TellsOps}
use Rattle.run_story.specs.Shares.{TellsShare}
use Rattle.run_story.specs.Shares.{TellsByRefusal as AnswersBy}

-- all that is known of where timers were queued
abbrev pub AreQueued : (a b : Queues) → Type 0
AreQueued a b = (timer cpu : ℕ) → a timer cpu → b timer cpu

-- all that the one knows, the other knows
pub record IsKnown (a b : Known) : Type 0 where
  pub queues : AreQueued a.queues b.queues
  pub nowhere : (timer : ℕ) (earlier : List WrittenEntry) → a.nowhere timer earlier
      → b.nowhere timer earlier
  pub first : (cpu since first : ℕ) → a.first cpu since first → b.first cpu since first

again_more : (a b : Queues) (timer : ℕ) (class : Class) (reply : ShownReply) → AreQueued a b
    → ShowsAgain a timer class reply → ShowsAgain b timer class reply
again_more a b timer class shown.Done more h = absurd h
again_more a b timer class (shown.Mark m) more h = absurd h
again_more a b timer class (shown.Again c wheel) more h = h
again_more a b timer class (shown.Skip cpu) more h = more timer cpu.0 h

reply_more : (a b : Queues) (timer : ℕ) (reply : JobReply) (told : ShownReply) → AreQueued a b
    → ShowsReply a timer reply told → ShowsReply b timer reply told
reply_more a b timer replies.Done told more h = h
reply_more a b timer (replies.Mark m) told more h = h
reply_more a b timer (replies.Again class delay) told more h =
    again_more a b timer class told more h

-- what comes behind is told with more known, whatever is owed by then
abbrev GoesOn : (rest more : List OwedTimer → List Line → Type 0) → Type 0
GoesOn rest more = (owed : List OwedTimer) (told : List Line) → rest owed told → more owed told

act_more : (a b : Queues) (jobs : Replies) (now runner : ℕ) (act : Act) (x : WrittenEntry)
    (rest more : List OwedTimer → List Line → Type 0) (owed : List OwedTimer) (told : List Line)
    → AreQueued a b → GoesOn rest more → TellsByAct a jobs now runner act x rest owed told
    → TellsByAct b jobs now runner act x more owed told
act_more a b jobs now runner Armed x rest more owed told known on h = record {
  first = h.first;
  others = h.others;
  owed_are = h.owed_are;
  pays = h.pays;
  goes_on = on h.others told h.goes_on;
}
act_more a b jobs now runner Handed x rest more owed told known on h = record {
  reply = h.reply;
  behind = h.behind;
  line = h.line;
  shows = reply_more a b x.entry.timer.0 _ h.reply known h.shows;
  goes_on = on _ h.behind h.goes_on;
}
act_more a b jobs now runner Cancelled x rest more owed told known on h = absurd h
act_more a b jobs now runner MovedOut x rest more owed told known on h = absurd h
act_more a b jobs now runner MovedIn x rest more owed told known on h = absurd h
act_more a b jobs now runner Ticked x rest more owed told known on h = on owed told h

runs_more : (a b : Queues) (jobs : Replies) (now runner : ℕ) (wrote : List WrittenEntry)
    (owed : List OwedTimer) (told : List Line) → AreQueued a b
    → TellsRuns a jobs now runner wrote owed told → TellsRuns b jobs now runner wrote owed told
unfolding TellsRuns
runs_more a b jobs now runner [] owed told known h = h
runs_more a b jobs now runner (x ∷ xs) owed told known h =
    act_more a b jobs now runner x.entry.act x (TellsRuns a jobs now runner xs)
    (TellsRuns b jobs now runner xs) owed told known
    (λ o t i. runs_more a b jobs now runner xs o t known i) h

-- an interrupt
pub interrupt_more : (a b : Queues) (jobs : Replies) (now cpu : ℕ) (wrote : List WrittenEntry)
    (told : List Line) → AreQueued a b → TellsInterrupt a jobs now cpu wrote told
    → TellsInterrupt b jobs now cpu wrote told
interrupt_more a b jobs now cpu wrote told known h = record {
  drained = h.drained;
  ordered = h.ordered;
  runs = runs_more a b jobs now cpu wrote [] told known h.runs;
}

module _ (a b : Known) (now cpu : ℕ) (known : IsKnown a b) where
  done_more : (what : What) (line : ℕ) (old new : Standing) (told : Line)
      → TellsDone a now cpu what line old new told → TellsDone b now cpu what line old new told
  done_more (whats.Arm timer class delay job arg) line old new told (inl h) = inl (record {
    entry = h.entry;
    arming = h.arming;
    line_is = h.line_is;
    new_is = h.new_is;
  })
  done_more (whats.Arm timer class delay job arg) line old new told (inr h) = inr (record {
    holder = h.holder;
    queued = known.queues timer.0 h.holder.0 h.queued;
    line_is = h.line_is;
    new_is = h.new_is;
  })
  done_more (whats.Cancel timer) line old new told (inl h) = inl (record {
    entry = h.entry;
    cancelling = h.cancelling;
    line_is = h.line_is;
    new_is = h.new_is;
  })
  done_more (whats.Cancel timer) line old new told (inr h) = inr (record {
    nowhere = known.nowhere timer.0 old.wrote h.nowhere;
    line_is = h.line_is;
    new_is = h.new_is;
  })
  done_more whats.Idle line old new told (inl h) = inl (record {
    first = h.first;
    is_first = known.first cpu old.since h.first h.is_first;
    soon = h.soon;
    line_is = h.line_is;
    new_is = h.new_is;
  })
  done_more whats.Idle line old new told (inr h) =
      inr (record { until = h.until; line_is = h.line_is; new_is = h.new_is })
  done_more whats.Wake line old new told h = record { line_is = h.line_is; new_is = h.new_is }
  done_more whats.Offline line old new told h = absurd h
  done_more whats.Online line old new told h = absurd h

  by_more : (fault : Option OpFault) (what : What) (line : ℕ) (old new : Standing) (told : Line)
      → AnswersBy a now cpu fault what line old new told
      → AnswersBy b now cpu fault what line old new told
  by_more None what line old new told h = done_more what line old new told h
  by_more (Some fault) what line old new told h =
      record { line_is = h.line_is; new_is = h.new_is }

  -- an operation
  pub op_more : (online : Bool) (op : Op) (old new : Standing) (told : Line)
      → TellsOp a now cpu online op old new told → TellsOp b now cpu online op old new told
  op_more online op old new told h = by_more _ op.what op.line old new told h

  pub ops_more : (online : Bool) (ops : List Op) (old new : Standing) (told : List Line)
      → TellsOps a now cpu online ops old new told → TellsOps b now cpu online ops old new told
  unfolding TellsOps
  ops_more online [] old new told h = h
  ops_more online (op ∷ ops) old new [] h = absurd h
  ops_more online (op ∷ ops) old new (l ∷ ls) h = (
    h.0,
    op_more online op old h.0 l h.1,
    ops_more online ops h.0 new ls h.2,
  )

  pub due_more : (due : Bool) (jobs : Replies) (old new : Standing) (told : List Line)
      → TellsIfDue a now cpu due jobs old new told → TellsIfDue b now cpu due jobs old new told
  due_more true jobs old new told h = record {
    more = h.more;
    interrupt = interrupt_more a.queues b.queues jobs now cpu h.more told known.queues h.interrupt;
    wakeup = h.wakeup;
    new_is = h.new_is;
  }
  due_more false jobs old new told h = h

  -- a share
  pub share_more : (jobs : Replies) (due online : Bool) (ops : List Op) (old new : Standing)
      (told : List Line) → TellsShare a now cpu jobs due online ops old new told
      → TellsShare b now cpu jobs due online ops old new told
  share_more jobs due online ops old new told h = record {
    mid = h.mid;
    runs = h.runs;
    answers = h.answers;
    first = due_more due jobs old h.mid h.runs h.first;
    answered = ops_more online ops h.mid new h.answers h.answered;
    told_are = h.told_are;
  }
