-- what a CPU's interrupt tells of what it wrote: a line for each timer that it was handed, and the
-- armings that their jobs asked for
use Rattle.std.specs.Prelude.{◌≡◌, ◌⊎◌, ℕ, ◌+◌, List, [], ◌∷◌, ◌++◌, Contains}
use Rattle.std.specs.List.{AllByRecursion}
use Rattle.tm_base.specs.declared.names.Class.{Class}
use Rattle.tm_base.specs.declared.names.Class.TheVariants.{Deferrable, Global, Pinned}
use Rattle.cpu_bases.specs.declared.entry.Act.{Act}
use Rattle.cpu_bases.specs.declared.entry.Act.TheVariants.{Armed, Cancelled, Handed, MovedIn}
use Rattle.cpu_bases.specs.declared.entry.Act.TheVariants.{MovedOut, Ticked}
use Rattle.cpu_bases.specs.declared.entry.Entry.{Entry}
use Rattle.job_table.specs.declared.jobs.JobCall.{JobCall}
use Rattle.job_table.specs.declared.jobs.JobReply.{JobReply}
use Rattle.job_table.specs.declared.jobs.JobReply.TheVariants as replies
use Rattle.tm_report.specs.declared.lines.Line.{Line}
use Rattle.tm_report.specs.declared.lines.Line.TheVariants as lines
use Rattle.tm_report.specs.declared.lines.ShownReply.{ShownReply}
use Rattle.tm_report.specs.declared.lines.ShownReply.TheVariants as shown
use Rattle.play_rules.specs.Interrupts.{Replies, cpu_id}
use Rattle.run_story.specs.Written.{WrittenEntry}

-- what the job of a timer that was handed out is told
abbrev pub job_call_of : (now runner : ℕ) → Entry → JobCall
job_call_of now runner e =
    record { timer = e.timer; arg = e.arg; now = now; runner = cpu_id runner }

-- a timer that is still to be armed again: in which class, with which wheel expiry as its line
-- says, how far ahead, and how it was handed out
pub record OwedTimer : Type 0 where
  pub class : Class
  pub wheel : ℕ
  pub delay : ℕ
  pub out : Entry

-- ARMED AGAIN: an entry is the arming that was owed: on the CPU that ran the timer, by no line of
-- the script, for its delay from now, with the class and wheel expiry that its line says, and the
-- job and number with which it was handed out
pub record Pays (now runner : ℕ) (o : OwedTimer) (x : WrittenEntry) : Type 0 where
  pub home : x.home ≡ runner
  pub line : x.entry.line ≡ 0
  pub timer : x.entry.timer ≡ o.out.timer
  pub expires : x.entry.expires ≡ now + o.delay
  pub class : x.entry.class ≡ o.class
  pub wheel : x.entry.wheel ≡ o.wheel
  pub job : x.entry.job ≡ o.out.job
  pub arg : x.entry.arg ≡ o.out.arg

-- of a timer it is known that it was queued on a CPU
abbrev pub Queues : Type 1
Queues = (timer cpu : ℕ) → Type 0

module _ (queues : Queues) where
  -- REPLIES: what a line shows of a job that asks for its timer again: armed in the class of the
  -- reply, or left alone where it was queued by then
  abbrev pub ShowsAgain : (timer : ℕ) → Class → ShownReply → Type 0
  ShowsAgain timer class shown.Done = ⊥
  ShowsAgain timer class (shown.Mark m) = ⊥
  ShowsAgain timer class (shown.Again c wheel) = c ≡ class
  ShowsAgain timer class (shown.Skip cpu) = queues timer cpu.0

  -- what a line shows of a job's reply
  abbrev pub ShowsReply : (timer : ℕ) → JobReply → ShownReply → Type 0
  ShowsReply timer replies.Done reply = reply ≡ shown.Done
  ShowsReply timer (replies.Mark m) reply = reply ≡ shown.Mark m
  ShowsReply timer (replies.Again class delay) reply = ShowsAgain timer class reply

-- what is owed behind a line
abbrev pub timers_owed_by : JobReply → ShownReply → Entry → List OwedTimer
timers_owed_by replies.Done reply e = []
timers_owed_by (replies.Mark m) reply e = []
timers_owed_by (replies.Again class delay) shown.Done e = []
timers_owed_by (replies.Again class delay) (shown.Mark m) e = []
timers_owed_by (replies.Again class delay) (shown.Again c wheel) e =
    record { class = c; wheel = wheel; delay = delay; out = e } ∷ []
timers_owed_by (replies.Again class delay) (shown.Skip cpu) e = []

-- the line of a timer that was handed out
abbrev pub handed_out_line : (now runner : ℕ) → WrittenEntry → ShownReply → Line
handed_out_line now runner x reply =
    lines.Run now (cpu_id runner) x.entry.timer (cpu_id x.home) x.entry.wheel reply

module _ (queues : Queues) (jobs : Replies) (now runner : ℕ) where
  -- a timer was handed out: it has the next line, which shows what its job replied, and what that
  -- leaves to be armed comes last
  pub record TellsOut (x : WrittenEntry) (rest : List OwedTimer → List Line → Type 0)
      (owed : List OwedTimer)
      (told : List Line) : Type 0 where
    pub reply : ShownReply
    pub behind : List Line
    pub line : told ≡ handed_out_line now runner x reply ∷ behind
    pub shows : ShowsReply queues x.entry.timer.0
        (jobs x.entry.job (job_call_of now runner x.entry))
        reply
    pub goes_on : rest
        (owed ++ timers_owed_by (jobs x.entry.job (job_call_of now runner x.entry)) reply x.entry)
        behind

  -- a timer was armed: it is the first of those that are owed
  pub record TellsArmed (x : WrittenEntry) (rest : List OwedTimer → List Line → Type 0)
      (owed : List OwedTimer)
      (told : List Line) : Type 0 where
    pub first : OwedTimer
    pub others : List OwedTimer
    pub owed_are : owed ≡ first ∷ others
    pub pays : Pays now runner first x
    pub goes_on : rest others told

  -- by what was done
  abbrev pub TellsByAct : Act → WrittenEntry → (rest : List OwedTimer → List Line → Type 0)
      → List OwedTimer
      → List Line → Type 0
  TellsByAct Armed x rest owed told = TellsArmed x rest owed told
  TellsByAct Handed x rest owed told = TellsOut x rest owed told
  TellsByAct Cancelled x rest owed told = ⊥
  TellsByAct MovedOut x rest owed told = ⊥
  TellsByAct MovedIn x rest owed told = ⊥
  TellsByAct Ticked x rest owed told = rest owed told

  -- THE RUNS of an interrupt: what its CPU wrote, from the first entry on, with the armings that
  -- are still owed and the lines that are still to be told. Each timer that was handed out has the
  -- next line, each arming is the first one owed, and besides there are drains alone
  unfoldable pub TellsRuns : List WrittenEntry → List OwedTimer → List Line → Type 0
  TellsRuns [] owed told = (owed ≡ []) × (told ≡ [])
  TellsRuns (x ∷ xs) owed told = TellsByAct x.entry.act x (TellsRuns xs) owed told

-- a CPU drained its own base of a class
pub record HasTickedWriting (cpu : ℕ) (class : Class) (wrote : List WrittenEntry) : Type 0 where
  pub drain : WrittenEntry
  pub has : Contains wrote drain
  pub home : drain.home ≡ cpu
  pub act : drain.entry.act ≡ Ticked
  pub of_class : drain.entry.class ≡ class

-- what a CPU wrote as it drained its own base of a class: entries of that base, up to its being
-- drained, and armings
abbrev pub IsOfOwnBase : (cpu : ℕ) → Class → WrittenEntry → Type 0
IsOfOwnBase cpu class x =
    (x.entry.act ≡ Armed) ⊎ ((x.home ≡ cpu) × (x.entry.class ≡ class))

pub record DrainsOwnBase (cpu : ℕ) (class : Class) (wrote : List WrittenEntry) : Type 0 where
  pub ticked : HasTickedWriting cpu class wrote
  pub each : AllByRecursion (IsOfOwnBase cpu class) wrote

-- ITS OWN TIMERS FIRST: a CPU drained its own pinned base, then its global one, then its deferrable
-- one, and then comes what it wrote for others
pub record WritesOwnFirst (cpu : ℕ) (wrote : List WrittenEntry) : Type 0 where
  pub pinned : List WrittenEntry
  pub global : List WrittenEntry
  pub deferrable : List WrittenEntry
  pub others : List WrittenEntry
  pub wrote_is : wrote ≡ (pinned ++ (global ++ deferrable)) ++ others
  pub of_pinned : DrainsOwnBase cpu Pinned pinned
  pub of_global : DrainsOwnBase cpu Global global
  pub of_deferrable : DrainsOwnBase cpu Deferrable deferrable

-- AN INTERRUPT: what its CPU wrote, with a drain of each of its own bases before all else, and the
-- lines that tell it
pub record TellsInterrupt (queues : Queues) (jobs : Replies) (now cpu : ℕ)
    (wrote : List WrittenEntry)
    (told : List Line) : Type 0 where
  pub drained : (class : Class) → HasTickedWriting cpu class wrote
  pub ordered : WritesOwnFirst cpu wrote
  pub runs : TellsRuns queues jobs now cpu wrote [] told
