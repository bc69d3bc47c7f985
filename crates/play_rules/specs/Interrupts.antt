-- the shape of an interrupt, over any rules
use Rattle.std.specs.Prelude.{ℕ, zero, suc, ◌+◌, List, [], ◌∷◌, Bool, true, false, Option, Some}
use Rattle.std.specs.Prelude.{None, filter, min, ◌^◌, ◌-◌}
use Rattle.std.specs.List.{range_with_len}
use Rattle.std.specs.Ordering.{nat_cmp}
use Rattle.std.specs.FinSet as set
use Rattle.tm_base.specs.declared.names.CpuId.{CpuId}
use Rattle.tm_base.specs.declared.names.TimerId.{TimerId}
use Rattle.tm_base.specs.declared.names.Class.{Class}
use Rattle.tm_base.specs.declared.names.Class.TheVariants.{Pinned, Global, Deferrable}
use Rattle.job_table.specs.declared.jobs.JobCall.{JobCall}
use Rattle.job_table.specs.declared.jobs.JobReply.{JobReply}
use Rattle.job_table.specs.declared.jobs.JobReply.TheVariants as replies
use Rattle.tm_report.specs.declared.lines.Line.{Line}
use Rattle.tm_report.specs.declared.lines.Line.TheVariants as lines
use Rattle.tm_report.specs.declared.lines.ShownReply.{ShownReply}
use Rattle.tm_report.specs.declared.lines.ShownReply.TheVariants as shown
use Rattle.wheel_core.specs.declared.item.Item.{Item}
use Rattle.play_rules.specs.declared.asks.Arming.{Arming}
use Rattle.play_rules.specs.declared.asks.Queued.{Queued}
use Rattle.play_rules.specs.Rules.{Drained, Placed, Rules}
use Rattle.play_rules.specs.Parts.{Played, silent, counting, and_then}

-- what a line shows of a job's answer, and the state after it
pub record Replied (S : Type 0) : Type 0 where
  pub reply : ShownReply
  pub state : S

-- a number as the id of a CPU
abbrev pub cpu_id : ℕ → CpuId
cpu_id c = record { 0 = c }

-- a number as the id of a timer
abbrev pub timer_id : ℕ → TimerId
timer_id t = record { 0 = t }

-- what each job answers, by its number
abbrev pub Replies : Type 0
Replies = ℕ → JobCall → JobReply

-- the CPUs that have an interrupt at the clock
abbrev pub having_interrupt : {S : Type 0} → Rules S → S → set.FinSet nat_cmp
having_interrupt r s = set.from_list (filter (r.has_interrupt s) (range_with_len 0 (r.cpus s)))

-- what is armed again is the item's timer, by no line of the script; a delay has 32 bits
abbrev pub arming_again : Item → Class → (delay : ℕ) → Arming
arming_again item class delay =
    record {
      timer = timer_id item.id;
      class = class;
      delay = min delay (2 ^ 32 - 1);
      job = item.job;
      arg = item.arg;
      line = 0;
    }

module _ {S : Type 0} where
  -- this reply is shown, and this is the state after it
  abbrev pub replied : ShownReply → S → Replied S
  replied reply s = record { reply = reply; state = s }

  -- the reply of a timer that was armed again: its class and wheel expiry
  abbrev pub armed_again : Class → Placed S → Replied S
  armed_again class placed = replied (shown.Again class placed.wheel) placed.state

module _ {S : Type 0} (r : Rules S) where
  -- JOBS: a job that asks for its timer again gets it armed on the runner, unless it is queued by
  -- then (__mod_timer, called by the job)
  abbrev pub again : Option Queued → (runner : ℕ) → Item → Class → (delay : ℕ) → S → Replied S
  again None runner item class delay s =
      armed_again class (r.armed s runner (arming_again item class delay))
  again (Some held) runner item class delay s = replied (shown.Skip held.cpu) s

  -- what comes of a job's answer: the timer is done, a mark is shown, or the timer is armed again
  abbrev pub answered : JobReply → (runner : ℕ) → Item → S → Replied S
  answered replies.Done runner item s = replied shown.Done s
  answered (replies.Mark n) runner item s = replied (shown.Mark n) s
  answered (replies.Again class delay) runner item s =
      again (r.queued s item.id) runner item class delay s

  -- what a job is told: its timer, the number that it was armed with, the present jiffy, the CPU
  -- that runs it
  abbrev pub job_call : S → (runner : ℕ) → Item → JobCall
  job_call s runner item =
      record { timer = timer_id item.id; arg = item.arg; now = r.clock s; runner = cpu_id runner }

  -- the job of an item of CPU `home` was run by CPU `runner`
  abbrev pub run_line : S → (home runner : ℕ) → Item → ShownReply → Line
  run_line s home runner item reply =
      lines.Run (r.clock s) (cpu_id runner) (timer_id item.id) (cpu_id home) item.wheel reply

  -- the job was run: one line, one more of work, and the state after its answer
  abbrev pub ran : S → (home runner : ℕ) → Item → Replied S → Played S
  ran s home runner item answer =
      record {
        lines = run_line s home runner item answer.reply ∷ [];
        work = 1;
        state = answer.state;
      }

module _ {S : Type 0} (jobs : Replies) (r : Rules S) where
  -- what comes of the answer of an item's job
  abbrev pub reply_to : (runner : ℕ) → Item → S → Replied S
  reply_to runner item s = answered r (jobs item.job (job_call r s runner item)) runner item s

  -- the job of an item of CPU `home` runs on CPU `runner` (call_timer_fn)
  abbrev pub run_job : (home runner : ℕ) → Item → S → Played S
  run_job home runner item s = ran r s home runner item (reply_to runner item s)

  -- the jobs of these items run one after the other (expire_timers)
  unfoldable pub run_jobs : (home runner : ℕ) → List Item → S → Played S
  run_jobs home runner [] s = silent s
  run_jobs home runner (item ∷ items) s =
      and_then (run_job home runner item s) (run_jobs home runner items)

  -- the jobs of what a drain took out run on CPU `runner` in that order
  abbrev pub run_drained : (home runner : ℕ) → Drained S → Played S
  run_drained home runner out = run_jobs home runner out.items out.state

  -- A DRAIN (__run_timers) of a base of CPU `home`: all that is due is taken out, and then its jobs
  -- run on CPU `runner` in that order
  abbrev pub drain : (home : ℕ) → Class → (runner : ℕ) → S → Played S
  drain home class runner s = run_drained home runner (r.drained s home class runner)

  -- THE LOOK of CPU c: a CPU d that is named is left alone, or its global base is drained by c
  -- (timer_expire_remote)
  abbrev pub try_where : Bool → (c d : ℕ) → S → Played S
  try_where false c d s = silent s
  try_where true c d s = and_then (drain d Global c (r.taken s c d)) (λ t. silent (r.let_go t c d))

  -- THE LOOK of CPU c: a CPU d that is named is tried (tmigr_handle_remote_cpu)
  abbrev pub try : (c d : ℕ) → S → Played S
  try c d s = try_where (r.takes s c d) c d s

  -- after CPU d was tried the look begins again
  abbrev pub look_at : Option ℕ → (c : ℕ) → (set.FinSet nat_cmp → S → Played S)
      → set.FinSet nat_cmp → S → Played S
  look_at None c rest tried s = silent s
  look_at (Some d) c rest tried s = and_then (try c d s) (rest (set.insert tried d))

  -- at one group at most n CPUs are tried (tmigr_handle_remote_up)
  unfoldable pub look : (n c level : ℕ) → set.FinSet nat_cmp → S → Played S
  look zero c level tried s = silent s
  look (suc n) c level tried s = look_at (r.named s c level tried) c (look n c level) tried s

  -- the CPU looks at its group at this level and goes on above, or doesn't look after it and ends
  abbrev pub look_where : Bool → (c level : ℕ) → (S → Played S) → S → Played S
  look_where false c level above s = silent s
  look_where true c level above s = and_then (look (r.cpus s) c level set.empty s) above

  -- from a level on upwards, n levels at most, as long as the CPU looks after its group there
  -- (tmigr_handle_remote)
  unfoldable pub looks : (n c level : ℕ) → S → Played S
  looks zero c level s = silent s
  looks (suc n) c level s = look_where (r.looks_after s c level) c level (looks n c (level + 1)) s

  -- the drains of a CPU in its interrupt: its pinned base, its global one, its deferrable one
  -- (run_timer_softirq, run_timer_base)
  abbrev pub drains : (c : ℕ) → S → Played S
  drains c s =
      and_then (and_then (drain c Pinned c s) (drain c Global c)) (drain c Deferrable c)

  -- AN INTERRUPT of CPU c: its three bases, its groups from the leaf upwards, the end
  -- (run_timer_softirq)
  abbrev pub interrupt : (c : ℕ) → S → Played S
  interrupt c s =
      and_then
      (and_then (and_then (counting (r.entered s c)) (drains c)) (looks (r.levels s) c 0))
      (λ t. silent (r.ended t c))

  -- the interrupt of CPU c, where it is due one
  abbrev pub interrupt_where : Bool → (c : ℕ) → S → Played S
  interrupt_where false c s = silent s
  interrupt_where true c s = interrupt c s

  -- the interrupts of those of n CPUs that are due one, by ascending number from CPU c on
  unfoldable pub interrupts : (n c : ℕ) → (due : set.FinSet nat_cmp) → S → Played S
  interrupts zero c due s = silent s
  interrupts (suc n) c due s =
      and_then (interrupt_where (set.contains due c) c s) (interrupts n (c + 1) due)
