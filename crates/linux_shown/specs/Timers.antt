-- what was known of a timer
use Rattle.std.specs.Prelude.{ℕ, List, [], ◌++◌, codes}
use Rattle.tm_base.specs.declared.names.CpuId.{CpuId}
use Rattle.linux_lines.specs.declared.events.TimerEvent.{TimerEvent}
use Rattle.linux_lines.specs.declared.events.TimerEvent.TheVariants.{Armed, Removed, Ran, Softirq}
use Rattle.linux_timers.specs.declared.seen.Queued.{Queued}
use Rattle.linux_timers.specs.declared.seen.State.{State}
use Rattle.linux_timers.specs.declared.seen.State.TheVariants.{Unknown, Gone, At}
use Rattle.linux_timers.specs.declared.seen.Taken.{Taken}
use Rattle.linux_timers.specs.declared.seen.Taken.TheVariants.{Untaken, By, Several}
use Rattle.linux_timers.specs.declared.seen.TimerSeen.{TimerSeen}
use Rattle.linux_timers.specs.Seen.{TimerSight, timer_at}
use Rattle.linux_shown.specs.Pieces.{count_text, pointer_text}

-- a bucket of a CPU
unfoldable pub bucket_text : Queued → List ℕ
bucket_text q =
    count_text (codes "in the bucket of jiffy ") q.bucket ++ count_text (codes " of CPU ") q.home.0

-- where a timer is
unfoldable pub queue_text : State → List ℕ
queue_text Unknown = codes "whether it is armed isn't known"
queue_text Gone = codes "in no bucket"
queue_text (At q) = bucket_text q

-- where it was before that
unfoldable pub from_text : State → List ℕ
from_text state = codes ", before that " ++ queue_text state ++ codes "\n"

-- who removed it
unfoldable pub remover_text : CpuId → List ℕ
remover_text cpu = count_text (codes "; removed by CPU ") cpu.0

-- .. on this line
unfoldable pub removal_text : CpuId → ℕ → State → List ℕ
removal_text cpu line state =
    remover_text cpu ++ count_text (codes " on line ") line ++ from_text state

-- its last removal
unfoldable pub taken_text : Taken → List ℕ
taken_text Untaken = codes "\n"
taken_text Several = codes "; removed by several CPUs\n"
taken_text (By cpu line state) = removal_text cpu line state

-- a timer, by its pointer
unfoldable pub timer_fact : ℕ → TimerSeen → List ℕ
timer_fact pointer t =
    pointer_text (codes "  known: timer ") pointer ++ codes ": " ++ queue_text t.state
    ++ taken_text t.taken

-- the timer of which a line speaks
unfoldable pub timer_facts : TimerSight → TimerEvent → List ℕ
timer_facts s (Armed a) = timer_fact a.timer (timer_at s a.timer)
timer_facts s (Removed pointer) = timer_fact pointer (timer_at s pointer)
timer_facts s (Ran e) = timer_fact e.timer (timer_at s e.timer)
timer_facts s (Softirq vec) = []

-- what the rule wanted of it
unfoldable pub timer_wanted : TimerEvent → List ℕ
timer_wanted (Armed a) =
    codes "  wanted: the bucket that the wheel gives it, from a clock of its base\n"
timer_wanted (Removed pointer) = []
timer_wanted (Ran e) =
    codes "  wanted: a bucket no later than baseclk, and its own CPU, or a run for that one\n"
timer_wanted (Softirq vec) = []
