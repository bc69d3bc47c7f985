-- the events of timers and of softirqs
use Rattle.std.specs.Prelude.{ℕ, ◌+◌, ◌-◌, List, Bool, ◌||◌, ◌==◌, nat_le, codes}
use Rattle.std.specs.Prelude.{Option, Some, None, Result, Ok, Err, bytes_eq, if◌then◌else◌}
use Rattle.std.specs.List.{list_any}
use Rattle.tm_base.specs.declared.limits.TheConstants.{CPU_SET_SIZE}
use Rattle.tm_base.specs.declared.names.Class.{Class}
use Rattle.tm_base.specs.declared.names.Class.TheVariants.{Deferrable, Global, Pinned}
use Rattle.linux_lines.specs.declared.faults.LineFault.{LineFault}
use Rattle.linux_lines.specs.declared.faults.LineFault.TheVariants.{OutOfRange}
use Rattle.linux_lines.specs.declared.events.Arming.{Arming}
use Rattle.linux_lines.specs.declared.events.Expiry.{Expiry}
use Rattle.linux_lines.specs.declared.events.TimerEvent.{TimerEvent}
use Rattle.linux_lines.specs.declared.events.TimerEvent.TheVariants.{Armed, Removed, Ran, Softirq}
use Rattle.linux_lines.specs.declared.timers.TheConstants.{LAST_BUCKET}
use Rattle.linux_lines.specs.declared.timers.TimerName.{TimerName}
use Rattle.linux_lines.specs.declared.timers.TimerName.TheVariants as names
use Rattle.linux_lines.specs.declared.numbers.Base.TheVariants.{Ten}
use Rattle.linux_lines.specs.Parts.{before, behind, has_key, value_in, or_all}
use Rattle.linux_lines.specs.Numbers.{number_in}
use Rattle.linux_lines.specs.Fields.{◌>>=◌, number_at, pointer_at}

-- the largest number of 64 bits
abbrev pub most : ℕ
most = 18446744073709551615

-- the event of this name
unfoldable pub timer_name_of : List ℕ → Option TimerName
timer_name_of name =
    if bytes_eq name (codes "timer_start:") then Some names.Start
    else if bytes_eq name (codes "timer_cancel:") then Some names.Cancel
    else if bytes_eq name (codes "timer_expire_entry:") then Some names.ExpireEntry
    else if bytes_eq name (codes "softirq_entry:") || bytes_eq name (codes "softirq_exit:")
    then Some names.Softirq
    else None

-- so many jiffies earlier
unfoldable pub time_before : ℕ → ℕ → Result ℕ LineFault
time_before expires more = if nat_le more expires then Ok (expires - more) else Err OutOfRange

-- .. or later, within 64 bits
unfoldable pub time_after : ℕ → ℕ → Result ℕ LineFault
time_after expires more =
    if nat_le more (most - expires) then Ok (expires + more) else Err OutOfRange

-- the jiffies from which a timeout with this sign leads to an expiry
abbrev pub jiffies_by : ℕ → Option (List ℕ) → List ℕ → Result ℕ LineFault
jiffies_by expires None digits = number_in Ten digits >>= time_before expires
jiffies_by expires (Some digits) all = number_in Ten digits >>= time_after expires

-- a timeout without the bracket that closes it
abbrev pub unbracketed : List ℕ → List ℕ
unbracketed word = or_all (before (codes "]") word) word

-- the jiffies from which this timeout leads to an expiry
unfoldable pub jiffies_in : ℕ → List ℕ → Result ℕ LineFault
jiffies_in expires word =
    jiffies_by expires (behind (codes "-") (unbracketed word)) (unbracketed word)

-- the jiffies of a line that says how far ahead the expiry is
unfoldable pub jiffies_told : ℕ → List (List ℕ) → Result (Option ℕ) LineFault
jiffies_told expires parts = do
  word ← value_in (codes "[timeout=") parts
  now ← jiffies_in expires word
  Ok (Some now)

-- .. where it does
unfoldable pub jiffies_at : ℕ → List (List ℕ) → Result (Option ℕ) LineFault
jiffies_at expires parts =
    if has_key (codes "[timeout=") parts then jiffies_told expires parts else Ok None

-- a flag is among these
abbrev pub has_flag : List ℕ → ℕ → Bool
has_flag flags flag = list_any (λ byte. byte == flag) flags

-- the base of a timer of these flags (get_timer_cpu_base): D, deferrable; P, pinned; a tool writes
-- D|P|I for any
unfoldable pub class_of : List ℕ → Option Class
class_of flags =
    if bytes_eq flags (codes "D|P|I") then None
    else if has_flag flags 68 then Some Deferrable
    else if has_flag flags 80 then Some Pinned
    else Some Global

-- .. of the flags of a line
unfoldable pub class_at : List (List ℕ) → Result (Option Class) LineFault
class_at parts = value_in (codes "flags=") parts >>= λ flags. Ok (class_of flags)

-- a timer goes into a bucket
unfoldable pub arming_in : List (List ℕ) → Result Arming LineFault
arming_in parts = do
  timer ← pointer_at (codes "timer=") parts
  expires ← number_at (codes "expires=") most parts
  jiffies ← jiffies_at expires parts
  bucket ← number_at (codes "bucket_expiry=") most parts
  cpu ← number_at (codes "cpu=") (CPU_SET_SIZE - 1) parts
  index ← number_at (codes "idx=") LAST_BUCKET parts
  class ← class_at parts
  Ok (record {
    timer = timer;
    expires = expires;
    jiffies = jiffies;
    bucket = bucket;
    cpu = record { 0 = cpu };
    index = index;
    class = class;
  })

-- a timer leaves its bucket
unfoldable pub removal_in : List (List ℕ) → Result ℕ LineFault
removal_in parts = pointer_at (codes "timer=") parts

-- a timer's function is about to run
unfoldable pub expiry_in : List (List ℕ) → Result Expiry LineFault
expiry_in parts = do
  timer ← pointer_at (codes "timer=") parts
  jiffies ← number_at (codes "now=") most parts
  clock ← number_at (codes "baseclk=") most parts
  Ok (record { timer = timer; jiffies = jiffies; clock = clock })

-- the number of a softirq
unfoldable pub softirq_in : List (List ℕ) → Result ℕ LineFault
softirq_in parts = number_at (codes "vec=") most parts

-- what an event says
unfoldable pub timer_event_of : TimerName → List (List ℕ) → Result TimerEvent LineFault
timer_event_of names.Start parts = arming_in parts >>= λ x. Ok (Armed x)
timer_event_of names.Cancel parts = removal_in parts >>= λ x. Ok (Removed x)
timer_event_of names.ExpireEntry parts = expiry_in parts >>= λ x. Ok (Ran x)
timer_event_of names.Softirq parts = softirq_in parts >>= λ x. Ok (Softirq x)
