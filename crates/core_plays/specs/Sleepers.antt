-- a broadcast device beside a machine that plays (no public clause cites it)
use Rattle.std.specs.Prelude.{◌≡◌, ℕ, ◌<◌, ◌&&◌, ◌||◌, not, true, List, ◌++◌}
use Rattle.std.specs.Prelude.{Some, None, length, nat_le, option_map}
use Rattle.std.specs.FinSet.{contains}
use Rattle.tm_base.specs.CpuSet.{Cpus}
use Rattle.deep_idle.specs.Device.{AreSettled, DeviceState}
use Rattle.tm_script.specs.declared.syntax.Script.{Script}
use Rattle.tm_report.specs.Lines.{report_text}
use Rattle.play_rules.specs.Rules.{Rules}
use Rattle.play_rules.specs.Parts.{Gains, counted}
use Rattle.play_rules.specs.Interrupts.{Replies}
use Rattle.play_rules.specs.Jobs.{first_unknown_job}
use Rattle.play_rules.specs.Moments.{Turn, closing, finished, last_state, spent_at, turn_lines}
use Rattle.core_plays.specs.Deep.{sleep_until, with_device}
use Rattle.play_driver.specs.Outcomes.{script_turns, work_limit}
use Rattle.play_driver.specs.declared.outcomes.DriveFault.{DriveFault}
use Rattle.play_driver.specs.declared.outcomes.DriveFault.TheVariants.{BadJob, NoMemory, WorkSpent}

-- rules by which a CPU has an interrupt where it is online, and active or its wakeup has come; the
-- clock's coming to a moment changes nothing of that but the clock
pub record ByWakeups {S : Type 0} (r : Rules S) : Type 0 where
  pub interrupt : (s : S) (c : ℕ) → c < r.cpus s → r.has_interrupt s c
      ≡ (r.is_online s c && (not (r.is_idle s c) || nat_le (r.wakeup s c) (r.clock s)))
  pub online : (now : ℕ) (s : S) (c : ℕ) → r.is_online (r.at_clock now s) c ≡ r.is_online s c
  pub idle : (now : ℕ) (s : S) (c : ℕ) → r.is_idle (r.at_clock now s) c ≡ r.is_idle s c
  pub wakeup : (now : ℕ) (s : S) (c : ℕ) → r.wakeup (r.at_clock now s) c ≡ r.wakeup s c

-- of the CPUs that are online and idle a set has those whose wakeup isn't past the clock
abbrev pub AnswersDue : {S : Type 0} → Rules S → S → Cpus → Type 0
AnswersDue r s cpus = (c : ℕ) → c < r.cpus s → r.is_online s c ≡ true → r.is_idle s c ≡ true
    → contains cpus c ≡ nat_le (r.wakeup s c) (r.clock s)

-- a device is for a machine's CPUs, and its sleepers are those that are online and idle, with their
-- wakeups
pub record IsFor {S : Type 0} (r : Rules S) (s : S) (device : DeviceState) : Type 0 where
  pub count : length device.sleepers ≡ r.cpus s
  pub settled : AreSettled (sleep_until r s) device

-- all moments were played, with the device's lines, and the work stayed below the limit
pub record DeepOut {S : Type 0} (limit : ℕ) (ts deep : List (Turn S)) (start : S)
    (old new : List ℕ) (after : S) : Type 0 where
  pub text : new ≡ old ++ report_text (turn_lines deep)
  pub state : after ≡ last_state start ts
  pub within : spent_at limit 0 ts ≡ None

-- the moments were broken off by their work, or by want of memory
abbrev pub DeepEarly : {S : Type 0} → (limit : ℕ) → (ts deep : List (Turn S)) → DriveFault
    → (old new : List ℕ) → Type 0
DeepEarly limit ts deep (BadJob line job) old new = ⊥
DeepEarly limit ts deep (WorkSpent count) old new =
    (option_map counted (spent_at limit 0 ts) ≡ Some count)
    × (new ≡ old ++ report_text (turn_lines (finished limit 0 deep)))
DeepEarly limit ts deep NoMemory old new = Gains old new

-- the moments of a script under any rules, with the device's lines
abbrev pub script_deep : {S : Type 0} → Replies → Rules S → Script → DeviceState → S
    → List (Turn S)
script_deep jobs r script device start =
    with_device r device (script_turns jobs r script start)

-- the whole play with the device's lines was told
pub record DeepWhole {S : Type 0} (r : Rules S) (jobs : Replies) (script : Script)
    (device : DeviceState) (start : S) (old new : List ℕ) : Type 0 where
  pub text : new ≡ (old ++ report_text (turn_lines (script_deep jobs r script device start)))
      ++ report_text
      (closing r script.end (last_state start (script_turns jobs r script start)))
  pub within : spent_at (work_limit script.version) 0 (script_turns jobs r script start) ≡ None

-- why it wasn't, and what the report has gained
abbrev pub SaysDeep : {S : Type 0} → Rules S → Replies → (table : ℕ) → Script → DeviceState → S
    → DriveFault → (old new : List ℕ) → Type 0
SaysDeep r jobs table script device start (BadJob line job) old new =
    (first_unknown_job table script.moments ≡ Some (record { line = line; job = job }))
    × (new ≡ old)
SaysDeep r jobs table script device start (WorkSpent count) old new =
    (first_unknown_job table script.moments ≡ None)
    × DeepEarly (work_limit script.version) (script_turns jobs r script start)
    (script_deep jobs r script device start) (WorkSpent count) old new
SaysDeep r jobs table script device start NoMemory old new = new ≡ old
