-- DEEP IDLE: a play whose idle CPUs sleep under one broadcast device
use Rattle.std.specs.Prelude.{◌≡◌, ℕ, ◌&&◌, ◌==◌, not, Bool, true, false, List, [], ◌∷◌, ◌++◌}
use Rattle.std.specs.Prelude.{if◌then◌else◌, filter, length, nat_le, nat_lt}
use Rattle.tm_base.specs.declared.names.TheConstants.{NEVER}
use Rattle.deep_idle.specs.Device.{DeviceState, device_settled, fired, new_device}
use Rattle.tm_script.specs.declared.syntax.Script.{Script}
use Rattle.tm_report.specs.declared.lines.Line.{Line}
use Rattle.tm_report.specs.declared.lines.Line.TheVariants as lines
use Rattle.tm_report.specs.Lines.{report_text}
use Rattle.play_rules.specs.Rules.{Rules}
use Rattle.play_rules.specs.Interrupts.{Replies}
use Rattle.play_rules.specs.Moments.{Turn, finished, turn_lines, whole_lines}
use Rattle.play_rules.specs.Play.{plain_rules, play_start, play_text, play_turns}
use Rattle.play_rules.specs.State.{State}
use Rattle.play_driver.specs.Outcomes.{work_limit}
use Rattle.core_plays.specs.Plays.{BreaksSummary, CanPlay, LawsHold}
use Rattle.play_driver.specs.declared.outcomes.DriveFault.{DriveFault}
use Rattle.play_driver.specs.declared.outcomes.DriveFault.TheVariants.{BadJob, NoMemory, WorkSpent}

-- THE WAKEUP of CPU c where it is online and idle, and `NEVER` where it isn't
abbrev pub sleep_until : {S : Type 0} → Rules S → S → (c : ℕ) → ℕ
sleep_until r s c =
    if nat_lt c (r.cpus s) && (r.is_online s c && r.is_idle s c) then r.wakeup s c else NEVER

-- THE DEVICE in a moment: it fires where its time isn't past it
abbrev pub after_fire : (now : ℕ) → DeviceState → DeviceState
after_fire now device = if nat_le device.time now then fired now device else device

-- THE DEVICE after a moment: its sleepers become the online idle CPUs, each with its wakeup
abbrev pub after_settle : {S : Type 0} → Rules S → S → DeviceState → DeviceState
after_settle r s device = device_settled (sleep_until r s) (length device.sleepers) device

-- THE DEVICE after a moment in which it had fired where it was time
abbrev pub device_after : {S : Type 0} → Rules S → Turn S → DeviceState → DeviceState
device_after r t device = after_settle r t.played.state (after_fire t.at device)

-- THE LINE of a device whose time isn't what it was
abbrev pub device_line : (now before after : ℕ) → List Line
device_line now before after = if before == after then [] else lines.Device now after ∷ []

-- these lines follow a moment's
abbrev pub with_lines : {S : Type 0} → Turn S → List Line → Turn S
with_lines t ls = record {
  at = t.at;
  played = record {
    lines = t.played.lines ++ ls;
    work = t.played.work;
    state = t.played.state;
  };
}

-- a moment, and the device's line behind its lines
abbrev pub with_device_line : {S : Type 0} → Rules S → DeviceState → Turn S → Turn S
with_device_line r device t =
    with_lines t (device_line t.at device.time (device_after r t device).time)

-- MOMENTS with the device's lines, from what the device is before them
abbrev pub with_device : {S : Type 0} → Rules S → DeviceState → List (Turn S) → List (Turn S)
with_device r device [] = []
with_device r device (t ∷ ts) =
    with_device_line r device t ∷ with_device r (device_after r t device) ts

-- DEEP IDLE: the moments of a script's play, with the lines of a device for its CPUs, of which none
-- sleeps before the first moment
abbrev pub deep_turns : Replies → Script → List (Turn State)
deep_turns jobs script =
    with_device plain_rules (new_device (plain_rules.cpus (play_start script)))
    (play_turns jobs script)

-- the lines of the whole play with the device's
abbrev pub deep_lines : Replies → Script → List Line
deep_lines jobs script =
    whole_lines plain_rules script.end (play_start script) (deep_turns jobs script)

-- THE TEXT of a script's play with the device's lines
abbrev pub deep_text : Replies → Script → List ℕ
deep_text jobs script = report_text (deep_lines jobs script)

-- a line is the device's
abbrev pub is_device : Line → Bool
is_device (lines.Device now until) = true
is_device line = false

-- the lines that aren't the device's
abbrev pub without_device : List Line → List Line
without_device ls = filter (λ line. not (is_device line)) ls

-- the report has gained the text of the script's play with the device's lines, which is that of the
-- play but for these lines; the script can be played, and the laws hold of its play
pub record DeepToEnd (jobs : Replies) (table : ℕ) (script : Script) (old new : List ℕ) : Type 0
  where
    pub text : new ≡ old ++ deep_text jobs script
    pub as_play : report_text (without_device (deep_lines jobs script)) ≡ play_text jobs script
    pub can_play : CanPlay jobs table script
    pub laws : LawsHold jobs script

-- what the report has gained where a play with the device's lines was broken off: the lines of the
-- moments that were finished when the work was enough, and nothing otherwise
abbrev pub GainsFinished : Replies → Script → DriveFault → (old new : List ℕ) → Type 0
GainsFinished jobs script (BadJob line job) old new = new ≡ old
GainsFinished jobs script (WorkSpent count) old new =
    new ≡ old
    ++ report_text (turn_lines (finished (work_limit script.version) 0 (deep_turns jobs script)))
GainsFinished jobs script NoMemory old new = new ≡ old

-- why it isn't played to its end, which is as for the play alone, and what the report has gained
pub record BreaksDeep (jobs : Replies) (table : ℕ) (script : Script) (fault : DriveFault)
    (old new : List ℕ) : Type 0 where
  pub cause : BreaksSummary jobs table script fault
  pub gains : GainsFinished jobs script fault old new
