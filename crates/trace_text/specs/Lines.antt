-- what stands in the lines of a trace behind those of the machine
use Rattle.std.specs.Prelude.{ℕ, ◌<◌, List, [], ◌∷◌, map, codes}
use Rattle.std.specs.Fmt.{decimal}
use Rattle.text_words.specs.Words.{spaced}
use Rattle.tm_base.specs.Classes.{class_text}
use Rattle.tm_base.specs.declared.limits.TheConstants.{SCRIPT_TIME_LIMIT}
use Rattle.core_world.specs.declared.step.Step.TheVariants as steps
use Rattle.trace_text.specs.declared.traces.TraceLine.{TraceLine}
use Rattle.trace_text.specs.declared.traces.TraceLine.TheVariants as lines
use Rattle.trace_text.specs.declared.words.TheConstants.{ARG_LIMIT, JOB_LIMIT, LINE_LIMIT}
use Rattle.trace_text.specs.declared.words.Limits.{Limits}
use Rattle.trace_text.specs.declared.words.Command.{Command}
use Rattle.trace_text.specs.declared.words.Command.TheVariants as commands
use Rattle.trace_text.specs.declared.words.Slot.{Slot}
use Rattle.trace_text.specs.declared.words.Slot.TheVariants as slots
use Rattle.trace_text.specs.declared.words.Field.{Field}
use Rattle.trace_text.specs.declared.words.Field.TheVariants as fields

-- how a first word is spelled
abbrev pub trace_word_of : Command → List ℕ
trace_word_of commands.Clock = codes "clock"
trace_word_of commands.Enter = codes "enter"
trace_word_of commands.Leave = codes "leave"
trace_word_of commands.Arm = codes "arm"
trace_word_of commands.Cancel = codes "cancel"
trace_word_of commands.Hand = codes "hand"
trace_word_of commands.Ticked = codes "ticked"
trace_word_of commands.Move = codes "move"
trace_word_of commands.Idle = codes "idle"
trace_word_of commands.Wake = codes "wake"
trace_word_of commands.Offline = codes "offline"
trace_word_of commands.Online = codes "online"
trace_word_of commands.Reeval = codes "reeval"
trace_word_of commands.Take = codes "take"
trace_word_of commands.Carry = codes "carry"
trace_word_of commands.Release = codes "release"
trace_word_of commands.Walk = codes "walk"
trace_word_of commands.HandOn = codes "handon"
trace_word_of commands.Why = codes "why"
trace_word_of commands.End = codes "end"

-- what has to stand behind it
abbrev pub field_slots_of : Command → List Slot
field_slots_of commands.Clock = slots.Time ∷ []
field_slots_of commands.Enter = slots.Cpu ∷ []
field_slots_of commands.Leave = slots.Cpu ∷ []
field_slots_of commands.Arm =
    slots.Cpu ∷ slots.Timer ∷ slots.Class ∷ slots.Time ∷ slots.Job ∷ slots.Arg ∷ slots.Line ∷ []
field_slots_of commands.Cancel = slots.Cpu ∷ slots.Timer ∷ slots.Cpu ∷ slots.Line ∷ []
field_slots_of commands.Hand = slots.Cpu ∷ slots.Timer ∷ slots.Cpu ∷ []
field_slots_of commands.Ticked = slots.Cpu ∷ slots.Class ∷ slots.Cpu ∷ []
field_slots_of commands.Move = slots.Cpu ∷ slots.Cpu ∷ slots.Timer ∷ []
field_slots_of commands.Idle = slots.Cpu ∷ []
field_slots_of commands.Wake = slots.Cpu ∷ []
field_slots_of commands.Offline = slots.Cpu ∷ []
field_slots_of commands.Online = slots.Cpu ∷ []
field_slots_of commands.Reeval = slots.Cpu ∷ []
field_slots_of commands.Take = slots.Cpu ∷ slots.Cpu ∷ []
field_slots_of commands.Carry = slots.Cpu ∷ []
field_slots_of commands.Release = slots.Cpu ∷ []
field_slots_of commands.Walk = slots.Cpu ∷ []
field_slots_of commands.HandOn = slots.Cpu ∷ slots.Cpu ∷ []
field_slots_of commands.Why = slots.Cpu ∷ slots.Timer ∷ []
field_slots_of commands.End = []

-- the first word of a line
abbrev pub command_in : TraceLine → Command
command_in (lines.Do (steps.Clock now)) = commands.Clock
command_in (lines.Do (steps.Enter cpu)) = commands.Enter
command_in (lines.Do (steps.Leave cpu)) = commands.Leave
command_in (lines.Do (steps.Arm cpu timer class expires job arg line)) = commands.Arm
command_in (lines.Do (steps.Cancel cpu timer by line)) = commands.Cancel
command_in (lines.Do (steps.Hand cpu timer runner)) = commands.Hand
command_in (lines.Do (steps.Ticked cpu class runner)) = commands.Ticked
command_in (lines.Do (steps.Move from to timer)) = commands.Move
command_in (lines.Do (steps.Idle cpu)) = commands.Idle
command_in (lines.Do (steps.Wake cpu)) = commands.Wake
command_in (lines.Do (steps.Offline cpu)) = commands.Offline
command_in (lines.Do (steps.Online cpu)) = commands.Online
command_in (lines.Do (steps.Reeval cpu)) = commands.Reeval
command_in (lines.Do (steps.Take cpu by)) = commands.Take
command_in (lines.Do (steps.Carry cpu)) = commands.Carry
command_in (lines.Do (steps.Release cpu)) = commands.Release
command_in (lines.Do (steps.Walk cpu)) = commands.Walk
command_in (lines.Do (steps.HandOn cpu to)) = commands.HandOn
command_in (lines.Why cpu timer) = commands.Why

-- what stands behind it
abbrev pub fields_in : TraceLine → List Field
fields_in (lines.Do (steps.Clock now)) = fields.Time now ∷ []
fields_in (lines.Do (steps.Enter cpu)) = fields.Cpu cpu ∷ []
fields_in (lines.Do (steps.Leave cpu)) = fields.Cpu cpu ∷ []
fields_in (lines.Do (steps.Arm cpu timer class expires job arg line)) =
    fields.Cpu cpu ∷ fields.Timer timer ∷ fields.Class class ∷ fields.Time expires
    ∷ fields.Job job ∷ fields.Arg arg ∷ fields.Line line ∷ []
fields_in (lines.Do (steps.Cancel cpu timer by line)) =
    fields.Cpu cpu ∷ fields.Timer timer ∷ fields.Cpu by ∷ fields.Line line ∷ []
fields_in (lines.Do (steps.Hand cpu timer runner)) =
    fields.Cpu cpu ∷ fields.Timer timer ∷ fields.Cpu runner ∷ []
fields_in (lines.Do (steps.Ticked cpu class runner)) =
    fields.Cpu cpu ∷ fields.Class class ∷ fields.Cpu runner ∷ []
fields_in (lines.Do (steps.Move from to timer)) =
    fields.Cpu from ∷ fields.Cpu to ∷ fields.Timer timer ∷ []
fields_in (lines.Do (steps.Idle cpu)) = fields.Cpu cpu ∷ []
fields_in (lines.Do (steps.Wake cpu)) = fields.Cpu cpu ∷ []
fields_in (lines.Do (steps.Offline cpu)) = fields.Cpu cpu ∷ []
fields_in (lines.Do (steps.Online cpu)) = fields.Cpu cpu ∷ []
fields_in (lines.Do (steps.Reeval cpu)) = fields.Cpu cpu ∷ []
fields_in (lines.Do (steps.Take cpu by)) = fields.Cpu cpu ∷ fields.Cpu by ∷ []
fields_in (lines.Do (steps.Carry cpu)) = fields.Cpu cpu ∷ []
fields_in (lines.Do (steps.Release cpu)) = fields.Cpu cpu ∷ []
fields_in (lines.Do (steps.Walk cpu)) = fields.Cpu cpu ∷ []
fields_in (lines.Do (steps.HandOn cpu to)) = fields.Cpu cpu ∷ fields.Cpu to ∷ []
fields_in (lines.Why cpu timer) = fields.Cpu cpu ∷ fields.Timer timer ∷ []

-- how a field is spelled
abbrev pub field_word : Field → List ℕ
field_word (fields.Cpu cpu) = decimal cpu.0
field_word (fields.Timer timer) = decimal timer.0
field_word (fields.Class class) = class_text class
field_word (fields.Time at) = decimal at
field_word (fields.Job job) = decimal job
field_word (fields.Arg arg) = decimal arg
field_word (fields.Line line) = decimal line

-- THE LINE: its words, parted by one space each
abbrev pub trace_line_text : TraceLine → List ℕ
trace_line_text line = spaced (trace_word_of (command_in line) ∷ map field_word (fields_in line))

-- a number at such a place is below this one; a class is no number
abbrev pub bound_of : Limits → Slot → ℕ
bound_of l slots.Cpu = l.cpus
bound_of l slots.Timer = l.timers
bound_of l slots.Class = 0
bound_of l slots.Time = SCRIPT_TIME_LIMIT
bound_of l slots.Job = JOB_LIMIT
bound_of l slots.Arg = ARG_LIMIT
bound_of l slots.Line = LINE_LIMIT

-- the field is within the limits of such a place
abbrev pub IsWithin : Limits → Field → Type 0
IsWithin l (fields.Cpu cpu) = cpu.0 < bound_of l slots.Cpu
IsWithin l (fields.Timer timer) = timer.0 < bound_of l slots.Timer
IsWithin l (fields.Class class) = Unit {0}
IsWithin l (fields.Time at) = at < bound_of l slots.Time
IsWithin l (fields.Job job) = job < bound_of l slots.Job
IsWithin l (fields.Arg arg) = arg < bound_of l slots.Arg
IsWithin l (fields.Line line) = line < bound_of l slots.Line

-- and so is each of a list of fields
abbrev pub AreFieldsWithin : Limits → List Field → Type 0
AreFieldsWithin l [] = Unit {0}
AreFieldsWithin l (f ∷ fs) = IsWithin l f × AreFieldsWithin l fs

-- A LINE of a machine with these limits
abbrev pub IsLine : Limits → TraceLine → Type 0
IsLine l line = AreFieldsWithin l (fields_in line)
