-- how the program ends
use Rattle.std.specs.Prelude.{◌≡◌, ℕ, ◌+◌, List, String}
use Rattle.std.specs.declared.alloc.Global.{Global}
use Rattle.tm_io.specs.Seen.{SinkSeen, SourceSeen, SourceFailed}
use Rattle.tm_io.specs.Sources.{TakesAll, TakesCount}
use Rattle.linux_view.specs.declared.statuses.TheConstants.{MOST_TRACE_BYTES, NO_MEMORY}
use Rattle.linux_view.specs.declared.statuses.TheConstants.{READ_FAULT, TOO_LONG}
use Rattle.linux_view.specs.Ends.{IsEnd, Reads}
use Rattle.linux_view.specs.Texts.{read_fault_line, too_long_line}
use Rattle.view_main.specs.declared.words.Command.{Command}
use Rattle.view_main.specs.declared.words.Command.TheVariants as commands
use Rattle.view_main.specs.Outputs.{IsAllTold, IsAloneCounting, IsCounting, IsDrawing, IsTelling}
use Rattle.view_main.specs.Words.{command_of}

-- what a command writes of its input
abbrev pub IsAnswer : Command → (bytes text : List ℕ) → (status : ℕ) → Type 0
IsAnswer (commands.Chart look) bytes text status = IsDrawing look bytes text status
IsAnswer commands.Explain bytes text status = IsTelling bytes text status
IsAnswer commands.All bytes text status = IsAllTold bytes text status
IsAnswer (commands.Stat form) bytes text status = IsCounting form bytes text status
IsAnswer commands.Alone bytes text status = IsAloneCounting bytes text status
IsAnswer commands.Other bytes text status = ⊥

-- WHAT A COMMAND WRITES of the source, which went from old to new
pub data IsOutput (command : Command) (old new : SourceSeen) (text : List ℕ) (status : ℕ) :
    Type 0 where
  answered : (bytes : List ℕ) → TakesAll old new MOST_TRACE_BYTES bytes →
      IsAnswer command bytes text status → IsOutput command old new text status
  broken : SourceFailed old new → text ≡ read_fault_line → status ≡ READ_FAULT →
      IsOutput command old new text status
  long : TakesCount old new (MOST_TRACE_BYTES + 1) → text ≡ too_long_line → status ≡ TOO_LONG →
      IsOutput command old new text status

-- a command ends with its output, or for want of memory
pub data Runs (command : Command) (from to : SourceSeen) (old new : SinkSeen) (status : ℕ) :
    Type 0 where
  done : (text : List ℕ) (whole : ℕ) → IsOutput command from to text whole →
      IsEnd text whole old new status → Runs command from to old new status
  wanting : status ≡ NO_MEMORY → Runs command from to old new status

-- where the words are no command of these, a kernel's trace is checked, or the words are refused
abbrev pub ViewsBy : Command → List (String Global) → (from to : SourceSeen) →
    (old new : SinkSeen) → (status : ℕ) → Type 0
ViewsBy (commands.Chart look) words from to old new status =
    Runs (commands.Chart look) from to old new status
ViewsBy commands.Explain words from to old new status = Runs commands.Explain from to old new status
ViewsBy commands.All words from to old new status = Runs commands.All from to old new status
ViewsBy (commands.Stat form) words from to old new status =
    Runs (commands.Stat form) from to old new status
ViewsBy commands.Alone words from to old new status = Runs commands.Alone from to old new status
ViewsBy commands.Other words from to old new status = Reads words from to old new status

-- WHAT THE PROGRAM DOES
abbrev pub Views : List (String Global) → (from to : SourceSeen) → (old new : SinkSeen) →
    (status : ℕ) → Type 0
Views words from to old new status = ViewsBy (command_of words) words from to old new status
