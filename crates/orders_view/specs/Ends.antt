-- how the command ends
use Rattle.std.specs.Prelude.{◌≡◌, ℕ, ◌+◌, List, String, Option, Some, None}
use Rattle.std.specs.declared.alloc.Global.{Global}
use Rattle.tm_io.specs.Seen.{SinkSeen, SourceSeen, SourceFailed}
use Rattle.tm_io.specs.Sources.{TakesAll, TakesCount}
use Rattle.linux_view.specs.declared.statuses.TheConstants.{MOST_TRACE_BYTES, NO_MEMORY}
use Rattle.linux_view.specs.declared.statuses.TheConstants.{READ_FAULT, TOO_LONG, USAGE}
use Rattle.linux_view.specs.Ends.{IsEnd}
use Rattle.linux_view.specs.Texts.{read_fault_line, too_long_line, usage_line}
use Rattle.orders_view.specs.declared.words.Asked.{Asked}
use Rattle.orders_view.specs.Outputs.{IsTelling}
use Rattle.orders_view.specs.Words.{asked_in}

-- WHAT THE COMMAND WRITES of the source, which went from old to new
pub data IsOutput (asked : Asked) (old new : SourceSeen) (text : List ℕ) (status : ℕ) : Type 0
  where
    answered : (bytes : List ℕ) → TakesAll old new MOST_TRACE_BYTES bytes →
        IsTelling asked bytes text status → IsOutput asked old new text status
    broken : SourceFailed old new → text ≡ read_fault_line → status ≡ READ_FAULT →
        IsOutput asked old new text status
    long : TakesCount old new (MOST_TRACE_BYTES + 1) → text ≡ too_long_line → status ≡ TOO_LONG →
        IsOutput asked old new text status

-- the command ends with its output, or for want of memory
pub data Runs (asked : Asked) (from to : SourceSeen) (old new : SinkSeen) (status : ℕ) : Type 0
  where
    done : (text : List ℕ) (whole : ℕ) → IsOutput asked from to text whole →
        IsEnd text whole old new status → Runs asked from to old new status
    wanting : status ≡ NO_MEMORY → Runs asked from to old new status

-- the source wasn't touched, and how the program is used was written
pub record Refuses (from to : SourceSeen) (old new : SinkSeen) (status : ℕ) : Type 0 where
  pub source : to ≡ from
  pub ends : IsEnd usage_line USAGE old new status

-- .. where the words ask for nothing
abbrev pub OrdersBy : Option Asked → (from to : SourceSeen) → (old new : SinkSeen) →
    (status : ℕ) → Type 0
OrdersBy (Some asked) from to old new status = Runs asked from to old new status
OrdersBy None from to old new status = Refuses from to old new status

-- WHAT THE COMMAND DOES
abbrev pub Orders : List (String Global) → (from to : SourceSeen) → (old new : SinkSeen) →
    (status : ℕ) → Type 0
Orders words from to old new status = OrdersBy (asked_in words) from to old new status
