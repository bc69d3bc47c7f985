-- which clause each fault breaks
use Rattle.view_story.specs.declared.faults.Clause.{Clause}
use Rattle.view_story.specs.declared.faults.Clause.TheVariants as clauses
use Rattle.view_story.specs.declared.faults.Fault.{Fault}
use Rattle.view_story.specs.declared.faults.Fault.TheVariants as faults

-- the clause that a fault breaks
abbrev pub clause_of : Fault → Clause
clause_of faults.Foreign = clauses.Moments
clause_of faults.BackInTime = clauses.Moments
clause_of faults.NoMoment = clauses.Moments
clause_of faults.NotTheEnd = clauses.Moments
clause_of faults.Unended = clauses.Moments
clause_of faults.Skipped = clauses.Operations
clause_of faults.NoOperation = clauses.Operations
clause_of faults.StillQueued = clauses.Operations
clause_of faults.NotQueuedThere = clauses.Operations
clause_of faults.MustRefuse = clauses.Refusals
clause_of faults.MayNotRefuse = clauses.Refusals
clause_of faults.Wheel = clauses.Journals
clause_of faults.Turn = clauses.Journals
clause_of faults.NotQueuedSo = clauses.Runs
clause_of faults.Early = clauses.Runs
clause_of faults.NoInterrupt = clauses.Runs
clause_of faults.NotForRunner = clauses.Runs
clause_of faults.Reply = clauses.Runs
clause_of faults.Missed = clauses.Runs
clause_of faults.First = clauses.Idle
clause_of faults.Soon = clauses.Idle
clause_of faults.Late = clauses.Idle
clause_of faults.Wakeup = clauses.Idle
clause_of faults.Uncovered = clauses.Idle
clause_of faults.NoCover = clauses.Idle
clause_of faults.Answer = clauses.Idle
clause_of faults.Control = clauses.Close
clause_of faults.Moved = clauses.Close
clause_of faults.Unmoved = clauses.Close
clause_of faults.Left = clauses.Close
clause_of faults.Untold = clauses.Close
clause_of faults.Order = clauses.Order
