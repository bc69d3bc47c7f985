-- what a ledger keeps in mind beside its plain data (no public clause cites it)
use Rattle.std.specs.Prelude.{◌≡◌, ℕ, ◌≤◌, List, length}
use Rattle.tm_base.specs.declared.limits.TheConstants.{MOST_TIMERS}
use Rattle.key_lists.specs.Tables.{KeyTable, list_of}
use Rattle.delayed_work.specs.declared.standing.Standing.{Standing}
use Rattle.delayed_work.specs.Ledger.{IsLedgerSound, LedgerState, WorkTold}

-- the plain data: the ready list is the one list of keys
abbrev pub ledger_of : List Standing → KeyTable → List WorkTold → LedgerState
ledger_of standings table story =
    record { standings = standings; ready = list_of table 0; story = story }

-- what a ledger keeps of its parts
pub record IsKept (standings : List Standing) (table : KeyTable) (ready_len : ℕ)
    (story : List WorkTold) : Type 0 where
  pub sound : IsLedgerSound (ledger_of standings table story)
  pub one_list : table.number ≡ 1
  pub room : length standings ≤ table.room
  pub counted : ready_len ≡ length (list_of table 0)
  pub few : length standings ≤ MOST_TIMERS
