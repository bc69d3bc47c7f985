-- how works stand and what became of each queueing, as plain data
use Rattle.std.specs.Prelude.{◌≡◌, ℕ, Bool, true, false, List, [], ◌∷◌, ◌++◌, length}
use Rattle.std.specs.Prelude.{Option, Some, None, replicate, slice_get, slice_set, slice_index_or}
use Rattle.key_lists.specs.Tables.{Holds, Lacks, without}
use Rattle.delayed_work.specs.declared.standing.Standing.{Standing}
use Rattle.delayed_work.specs.declared.standing.Standing.TheVariants.{Free, Waiting, Ready}
use Rattle.delayed_work.specs.declared.standing.End.{End}
use Rattle.delayed_work.specs.declared.standing.End.TheVariants.{Pending}

-- what is told of a queueing: its number, its work, and its end
abbrev pub WorkTold : Type 0
WorkTold = ℕ × ℕ × End

-- how each work stands, the works that are ready, first the one that became so first, and what is
-- told of each queueing
pub record LedgerState : Type 0 where
  pub standings : List Standing
  pub ready : List ℕ
  pub story : List WorkTold

-- the list of queueings as its holder sees it: how many entries it has memory for
pub record RoomyStories : Type 0 where
  pub entries : List WorkTold
  pub capacity : ℕ

-- the same of the whole ledger
pub record RoomyLedger : Type 0 where
  pub plain : LedgerState
  pub capacity : ℕ

-- so many works, all free
abbrev pub new_ledger : (count : ℕ) → LedgerState
new_ledger count = record { standings = replicate count Free; ready = []; story = [] }

-- how a work stands; one that there isn't is free
abbrev pub standing_of : (work : ℕ) → LedgerState → Standing
standing_of work ledger = slice_index_or ledger.standings work Free

-- a work that is free
abbrev pub is_free : Standing → Bool
is_free Free = true
is_free _ = false

-- .. that waits for its timer
abbrev pub is_work_waiting : Standing → Bool
is_work_waiting (Waiting number) = true
is_work_waiting _ = false

-- .. that is ready
abbrev pub is_ready : Standing → Bool
is_ready (Ready number job arg) = true
is_ready _ = false

-- by which number a work is pending
abbrev pub work_number_in : Standing → Option ℕ
work_number_in Free = None
work_number_in (Waiting number) = Some number
work_number_in (Ready number job arg) = Some number

-- ACCEPTING a queueing gives it the next number; the work waits for its timer
abbrev pub accepted_waiting : (work : ℕ) → LedgerState → LedgerState
accepted_waiting work ledger =
    let number = length ledger.story in
    record {
      standings = slice_set ledger.standings work (Waiting number);
      ready = ledger.ready;
      story = ledger.story ++ (number, work, Pending) ∷ [];
    }

-- or it is ready at once
abbrev pub accepted_ready : (work job arg : ℕ) → LedgerState → LedgerState
accepted_ready work job arg ledger =
    let number = length ledger.story in
    record {
      standings = slice_set ledger.standings work (Ready number job arg);
      ready = ledger.ready ++ work ∷ [];
      story = ledger.story ++ (number, work, Pending) ∷ [];
    }

-- BECOMING READY: a waiting work goes to the end of the ready list
abbrev pub ready_from : Standing → (work job arg : ℕ) → LedgerState → LedgerState
ready_from (Waiting number) work job arg ledger =
    record ledger {
      standings = slice_set ledger.standings work (Ready number job arg);
      ready = ledger.ready ++ work ∷ [];
    }
ready_from _ work job arg ledger = ledger

-- a work becomes ready, if it waits
abbrev pub come_ready : (work job arg : ℕ) → LedgerState → LedgerState
come_ready work job arg ledger = ready_from (standing_of work ledger) work job arg ledger

-- ENDING: a pending work becomes free, and its queueing has this end
abbrev pub ended_from : Standing → (work : ℕ) → End → LedgerState → LedgerState
ended_from Free work end ledger = ledger
ended_from (Waiting number) work end ledger =
    record ledger {
      standings = slice_set ledger.standings work Free;
      story = slice_set ledger.story number (number, work, end);
    }
ended_from (Ready number job arg) work end ledger = record {
  standings = slice_set ledger.standings work Free;
  ready = without work ledger.ready;
  story = slice_set ledger.story number (number, work, end);
}

-- a pending work comes to its end, and is free
abbrev pub work_ended : (work : ℕ) → End → LedgerState → LedgerState
work_ended work end ledger = ended_from (standing_of work ledger) work end ledger

-- WHAT IS KEPT: no work is twice in a list
abbrev pub AreDistinct : List ℕ → Type 0
AreDistinct [] = Unit {0}
AreDistinct (work ∷ works) = Lacks work works × AreDistinct works

-- what is told of a queueing has its number, and where it is told to be pending its work is
-- pending by that number
pub record IsWorkTold (ledger : LedgerState) (number : ℕ) (told : WorkTold) : Type 0 where
  pub number_is : told.0 ≡ number
  pub pending : told.2 ≡ Pending → work_number_in (standing_of told.1 ledger) ≡ Some number

-- the ready list has exactly the works that are ready, each once, and the story is right
pub record IsLedgerSound (ledger : LedgerState) : Type 0 where
  pub in_list : (work : ℕ) → is_ready (standing_of work ledger) ≡ true → Holds work ledger.ready
  pub not_in_list : (work : ℕ) → is_ready (standing_of work ledger) ≡ false
      → Lacks work ledger.ready
  pub distinct : AreDistinct ledger.ready
  pub numbered : (work number : ℕ) → work_number_in (standing_of work ledger) ≡ Some number
      → slice_get ledger.story number ≡ Some (number, work, Pending)
  pub told : (number : ℕ) (told : WorkTold) → slice_get ledger.story number ≡ Some told
      → IsWorkTold ledger number told
