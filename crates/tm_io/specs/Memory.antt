-- Sources and sinks in memory, whose calls with given numbers fail.
use Rattle.std.specs.Prelude.{ℕ, Bool, if◌then◌else◌, ◌==◌, List, Some}
use Rattle.std.specs.List.{list_any}
use Rattle.tm_io.specs.Counts.{counted_up}
use Rattle.tm_io.specs.Seen.{SourceSeen, SinkSeen}

-- which calls fail, by their numbers from 1; how many calls there were, and how many of them failed
pub record Plan : Type 0 where
  pub fails : List ℕ
  pub calls : ℕ
  pub faults : ℕ

-- no call yet
abbrev pub start : List ℕ → Plan
start fails = record { fails = fails; calls = 0; faults = 0 }

-- the number of the next call is one of those that fail
abbrev pub fails_next : Plan → Bool
fails_next plan = list_any (λ number. number == counted_up plan.calls) plan.fails

-- the plan after one more call
abbrev pub after_call : Plan → Plan
after_call plan =
    record {
      fails = plan.fails;
      calls = counted_up plan.calls;
      faults = (if fails_next plan then counted_up plan.faults else plan.faults);
    }

-- a source in memory: the bytes that are left, at most how many it gives in a call, and which calls
-- fail
pub record Feed : Type 0 where
  pub left : List ℕ
  pub piece : ℕ
  pub plan : Plan

-- what clauses see of it
abbrev pub feed_seen : Feed → SourceSeen
feed_seen feed = record { left = Some feed.left; faults = feed.plan.faults }

-- a sink in memory: the bytes that it holds, at most how many it takes in a call, which calls fail,
-- and how often it took nothing of a piece that wasn't empty
pub record Store : Type 0 where
  pub held : List ℕ
  pub piece : ℕ
  pub plan : Plan
  pub refusals : ℕ

-- what clauses see of it
abbrev pub store_seen : Store → SinkSeen
store_seen store =
    record { held = Some store.held; faults = store.plan.faults; refusals = store.refusals }
