-- Sources and sinks in memory that never fail.
use Rattle.std.specs.Prelude.{ℕ, List, Some}
use Rattle.tm_io.specs.Seen.{SourceSeen, SinkSeen}

-- a source of these bytes that never fails
abbrev pub plain_source_seen : List ℕ → SourceSeen
plain_source_seen left = record { left = Some left; faults = 0 }

-- a sink that holds these bytes, never fails and takes all
abbrev pub plain_sink_seen : List ℕ → SinkSeen
plain_sink_seen held = record { held = Some held; faults = 0; refusals = 0 }

-- a sink that fills up: the bytes that it holds, how many more it takes, and how often it took
-- nothing of a piece that wasn't empty
pub record Tank : Type 0 where
  pub held : List ℕ
  pub room : ℕ
  pub refusals : ℕ

-- what clauses see of it: it never fails
abbrev pub tank_seen : Tank → SinkSeen
tank_seen tank = record { held = Some tank.held; faults = 0; refusals = tank.refusals }
