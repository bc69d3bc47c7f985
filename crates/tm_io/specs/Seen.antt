-- What clauses see of a source and of a sink.
use Rattle.std.specs.Prelude.{◌≡◌, ℕ, List, Option, None}
use Rattle.tm_io.specs.Counts.{HasRisen}

-- a source: the bytes that are left, where it tells them, and how often it failed
pub record SourceSeen : Type 0 where
  pub left : Option (List ℕ)
  pub faults : ℕ

-- a sink: the bytes that it holds, where it tells them, how often it failed, and how often it took
-- nothing of a piece that wasn't empty
pub record SinkSeen : Type 0 where
  pub held : Option (List ℕ)
  pub faults : ℕ
  pub refusals : ℕ

-- the source failed in between
abbrev pub SourceFailed : SourceSeen → SourceSeen → Type 0
SourceFailed old new = HasRisen old.faults new.faults

-- the source's count of faults is as it was
abbrev pub SourceUnbroken : SourceSeen → SourceSeen → Type 0
SourceUnbroken old new = new.faults ≡ old.faults

-- the sink failed in between
abbrev pub SinkFailed : SinkSeen → SinkSeen → Type 0
SinkFailed old new = HasRisen old.faults new.faults

-- the sink's count of faults is as it was
abbrev pub SinkUnbroken : SinkSeen → SinkSeen → Type 0
SinkUnbroken old new = new.faults ≡ old.faults

-- the sink took nothing of a piece in between
abbrev pub SinkRefused : SinkSeen → SinkSeen → Type 0
SinkRefused old new = HasRisen old.refusals new.refusals

-- the sink's count of refusals is as it was
abbrev pub SinkTook : SinkSeen → SinkSeen → Type 0
SinkTook old new = new.refusals ≡ old.refusals

-- what is seen of a source that doesn't tell its bytes: its count of faults
abbrev pub source_untold : SourceSeen → SourceSeen
source_untold s = record { left = None; faults = s.faults }

-- what is seen of a sink that doesn't tell its bytes: its two counts
abbrev pub sink_untold : SinkSeen → SinkSeen
sink_untold s = record { held = None; faults = s.faults; refusals = s.refusals }
