use Rattle.std.proofs.Common.{◌-◌, ◌≤◌, length, take}
use Rattle.std.specs.Io.KnownBytes.{Appends}
use Rattle.tm_io.specs.Seen.{SinkUnbroken, SinkTook}
use Rattle.tm_io.proofs.sinks.write_all.Given as goal

-- the sink took the first `written` bytes, and has neither failed nor taken nothing
abbrev pub invariant-loop-written : goal.invariant-loop-written
invariant-loop-written g l =
    record {
      within : l.written ≤ length l.bytes;
      put : Appends (g.K.Sink.seen l.initial.sink).held (g.K.Sink.seen l.sink).held (take l.written l.bytes);
      unbroken : SinkUnbroken (g.K.Sink.seen l.initial.sink) (g.K.Sink.seen l.sink);
      took : SinkTook (g.K.Sink.seen l.initial.sink) (g.K.Sink.seen l.sink);
    }

abbrev pub decreases-loop-written : goal.decreases-loop-written
decreases-loop-written g l = length l.bytes - l.written
