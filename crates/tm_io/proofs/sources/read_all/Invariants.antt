use Rattle.std.proofs.Common.{◌+◌, ◌-◌, ◌≤◌, vec_len}
use Rattle.std.specs.Io.KnownBytes.{Consumes}
use Rattle.tm_io.specs.Seen.{SourceUnbroken}
use Rattle.tm_io.proofs.sources.read_all.Given as goal

-- what was taken is in `taken`, at most one byte more than `most`, and the source hasn't failed
abbrev pub invariant-loop-source : goal.invariant-loop-source
invariant-loop-source g l =
    record {
      within : vec_len l.taken ≤ l.most + 1;
      bytes : Consumes (g.S.Source.seen l.initial.source).left (g.S.Source.seen l.source).left l.taken.items;
      unbroken : SourceUnbroken (g.S.Source.seen l.initial.source) (g.S.Source.seen l.source);
    }

abbrev pub decreases-loop-source : goal.decreases-loop-source
decreases-loop-source g l = l.most + 1 - vec_len l.taken
