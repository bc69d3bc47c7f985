use Rattle.run_shares.specs.Progress.{GatheredSoFar}
use Rattle.run_shares.proofs.shares.gather.Given as goal

abbrev pub invariant-loop-share : goal.invariant-loop-share
invariant-loop-share l =
    GatheredSoFar l.fn.shares.items l.share-iterator.rest.items l.passes.items l.lines.items
