use Rattle.std.proofs.Common.{take}
use Rattle.wheel_core.specs.Scan.{IsScan}
use Rattle.wheel_core.proofs.scan.scan_for.Given as goal

abbrev pub invariant-loop-place : goal.invariant-loop-place
invariant-loop-place l = IsScan l.wheel (take l.place l.items) l.scan
