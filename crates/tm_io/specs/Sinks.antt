-- What is put into a sink, whose bytes that it holds are known or not.
use Rattle.std.specs.Prelude.{◌≡◌, ◌≢◌, ℕ, ◌<◌, ◌≤◌, ◌==◌, ◌&&◌, List, length, take, nat_lt}
use Rattle.std.specs.Prelude.{Result, Ok, Err, IfOk, IsErrAnd, IsErrOf, if◌then◌else◌}
use Rattle.std.specs.Io.KnownBytes.{Appends, WriteAppends}
use Rattle.tm_io.specs.declared.faults.IoFault.{IoFault}
use Rattle.tm_io.specs.declared.faults.IoFault.TheVariants.{Failed}
use Rattle.tm_io.specs.declared.sinks.WriteCause.{WriteCause}
use Rattle.tm_io.specs.declared.sinks.WriteFault.{WriteFault}
use Rattle.tm_io.specs.Counts.{counted_up}
use Rattle.tm_io.specs.Seen.{SinkSeen, SinkFailed, SinkUnbroken, SinkRefused, SinkTook}

-- a put that answers so took nothing, though there were bytes
abbrev pub TakesNothing : {E : Type 0} → Result ℕ E → List ℕ → Type 0
TakesNothing r bytes = (r ≡ Ok 0) × (0 < length bytes)

-- what a call of `put` does: it appends a front of the bytes; a fault counts exactly where it is
-- told, and then, as after any Err, nothing was put; a refusal counts exactly where this was one
pub record Puts (old new : SinkSeen) (r : Result ℕ IoFault) (bytes : List ℕ) : Type 0 where
  pub within : IfOk r (λ n. n ≤ length bytes)
  pub put : WriteAppends old.held new.held r bytes
  pub failed : IsErrOf r Failed → SinkFailed old new
  pub unbroken : r ≢ Err Failed → SinkUnbroken old new
  pub refused : TakesNothing r bytes → SinkRefused old new
  pub took : ¬ TakesNothing r bytes → SinkTook old new

-- the count of refusals after a put of these bytes that took n of them
abbrev pub refusals_after : ℕ → ℕ → List ℕ → ℕ
refusals_after refusals n bytes =
    if n == 0 && nat_lt 0 (length bytes) then counted_up refusals else refusals

-- writing stopped before the last byte, for this cause
abbrev pub StopsBy : Result (Unit {0}) WriteFault → WriteCause → Type 0
StopsBy r cause = IsErrAnd r (λ fault. fault.cause ≡ cause)

-- the bytes held grow by the first n of these, and these are more
abbrev pub AppendsFront : SinkSeen → SinkSeen → ℕ → List ℕ → Type 0
AppendsFront old new n bytes = (n < length bytes) × Appends old.held new.held (take n bytes)
