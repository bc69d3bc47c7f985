-- What is taken from a source, whose bytes that are left are known or not.
use Rattle.std.specs.Prelude.{◌≡◌, ◌≢◌, ℕ, ◌+◌, ◌<◌, ◌≤◌, List, length, drop, Result, Ok, Err}
use Rattle.std.specs.Prelude.{Vec, MatchResult, IfOk, IsErrOf, ⊤}
use Rattle.std.specs.declared.alloc.Global.{Global}
use Rattle.std.specs.Io.KnownBytes.{Consumes, IsAtEnd, ReadConsumes}
use Rattle.tm_io.specs.declared.faults.IoFault.{IoFault}
use Rattle.tm_io.specs.declared.faults.IoFault.TheVariants.{Failed}
use Rattle.tm_io.specs.declared.sources.ReadFault.{ReadFault}
use Rattle.tm_io.specs.declared.sources.ReadFault.TheVariants.{Read, TooLong, NoMemory}
use Rattle.tm_io.specs.Seen.{SourceSeen, SourceFailed, SourceUnbroken}

-- behind the n bytes that a call gave, and all of it after an Err, the room is as it was
abbrev pub KeepsRest : {E : Type 0} → Result ℕ E → List ℕ → List ℕ → Type 0
KeepsRest r old new = MatchResult r (λ n. drop n new ≡ drop n old) (λ _. new ≡ old)

-- what a call of `take` does: it gives the next bytes and 0 only at the end or for an empty room; a
-- fault counts exactly where it is told, and then, as after any Err, nothing was taken
pub record Takes (old new : SourceSeen) (r : Result ℕ IoFault) (room filled : List ℕ)
    : Type 0 where
  pub within : IfOk r (λ n. n ≤ length filled)
  pub taken : ReadConsumes old.left new.left r filled
  pub rest : KeepsRest r room filled
  pub failed : IsErrOf r Failed → SourceFailed old new
  pub unbroken : r ≢ Err Failed → SourceUnbroken old new

-- these bytes, at most `most`, were all that was left, and they were taken
pub record TakesAll (old new : SourceSeen) (most : ℕ) (bytes : List ℕ) : Type 0 where
  pub taken : Consumes old.left new.left bytes
  pub end : IsAtEnd new.left
  pub within : length bytes ≤ most

-- so many bytes were taken
abbrev pub TakesCount : SourceSeen → SourceSeen → ℕ → Type 0
TakesCount old new n = (bytes : List ℕ) × (length bytes ≡ n) × Consumes old.left new.left bytes

-- at most so many bytes were taken
abbrev pub TakesUpTo : SourceSeen → SourceSeen → ℕ → Type 0
TakesUpTo old new most = (n : ℕ) × (n ≤ most) × TakesCount old new n

-- what was taken when reading ended so: one byte more than `most` where there are too many, else no
-- more than `most`
abbrev pub TakesBefore : ReadFault → SourceSeen → SourceSeen → ℕ → Type 0
TakesBefore Read old new most = TakesUpTo old new most
TakesBefore TooLong old new most = TakesCount old new (most + 1)
TakesBefore NoMemory old new most = TakesUpTo old new most

-- the answer of a reading of these bytes in which no fault came: themselves where they are at most
-- `most`, and else that they are too many; or want of memory
abbrev pub IsAnswerTo : List ℕ → ℕ → Result (Vec ℕ Global) ReadFault → Type 0
IsAnswerTo bytes most (Ok got) = (got.items ≡ bytes) × (length bytes ≤ most)
IsAnswerTo bytes most (Err Read) = ⊥
IsAnswerTo bytes most (Err TooLong) = most < length bytes
IsAnswerTo bytes most (Err NoMemory) = ⊤
