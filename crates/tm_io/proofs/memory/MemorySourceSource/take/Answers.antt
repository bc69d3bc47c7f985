use Rattle.std.proofs.Common.{rules, ◌<◌, ◌++◌, length, drop, Some, ℕ, arith, length-append, length-take, length-drop, List, ap, subst}
use Rattle.std.specs.Io.KnownBytes.{ReadConsumes}
use Rattle.tm_io.specs.Memory.{Feed}
use Rattle.tm_io.proofs.Reading.{KeepsRest-part, ReadConsumes-part}
use Rattle.tm_io.proofs.memory.MemorySourceSource.take.Goals as goal

pub returns-clause-takes : goal.returns-clause-takes
returns-clause-takes c =
    let part = c.take.new.room in
    let room = c.args.room.now in
    let behind = drop c.min-most.result room in
    let place : 0 < length (part ++ behind) → 0 < length part =
    λ some. omega (arith, some, c.take.auto.room, c.min-most.ensures, c.self.invariant, length-append part behind, length-take {A = ℕ}, length-drop {A = ℕ}) in
    let Took : List ℕ → Type 0 = λ left. ReadConsumes (Some left) (Some c.take.new.self) c.take.result (part ++ behind) in
    let seen = ap (λ (feed : Feed). feed.left) c.self.view_is in
    record {
      within = search rules;
      taken = subst Took seen (ReadConsumes-part (Some c.self.inside.source) (Some c.take.new.self) c.take.result part behind c.take.ensures.takes.within place c.take.ensures.takes.taken);
      rest = KeepsRest-part c.take.result c.min-most.result room part c.take.auto.room c.take.ensures.takes.within c.take.ensures.takes.rest;
      failed = search rules;
      unbroken = search rules;
    }
