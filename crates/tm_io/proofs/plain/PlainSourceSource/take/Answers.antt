use Rattle.std.proofs.Common.{rules, ◌+◌, ◌-◌, ◌≤◌, ℕ, length, take, sym, ◌∙◌, arith, length-take, length-drop}
use Rattle.std.proofs.lemmas.List.{drop_all}
use Rattle.tm_io.proofs.Reading.{taken_at}
use Rattle.tm_io.proofs.plain.PlainSourceSource.take.Goals as goal

pub returns-clause-takes : goal.returns-clause-takes
returns-clause-takes c =
    let at = c.self.inside.at in
    let bytes = c.self.inside.bytes.items in
    let n = c.fill_front-count.result in
    let count = rw c.deref.ensures.value at c.fill_front-count.ensures.count in
    let front = rw c.deref.ensures.value at c.fill_front-count.ensures.front in
    let within : n ≤ length bytes - at = omega (arith, length-take {A = ℕ}, length-drop {A = ℕ}) in
    record {
      within = search rules;
      taken = (sym c.self.view_is ∙ taken_at bytes (take n c.fill_front-count.new.room) at n front within, λ none some. drop_all (at + n) bytes (omega (arith, length-take {A = ℕ}, length-drop {A = ℕ})));
      rest = search rules;
      failed = search rules;
      unbroken = search rules;
    }
