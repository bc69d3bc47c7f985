use Rattle.std.proofs.Common.{List, ℕ, sym, subst}
use Rattle.std.specs.Prelude.{Vec, Result, MatchResult}
use Rattle.std.specs.declared.alloc.Global.{Global}
use Rattle.tm_base.specs.declared.faults.NoMemory.{NoMemory}
use Rattle.program_texts.specs.Ends.{EndsWith, EndsUnwritten}
use Rattle.program_texts.proofs.writing.write_made.Goals as goal

pub returns-in-Ok : goal.returns-in-Ok
returns-in-Ok g c =
    let k = g.K.Sink.seen c.args.sink.now in
    let m = g.K.Sink.seen c.write_text.new.sink in
    let status = c.write_text.result in
    let Ends : List ℕ → Type 0 = λ xs. EndsWith xs c.args.status c.args.status k m status in
    let Made : Result (Vec ℕ Global) NoMemory → Type 0 =
    λ t. MatchResult t (λ made. Ends made.items) (λ _. EndsUnwritten k m status) in
    subst Made (sym c.in-Ok.is) (subst Ends c.deref.ensures.value c.write_text.ensures)
