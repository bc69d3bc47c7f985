use Rattle.program_texts.specs.Ends.{wanting}
use Rattle.program_texts.proofs.writing.write_text.Goals as goal

pub returns-in-NoMemory : goal.returns-in-NoMemory
returns-in-NoMemory g c =
    let unbroken = c.in-Err.ensures.unbroken (λ is. cc (is, c.in-NoMemory.is)) in
    let took = c.in-Err.ensures.took_some (λ is. cc (is, c.in-NoMemory.is)) in
    wanting c.in-Err.fault.written c.in-Err.ensures.err (unbroken, took) cc
