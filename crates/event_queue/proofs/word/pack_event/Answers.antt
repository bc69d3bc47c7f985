use Rattle.event_queue.proofs.Fields.{bit_low, fields}
use Rattle.event_queue.proofs.word.pack_event.Goals as goal

pub returns : goal.returns
returns c =
    let e = c.in-Some.event in
    let fits = c.requires e c.in-Some.is in
    rw (c.from.ensures, c.from-2.ensures, c.in-Some.is) (fields e.expiry e.cpu.0 _ fits.expiry fits.cpu (bit_low e.ignored))
