use Rattle.cpu_word.proofs.Fields.{bit_low, fields, mark_low}
use Rattle.cpu_word.proofs.word.pack_cpu.Goals as goal

pub returns : goal.returns
returns c =
    let s = c.args.state in
    rw (c.from.ensures, c.from-2.ensures, c.from-3.ensures, c.from-4.ensures, c.mark.ensures)
    (fields _ _ _ _ s.wakeup (mark_low s.remote c.requires.marker) (bit_low s.inside)
    (bit_low s.idle) (bit_low s.online) c.requires.wakeup)
