use Rattle.std.specs.Prelude.{codes}
use Rattle.linux_view.proofs.Digits.{three}
use Rattle.linux_view.proofs.notes.push_past.Goals as goal
use Rattle.linux_view.specs.Notes.{count_text, past_text}

pub returns : goal.returns
unfolding past_text
returns c =
    three c.args.text.now.items c.push_count.new.text.items c.push_count-2.new.text.items
    c.push_bytes.new.text.items (count_text (codes "clock: ") c.args.runs.past)
    (count_text (codes " of ") c.args.runs.told)
    (codes " expiries told at tmigr_cpu_idle were past by then, so the trace clock isn't mono\n")
    c.in_ok-push_count.ensures c.in_ok-push_count-2.ensures (c.in_ok-push_bytes.ensures).ok
