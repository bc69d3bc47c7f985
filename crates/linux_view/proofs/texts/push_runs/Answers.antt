use Rattle.std.specs.Prelude.{codes}
use Rattle.linux_view.proofs.Digits.{three}
use Rattle.linux_view.proofs.texts.push_runs.Goals as goal
use Rattle.linux_view.specs.Notes.{count_text}
use Rattle.linux_view.specs.Texts.{late_runs_text, runs_text, tick_runs_text}

pub returns : goal.returns
unfolding runs_text
returns c =
    three c.args.text.now.items c.push_count.new.text.items c.push_tick_runs.new.text.items
    c.push_late_runs.new.text.items (count_text (codes "\nremote: 1000us ") c.args.runs.in_1_ms)
    (tick_runs_text c.args.runs) (late_runs_text c.args.runs) c.in_ok-push_count.ensures
    c.in_ok-push_tick_runs.ensures c.in_ok-push_late_runs.ensures
