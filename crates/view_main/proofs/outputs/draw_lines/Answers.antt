use Rattle.std.proofs.Common.{refl, sym}
use Rattle.std.proofs.lemmas.Result.{IfOk-weaker}
use Rattle.view_main.specs.Outputs.{IsDrawnIn, chosen, window_refused}
use Rattle.view_main.proofs.outputs.draw_lines.Goals as goal

pub returns-in_ok-window_refused-in-Some : goal.returns-in_ok-window_refused-in-Some
returns-in_ok-window_refused-in-Some c =
    window_refused c.in-Some.fault (sym c.in-Some.ensures)
    c.in_ok-window_refused-in-Some.ensures refl

pub returns-in-None : goal.returns-in-None
returns-in-None c =
    IfOk-weaker c.draw_window.result
    (λ o. IsDrawnIn c.args.look c.args.lines.now o.text.items o.status) _
    (λ o drawn. chosen (sym c.in-None.ensures) drawn) c.draw_window.ensures
