use Rattle.std.proofs.Common.{refl}
use Rattle.view_main.specs.Outputs.{back}
use Rattle.view_main.proofs.outputs.draw_window.Goals as goal

pub returns-in_ok-back_refused-in-Err-BackInTime :
    goal.returns-in_ok-back_refused-in-Err-BackInTime
returns-in_ok-back_refused-in-Err-BackInTime c =
    back c.in-Err-BackInTime.number
    (rw c.in-Err-BackInTime.field-0-is at c.in-Err-BackInTime.ensures.refused)
    c.in_ok-back_refused-in-Err-BackInTime.ensures refl
