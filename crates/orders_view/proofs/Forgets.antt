-- timers that are left to nobody, by a test of each
use Rattle.std.proofs.Common.{◌≡◌, List, [], ◌∷◌, Bool, true, false, refl}
use Rattle.std.specs.List.{list_any}
use Rattle.std.specs.Prelude.{◌||◌, if◌then◌else◌}
use Rattle.orders_answer.specs.Answers.{forgets}
use Rattle.orders_answer.specs.declared.shown.TimerShown.{TimerShown}
use Rattle.orders_view.specs.Outputs.{is_left}

or_if : (b x y : Bool) → x ≡ y → (b || x) ≡ (if b then true else y)
or_if true x y e = refl
or_if false x y e = e

pub any_left : (ts : List TimerShown) → list_any is_left ts ≡ forgets ts
unfolding forgets
any_left [] = refl
any_left (t ∷ ts) = or_if (is_left t) (list_any is_left ts) (forgets ts) (any_left ts)
