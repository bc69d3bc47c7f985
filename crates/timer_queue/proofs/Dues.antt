-- an iterator over what is due, after any number of calls
use Rattle.std.proofs.Common.{[], ◌∷◌, refl, subst, ◌∙◌}
use Rattle.timer_queue.specs.declared.due.Due.{Due}
use Rattle.timer_queue.specs.Due.{DueKeeps, DueKeepsAlong}

pub due_keeps_along : {T : Type 0} (first : Due T) → DueKeepsAlong first
due_keeps_along first [] later run = subst (DueKeeps first) run (refl, refl)
due_keeps_along first (item ∷ items) later run =
    let step = run.1.1 in
    let rest = due_keeps_along run.0 items later run.2 in
    (rest.0 ∙ step.0, rest.1 ∙ step.1)
