use Rattle.std.proofs.Common.{◌++◌, ◌∷◌, [], ◌+◌, ◌%◌, ◌/◌, ℕ, List, ap, sym, ◌∙◌, append_assoc, arith}
use Rattle.std.specs.Fmt.{decimal}
use Rattle.std.proofs.lemmas.Fmt.{decimal_step_wide}
use Rattle.orders_answer.proofs.pieces.+push_wide.Goals as goal

pub returns : goal.returns
returns t c =
    let n = c.args.n in
    let old = c.args.text.now.items in
    let some = c.if-n-lt10.false in
    let fits = c.ranges.n.fits in
    let step = decimal_step_wide n (omega (arith, some)) (omega (arith, fits)) in
    c.in_ok-push_digit.ensures
    ∙ ap (λ (x : List ℕ). x ++ (48 + n % 10) ∷ []) c.in_ok-push_wide.ensures
    ∙ append_assoc old (decimal (n / 10)) ((48 + n % 10) ∷ [])
    ∙ ap (λ (x : List ℕ). old ++ x) (sym step)
