use Rattle.std.proofs.Common.{◌+◌, ◌∙◌, ap, sym}
use mir.Val.{bool_byte}
use Rattle.play_rules.specs.Parts.{counted}
use Rattle.run_moments.proofs.RoundTold.{on_ok, one_run_of}
use Rattle.run_moments.proofs.telling.tell_one.Goals as goal

pub returns-clause-work : goal.returns-clause-work
returns-clause-work c =
    let bit = c.from.ensures ∙ ap bool_byte c.is_run.ensures ∙ sym (one_run_of c.args.line.now) in
    on_ok c.tell.result _
    (c.tell.ensures.work ∙ c.count_all.ensures.work
    ∙ ap (λ k. counted (c.args.telling.now.work + k)) bit)
