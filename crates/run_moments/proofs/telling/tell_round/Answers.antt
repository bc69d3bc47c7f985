use Rattle.std.proofs.Common.{◌+◌, ◌∙◌, ap, subst}
use Rattle.std.specs.Option.{option_copied}
use Rattle.play_rules.specs.Parts.{Gains, counted}
use Rattle.play_rules.proofs.Plays.{gains_then}
use Rattle.run_moments.proofs.RoundTold.{tells_round}
use Rattle.run_moments.proofs.telling.tell_round.Goals as goal

pub returns-in_err-told_covers-clause-gains : goal.returns-in_err-told_covers-clause-gains
returns-in_err-told_covers-clause-gains c =
    gains_then _ _ _
    (subst (λ t. Gains t c.tell_all.new.telling.text) c.count_all.ensures.text c.tell_all.ensures.gains)
    c.told_covers.ensures.gains

pub returns-clause-gains : goal.returns-clause-gains
returns-clause-gains c =
    gains_then _ _ _
    (subst (λ t. Gains t c.tell_all.new.telling.text) c.count_all.ensures.text c.tell_all.ensures.gains)
    c.told_covers.ensures.gains

pub returns-clause-tells : goal.returns-clause-tells
returns-clause-tells c = λ jobs due start round number.
    let old = c.args.telling.now in
    let told = c.in_ok-tell_all.ensures in
    let covers = c.in_ok-told_covers.ensures in
    tells_round jobs due (option_copied c.args.m) start c.args.player.now c.args.lines.now round old c.count_all.new.self c.tell_all.new.telling c.told_covers.new.telling
    c.count_all.ensures.text
    (c.count_all.ensures.work ∙ ap (λ k. counted (old.work + (1 + k))) (c.from.ensures ∙ number))
    told.text told.work covers.text covers.work
