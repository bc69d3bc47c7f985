use Rattle.std.proofs.Common.{sym, ap, append_assoc, ◌++◌, ◌∙◌}
use Rattle.std.proofs.lemmas.Result.{err_from_is_err_and}
use Rattle.std.proofs.lemmas.List.Concat.{flat_map-append}
use Rattle.std.proofs.lemmas.List.Sums.{fold-append}
use Rattle.tm_report.specs.Lines.{line_text, report_text}
use Rattle.play_rules.specs.Moments.{closing, turn_lines}
use Rattle.play_rules.specs.Tallies.{tallied, tallied_all}
use Rattle.play_rules.proofs.Plays.{gains_then}
use Rattle.play_driver.specs.Outcomes.{script_turns}
use Rattle.play_driver.proofs.playing.play_known.Goals as goal

pub moments-requires-clause-start : goal.moments-requires-clause-start
moments-requires-clause-start g c = c.requires.start

pub moments-requires-clause-playable : goal.moments-requires-clause-playable
moments-requires-clause-playable g c = c.requires.playable

pub moments-requires-clause-no_work : goal.moments-requires-clause-no_work
moments-requires-clause-no_work g c = c.requires.no_work

pub moments-requires-clause-fit : goal.moments-requires-clause-fit
moments-requires-clause-fit g c = c.requires.fit

pub returns-in_err-count-clause-whole : goal.returns-in_err-count-clause-whole
returns-in_err-count-clause-whole g c =
    let p = err_from_is_err_and c.from_residual.result c.from_residual.ensures.1 in rw p.1 tt

pub returns-in_err-count-clause-count : goal.returns-in_err-count-clause-count
returns-in_err-count-clause-count g c =
    let p = err_from_is_err_and c.from_residual.result c.from_residual.ensures.1 in rw p.1 tt

pub returns-in_err-count-clause-fit : goal.returns-in_err-count-clause-fit
returns-in_err-count-clause-fit g c =
    let p = err_from_is_err_and c.from_residual.result c.from_residual.ensures.1 in rw p.1 tt

pub returns-in_err-count-clause-fault : goal.returns-in_err-count-clause-fault
returns-in_err-count-clause-fault g c =
    let p = err_from_is_err_and c.from_residual.result c.from_residual.ensures.1 in
    rw (p.1, p.2) c.in_err-count.ensures.fault

pub returns-in_err-count-clause-gains : goal.returns-in_err-count-clause-gains
returns-in_err-count-clause-gains g c = c.in_err-count.ensures.gains

pub returns-in_err-close-clause-whole : goal.returns-in_err-close-clause-whole
returns-in_err-close-clause-whole g c =
    let left = c.from_residual-in_err-close in
    let p = err_from_is_err_and left.result left.ensures.1 in rw p.1 tt

pub returns-in_err-close-clause-count : goal.returns-in_err-close-clause-count
returns-in_err-close-clause-count g c =
    let left = c.from_residual-in_err-close in
    let p = err_from_is_err_and left.result left.ensures.1 in rw p.1 tt

pub returns-in_err-close-clause-fit : goal.returns-in_err-close-clause-fit
returns-in_err-close-clause-fit g c =
    let left = c.from_residual-in_err-close in
    let p = err_from_is_err_and left.result left.ensures.1 in rw p.1 tt

pub returns-in_err-close-clause-fault : goal.returns-in_err-close-clause-fault
returns-in_err-close-clause-fault g c =
    let left = c.from_residual-in_err-close in
    let p = err_from_is_err_and left.result left.ensures.1 in
    rw (p.1, p.2) (gains_then _ _ _ c.in_ok-count.ensures.gains c.in_err-close.ensures.gains)

pub returns-in_err-close-clause-gains : goal.returns-in_err-close-clause-gains
returns-in_err-close-clause-gains g c =
    gains_then _ _ _ c.in_ok-count.ensures.gains c.in_err-close.ensures.gains

pub returns-clause-whole : goal.returns-clause-whole
returns-clause-whole g c =
    let script = c.args.script.now in
    let r = g.M.PlayMachine.rules in
    let old = c.args.telling.now in
    let ts = script_turns (g.J.Jobs.replies c.args.jobs.now) r script
    (g.M.PlayMachine.world c.args.machine.now) in
    let played = c.in_ok-count.ensures.whole in
    let closed = c.in_ok-close.ensures.prints in
    let ls = closing r script.end (g.M.PlayMachine.world c.moments.new.machine) in
    record {
      told = record {
        text = closed.text ∙ ap (λ t. t ++ report_text ls) played.told.text
            ∙ append_assoc old.text (report_text (turn_lines ts)) (report_text ls)
            ∙ ap (λ t. old.text ++ t) (sym (flat_map-append line_text (turn_lines ts) ls)
            ∙ ap (λ s. report_text (turn_lines ts ++ closing r script.end s)) played.told.state);
        tally = closed.tally ∙ ap (λ t. tallied_all t ls) played.told.tally
            ∙ sym (fold-append tallied old.tally (turn_lines ts) ls)
            ∙ ap (λ s. tallied_all old.tally (turn_lines ts ++ closing r script.end s))
            played.told.state;
        state = played.told.state;
      };
      within = played.within;
    }

pub returns-clause-count : goal.returns-clause-count
returns-clause-count g c = c.in_ok-count.ensures.count

pub returns-clause-fault : goal.returns-clause-fault
returns-clause-fault g c = tt

pub returns-clause-fit : goal.returns-clause-fit
returns-clause-fit g c = c.in_ok-count.ensures.fit

pub returns-clause-gains : goal.returns-clause-gains
returns-clause-gains g c = gains_then _ _ _ c.in_ok-count.ensures.gains c.in_ok-close.ensures.gains
