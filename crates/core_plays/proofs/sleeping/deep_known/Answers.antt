use Rattle.std.proofs.Common.{ℕ, ◌++◌, ◌∙◌, ap, sym}
use Rattle.std.proofs.lemmas.Result.{err_from_is_err_and}
use Rattle.deep_idle.specs.Device.{new_device}
use Rattle.tm_report.specs.Lines.{report_text}
use Rattle.play_rules.specs.Moments.{closing, last_state, turn_lines}
use Rattle.play_rules.specs.Parts.{Gains}
use Rattle.play_rules.proofs.Plays.{gains_none, gains_then}
use Rattle.play_driver.specs.Outcomes.{script_turns}
use Rattle.core_plays.specs.Sleepers.{script_deep}
use Rattle.core_plays.proofs.sleeping.deep_known.Goals as goal

pub deep_moments-requires-clause-by_wakeups : goal.deep_moments-requires-clause-by_wakeups
deep_moments-requires-clause-by_wakeups g c = c.requires.by_wakeups

pub deep_moments-requires-clause-start : goal.deep_moments-requires-clause-start
deep_moments-requires-clause-start g c = c.requires.start

pub deep_moments-requires-clause-playable : goal.deep_moments-requires-clause-playable
deep_moments-requires-clause-playable g c = c.requires.playable

pub deep_moments-requires-clause-no_work : goal.deep_moments-requires-clause-no_work
deep_moments-requires-clause-no_work g c = c.requires.no_work

pub deep_moments-requires-clause-fit : goal.deep_moments-requires-clause-fit
deep_moments-requires-clause-fit g c = c.requires.fit

pub deep_moments-requires-clause-device : goal.deep_moments-requires-clause-device
deep_moments-requires-clause-device g c =
    rw (c.in_ok-device.ensures, c.cpus.ensures.count) c.requires.awake

pub returns-in_err-device-clause-whole : goal.returns-in_err-device-clause-whole
returns-in_err-device-clause-whole g c =
    let p = err_from_is_err_and c.from_residual.result c.from_residual.ensures.1 in rw p.1 tt

pub returns-in_err-device-clause-fault : goal.returns-in_err-device-clause-fault
returns-in_err-device-clause-fault g c =
    let p = err_from_is_err_and c.from_residual.result c.from_residual.ensures.1 in
    rw (p.1, p.2) (gains_none c.args.telling.now.text)

pub returns-in_err-deep_moments-clause-whole : goal.returns-in_err-deep_moments-clause-whole
returns-in_err-deep_moments-clause-whole g c =
    let left = c.from_residual-in_err-deep_moments in
    let p = err_from_is_err_and left.result left.ensures.1 in rw p.1 tt

pub returns-in_err-deep_moments-clause-fault : goal.returns-in_err-deep_moments-clause-fault
returns-in_err-deep_moments-clause-fault g c =
    let left = c.from_residual-in_err-deep_moments in
    let p = err_from_is_err_and left.result left.ensures.1 in
    let same = c.in_ok-device.ensures ∙ ap (λ (n : ℕ). new_device n) c.cpus.ensures.count in
    rw (p.1, p.2, sym same) c.in_err-deep_moments.ensures.fault

pub returns-in_err-close-clause-whole : goal.returns-in_err-close-clause-whole
returns-in_err-close-clause-whole g c =
    let left = c.from_residual-in_err-close in
    let p = err_from_is_err_and left.result left.ensures.1 in rw p.1 tt

pub returns-clause-fault : goal.returns-clause-fault
returns-clause-fault g c = tt

pub returns-in_err-close-clause-fault : goal.returns-in_err-close-clause-fault
returns-in_err-close-clause-fault g c =
    let left = c.from_residual-in_err-close in
    let p = err_from_is_err_and left.result left.ensures.1 in
    let gains : Gains c.args.telling.now.text c.deep_moments.new.telling.text =
    (_, c.in_ok-deep_moments.ensures.whole.text) in
    rw (p.1, p.2) (gains_then _ _ _ gains c.in_err-close.ensures.gains)

pub returns-clause-whole : goal.returns-clause-whole
returns-clause-whole g c =
    let script = c.args.script.now in
    let jobs = g.J.Jobs.replies c.args.jobs.now in
    let r = g.M.PlayMachine.rules in
    let start = g.M.PlayMachine.world c.args.machine.now in
    let old = c.args.telling.now.text in
    let mid = c.deep_moments.new.telling.text in
    let same = c.in_ok-device.ensures ∙ ap (λ (n : ℕ). new_device n) c.cpus.ensures.count in
    let played = c.in_ok-deep_moments.ensures.whole in
    let told = played.text
    ∙ ap (λ d. old ++ report_text (turn_lines (script_deep jobs r script d start))) same in
    let last = last_state start (script_turns jobs r script start) in
    record {
      text = c.in_ok-close.ensures.prints.text
          ∙ ap (λ s. mid ++ report_text (closing r script.end s)) played.state
          ∙ ap (λ t. t ++ report_text (closing r script.end last)) told;
      within = played.within;
    }
