use Rattle.std.proofs.Common.{ℕ, List, arith, ap, length, take, ◌++◌, ◌∙◌}
use Rattle.tm_report.specs.Lines.{report_text}
use Rattle.play_rules.specs.Moments.{moment}
use Rattle.play_rules.specs.Tallies.{tallied_all}
use Rattle.play_rules.specs.declared.tally.Tally.{Tally}
use Rattle.play_driver.specs.Outcomes.{moment_of}
use Rattle.play_driver.proofs.Scripts.{found_in_range}
use Rattle.play_driver.proofs.Parts.{as_before}
use Rattle.play_driver.proofs.moments.moment_by_itself.Goals as goal

pub moment-played-requires-clause-in_range : goal.moment-played-requires-clause-in_range
moment-played-requires-clause-in_range g c =
    rw (c.set_clock.ensures.cpus, c.set_clock.ensures.timers)
    (found_in_range _ _ _ _ (c.moment_of-due.ensures ∙ ap (moment_of c.args.at) c.as_slice.ensures)
    c.requires.playable.in_range)

pub set_clock-requires-clause-in_time : goal.set_clock-requires-clause-in_time
set_clock-requires-clause-in_time g c =
    omega (arith, c.requires.by_end, c.requires.playable.in_time)

pub moment-played-requires-clause-online : goal.moment-played-requires-clause-online
moment-played-requires-clause-online g c = rw c.set_clock.ensures.state c.requires.online

pub truncate-requires : goal.truncate-requires
truncate-requires g c = tt

pub returns-in-Ok-clause-plays : goal.returns-in-Ok-clause-plays
returns-in-Ok-clause-plays g c =
    let r = g.M.PlayMachine.rules in
    let p = moment (g.J.Jobs.replies c.args.jobs.now) r c.args.interrupts.now
    (moment_of c.args.at c.args.script.now.moments)
    (r.at_clock c.args.at (g.M.PlayMachine.world c.args.machine.now)) in
    let begun = c.new-telling.ensures.text ∙ c.replace.ensures.value in
    let told = rw (c.set_clock.ensures.state, c.moment_of-due.ensures, c.as_slice.ensures)
    at c.in-Ok.ensures.prints in
    record {
      text = c.into_report.ensures ∙ told.text
          ∙ ap (λ (t : List ℕ). t ++ report_text p.lines) begun;
      hand_outs_are = ap (λ (t : Tally). t.runs) (c.tally-runs.ensures ∙ told.tally
          ∙ ap (λ t. tallied_all t p.lines) c.new-telling.ensures.tally);
      state = told.state;
    }

pub returns-in-Ok-clause-clock : goal.returns-in-Ok-clause-clock
returns-in-Ok-clause-clock g c = c.in-Ok.ensures.same.clock ∙ c.set_clock.ensures.clock

pub returns-in-Ok-clause-same : goal.returns-in-Ok-clause-same
returns-in-Ok-clause-same g c =
    let same = c.in-Ok.ensures.same in
    record {
      timers = same.timers ∙ c.set_clock.ensures.timers;
      cpus = same.cpus ∙ c.set_clock.ensures.cpus;
    }

pub returns-in-Err-clause-err : goal.returns-in-Err-clause-err
returns-in-Err-clause-err g c =
    let begun = c.new-telling.ensures.text ∙ c.replace.ensures.value in
    c.truncate.ensures
    ∙ ap (λ (x : List ℕ). take (length c.text-begin.result.now) x) c.into_report.ensures
    ∙ as_before c.args.report.now c.text-begin.result.now c.new-telling.result.text
    c.moment-played.new.telling.text c.text-begin.ensures begun c.in-Err.ensures.gains
