use Rattle.std.proofs.Common.{ℕ, List, rules, refl, sym, ap, subst, length, take, ◌++◌, ◌∙◌}
use Rattle.tm_report.specs.Lines.{report_text}
use Rattle.play_rules.specs.Moments.{whole_lines}
use Rattle.play_rules.specs.Tallies.{tallied_all}
use Rattle.play_driver.specs.Outcomes.{SaysFault, script_turns}
use Rattle.play_driver.proofs.Parts.{as_before}
use Rattle.play_driver.proofs.Unheard.{fault_told}
use Rattle.play_driver.proofs.playing.play_on.Goals as goal

pub returns-in-Some-clause-fault : goal.returns-in-Some-clause-fault
returns-in-Some-clause-fault g c = (sym c.first_unknown_job.ensures ∙ c.in-Some.is, refl)

pub play_known-played-requires-clause-start : goal.play_known-played-requires-clause-start
play_known-played-requires-clause-start g c = c.requires.start

pub play_known-played-requires-clause-no_work : goal.play_known-played-requires-clause-no_work
play_known-played-requires-clause-no_work g c = c.new-telling.ensures.work

pub truncate-requires : goal.truncate-requires
truncate-requires g c = tt

pub returns-in-Ok-clause-whole : goal.returns-in-Ok-clause-whole
returns-in-Ok-clause-whole g c =
    let r = g.M.PlayMachine.rules in
    let script = c.args.script.now in
    let start = g.M.PlayMachine.world c.args.machine.now in
    let ts = script_turns (g.J.Jobs.replies c.args.jobs.now) r script start in
    let ls = whole_lines r script.end start ts in
    let done = c.in-Ok.ensures in
    let begun = c.new-telling.ensures.text ∙ c.replace.ensures.value in
    record {
      text = c.into_report.ensures ∙ done.whole.told.text
          ∙ ap (λ (t : List ℕ). t ++ report_text ls) begun;
      moments = done.count;
      lines = c.tally-lines.ensures ∙ done.whole.told.tally
          ∙ ap (λ t. tallied_all t ls) c.new-telling.ensures.tally;
      state = done.whole.told.state;
      known = sym c.first_unknown_job.ensures ∙ c.in_default.is;
      within = done.whole.within;
    }

pub returns-in-Ok-clause-fit : goal.returns-in-Ok-clause-fit
returns-in-Ok-clause-fit g c = c.in-Ok.ensures.fit

pub returns-in-Err-NoMemory-clause-fault : goal.returns-in-Err-NoMemory-clause-fault
returns-in-Err-NoMemory-clause-fault g c =
    let begun = c.new-telling.ensures.text ∙ c.replace.ensures.value in
    c.truncate.ensures
    ∙ ap (λ (x : List ℕ). take (length c.text-begin.result.now) x) c.into_report.ensures
    ∙ as_before c.args.report.now c.text-begin.result.now c.new-telling.result.text
    c.play_known-played.new.telling.text c.text-begin.ensures begun
    c.play_known-played.ensures.gains

pub returns-in-Err : goal.returns-in-Err
returns-in-Err g c =
    let r = g.M.PlayMachine.rules in
    let jobs = g.J.Jobs.replies c.args.jobs.now in
    let table = g.J.Jobs.count c.args.jobs.now in
    let script = c.args.script.now in
    let start = g.M.PlayMachine.world c.args.machine.now in
    let new = c.play_known-played.new.telling.text in
    let begun = c.new-telling.ensures.text ∙ c.replace.ensures.value in
    record {
      whole = tt;
      fault = rw c.into_report.ensures
          (subst
          (λ (old : List ℕ). SaysFault r jobs table script start c.in-Err.fault old new) begun
          (fault_told r jobs table script start (sym c.first_unknown_job.ensures ∙ c.in_default.is)
          c.new-telling.result.text new c.in-Err.fault (search rules) c.in-Err.ensures.fault));
      fit = tt;
    }

pub returns-in-Some-clause-whole : goal.returns-in-Some-clause-whole
returns-in-Some-clause-whole g c = tt

pub returns-in-Some-clause-fit : goal.returns-in-Some-clause-fit
returns-in-Some-clause-fit g c = tt

pub play_known-played-requires-clause-playable : goal.play_known-played-requires-clause-playable
play_known-played-requires-clause-playable g c = c.requires.playable

pub play_known-played-requires-clause-fit : goal.play_known-played-requires-clause-fit
play_known-played-requires-clause-fit g c = c.requires.fit

pub returns-in-Ok-clause-fault : goal.returns-in-Ok-clause-fault
returns-in-Ok-clause-fault g c = tt

pub returns-in-Err-NoMemory-clause-whole : goal.returns-in-Err-NoMemory-clause-whole
returns-in-Err-NoMemory-clause-whole g c = tt

pub returns-in-Err-NoMemory-clause-fit : goal.returns-in-Err-NoMemory-clause-fit
returns-in-Err-NoMemory-clause-fit g c = tt
