use Rattle.std.proofs.Common.{◌*◌, ◌∙◌, rules, refl, sym, ap, subst, ℕ, List, length, take}
use Rattle.std.proofs.lemmas.Result.{err_from_is_err_and}
use Rattle.std.proofs.lemmas.List.{length-replicate}
use Rattle.core_plays.proofs.Playable.{playable}
use Rattle.play_driver.proofs.Parts.{as_before}
use Rattle.run_moments.specs.Runs.{BreaksRun, RunsToEnd}
use Rattle.run_moments.proofs.StoryTurns.{broken, to_end}
use Rattle.run_moments.proofs.runs.run_by.Goals as goal

pub run_known-ran-requires-clause-playable : goal.run_known-ran-requires-clause-playable
run_known-ran-requires-clause-playable g c =
    let script = c.args.script.now in
    rw c.in_ok-player.ensures.start
    (playable script c.requires.script _ (length-replicate (script.nodes * script.cpus) _))

pub run_known-ran-requires-clause-few : goal.run_known-ran-requires-clause-few
run_known-ran-requires-clause-few g c =
    λ k m few. (c.requires.script.moments k m few).few_ops

pub run_known-ran-requires-clause-start : goal.run_known-ran-requires-clause-start
run_known-ran-requires-clause-start g c = c.in_ok-player.ensures.start

pub run_known-ran-requires-clause-no_work : goal.run_known-ran-requires-clause-no_work
run_known-ran-requires-clause-no_work g c = c.new-telling.ensures.work

pub run_known-ran-requires-clause-fit : goal.run_known-ran-requires-clause-fit
run_known-ran-requires-clause-fit g c = c.in_ok-player.ensures.in_run

pub returns-in-Some-clause-whole : goal.returns-in-Some-clause-whole
returns-in-Some-clause-whole g c = tt

pub returns-in-Some-clause-fault : goal.returns-in-Some-clause-fault
returns-in-Some-clause-fault g c = (sym c.first_unknown_job.ensures ∙ c.in-Some.is, refl)

pub returns-in_err-player-clause-whole : goal.returns-in_err-player-clause-whole
returns-in_err-player-clause-whole g c =
    let p = err_from_is_err_and c.from_residual.result c.from_residual.ensures.1 in rw p.1 tt

pub returns-in_err-player-clause-fault : goal.returns-in_err-player-clause-fault
returns-in_err-player-clause-fault g c =
    let p = err_from_is_err_and c.from_residual.result c.from_residual.ensures.1 in
    rw (p.1, p.2) refl

pub returns-in-Ok-clause-whole : goal.returns-in-Ok-clause-whole
returns-in-Ok-clause-whole g c =
    let jobs = g.J.Jobs.replies c.args.jobs.now in
    let table = g.J.Jobs.count c.args.jobs.now in
    let script = c.args.script.now in
    let core = c.into_core.result in
    let begun = c.new-telling.ensures.text ∙ c.replace.ensures.value in
    rw c.into_report.ensures
    (subst
    (λ (old : List ℕ). RunsToEnd jobs table script old c.run_known-ran.new.telling.text core)
    begun
    (to_end jobs script table c.new-telling.result.text c.run_known-ran.new.telling.text
    c.in-Ok.player core (sym c.in_default.is ∙ c.first_unknown_job.ensures)
    c.in-Ok.ensures.whole c.into_core.ensures))

pub returns-in-Ok-clause-fault : goal.returns-in-Ok-clause-fault
returns-in-Ok-clause-fault g c = tt

pub returns-in-Err-NoMemory-clause-whole : goal.returns-in-Err-NoMemory-clause-whole
returns-in-Err-NoMemory-clause-whole g c = tt

pub returns-in-Err-NoMemory-clause-fault : goal.returns-in-Err-NoMemory-clause-fault
returns-in-Err-NoMemory-clause-fault g c =
    let begun = c.new-telling.ensures.text ∙ c.replace.ensures.value in
    c.truncate.ensures
    ∙ ap (λ (x : List ℕ). take (length c.text-begin.result.now) x) c.into_report.ensures
    ∙ as_before c.args.report.now c.text-begin.result.now c.new-telling.result.text
    c.run_known-ran.new.telling.text c.text-begin.ensures begun c.run_known-ran.ensures.gains

pub returns-in-Err : goal.returns-in-Err
returns-in-Err g c =
    let jobs = g.J.Jobs.replies c.args.jobs.now in
    let table = g.J.Jobs.count c.args.jobs.now in
    let script = c.args.script.now in
    let begun = c.new-telling.ensures.text ∙ c.replace.ensures.value in
    record {
      whole = tt;
      fault =
          rw c.into_report.ensures
          (subst
          (λ (old : List ℕ). BreaksRun jobs table script c.in-Err.fault old
          c.run_known-ran.new.telling.text)
          begun
          (broken jobs script table c.new-telling.result.text
          c.run_known-ran.new.telling.text c.in-Err.fault (search rules)
          (sym c.in_default.is ∙ c.first_unknown_job.ensures) c.in-Err.ensures.fault));
    }
