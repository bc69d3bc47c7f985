use Rattle.std.proofs.Common.{◌∙◌, List, refl, subst, take}
use Rattle.std.proofs.lemmas.List.{take_all, take_more}
use Rattle.wheel_core.specs.declared.item.Item.{Item}
use Rattle.shared_acts.proofs.Gaining.{still_inside}
use Rattle.remote_expiry.proofs.JobLoop.{RunsSoFar, all_runs, no_runs, runs_more}
use Rattle.remote_expiry.proofs.jobs.run_all.Goals as goal

pub loop-item-init : goal.loop-item-init
loop-item-init g c = record {
  so_far = no_runs g.N.RunName.table g.N.RunName.opening (g.J.Jobs.replies c.args.jobs.now)
      c.args.home.0 c.args.pass.now c.args.runs.now.runs c.requires.inside.pass
      c.requires.inside.seated tt;
  capacity = refl;
}

pub run_told-told-requires-clause-inside : goal.run_told-told-requires-clause-inside
run_told-told-requires-clause-inside g c =
    let so_far = c.loop-item.invariant.so_far in
    still_inside g.N.RunName.table g.N.RunName.opening c.args.pass.now c.loop-item.pass
    so_far.receipts so_far.did 0 c.requires.inside so_far.piece

pub loop-item-preserved : goal.loop-item-preserved
loop-item-preserved g c = record {
  so_far = runs_more g.N.RunName.table g.N.RunName.opening (g.J.Jobs.replies c.args.jobs.now)
      c.args.home.0 c.args.pass.now c.args.runs.now.runs
      (take c.loop-item.item-index c.args.items.now) _ _ c.loop-item.pass c.run_told-told.new.pass
      c.loop-item.runs.runs c.run_told-told.new.runs.runs c.loop-item.ended c.run_told-told.result _
      c.loop-item.invariant.so_far c.run_told-told.ensures.told c.and-ended.ensures
      (take_more c.args.items.now c.loop-item.item-index _ c.loop-item-test.true);
  capacity = c.run_told-told.ensures.capacity ∙ c.loop-item.invariant.capacity;
}

pub returns : goal.returns
returns g c =
    let table = g.N.RunName.table in
    let o = g.N.RunName.opening in
    let jobs = g.J.Jobs.replies c.args.jobs.now in
    let held = c.args.pass.now in
    let before = c.args.runs.now.runs in
    all_runs table o jobs c.args.home.0 held before c.args.items.now c.loop-item.pass
    c.loop-item.runs.runs c.loop-item.ended
    (subst (λ (xs : List Item). RunsSoFar table o jobs c.args.home.0 xs held c.loop-item.pass before
    c.loop-item.runs.runs c.loop-item.ended)
    (take_all c.loop-item.item-index c.args.items.now c.loop-item-test.false)
    c.loop-item.invariant.so_far)

pub run_told-told-requires-clause-now : goal.run_told-told-requires-clause-now
run_told-told-requires-clause-now g c = c.requires.now

pub run_told-told-requires-clause-in_time : goal.run_told-told-requires-clause-in_time
run_told-told-requires-clause-in_time g c = c.requires.in_time
