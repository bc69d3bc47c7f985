use Rattle.std.proofs.Common.{arith, subst, sym}
use Rattle.delayed_work.specs.Playable.{AreInRange}
use Rattle.delayed_work.proofs.Plays.{expired_in_play, few_runs, keeps_then}
use Rattle.delayed_work.proofs.player.Player.moment.Goals as goal

pub do_all-requires-clause-works : goal.do_all-requires-clause-works
do_all-requires-clause-works g c =
    let expired = expired_in_play c.args.now c.args.self.now _ c.expire.new.self _ c.in_ok-expire.ensures.after c.self.view_is in
    subst (λ n. AreInRange n c.args.ops.now) (sym expired.len) c.requires.works

pub overflow_add-result : goal.overflow_add-result
overflow_add-result g c =
    let expired = expired_in_play c.args.now c.args.self.now _ c.expire.new.self _ c.in_ok-expire.ensures.after c.self.view_is in
    let few = few_runs c.args.now c.args.self.now _ c.do_all.new.self _ _ c.ready_len-ready.result expired c.in_ok-do_all.ensures.keeps c.self-2.view_is c.len-works.ensures.lawful c.ready_len-ready.ensures in
    omega (arith, few.1)

pub returns-clause-few : goal.returns-clause-few
returns-clause-few g c =
    let expired = expired_in_play c.args.now c.args.self.now _ c.expire.new.self _ c.in_ok-expire.ensures.after c.self.view_is in
    let few = few_runs c.args.now c.args.self.now _ c.do_all.new.self _ _ c.ready_len-ready.result expired c.in_ok-do_all.ensures.keeps c.self-2.view_is c.len-works.ensures.lawful c.ready_len-ready.ensures in
    omega (arith, few.0)

pub returns-clause-keeps : goal.returns-clause-keeps
returns-clause-keeps g c =
    let expired = expired_in_play c.args.now c.args.self.now _ c.expire.new.self _ c.in_ok-expire.ensures.after c.self.view_is in
    let before = keeps_then c.args.now c.args.self.now _ c.do_all.new.self expired c.in_ok-do_all.ensures.keeps in
    keeps_then c.args.now c.args.self.now c.do_all.new.self c.run_all.new.self before
    c.in_ok-run_all.ensures.keeps
