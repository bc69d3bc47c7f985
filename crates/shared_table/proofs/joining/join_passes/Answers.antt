use Rattle.std.proofs.Common.{◌≡◌, [], ap, arith, length, subst, sym, ◌∙◌}
use Rattle.std.proofs.lemmas.List.{nil_from_length}
use Rattle.shared_rule.specs.Rule.{Each}
use Rattle.shared_rule.specs.Passes.{IsOfRun}
use Rattle.shared_table.specs.Joined.{with_passes}
use Rattle.shared_table.proofs.Together.{each_first, each_later, one_pass, with_none}
use Rattle.shared_table.proofs.joining.join_passes.Goals as goal

pub take_pass-requires-clause-pass : goal.take_pass-requires-clause-pass
take_pass-requires-clause-pass g c =
    each_first (IsOfRun g.N.RunName.table) c.loop-pass.pass-iterator.rest.items c.in-Some.pass
    c.next.new.self.rest.items c.in-Some.ensures.steps.0 c.loop-pass.invariant.of_run

pub loop-pass-preserved : goal.loop-pass-preserved
loop-pass-preserved g c =
    let rest = c.loop-pass.pass-iterator.rest.items in
    let later = c.next.new.self.rest.items in
    let steps = c.in-Some.ensures.steps.0 in
    record {
      seated = c.take_pass.ensures.table;
      of_run = each_later (IsOfRun g.N.RunName.table) rest c.in-Some.pass later steps
          c.loop-pass.invariant.of_run;
      joined = one_pass c.loop-pass.seat.me c.take_pass.new.seat.me c.args.seat.now.me rest
          c.in-Some.pass later c.args.passes.items steps c.take_pass.ensures.joined
          c.loop-pass.invariant.joined;
    }

pub loop-pass-init : goal.loop-pass-init
loop-pass-init g c =
    let same = c.into_iter-pass-iterator.ensures.into_iter_gives.0 in
    record {
      seated = c.requires.table;
      of_run = subst (Each (IsOfRun g.N.RunName.table)) (sym same) c.requires.passes;
      joined = ap (with_passes c.args.seat.now.me) same;
    }

pub take_pass-requires-clause-table : goal.take_pass-requires-clause-table
take_pass-requires-clause-table g c = c.loop-pass.invariant.seated

pub loop-pass-smaller : goal.loop-pass-smaller
loop-pass-smaller g c =
    let rest = c.loop-pass.pass-iterator.rest in
    let later = c.next.new.self.rest in
    let steps = ap length c.in-Some.ensures.steps.0 in
    omega (arith, rest.ok.0, later.ok.0, steps)

pub returns-clause-table : goal.returns-clause-table
returns-clause-table g c = c.loop-pass.invariant.seated

pub returns-clause-joined : goal.returns-clause-joined
returns-clause-joined g c =
    let rest = c.loop-pass.pass-iterator.rest in
    let me = c.loop-pass.seat.me in
    let none : rest.items ≡ []
    = nil_from_length rest.items (sym rest.ok.0 ∙ c.in-None.ensures.steps.0) in
    sym (with_none me) ∙ (ap (with_passes me) (sym none) ∙ c.loop-pass.invariant.joined)
