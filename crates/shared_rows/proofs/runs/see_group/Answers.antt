use Rattle.shared_words.specs.Layout.{index_of}
use Rattle.shared_table.specs.shared_rule.Whole.{layout_of, state_at}
use Rattle.shared_rows.proofs.Looks.{run_stays, seen_stays}
use Rattle.shared_rows.proofs.runs.see_group.Goals as goal

pub returns-clause-run : goal.returns-clause-run
returns-clause-run g c =
    run_stays g.N.RunName.table
    (index_of (layout_of g.N.RunName.opening) (state_at c.args.group.0)) c.see_state.result
    c.args.pass.now c.see_state.new.self c.see_state.ensures.remembered c.requires.run

pub returns-clause-stays : goal.returns-clause-stays
returns-clause-stays g c =
    seen_stays g.N.RunName.table
    (index_of (layout_of g.N.RunName.opening) (state_at c.args.group.0)) c.see_state.result
    c.args.pass.now c.see_state.new.self c.see_state.ensures.remembered
