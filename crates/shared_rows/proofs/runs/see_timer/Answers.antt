use Rattle.shared_words.specs.Layout.{index_of}
use Rattle.shared_words.specs.declared.layout.SharedWord.TheVariants.{Timer}
use Rattle.shared_table.specs.shared_rule.Whole.{layout_of}
use Rattle.shared_rows.proofs.Looks.{run_stays, seen_stays}
use Rattle.shared_rows.proofs.runs.see_timer.Goals as goal

pub returns-clause-run : goal.returns-clause-run
returns-clause-run g c =
    run_stays g.N.RunName.table
    (index_of (layout_of g.N.RunName.opening) (Timer c.args.timer)) c.see.result c.args.pass.now
    c.see.new.self c.see.ensures c.requires.run

pub returns-clause-stays : goal.returns-clause-stays
returns-clause-stays g c =
    seen_stays g.N.RunName.table
    (index_of (layout_of g.N.RunName.opening) (Timer c.args.timer)) c.see.result c.args.pass.now
    c.see.new.self c.see.ensures
