use Rattle.std.proofs.Common.{subst}
use Rattle.view_main.specs.Ends.{Runs, ViewsBy}
use Rattle.view_main.proofs.program.run_views.Goals as goal

pub returns-in-Other : goal.returns-in-Other
returns-in-Other g c =
    subst
    (λ command. ViewsBy command c.args.words.now (g.S.Source.seen c.args.source.now)
    (g.S.Source.seen c.run_view.new.source) (g.K.Sink.seen c.args.sink.now)
    (g.K.Sink.seen c.run_view.new.sink) c.run_view.result)
    c.in-Other.ensures c.run_view.ensures

pub returns-in-Chart : goal.returns-in-Chart
returns-in-Chart g c =
    subst
    (λ command. ViewsBy command c.args.words.now (g.S.Source.seen c.args.source.now)
    (g.S.Source.seen c.run_command.new.source) (g.K.Sink.seen c.args.sink.now)
    (g.K.Sink.seen c.run_command.new.sink) c.run_command.result)
    c.in-Chart.ensures
    (subst
    (λ command. Runs command (g.S.Source.seen c.args.source.now)
    (g.S.Source.seen c.run_command.new.source) (g.K.Sink.seen c.args.sink.now)
    (g.K.Sink.seen c.run_command.new.sink) c.run_command.result)
    c.in-Chart.is c.run_command.ensures)

pub returns-in-Explain : goal.returns-in-Explain
returns-in-Explain g c =
    subst
    (λ command. ViewsBy command c.args.words.now (g.S.Source.seen c.args.source.now)
    (g.S.Source.seen c.run_command-in-Explain.new.source) (g.K.Sink.seen c.args.sink.now)
    (g.K.Sink.seen c.run_command-in-Explain.new.sink) c.run_command-in-Explain.result)
    c.in-Explain.ensures
    (subst
    (λ command. Runs command (g.S.Source.seen c.args.source.now)
    (g.S.Source.seen c.run_command-in-Explain.new.source) (g.K.Sink.seen c.args.sink.now)
    (g.K.Sink.seen c.run_command-in-Explain.new.sink) c.run_command-in-Explain.result)
    c.in-Explain.is c.run_command-in-Explain.ensures)

pub returns-in-All : goal.returns-in-All
returns-in-All g c =
    subst
    (λ command. ViewsBy command c.args.words.now (g.S.Source.seen c.args.source.now)
    (g.S.Source.seen c.run_command-in-All.new.source) (g.K.Sink.seen c.args.sink.now)
    (g.K.Sink.seen c.run_command-in-All.new.sink) c.run_command-in-All.result)
    c.in-All.ensures
    (subst
    (λ command. Runs command (g.S.Source.seen c.args.source.now)
    (g.S.Source.seen c.run_command-in-All.new.source) (g.K.Sink.seen c.args.sink.now)
    (g.K.Sink.seen c.run_command-in-All.new.sink) c.run_command-in-All.result)
    c.in-All.is c.run_command-in-All.ensures)

pub returns-in-Stat : goal.returns-in-Stat
returns-in-Stat g c =
    subst
    (λ command. ViewsBy command c.args.words.now (g.S.Source.seen c.args.source.now)
    (g.S.Source.seen c.run_command-in-Stat.new.source) (g.K.Sink.seen c.args.sink.now)
    (g.K.Sink.seen c.run_command-in-Stat.new.sink) c.run_command-in-Stat.result)
    c.in-Stat.ensures
    (subst
    (λ command. Runs command (g.S.Source.seen c.args.source.now)
    (g.S.Source.seen c.run_command-in-Stat.new.source) (g.K.Sink.seen c.args.sink.now)
    (g.K.Sink.seen c.run_command-in-Stat.new.sink) c.run_command-in-Stat.result)
    c.in-Stat.is c.run_command-in-Stat.ensures)

pub returns-in-Alone : goal.returns-in-Alone
returns-in-Alone g c =
    subst
    (λ command. ViewsBy command c.args.words.now (g.S.Source.seen c.args.source.now)
    (g.S.Source.seen c.run_command-in-Alone.new.source) (g.K.Sink.seen c.args.sink.now)
    (g.K.Sink.seen c.run_command-in-Alone.new.sink) c.run_command-in-Alone.result)
    c.in-Alone.ensures
    (subst
    (λ command. Runs command (g.S.Source.seen c.args.source.now)
    (g.S.Source.seen c.run_command-in-Alone.new.source) (g.K.Sink.seen c.args.sink.now)
    (g.K.Sink.seen c.run_command-in-Alone.new.sink) c.run_command-in-Alone.result)
    c.in-Alone.is c.run_command-in-Alone.ensures)
