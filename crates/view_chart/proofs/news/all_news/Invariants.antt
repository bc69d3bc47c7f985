use Rattle.std.proofs.Common.{◌≡◌}
use Rattle.view_chart.specs.News.{news_below}
use Rattle.view_chart.proofs.news.all_news.Given as goal

abbrev pub invariant-loop-number : goal.invariant-loop-number
invariant-loop-number l =
    record { news : l.notes.items ≡ news_below l.window l.number l.lines }
