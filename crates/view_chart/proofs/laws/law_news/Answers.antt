use Rattle.view_chart.proofs.NewsLaws.{news_right}
use Rattle.view_chart.proofs.laws.law_news.Goals as goal

pub returns : goal.returns
returns c = news_right
