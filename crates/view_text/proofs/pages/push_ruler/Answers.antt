use Rattle.view_text.proofs.Steps.{ruler_end}
use Rattle.view_text.proofs.pages.push_ruler.Goals as goal

pub returns : goal.returns
returns c =
    ruler_end c.args.begin c.loop-point.at c.loop-point.point-index c.args.points.now
    c.loop-point.text.items c.push_words.new.text.items _ c.loop-point-test.false
    c.loop-point.invariant.text c.in_ok-push_words.ensures
