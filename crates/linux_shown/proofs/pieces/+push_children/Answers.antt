use Rattle.linux_shown.proofs.Digits.{children_none}
use Rattle.linux_shown.proofs.pieces.+push_children.Goals as goal

pub returns-then-count-eq0 : goal.returns-then-count-eq0
returns-then-count-eq0 t c =
    children_none c.args.text.now.items c.args.count c.args.active c.if-count-eq0.true
