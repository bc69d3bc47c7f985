use Rattle.linux_shown.proofs.Digits.{hex_none}
use Rattle.linux_shown.proofs.pieces.+push_hex.Goals as goal

pub returns-then-count-eq0 : goal.returns-then-count-eq0
returns-then-count-eq0 t c =
    hex_none c.args.text.now.items c.args.count c.args.n c.if-count-eq0.true
