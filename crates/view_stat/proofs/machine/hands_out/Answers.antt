use Rattle.std.proofs.Common.{◌∙◌}
use Rattle.view_stat.proofs.Dues.{due_hands_out}
use Rattle.view_stat.proofs.machine.hands_out.Goals as goal

pub returns : goal.returns
returns c = c.is_due.ensures ∙ due_hands_out c.args.player.now c.args.home.0 c.args.class
