use Rattle.std.proofs.Common.{◌∙◌, sym}
use Rattle.walk_inactive.proofs.carrying.carry.Goals as goal

pub retell-requires : goal.retell-requires
retell-requires g c = c.requires.retells (sym c.retells.ensures ∙ c.if-retells.true)

pub carry_for-requires : goal.carry_for-requires
carry_for-requires g c = c.requires.carries (sym c.retells.ensures ∙ c.if-retells.false)
