use Rattle.core_parts.proofs.Ranges.{first_active}
use Rattle.core_parts.proofs.group.CoreGroup.new.Goals as goal

pub invariant_of-result : goal.invariant_of-result
invariant_of-result c =
    rw c.all_of.ensures (first_active c.args.children c.requires.some c.requires.few)
