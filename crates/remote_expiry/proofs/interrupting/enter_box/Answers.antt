use Rattle.std.proofs.Common.{sym, ap, ◌∙◌}
use Rattle.walk_inactive.specs.shared_rule.Parts.{HeldPart}
use Rattle.remote_expiry.proofs.interrupting.enter_box.Goals as goal

pub enter_part-requires-clause-own : goal.enter_part-requires-clause-own
enter_part-requires-clause-own g c =
    c.requires.own ∙ sym (ap (λ (z : HeldPart). z.box.cpu) c.cpu_box.view_is)

pub enter_part-requires-clause-free : goal.enter_part-requires-clause-free
enter_part-requires-clause-free g c = c.cpu_box.invariant

pub invariant_of-cpu_box : goal.invariant_of-cpu_box
invariant_of-cpu_box g c = c.enter_part.ensures.free

pub enter_part-requires-clause-enterable : goal.enter_part-requires-clause-enterable
enter_part-requires-clause-enterable g c = c.requires.enterable

pub returns : goal.returns
returns g c = c.enter_part.ensures.done
