use Rattle.std.proofs.Common.{sym, ap, ◌∙◌}
use Rattle.walk_inactive.specs.shared_rule.Parts.{HeldPart}
use Rattle.remote_expiry.proofs.interrupting.end_box.Goals as goal

pub end_part-requires-clause-own : goal.end_part-requires-clause-own
end_part-requires-clause-own g c =
    c.requires.own ∙ sym (ap (λ (z : HeldPart). z.box.cpu) c.cpu_box.view_is)

pub end_part-requires-clause-free : goal.end_part-requires-clause-free
end_part-requires-clause-free g c = c.cpu_box.invariant

pub invariant_of-cpu_box : goal.invariant_of-cpu_box
invariant_of-cpu_box g c = c.end_part.ensures.free

pub end_part-requires-clause-at_work : goal.end_part-requires-clause-at_work
end_part-requires-clause-at_work g c = c.requires.at_work

pub returns : goal.returns
returns g c = c.end_part.ensures.closed
