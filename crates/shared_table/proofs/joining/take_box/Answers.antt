use Rattle.std.proofs.Common.{[], ◌∷◌, ap, subst, ◌∙◌}
use Rattle.shared_rule.specs.Rule.{Me, seen, together}
use Rattle.shared_rule.specs.Parts.{HeldPart}
use Rattle.shared_table.specs.Begun.{IsFree}
use Rattle.shared_table.specs.Ended.{BeganWith}
use Rattle.shared_table.proofs.joining.take_box.Goals as goal

pub into_parts-bases-requires : goal.into_parts-bases-requires
into_parts-bases-requires g c = c.cpu_box.invariant.alone

pub take_in-requires-clause-table : goal.take_in-requires-clause-table
take_in-requires-clause-table g c = c.requires

pub take_in-requires-clause-other : goal.take_in-requires-clause-other
take_in-requires-clause-other g c = c.into_parts-bases.ensures.table

pub take_in-requires-clause-slots : goal.take_in-requires-clause-slots
take_in-requires-clause-slots g c = ap (λ (m : Me). m.1) c.into_parts-bases.ensures.view

pub returns-clause-table : goal.returns-clause-table
returns-clause-table g c = c.take_in.ensures.table

pub returns-clause-joined : goal.returns-clause-joined
returns-clause-joined g c =
    let m = c.args.seat.now.me in
    c.take_in.ensures.joined
    ∙ (ap (λ (k : Me). (together m.0 k.0, m.1)) c.into_parts-bases.ensures.view
    ∙ ap (λ (z : HeldPart). (together m.0 (seen (z.box ∷ []) []), m.1)) c.cpu_box.view_is)

pub returns-clause-own : goal.returns-clause-own
returns-clause-own g c =
    c.from_parts.ensures
    ∙ (c.into_parts-bases.ensures.own ∙ ap (λ (z : HeldPart). z.box.own) c.cpu_box.view_is)

pub returns-clause-free : goal.returns-clause-free
returns-clause-free g c = subst IsFree c.cpu_box.view_is c.cpu_box.invariant

pub returns-clause-began : goal.returns-clause-began
returns-clause-began g c =
    subst (λ (z : HeldPart). BeganWith g.N.RunName.opening z) c.cpu_box.view_is c.law_began.ensures
