use Rattle.std.proofs.Common.{◌∷◌, [], refl, sym, ap, ◌∙◌}
use Rattle.shared_rule.specs.Rule.{Me, seat_of}
use Rattle.shared_rule.specs.Whole.{no_looks}
use Rattle.shared_rule.specs.Parts.{box_held}
use Rattle.shared_rule.proofs.box_part.BoxPart.new.Goals as goal

pub meet-requires-clause-part : goal.meet-requires-clause-part
meet-requires-clause-part g c =
    let b = box_held g.N.RunName.opening c.args.cpu.0 c.args.status c.args.bases.plain c.args.leaf 0 no_looks in
    let none = ap (λ (z : Me). z.0.passes) c.requires.view in
    (b, refl, c.requires.view ∙ ap (seat_of (b ∷ [])) (sym none))
