use Rattle.std.proofs.Common.{◌∙◌, arith, inl, inr, subst, sym, true≢false}
use Rattle.std.proofs.lemmas.Bool.{false≢true}
use Rattle.trace_check.specs.Told.{MeetsBelow}
use Rattle.trace_check.proofs.CarryLaws.{none_sees, one_sees, sees_one}
use Rattle.trace_check.proofs.carrying.sees_to.Goals as goal

pub returns-in_default : goal.returns-in_default
returns-in_default g c = (
  λ yes. absurd (false≢true yes),
  λ sees. absurd (none_sees c.args.core.now c.args.other.0
      (sym c.walk.ensures ∙ c.in_default.is) sees.group sees.sees),
)

pub edge_level-requires : goal.edge_level-requires
edge_level-requires g c =
    let low = c.kept.ensures.low c.args.other.0 c.in-Some.walk
    (sym c.walk.ensures ∙ c.in-Some.is) in omega (arith, low)

pub returns-then-meets : goal.returns-then-meets
returns-then-meets g c =
    let w = c.args.core.now in (
      λ meets.
          one_sees w c.args.other.0 c.in-Some.walk (sym c.walk.ensures ∙ c.in-Some.is)
          c.args.cpu.0 c.args.level
          (inl (subst (λ o. MeetsBelow w c.args.other.0 o c.args.cpu.0 c.args.level)
          c.edge_level.ensures (c.meets.ensures.0 meets))),
      λ sees. c.if-meets.true,
    )

pub returns-then-meets-2 : goal.returns-then-meets-2
returns-then-meets-2 g c =
    let w = c.args.core.now in (
      λ meets.
          one_sees w c.args.other.0 c.in-Some.walk (sym c.walk.ensures ∙ c.in-Some.is)
          c.args.cpu.0 c.args.level
          (inr (inl (subst (λ o. MeetsBelow w c.args.other.0 o c.args.cpu.0 c.args.level)
          c.will_tell_level.ensures (c.meets-else-meets.ensures.0 meets)))),
      λ sees. c.if-meets-2.true,
    )

pub returns-else-meets-2 : goal.returns-else-meets-2
returns-else-meets-2 g c =
    let w = c.args.core.now in (
      λ tells.
          one_sees w c.args.other.0 c.in-Some.walk (sym c.walk.ensures ∙ c.in-Some.is)
          c.args.cpu.0 c.args.level
          (inr (inr (subst (λ o. MeetsBelow w c.args.other.0 o c.args.cpu.0 c.args.level)
          c.tells_level.ensures (c.meets-else-meets-2.ensures.0 tells)))),
      λ sees.
          elim (sees_one w c.args.other.0 c.in-Some.walk (sym c.walk.ensures ∙ c.in-Some.is)
          c.args.cpu.0 c.args.level sees) [
            | inl edge ↦
                absurd (true≢false (sym (c.meets.ensures.1 (subst (λ o. MeetsBelow w c.args.other.0 o c.args.cpu.0 c.args.level)
                (sym c.edge_level.ensures) edge))
                ∙ c.if-meets.false))
            | inr (inl will) ↦
                absurd (true≢false
                (sym (c.meets-else-meets.ensures.1 (subst (λ o. MeetsBelow w c.args.other.0 o c.args.cpu.0 c.args.level)
                (sym c.will_tell_level.ensures) will))
                ∙ c.if-meets-2.false))
            | inr (inr tells) ↦
                c.meets-else-meets-2.ensures.1 (subst (λ o. MeetsBelow w c.args.other.0 o c.args.cpu.0 c.args.level)
                (sym c.tells_level.ensures) tells)
          ],
    )
