use Rattle.std.proofs.Common.{◌≡◌, None, Some, ap, sym, subst, ◌∙◌, arith}
use Rattle.std.specs.Prelude.{option_and_then}
use Rattle.std.proofs.lemmas.Bool.{eq-eqb, eqb-true, false≢true}
use Rattle.std.proofs.lemmas.Option.{none-some}
use Rattle.tree_plan.specs.Paths.{group_at_of}
use Rattle.trace_check.specs.Told.{MeetsBelow}
use Rattle.trace_check.proofs.CarryLaws.{meet_once, meeting_is}
use Rattle.trace_check.proofs.ToldLaws.{path_from}
use Rattle.trace_check.proofs.carrying.meets.Goals as goal

pub returns-in_default : goal.returns-in_default
returns-in_default g c = (
  λ yes. absurd (false≢true yes),
  λ meets.
      let m = subst (λ o. MeetsBelow c.args.core.now c.args.other.0 o c.args.cpu.0 c.args.level)
      c.in_default.is meets in
      absurd (none-some m.group m.other),
)

pub returns-then-at-level : goal.returns-then-at-level
returns-then-at-level g c = (
  λ yes. absurd (false≢true yes),
  λ meets.
      let m = subst (λ o. MeetsBelow c.args.core.now c.args.other.0 o c.args.cpu.0 c.args.level)
      c.in-Some.is meets in
      let same = meeting_is c.args.core.now c.args.other.0 c.args.cpu.0 c.args.level c.in-Some.at
      c.kept.ensures.hierarchy m in
      let low = m.low in
      let high = c.if-at-level.true in absurd (omega (arith, same, low, high)),
)

pub returns-in_default-group_at : goal.returns-in_default-group_at
returns-in_default-group_at g c = (
  λ yes. absurd (false≢true yes),
  λ meets.
      let m = subst (λ o. MeetsBelow c.args.core.now c.args.other.0 o c.args.cpu.0 c.args.level)
      c.in-Some.is meets in
      let same = meeting_is c.args.core.now c.args.other.0 c.args.cpu.0 c.args.level c.in-Some.at
      c.kept.ensures.hierarchy m in
      let none = path_from c.args.core.now.tree c.tree-tree.result.now c.args.cpu.0 c.in-Some.at
      None c.tree-tree.ensures.tree c.in_default-group_at.ensures.group in
      absurd (none-some m.group
      (sym none ∙ (ap (group_at_of c.args.core.now.tree c.args.cpu.0) (sym same) ∙ m.path))),
)

pub returns-in_default-group_at-2 : goal.returns-in_default-group_at-2
returns-in_default-group_at-2 g c = (
  λ yes. absurd (false≢true yes),
  λ meets.
      let m = subst (λ o. MeetsBelow c.args.core.now c.args.other.0 o c.args.cpu.0 c.args.level)
      c.in-Some.is meets in
      let none = path_from c.args.core.now.tree c.tree-tree.result.now c.args.other.0
      c.in-Some.at None c.tree-tree.ensures.tree c.in_default-group_at-2.ensures.group in
      absurd (none-some m.group (sym none ∙ m.other)),
)

pub returns : goal.returns
returns g c =
    let w = c.args.core.now in
    let high = c.if-at-level.false in
    let one : group_at_of w.tree c.args.cpu.0 c.in-Some.at ≡ Some c.in-Some-group_at.one.0 =
    cc (c.in-Some-group_at.ensures.group, c.tree-tree.ensures.tree) in
    let two : group_at_of w.tree c.args.other.0 c.in-Some.at ≡ Some c.in-Some-group_at-2.group.0 =
    cc (c.in-Some-group_at-2.ensures.group, c.tree-tree.ensures.tree) in (
      λ same. record {
        meeting = c.in-Some.at;
        group = c.in-Some-group_at.one.0;
        low = omega (arith, high);
        path = one;
        other =
            ap (option_and_then (group_at_of w.tree c.args.other.0)) c.in-Some.is
            ∙ (two ∙ ap Some (sym (eqb-true c.in-Some-group_at.one.0 c.in-Some-group_at-2.group.0
            same)));
      },
      λ meets. let same = meet_once c.args.core.now c.args.other.0 c.args.cpu.0 c.args.level
          c.in-Some.at c.in-Some-group_at.one.0 c.in-Some-group_at-2.group.0
          c.kept.ensures.hierarchy one two
          (subst (λ o. MeetsBelow c.args.core.now c.args.other.0 o c.args.cpu.0 c.args.level)
          c.in-Some.is meets) in eq-eqb _ _ same,
    )
