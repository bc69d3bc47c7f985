use Rattle.std.proofs.Common.{take, subst, sym, ◌∙◌, ◌<◌, get_or}
use Rattle.std.proofs.lemmas.Option.{none-some, same_Some}
use Rattle.wheel_core.specs.Scan.{MatchOut}
use Rattle.wheel_core.proofs.Passes.{scan_first, scan_over, scan_kept}
use Rattle.wheel_core.proofs.scan.scan_more.Goals as goal
use Rattle.wheel_core.proofs.scan.scan_more.Goals.{then-item-wheel+in-Some+else-items-best}
use Rattle.wheel_core.proofs.scan.scan_more.Goals.{else-item-wheel}

pub returns-in_default : goal.returns-in_default
returns-in_default c =
    let none = subst (λ out. MatchOut c.args.wheel (take c.args.place c.args.items.now) out c.args.front.others) c.in_default.is c.requires.front in
    scan_first c.args.wheel c.args.items.now c.args.place _ c.requires.within c.args.front.others none c.if-item-wheel.true

pub returns-then-items-best : goal.returns-then-items-best
returns-then-items-best c =
    let some = subst (λ out. MatchOut c.args.wheel (take c.args.place c.args.items.now) out c.args.front.others) c.in-Some.is c.requires.front in
    rw c.sooner_of.ensures
    (scan_over c.args.wheel c.args.items.now c.args.place _ c.requires.within c.in-Some.best c.args.front.others some c.if-item-wheel.true c.if-items-best.true)

pub returns : goal.returns
returns c =
    let kept = scan_kept c.args.wheel c.args.items.now c.args.place _ c.requires.within c.args.front.out c.args.front.others c.requires.front in
    rw c.sooner_of-2.ensures
    (elim c.if-item-wheel.branch [
      | then-item-wheel+in-Some+else-items-best w ↦
          kept (λ best is same. subst (λ k. (get_or c.args.items.now c.args.place _).level < (get_or c.args.items.now k _).level) (same_Some w.in-Some.best best (sym w.in-Some.is ∙ is)) w.if-items-best.false)
          (λ none _. none-some w.in-Some.best (sym none ∙ w.in-Some.is))
      | else-item-wheel w ↦ kept (λ best is same. absurd (w.if-item-wheel.false same)) (λ none. w.if-item-wheel.false)
    ])
