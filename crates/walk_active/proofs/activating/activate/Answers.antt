use Rattle.std.proofs.Common.{◌∙◌, false, ap, sym, subst, refl}
use Rattle.std.specs.Prelude.{◌&&◌, not}
use Rattle.core_world.specs.World.{is_active}
use Rattle.shared_cpus.specs.shared_rule.Plays.{woken_box, woken_pass}
use Rattle.shared_cpus.specs.shared_rule.Parts.{HasGuest, HeldPart, pass_parted, without_guest}
use Rattle.shared_cpus.specs.shared_rule.Passes.{HeldPass, with_pass}
use Rattle.shared_cpus.specs.Conditions.{CanWake}
use Rattle.shared_cpus.specs.Pairs.{by_pair, of_box}
use Rattle.shared_table.specs.Begun.{IsFree}
use Rattle.walk_active.specs.Activated.{activated_part, activated_pass}
use Rattle.walk_active.specs.Climbing.{Climbs, arrived}
use Rattle.walk_active.proofs.Ending as endings
use Rattle.walk_active.proofs.activating.activate.Goals as goal

pub wake_step-requires : goal.wake_step-requires
wake_step-requires g c =
    let part = c.cpu_box.inside.part in
    let held = c.args.pass.now in
    let p = c.requires.own.of_run.0 in
    let is = c.requires.own.of_run.1 in
    let same = c.cpu_box.view_is in
    subst CanWake (sym c.bring.ensures.part)
    (endings.can_wake part held g.N.RunName.table p is
    (c.requires.own.own p is ∙ ap (λ (z : HeldPart). z.box.cpu) (sym same))
    c.cpu_box.invariant.walkless (ap (λ (z : HeldPart). z.box.own.online) same
    ∙ c.requires.online) (ap (λ (z : HeldPart). z.box.own.idle) same ∙ c.requires.idle)
    c.requires.left)

pub climb-requires : goal.climb-requires
climb-requires g c =
    let part = c.cpu_box.inside.part in
    let held = c.args.pass.now in
    let own = c.requires.own.of_run in
    let woken = c.wake_step.ensures
    ∙ ap (by_pair (of_box woken_box) woken_pass) c.bring.ensures.part in
    record {
      climbs = subst (λ (z : HeldPart). Climbs z.box.own.walk) (sym woken)
          (endings.climbs part held g.N.RunName.table own.0 own.1);
      looked = ap (λ (z : HeldPart). z.box.looked) woken
          ∙ endings.nothing_looked part held g.N.RunName.table own.0 own.1;
    }

pub part_off-requires-clause-brought : goal.part_off-requires-clause-brought
part_off-requires-clause-brought g c =
    let part = c.cpu_box.inside.part in
    let held = c.args.pass.now in
    let p = c.requires.own.of_run.0 in
    let is = c.requires.own.of_run.1 in
    let left = c.climb.ensures ∙ ap arrived (c.wake_step.ensures
    ∙ ap (by_pair (of_box woken_box) woken_pass) c.bring.ensures.part) in
    let cpu = ap (λ (z : HeldPass). z.cpu) c.bring.ensures.pass in
    subst (λ n. HasGuest n c.climb.new.part) (sym cpu)
    (subst (HasGuest held.cpu) (sym left)
    (endings.has_guest part held g.N.RunName.table p is
    (c.requires.own.own p is ∙ sym c.requires.own.cpu_is)))

pub invariant_of-cpu_box : goal.invariant_of-cpu_box
invariant_of-cpu_box g c =
    let part = c.cpu_box.inside.part in
    let held = c.args.pass.now in
    let own = c.requires.own.of_run in
    let left = c.climb.ensures ∙ ap arrived (c.wake_step.ensures
    ∙ ap (by_pair (of_box woken_box) woken_pass) c.bring.ensures.part) in
    let after = c.part_off.ensures.part ∙ ap without_guest left
    ∙ endings.part_after part held g.N.RunName.table own.0 own.1 in
    let whole = c.cpu_box.invariant.whole in
    subst IsFree (sym after) (record { walkless = refl; alone = refl; whole = whole })

pub returns-clause-active : goal.returns-clause-active
returns-clause-active g c =
    let part = c.cpu_box.inside.part in
    let held = c.args.pass.now in
    let own = c.requires.own.of_run in
    let left = c.climb.ensures ∙ ap arrived (c.wake_step.ensures
    ∙ ap (by_pair (of_box woken_box) woken_pass) c.bring.ensures.part) in
    let after = c.part_off.ensures.part ∙ ap without_guest left
    ∙ endings.part_after part held g.N.RunName.table own.0 own.1
    ∙ ap activated_part c.cpu_box.view_is in
    ap (λ (z : HeldPart). is_active z.box.own) after ∙ ap (λ b. b && not false) c.requires.online

pub returns-clause-part : goal.returns-clause-part
returns-clause-part g c =
    let part = c.cpu_box.inside.part in
    let held = c.args.pass.now in
    let own = c.requires.own.of_run in
    let left = c.climb.ensures ∙ ap arrived (c.wake_step.ensures
    ∙ ap (by_pair (of_box woken_box) woken_pass) c.bring.ensures.part) in
    c.part_off.ensures.part ∙ ap without_guest left
    ∙ endings.part_after part held g.N.RunName.table own.0 own.1
    ∙ ap activated_part c.cpu_box.view_is

pub returns-clause-pass : goal.returns-clause-pass
returns-clause-pass g c =
    let table = g.N.RunName.table in
    let part = c.cpu_box.inside.part in
    let held = c.args.pass.now in
    let p = c.requires.own.of_run.0 in
    let is = c.requires.own.of_run.1 in
    let same = c.cpu_box.view_is in
    let left = c.climb.ensures ∙ ap arrived (c.wake_step.ensures
    ∙ ap (by_pair (of_box woken_box) woken_pass) c.bring.ensures.part) in
    let cpu = ap (λ (z : HeldPass). z.cpu) c.bring.ensures.pass in
    c.part_off.ensures.pass ∙ ap (λ n. pass_parted table n c.climb.new.part) cpu
    ∙ ap (pass_parted table held.cpu) left
    ∙ endings.pass_after part held table p is
    (c.requires.own.own p is ∙ ap (λ (z : HeldPart). z.box.cpu) (sym same))
    ∙ ap (λ (z : HeldPart). with_pass (activated_pass z.box) held) same
