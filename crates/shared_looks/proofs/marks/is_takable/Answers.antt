use Rattle.std.proofs.Common.{◌≡◌, sym, ap, ◌∙◌}
use Rattle.std.specs.Prelude.{is_some, not}
use Rattle.cpu_word.specs.declared.state.CpuState.{CpuState}
use Rattle.tree_plan.specs.Paths.{group_at_of}
use Rattle.core_world.specs.World.{World}
use Rattle.shared_cpus.specs.shared_rule.declared.parts.BoxView.{BoxView}
use Rattle.shared_cpus.specs.shared_rule.Parts.{HeldPart}
use Rattle.shared_looks.proofs.Marked.{due_event, due_there, has_some_group, unmarked}
use Rattle.shared_looks.proofs.marks.is_takable.Goals as goal

pub returns-in-Some : goal.returns-in-Some
returns-in-Some g c =
    let o : World = g.N.RunName.opening in
    let b : BoxView = c.args.part.now.box in
    let shows = c.state-state.ensures in
    let opening : b.opening ≡ o = c.law.ensures.opening in
    let group = has_some_group o b c.group_at.result (c.is_none.ensures ∙ ap not c.if-is_none.false)
    opening
    (c.group_at.ensures.path ∙ ap (λ n. group_at_of o.tree n 0) c.cpu.ensures) in
    let now = c.requires.now ∙ sym (ap (λ (w : World). w.clock) opening) in
    let there = sym (ap (λ (z : HeldPart). z.box.leaf) c.part.view_is) ∙ c.in-Some.is in (
      λ come. record {
        online = sym (ap (λ (s : CpuState). s.online) shows) ∙ c.if-not-state.false;
        idle = sym (ap (λ (s : CpuState). s.idle) shows) ∙ c.if-not-state-2.false;
        unmarked =
            unmarked b.own.mark
            (sym (ap (λ (s : CpuState). is_some s.remote) shows)
            ∙ (sym c.is_some.ensures ∙ c.if-is_some.false));
        due =
            due_there b c.args.now c.in-Some.event group now there
            (c.has_come.ensures.counts come) (c.has_come.ensures.come come);
      },
      λ takable.
          let due = due_event b c.args.now c.in-Some.event now there takable.due in
          c.has_come.ensures.yes due.0 due.1,
    )
