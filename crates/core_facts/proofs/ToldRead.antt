-- what a walk has told as it finishes
use Rattle.std.proofs.Common.{◌≡◌, ℕ, false, Option, Some, None, refl, ap, ◌∙◌}
use Rattle.std.proofs.Common.{inr, cond, subst}
use Rattle.std.proofs.lemmas.Bool.{eq-eqb, ne_eqb}
use Rattle.tm_base.specs.declared.names.TheConstants.{NEVER}
use Rattle.event_queue.specs.declared.event.Event.{Event}
use Rattle.event_queue.specs.EventMap.{event_at}
use Rattle.walk_rules.specs.Hierarchy.{side}
use Rattle.walk_rules.specs.Stages.{forget, leaf_event}
use Rattle.walk_rules.specs.Standing.{FitsStage, Tells}
use Rattle.core_world.specs.Wakeups.{is_past_store}
use Rattle.core_world.specs.World.{group_of}
use Rattle.core_facts.specs.Told.{EachHasToldOwn, SaysOf}
use Rattle.core_facts.proofs.Scenes.{in_scene}

abbrev its_event : (c time : ℕ) → Event
its_event c time = record { expiry = time; cpu = record { 0 = c }; ignored = false }

says : (c time : ℕ) (slot : Option Event) → slot ≡ leaf_event c time → SaysOf c time slot
says c time slot is = record {
  none = λ never. is ∙ ap (λ b. cond b None (Some (its_event c time))) (eq-eqb time NEVER never);
  some =
      λ other. (
        its_event c time,
        is ∙ ap (λ b. cond b None (Some (its_event c time))) (ne_eqb time NEVER other),
        record { expiry = refl; cpu = refl; counts = refl },
      );
}

pub each_has_told_own : EachHasToldOwn
each_has_told_own w l c leaf k is at path =
    let fits = (l.placed.in_tree c (forget k) (in_scene w c k is) (leaf, path)).fits in
    let tells : Tells k.kind = subst (FitsStage w.tree c k.kind k.level) at fits in
    let told = l.own_event c leaf k is tells path (inr (ap is_past_store at)) in
    record {
      slot = says c k.next (event_at (group_of w leaf).events (side w.tree c 0)) told;
      next = (l.walk_times c k is).next;
    }
