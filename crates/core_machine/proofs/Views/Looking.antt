-- who looks after a group, and who has a number
use Rattle.std.proofs.Common.{◌≡◌, ℕ, ◌<◌, true, false, Option, Some, None, length, refl, sym}
use Rattle.std.proofs.Common.{ap, ◌∙◌, arith, cond, true≢false}
use Rattle.std.specs.Prelude.{◌==◌, is_some, option_map}
use Rattle.std.specs.Option.{option_map_or}
use Rattle.std.proofs.lemmas.Option.{none-some}
use Rattle.tm_base.specs.CpuSet.{Cpus}
use Rattle.tree_plan.specs.Shape.{Shape, IsPlanned}
use Rattle.tree_plan.specs.Paths.{bit_of, child_towards, group_at_of, is_placed_in, level_of}
use Rattle.tree_plan.proofs.Below.{below_laws, paths, placed_laws}
use Rattle.play_rules.specs.Hierarchy.{is_number, looks_after, looks_after_where, looks_at}
use Rattle.play_rules.specs.Hierarchy.{number_towards}
use Rattle.event_queue.specs.declared.event.Event.{Event}
use Rattle.event_queue.specs.EventMap.{EventMap, IsTakenUp, IsFirst, NoneFits, event_at}
use Rattle.walk_rules.specs.Hierarchy.{side}
use Rattle.core_world.specs.Lawful.{IsLawful}
use Rattle.walk_rules.specs.Stages.{forget}
use Rattle.walk_rules.specs.declared.walk.Walk.{Walk}
use Rattle.core_world.specs.World.{World, cpu_of, group_of}
use Rattle.step_play.specs.Rules.Alone.{goes_on, is_handing}
use Rattle.step_play.specs.Rules.Live.{first_due_in}
use Rattle.step_play.specs.Rules.Seen.{state_of}
use Rattle.step_play.specs.Rules.StepRules.{named_at}
use Rattle.core_machine.proofs.Views.Due.{found_due, found_none}
use Rattle.step_play.proofs.Queues.Sights.{migrator_seen}
use Rattle.step_play.proofs.Activation.Calm.{handing}

-- the number of the child by which a path comes into its group
pub number_is : (t : Shape) → IsPlanned t → (c l g : ℕ) → group_at_of t c l ≡ Some g →
    number_towards t c g ≡ Some (side t c l)
number_is t planned c l g at =
    let p = paths t planned in
    let m = p.towards c l g at in
    let under = ((below_laws t planned).tested_below c g).1 (l, at) in
    ap (λ b. option_map (bit_of t) (cond b (child_towards t c (level_of t g)) None)) under
    ∙ (ap (λ n. option_map (bit_of t) (child_towards t c n)) (p.level c l g at)
    ∙ (ap (option_map (bit_of t)) m.1
    ∙ sym (ap (λ v. Some (option_map_or (bit_of t) v 0)) m.1)))

module _ (w : World) (planned : IsPlanned w.tree) (c l g : ℕ)
    (at : group_at_of w.tree c l ≡ Some g) where
  looks_as : looks_after (state_of w) c l ≡ looks_at w.tree c g (group_of w g).migrator
  looks_as =
      ap (looks_after_where (state_of w) c) at ∙ ap (looks_at w.tree c g) (migrator_seen w g)

  pub looks_alone : (group_of w g).migrator ≡ None → looks_after (state_of w) c l ≡ true
  looks_alone none = looks_as ∙ ap (looks_at w.tree c g) none

  pub looks_by : (k : ℕ) → (group_of w g).migrator ≡ Some k →
      looks_after (state_of w) c l ≡ (side w.tree c l == k)
  looks_by k is =
      looks_as
      ∙ (ap (looks_at w.tree c g) is ∙ ap (λ o. is_number o k) (number_is w.tree planned c l g at))

-- the CPU of an event has a number
pub event_within : (w : World) → IsLawful w → IsPlanned w.tree → (g k : ℕ) (e : Event) →
    event_at (group_of w g).events k ≡ Some e → e.cpu.0 < length w.cpus
event_within w lawful planned g k e there =
    let way = lawful.event_origins.below g k e there in
    let low = (placed_laws w.tree planned).in_range e.cpu.0
    ((paths w.tree planned).cpu_placed e.cpu.0 way.level g way.into) in
    let sized = lawful.sized.cpus in
    omega (arith, low, sized)

-- a CPU whose walk waits to hand on is placed
pub waits_placed : (w : World) → IsLawful w → (c : ℕ) (o : Option Walk) → (cpu_of w c).walk ≡ o →
    is_some o ≡ true → goes_on o ≡ false → is_placed_in w.tree c ≡ true
waits_placed w lawful c None is there waits = absurd (true≢false (sym there))
waits_placed w lawful c (Some k) is there waits = by_leaf (group_at_of w.tree c 0) refl
  where
    by_leaf : (leaf : Option ℕ) → group_at_of w.tree c 0 ≡ leaf → is_placed_in w.tree c ≡ true
    by_leaf (Some g) at = lawful.hierarchy.has_group c g at
    by_leaf None none =
        let alone = lawful.placed.alone c (forget k) (ap (option_map forget) is)
        (λ h. none-some h.0 (sym none ∙ h.1)) in
        absurd (true≢false (ap is_handing (sym (handing k waits) ∙ alone.finishing)))

-- THE LOOK
module _ (w : World) (g time : ℕ) (tried : Cpus) (events : EventMap) (now : time ≡ w.clock)
    (are : events ≡ (group_of w g).events) where
  named_by : named_at w tried g
      ≡ option_map (λ (e : Event). e.cpu.0) (first_due_in time tried events)
  named_by = λ i. option_map (λ (e : Event). e.cpu.0) (first_due_in (sym now i) tried (sym are i))

  pub named_first : (k : ℕ) (e : Event) → IsFirst (IsTakenUp time tried) events k e →
      named_at w tried g ≡ Some e.cpu.0
  named_first k e first =
      named_by ∙ ap (option_map (λ (x : Event). x.cpu.0)) (found_due time tried events k e first)

  pub named_nobody : NoneFits (IsTakenUp time tried) events → named_at w tried g ≡ None
  named_nobody none =
      named_by ∙ ap (option_map (λ (x : Event). x.cpu.0)) (found_none time tried events none)

  pub first_within : IsLawful w → IsPlanned w.tree → (k : ℕ) (e : Event) →
      IsFirst (IsTakenUp time tried) events k e → e.cpu.0 < length w.cpus
  first_within lawful planned k e first =
      event_within w lawful planned g k e (ap (λ m. event_at m k) (sym are) ∙ first.there)
