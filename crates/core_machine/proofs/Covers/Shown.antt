-- the choice is who covers a timer by the rules of steps, as a report shows it
use Rattle.std.proofs.Common.{◌≡◌, ℕ, ◌<◌, Option, Some, None, length, refl, sym, ap, ◌∙◌, arith}
use Rattle.std.proofs.Common.{inl, inr}
use Rattle.std.specs.Prelude.{◌&&◌, find, nat_le, option_map}
use Rattle.std.proofs.lemmas.Bool.{cases_Bool, cond-false, cond-true}
use Rattle.std.proofs.lemmas.Option.{none-some}
use Rattle.tm_report.specs.declared.lines.ShownCover.TheVariants as lines
use Rattle.play_rules.specs.Covers as plain
use Rattle.step_play.proofs.play_laws.Answered.Ranges.{found_there}
use Rattle.core_world.specs.World.{World, cpu_of}
use Rattle.step_play.specs.Rules.Seen.{state_of}
use Rattle.step_play.specs.Rules.StepRules as steps
use Rattle.step_play.proofs.Queues.Sights.{cpus_seen}
use Rattle.core_machine.proofs.Views.Seen.{wakeup_seen}
use Rattle.core_machine.specs.declared.answers.cover.Cover.{Cover}
use Rattle.core_machine.specs.Covers.Choice.{cover_by_migrator, cover_by_wakeup, choice_above, choice_for}
use Rattle.core_machine.specs.Covers.Choice.{choice_of}
use Rattle.core_machine.specs.Covers.Choice.{choice_where, first_wheel, cover_shown}

module _ (w : World) where
  wake_shown : (d : ℕ) → d < length w.cpus →
      plain.by_wakeup (state_of w) d ≡ cover_shown w (cover_by_wakeup w d)
  wake_shown d low = ap (lines.Wake (record { 0 = d })) (wakeup_seen w d low)

  waker_shown : (time : ℕ) (o : Option ℕ) → plain.waker_by (state_of w) time ≡ o →
      option_map (plain.by_wakeup (state_of w)) o
      ≡ option_map (cover_shown w) (option_map (cover_by_wakeup w) o)
  waker_shown time None is = refl
  waker_shown time (Some d) is =
      let f = found_there (plain.wakes_by (state_of w) time) 0 (length w.cpus) d
      (sym (ap (find (plain.wakes_by (state_of w) time)) (cpus_seen w)) ∙ is) in
      let below = f.below in
      ap Some (wake_shown d (omega (arith, below)))

  led_shown : (g : ℕ) (o : Option ℕ) → option_map (plain.by_migrator (state_of w) g) o
      ≡ option_map (cover_shown w) (option_map (cover_by_migrator g) o)
  led_shown g None = refl
  led_shown g (Some m) = refl

  above_shown : (c : ℕ) (o : Option ℕ) →
      steps.cover_above w c o ≡ option_map (cover_shown w) (choice_above w c o)
  above_shown c None =
      waker_shown (steps.time_at_top w c) (plain.waker_by (state_of w) (steps.time_at_top w c)) refl
  above_shown c (Some g) = led_shown g (plain.led_to (state_of w) g)

  module _ (c wheel : ℕ) (low : c < length w.cpus) where
    for_shown : steps.cover_for w c wheel ≡ option_map (cover_shown w) (choice_for w c wheel)
    for_shown =
        let lowest = plain.lowest_active_group (state_of w) c in
        let soon = nat_le (cpu_of w c).wakeup wheel in
        elim (cases_Bool soon) [
          | inl is ↦
              cond-true soon (Some (plain.by_wakeup (state_of w) c)) (steps.cover_above w c lowest)
              is
              ∙ (ap Some (wake_shown c low)
              ∙ sym (ap (option_map (cover_shown w))
              (cond-true soon (Some (cover_by_wakeup w c)) (choice_above w c lowest) is)))
          | inr is ↦
              cond-false soon (Some (plain.by_wakeup (state_of w) c)) (steps.cover_above w c lowest)
              is
              ∙ (above_shown c lowest
              ∙ sym (ap (option_map (cover_shown w))
              (cond-false soon (Some (cover_by_wakeup w c)) (choice_above w c lowest) is)))
        ]

    pub covered : (x : Cover) → first_wheel (cpu_of w c) ≡ Some wheel → choice_of w c ≡ Some x →
        steps.cover_by_queue w c ≡ Some (plain.answerer wheel (cover_shown w x))
    covered x first is =
        let sleeps = (cpu_of w c).online && (cpu_of w c).idle in
        let o = first_wheel (cpu_of w c) in
        elim (cases_Bool sleeps) [
          | inr out ↦
              absurd (none-some x (sym (cond-false sleeps (choice_where w c o) None out) ∙ is))
          | inl on ↦
              cond-true sleeps (steps.cover_where w c o) None on
              ∙ (ap (steps.cover_where w c) first
              ∙ (ap (option_map (plain.answerer wheel)) for_shown
              ∙ ap (λ m. option_map (plain.answerer wheel) (option_map (cover_shown w) m))
              (sym (cond-true sleeps (choice_where w c o) None on ∙ ap (choice_where w c) first)
              ∙ is)))
        ]
