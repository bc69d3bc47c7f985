-- for crates above: a CPU comes online, and an interrupt ends, and what carries the law is kept
use Rattle.std.proofs.Common.{◌≡◌, ℕ, ◌<◌, Bool, true, false, refl, sym, ap, ◌∙◌, subst, arith, inl}
use Rattle.std.proofs.Common.{inr}
use Rattle.std.specs.Prelude.{◌&&◌, not, if◌then◌else◌}
use Rattle.std.proofs.lemmas.Bool.{and_from, and_left, and_parts, both_ways, cases_Bool, cases_eq}
use Rattle.std.proofs.lemmas.Bool.{not_from_false}
use Rattle.std.proofs.lemmas.List.{length-set}
use Rattle.tree_plan.proofs.Below.{placed_laws}
use Rattle.play_rules.specs.State.{Cpu, State, cpu_at, cpu_count, has_group, migrator_at, with_cpu}
use Rattle.play_rules.specs.Hierarchy.{come_online, reevaluated, told_again, woken}
use Rattle.play_rules.specs.Timers.{controlling}
use Rattle.play_rules.specs.Play.{ended}
use Rattle.play_laws.proofs.Answered.Invariant.{Answers, SomeWakes, active_top, alike_top, busy, put}
use Rattle.play_laws.proofs.Answered.Invariant.{put_alike, put_other, rests}
use Rattle.play_laws.proofs.Answered.Changes.{put_kept, same_led, told_in}
use Rattle.play_laws.proofs.Answered.States.{IsKept, Nobody, Only, here_is, programs_kept, told_kept, weaker}
use Rattle.play_laws.proofs.Answered.States.{with_kept}
use Rattle.play_laws.proofs.Answered.Wakes.{wakes_kept, woken_busy}

-- ONLINE: it comes up idle, and then it wakes
module _ (s : State) (c : ℕ) (low : c < cpu_count s) (kept : IsKept Nobody (Unit {0}) s)
    (offline : (cpu_at s c).online ≡ false) where
  abbrev up : Cpu
  up = record (cpu_at s c) { online = true }

  idle_up : (cpu_at s c).idle ≡ true
  idle_up = (kept.holds.each c).offline offline

  up_busy : busy up ≡ busy (cpu_at s c)
  up_busy =
      ap (λ b. true && not b) idle_up
      ∙ sym (and_left (cpu_at s c).online (not (cpu_at s c).idle) offline)

  up_rests : (d : ℕ) → rests (cpu_at s d) ≡ true → rests (put (cpu_at s) c up d) ≡ true
  up_rests d is =
      elim (cases_eq d c) [
        | inl same ↦
            absurd (both_ways (cpu_at s c).online offline
            (and_parts (cpu_at s c).online (cpu_at s c).idle
            (ap (λ k. rests (cpu_at s k)) (sym same) ∙ is)).0)
        | inr other ↦ ap rests (put_other (cpu_at s) c up d other) ∙ is
      ]

  up_kept : IsKept (Only c) (Unit {0}) (with_cpu s c up)
  up_kept =
      let old = kept.holds.each c in
      with_kept Nobody (Unit {0}) s kept c low (Only c) (Unit {0}) up
      (put_kept s.clock s.tree kept.planned (cpu_at s) (migrator_at s) Nobody (Only c) (Unit {0})
      (Unit {0}) c up (migrator_at s) kept.holds
      (record {
        fits = record {
          away = λ off. absurd (both_ways (rests up) off idle_up);
          offline = λ off. idle_up;
          ungrouped = old.ungrouped;
          pinned = old.pinned;
          global = old.global;
        };
        led = same_led s.clock s.tree kept.planned (cpu_at s) (migrator_at s) c up up_busy
            kept.holds.led;
        answers = λ free. absurd (free refl);
        others = λ d other free owes. owes;
        top = λ _. alike_top s.tree kept.planned (cpu_at s) (put (cpu_at s) c up)
            (put_alike (cpu_at s) c up busy up_busy)
            up_rests (put_alike (cpu_at s) c up (λ x. x.wakeup) refl)
            (put_alike (cpu_at s) c up (λ x. x.told) refl)
            (kept.holds.top tt);
      }))

  pub comes_kept : IsKept Nobody (Unit {0}) (come_online s c)
  comes_kept =
      let still : c < cpu_count (with_cpu s c up) =
      (let many = length-set s.cpus c up in omega (arith, low, many)) in
      wakes_kept (Unit {0}) (Unit {0}) (with_cpu s c up) c still up_kept
      (ap (λ (x : Cpu). x.online) (here_is s c up low)) (λ _ _. tt)

-- AN INTERRUPT ENDS
module _ (s : State) (c : ℕ) (low : c < cpu_count s)
    (kept : IsKept (Only c) (has_group s c ≡ false) s)
    (online : (cpu_at s c).online ≡ true) where
  module _ (idle : (cpu_at s c).idle ≡ true) where
    abbrev teller : Cpu
    teller = record (cpu_at s c) { told = told_in (has_group s c) (cpu_at s c).bases }

    sleeps : rests (cpu_at s c) ≡ true
    sleeps = and_from (cpu_at s c).online (cpu_at s c).idle online idle

    pub evaluated_kept : IsKept Nobody (Unit {0}) (reevaluated s c)
    evaluated_kept =
        let t = told_again s c in
        let here = here_is s c teller low in
        let still : c < cpu_count t =
        (let many = length-set s.cpus c teller in omega (arith, low, many)) in
        programs_kept t c still (told_kept (Only c) (has_group s c ≡ false) s kept c low sleeps
        (λ out. out)) (ap rests here ∙ sleeps)
        (subst (λ (x : Cpu). x.told ≡ told_in (has_group s c) x.bases) (sym here) refl)

  module _ (active : (cpu_at s c).idle ≡ false) where
    runs : busy (cpu_at s c) ≡ true
    runs = and_from (cpu_at s c).online (not (cpu_at s c).idle) online
        (not_from_false (cpu_at s c).idle active)

    runs_top : Unit {0} → SomeWakes s.tree (cpu_at s)
    runs_top _ =
        elim (cases_Bool (has_group s c)) [
          | inl grouped ↦
              active_top s.tree kept.planned (cpu_at s) c
              ((placed_laws s.tree kept.planned).has_group c grouped) runs
          | inr out ↦ kept.holds.top out
        ]

    runs_answer : (d : ℕ) → Answers s.clock (cpu_at s d)
    runs_answer d =
        elim (cases_eq d c) [
          | inl same ↦ λ rest. (
              let here : rests (cpu_at s c) ≡ true = ap (λ k. rests (cpu_at s k)) (sym same)
              ∙ rest in
              absurd (both_ways (cpu_at s c).idle active
              (and_parts (cpu_at s c).online (cpu_at s c).idle here).1))
          | inr other ↦ kept.holds.answered d other
        ]

    pub runs_kept : IsKept Nobody (Unit {0}) s
    runs_kept = record {
      planned = kept.planned;
      in_time = kept.in_time;
      cpus = kept.cpus;
      holds = record {
        each = kept.holds.each;
        led = kept.holds.led;
        answered = λ d free. runs_answer d;
        top = runs_top;
      };
    }

  ended_by : (b : Bool) → (cpu_at s c).idle ≡ b
      → IsKept Nobody (Unit {0}) (if b then reevaluated s c else s)
  ended_by true is = evaluated_kept is
  ended_by false is = runs_kept is

  pub ends_kept : IsKept Nobody (Unit {0}) (ended s c)
  ends_kept = ended_by (cpu_at s c).idle refl

-- CONTROL: a CPU that isn't active wakes
module _ (s : State) (c : ℕ) (low : c < cpu_count s) (kept : IsKept Nobody (Unit {0}) s)
    (online : (cpu_at s c).online ≡ true) where
  pub wakes_from : IsKept Nobody (Unit {0}) (woken s c)
  wakes_from =
      wakes_kept (Unit {0}) (Unit {0}) s c low
      (weaker Nobody (Only c) (Unit {0}) (Unit {0}) s (λ d none. absurd none) (λ u. u) kept)
      online (λ _ _. tt)

  controls_by : (b : Bool) → IsKept Nobody (Unit {0}) (if b then woken s c else s)
  controls_by true = wakes_from
  controls_by false = kept

  pub controls_kept : IsKept Nobody (Unit {0}) (controlling s c)
  controls_kept = controls_by (cpu_at s c).idle

  busy_by : (b : Bool) → (cpu_at s c).idle ≡ b → busy (cpu_at (if b then woken s c else s) c) ≡ true
  busy_by true is =
      woken_busy (Unit {0}) (Unit {0}) s c low
      (weaker Nobody (Only c) (Unit {0}) (Unit {0}) s (λ d none. absurd none) (λ u. u) kept)
      online (λ _ _. tt)
  busy_by false is = and_from (cpu_at s c).online (not (cpu_at s c).idle) online
      (not_from_false (cpu_at s c).idle is)

  pub controls_busy : busy (cpu_at (controlling s c) c) ≡ true
  controls_busy = busy_by (cpu_at s c).idle refl
