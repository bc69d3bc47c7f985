-- for crates above: a CPU wakes, comes online, goes idle or offline, and what carries the law is
-- kept
use Rattle.std.proofs.Common.{◌≡◌, ℕ, ◌+◌, ◌<◌, List, Bool, true, false, Option, None, refl, sym}
use Rattle.std.proofs.Common.{ap, ◌∙◌, subst, arith, inl, inr, length}
use Rattle.std.specs.Prelude.{◌&&◌, if◌then◌else◌, slice_set}
use Rattle.std.proofs.lemmas.Bool.{and_from, and_right, both_ways, cases_Bool, cases_eq, false≢true}
use Rattle.std.proofs.lemmas.List.{length-set}
use Rattle.std.proofs.lemmas.List.FromFn.{get_or-map-range_with_len}
use Rattle.tm_base.specs.declared.names.TheConstants.{NEVER}
use Rattle.tree_plan.specs.Shape.{Shape, IsPlanned}
use Rattle.tree_plan.specs.Paths.{group_count_of, has_group_in, is_placed_in}
use Rattle.tree_plan.proofs.Below.{placed_laws}
use Rattle.play_rules.specs.State.{Cpu, State, cpu_at, cpu_count, has_group, is_active, migrator_at}
use Rattle.play_rules.specs.State.{with_cpu}
use Rattle.play_rules.specs.Hierarchy.{gone_offline, idled, is_placed, next_of, rested}
use Rattle.play_rules.specs.Hierarchy.{rested_migrator, with_migrators, woken, woken_migrator}
use Rattle.play_laws.proofs.Answered.Invariant.{Answers, Fits, Invariant, Led, SomeWakes, active_top}
use Rattle.play_laws.proofs.Answered.Invariant.{apart_top, busy, put, put_other, put_same, rests}
use Rattle.play_laws.proofs.Answered.Changes.{Put, put_kept, told_in}
use Rattle.play_laws.proofs.Answered.Migrators.{rested_led, woken_led}
use Rattle.play_laws.proofs.Answered.States.{IsKept, Nobody, Only, here_is, programs_kept, written}
use Rattle.play_laws.proofs.Answered.States.{written_twice}

-- MIGRATORS that are made by a rule
rule_at : (s : State) (rule : ℕ → Option ℕ) (g : ℕ) → g < group_count_of s.tree
    → migrator_at (with_migrators s rule) g ≡ rule g
rule_at s rule g low =
    get_or-map-range_with_len rule 0 (group_count_of s.tree) g g None low
    (let same : 0 + g ≡ g = omega arith in same)

pub led_by_rule : (s : State) (rule : ℕ → Option ℕ) (active : ℕ → Bool) → Led s.tree active rule
    → Led s.tree active (migrator_at (with_migrators s rule))
led_by_rule s rule active led = record {
  some = λ g k low is. led.some g k low (sym (rule_at s rule g low) ∙ is);
  none = λ g d low none on below. led.none g d low (sym (rule_at s rule g low) ∙ none) on below;
}

-- a CPU that isn't placed has no group
pub unplaced : (t : Shape) (c : ℕ) → IsPlanned t → is_placed_in t c ≡ false
    → has_group_in t c ≡ false
unplaced t c planned out =
    elim (cases_Bool (has_group_in t c)) [
      | inl is ↦ absurd (both_ways (is_placed_in t c) out ((placed_laws t planned).has_group c is))
      | inr none ↦ none
    ]

-- WAKE
module _ (Topped Keeps : Type 0) (s : State) (c : ℕ) (low : c < cpu_count s)
    (kept : IsKept (Only c) Topped s)
    (online : (cpu_at s c).online ≡ true) (tops : Keeps → is_placed s c ≡ false → Topped) where
  abbrev awake : Cpu
  awake = record (cpu_at s c) { idle = false; wakeup = NEVER; told = NEVER }

  awake_busy : busy awake ≡ true
  awake_busy = and_from (cpu_at s c).online true online refl

  put_busy : busy (put (cpu_at s) c awake c) ≡ true
  put_busy = ap busy (put_same (cpu_at s) c awake) ∙ awake_busy

  awake_stay : (d : ℕ) → is_active s d ≡ true → busy (put (cpu_at s) c awake d) ≡ true
  awake_stay d on =
      elim (cases_eq d c) [
        | inl same ↦ ap (λ k. busy (put (cpu_at s) c awake k)) same ∙ put_busy
        | inr other ↦ ap busy (put_other (cpu_at s) c awake d other) ∙ on
      ]

  awake_led : Led s.tree (λ d. busy (put (cpu_at s) c awake d)) (migrator_at (woken s c))
  awake_led =
      led_by_rule s (woken_migrator s c) (λ d. busy (put (cpu_at s) c awake d))
      (woken_led s kept.planned kept.cpus (λ d. busy (put (cpu_at s) c awake d)) c put_busy
      awake_stay
      (λ d other on. ap busy (sym (put_other (cpu_at s) c awake d other)) ∙ on) kept.holds.led)

  awake_top : Keeps → SomeWakes s.tree (put (cpu_at s) c awake)
  awake_top keeps =
      elim (cases_Bool (is_placed s c)) [
        | inl placed ↦ active_top s.tree kept.planned (put (cpu_at s) c awake) c placed put_busy
        | inr out ↦
            apart_top s.tree kept.planned (cpu_at s) s.clock kept.holds.each c awake
            (unplaced s.tree c kept.planned out) refl
            (kept.holds.top (tops keeps out))
      ]

  awake_put : Put s.clock s.tree kept.planned (cpu_at s) (migrator_at s) (Only c) Nobody Keeps c
      awake (migrator_at (woken s c))
  awake_put =
      let old = kept.holds.each c in
      record {
        fits = record {
          away = λ _. (refl, refl);
          offline = λ off. absurd (both_ways (cpu_at s c).online off online);
          ungrouped = λ _. refl;
          pinned = old.pinned;
          global = old.global;
        };
        led = awake_led;
        answers = λ free rest. absurd (both_ways ((cpu_at s c).online && false)
            (and_right (cpu_at s c).online false refl) rest);
        others = λ d other free is. other is;
        top = awake_top;
      }

  pub wakes_kept : IsKept Nobody Keeps (woken s c)
  wakes_kept = record {
    planned = kept.planned;
    in_time = kept.in_time;
    cpus = length-set s.cpus c awake ∙ kept.cpus;
    holds = subst (λ f. Invariant s.clock s.tree Nobody Keeps f (migrator_at (woken s c)))
        (sym (written (with_migrators s (woken_migrator s c)) c awake low))
        (put_kept s.clock s.tree kept.planned (cpu_at s) (migrator_at s) (Only c) Nobody Topped
        Keeps c awake (migrator_at (woken s c)) kept.holds awake_put);
  }

  pub woken_busy : busy (cpu_at (woken s c) c) ≡ true
  woken_busy = ap busy (here_is (with_migrators s (woken_migrator s c)) c awake low) ∙ awake_busy

-- REST: the CPUs of the state with xs are those of s but for CPU c, which isn't active there
module _ (More : ℕ → Type 0) (s : State) (xs : List Cpu) (c : ℕ) (y : Cpu)
    (kept : IsKept Nobody (Unit {0}) s)
    (many : length xs ≡ cpu_count s) (is : cpu_at (record s { cpus = xs }) ≡ put (cpu_at s) c y)
    (off : busy y ≡ false)
    (fits : Fits s.tree s.clock c y) (answers : (More c → ⊥) → Answers s.clock y) where
  abbrev after : State
  after = record s { cpus = xs }

  put_off : busy (cpu_at after c) ≡ false
  put_off = ap (λ f. busy (f c)) is ∙ ap busy (put_same (cpu_at s) c y) ∙ off

  put_else : (d : ℕ) → (d ≡ c → ⊥) → busy (cpu_at after d) ≡ busy (cpu_at s d)
  put_else d other = ap (λ f. busy (f d)) is ∙ ap busy (put_other (cpu_at s) c y d other)

  were_active : (d : ℕ) → is_active after d ≡ true → is_active s d ≡ true
  were_active d on =
      elim (cases_eq d c) [
        | inl same ↦ absurd (both_ways (busy (cpu_at after c)) put_off
            (ap (λ k. busy (cpu_at after k)) (sym same) ∙ on))
        | inr other ↦ sym (put_else d other) ∙ on
      ]

  rest_led : Led s.tree (λ d. busy (put (cpu_at s) c y d))
      (migrator_at (with_migrators after (rested_migrator after c)))
  rest_led =
      subst (λ f. Led s.tree (λ d. busy (f d))
      (migrator_at (with_migrators after (rested_migrator after c)))) is
      (led_by_rule after (rested_migrator after c) (is_active after)
      (rested_led after kept.planned (many ∙ kept.cpus) (is_active s) c were_active
      (λ d other on. put_else d other ∙ on) kept.holds.led))

  rest_put : Put s.clock s.tree kept.planned (cpu_at s) (migrator_at s) Nobody More
      (has_group s c ≡ false) c y
      (migrator_at (with_migrators after (rested_migrator after c)))
  rest_put = record {
    fits = fits;
    led = rest_led;
    answers = answers;
    others = λ d other free owes. owes;
    top = λ out. apart_top s.tree kept.planned (cpu_at s) s.clock kept.holds.each c y out
        (fits.ungrouped out) (kept.holds.top tt);
  }

  rests_kept : IsKept More (has_group s c ≡ false) (with_migrators after (rested_migrator after c))
  rests_kept = record {
    planned = kept.planned;
    in_time = kept.in_time;
    cpus = many ∙ kept.cpus;
    holds = subst (λ f. Invariant s.clock s.tree More (has_group s c ≡ false) f
        (migrator_at (with_migrators after (rested_migrator after c)))) (sym is)
        (put_kept s.clock s.tree kept.planned (cpu_at s) (migrator_at s) Nobody More (Unit {0})
        (has_group s c ≡ false) c y
        (migrator_at (with_migrators after (rested_migrator after c))) kept.holds rest_put);
  }

-- IDLE: rest, and then the wakeup
module _ (s : State) (c : ℕ) (low : c < cpu_count s) (kept : IsKept Nobody (Unit {0}) s)
    (online : (cpu_at s c).online ≡ true) where
  abbrev idle_cpu : Cpu
  idle_cpu = record (cpu_at s c) { idle = true; told = told_in (has_group s c) (cpu_at s c).bases }

  idle_rests : rests idle_cpu ≡ true
  idle_rests = and_from (cpu_at s c).online true online refl

  idle_fits : Fits s.tree s.clock c idle_cpu
  idle_fits =
      let old = kept.holds.each c in
      record {
        away = λ off. absurd (both_ways (rests idle_cpu) off idle_rests);
        offline = λ off. refl;
        ungrouped = λ out. ap (λ g. told_in g (cpu_at s c).bases) out;
        pinned = old.pinned;
        global = old.global;
      }

  rested_kept : IsKept (Only c) (has_group s c ≡ false) (rested s c (next_of s c))
  rested_kept =
      rests_kept (Only c) s (slice_set s.cpus c idle_cpu) c idle_cpu kept
      (length-set s.cpus c idle_cpu)
      (written s c idle_cpu low) (and_right (cpu_at s c).online false refl) idle_fits
      (λ free. absurd (free refl))

  pub idles_kept : IsKept Nobody (Unit {0}) (idled s c)
  idles_kept =
      let r = rested s c (next_of s c) in
      let here = here_is s c idle_cpu low in
      let still : c < cpu_count r =
      (let many = length-set s.cpus c idle_cpu in omega (arith, low, many)) in
      programs_kept r c still rested_kept (ap rests here ∙ idle_rests)
      (subst (λ (x : Cpu). x.told ≡ told_in (has_group s c) x.bases) (sym here) refl)

-- OFFLINE: a CPU goes with nothing to tell
same_either : (b : Bool) (n : ℕ) → (if b then n else n) ≡ n
same_either true n = refl
same_either false n = refl

module _ (s : State) (c : ℕ) (low : c < cpu_count s) (kept : IsKept Nobody (Unit {0}) s) where
  abbrev gone : Cpu
  gone = record (cpu_at s c) { online = false; wakeup = NEVER }

  abbrev without_it : State
  without_it = with_cpu s c gone

  abbrev silenced : Cpu → Cpu
  silenced x = record x { idle = true; told = if has_group s c then NEVER else NEVER }

  gone_fits : Fits s.tree s.clock c (silenced gone)
  gone_fits =
      let old = kept.holds.each c in
      let silent = same_either (has_group s c) NEVER in
      record {
        away = λ off. (silent, refl);
        offline = λ off. refl;
        ungrouped = λ out. silent;
        pinned = old.pinned;
        global = old.global;
      }

  gone_here : cpu_at without_it c ≡ gone
  gone_here = here_is s c gone low

  pub goes_kept : IsKept Nobody (has_group s c ≡ false) (gone_offline s c)
  goes_kept =
      let y = silenced (cpu_at without_it c) in
      rests_kept Nobody s (slice_set without_it.cpus c y) c y kept
      (length-set without_it.cpus c y ∙ length-set s.cpus c gone)
      (written_twice s c gone y low)
      (ap (λ x. busy (silenced x)) gone_here)
      (subst (λ x. Fits s.tree s.clock c (silenced x)) (sym gone_here) gone_fits)
      (λ free rest. absurd (false≢true (sym (ap (λ x. rests (silenced x)) gone_here) ∙ rest)))

  pub gone_cpus : cpu_at (gone_offline s c) ≡ put (cpu_at s) c (silenced (cpu_at without_it c))
  gone_cpus = written_twice s c gone (silenced (cpu_at without_it c)) low
