-- the next moment of a core: it is by the end, passes no timer over, and is the one of the play
use Rattle.std.proofs.Common.{◌≡◌, ℕ, zero, suc, ◌+◌, ◌<◌, ◌≤◌, List, [], ◌∷◌, Bool, true, false}
use Rattle.std.proofs.Common.{Some, refl, sym, ap, ◌∙◌, subst, arith, inl, inr, length, min}
use Rattle.std.specs.Prelude.{All, Contains, ◌≢◌, ◌==◌, ◌&&◌, if◌then◌else◌, nat_lt, not}
use Rattle.std.specs.Prelude.{option_map}
use Rattle.std.specs.Prelude.{slice_get}
use Rattle.std.specs.List.{fold, list_any}
use Rattle.std.proofs.lemmas.Bool.{and_parts, both_ways, cases_Bool, cases_eq, cases_lt, cond-false}
use Rattle.std.proofs.lemmas.Bool.{cond-true}
use Rattle.std.proofs.lemmas.Bool.{eq-eqb, eqb-false, false_from_ne_true, ne_eqb}
use Rattle.std.proofs.lemmas.Bool.Decides.{nat_tests}
use Rattle.std.proofs.lemmas.List.{get_or_past}
use Rattle.std.proofs.lemmas.List.Elements.{All-head, All-tail}
use Rattle.std.proofs.lemmas.Option.{none-some, same_Some, slice_get-map}
use Rattle.tm_base.specs.declared.names.TheConstants.{NEVER}
use Rattle.tm_base.specs.declared.names.Class.{Class}
use Rattle.tm_base.specs.declared.names.Class.TheVariants.{Deferrable}
use Rattle.wheel_core.specs.declared.item.Item.{Item}
use Rattle.cpu_bases.specs.CpuBases.{base_of}
use Rattle.tree_plan.specs.Shape.{Shape}
use Rattle.tree_plan.specs.Paths.{cpu_count_of, level_count_of}
use Rattle.tm_script.specs.declared.syntax.Moment.{Moment}
use Rattle.tm_script.specs.declared.syntax.Script.{Script}
use Rattle.tm_script.specs.Grammar.{IsScript}
use Rattle.play_rules.specs.declared.asks.Arming.{Arming}
use Rattle.play_rules.specs.Rules.{Rules}
use Rattle.play_rules.specs.Interrupts.{Replies, having_interrupt}
use Rattle.play_rules.specs.Moments.{Turn, moments_after, next_moment, next_said, turn, turn_then}
use Rattle.play_rules.specs.Moments.{turns}
use Rattle.play_rules.specs.Play.{at_clock, next_interrupt, plain_rules, play_turns}
use Rattle.play_rules.specs.State.{State, all_cpus, cpu_at, cpu_count, start}
use Rattle.play_rules.specs.State.{is_active as is_active_in}
use Rattle.play_laws.proofs.Answered.Ranges.{any_here, in_range, least_below}
use Rattle.play_laws.proofs.Answered.Plays.{rules_keep}
use Rattle.play_laws.proofs.Answered.Scripts.{moments_in, moments_rise, planned_for}
use Rattle.play_laws.proofs.Answered.Scripts.{tree_for}
use Rattle.play_laws.proofs.Answered.Settles.{Begun, Settles, due_online}
use Rattle.play_laws.proofs.Answered.Starts.{start_kept}
use Rattle.play_laws.proofs.Shape.Shape.{KeptByRules, Stage}
use Rattle.play_laws.proofs.Shape.ShapeTurns.{IsMomentIn, Playing, Rise, after_in}
use Rattle.play_laws.proofs.Shape.ShapeTurns.{after_rise}
use Rattle.play_laws.proofs.Shape.ShapeTurns.{moment_kept, next_is}
use Rattle.core_world.specs.Covered.{IsSettled}
use Rattle.core_world.specs.Lawful.{IsLawful}
use Rattle.core_world.specs.World.{World, cpu_of, is_active, no_cpu}
use Rattle.step_core.specs.core_facts.Cover.Rest.{EachWakes}
use Rattle.core_machine.specs.step_play.Rules.Seen.{state_of}
use Rattle.core_machine.specs.step_play.Rules.StepRules.{step_rules}
use Rattle.core_machine.specs.step_play.SamePlay.{StepsArePlay, step_turns, turn_seen}
use Rattle.core_machine.proofs.step_play.Queues.Sights.{count_seen}
use Rattle.core_machine.proofs.Views.Seen.{idle_seen, online_seen, wakeup_seen}
use Rattle.core_plays.specs.Following.{IsNextOfPlay, PassesNone, moments_past}

-- BY THE END: the script's next moment is
past_by : (now end : ℕ) (ms : List Moment) → All (λ (m : Moment). m.at ≤ end) ms →
    next_said (moments_past now ms) end ≤ end
past_by now end [] all = omega arith
past_by now end (m ∷ ms) all =
    elim (nat_lt now m.at) as (λ b. next_said (if b then m ∷ ms else moments_past now ms) end ≤ end) [
      | true ↦ All-head (λ (n : Moment). n.at ≤ end) m ms all
      | false ↦ past_by now end ms (All-tail (λ (n : Moment). n.at ≤ end) m ms all)
    ]

pub next_by_end : (w : World) (end : ℕ) (ms : List Moment) → All (λ (m : Moment). m.at ≤ end) ms →
    w.clock < end → next_moment step_rules end (moments_past w.clock ms) w ≤ end
next_by_end w end ms all early =
    let said = past_by w.clock end ms all in omega (arith, said, early)

-- NONE IS PASSED OVER
module _ (w : World) where
  abbrev s : State
  s = state_of w

  abbrev some_active : Bool
  some_active = list_any (is_active_in s) (all_cpus s)

  abbrev least : ℕ
  least = fold (λ m c. min m (cpu_at s c).wakeup) NEVER (all_cpus s)

  -- a CPU that is online is there
  online_low : (c : ℕ) → (cpu_of w c).online ≡ true → c < length w.cpus
  online_low c online =
      elim (cases_lt c (length w.cpus)) [
        | inl low ↦ low
        | inr past ↦
            let none : cpu_of w c ≡ no_cpu = get_or_past w.cpus c no_cpu past in
            absurd (both_ways (cpu_of w c).online (ap (λ x. x.online) none) online)
      ]

  none_active : some_active ≡ false → (c : ℕ) → is_active (cpu_of w c) ≡ false
  none_active none c =
      false_from_ne_true (is_active (cpu_of w c)) (λ on.
      let low = online_low c (and_parts (cpu_of w c).online (not (cpu_of w c).idle) on).0 in
      let seen : is_active_in s c ≡ is_active (cpu_of w c) =
      (λ i. online_seen w c low i && not (idle_seen w c low i)) in
      both_ways some_active none
      (any_here (is_active_in s) 0 (cpu_count s) c (omega arith) (omega (arith, low, count_seen w))
      (seen ∙ on)))

  module _ (l : IsLawful w) (rest : IsSettled w) (law : EachWakes) where
    interrupt_by : (c : ℕ) (class : Class) (item : Item) → (cpu_of w c).online ≡ true →
        class ≢ Deferrable → Contains (base_of class (cpu_of w c).bases).items item →
        w.clock < item.wheel → next_interrupt s ≤ item.wheel
    interrupt_by c class item online wakes there later =
        elim (cases_Bool some_active) [
          | inl on ↦
              let is : next_interrupt s ≡ w.clock + 1 = cond-true some_active (w.clock + 1) least on in
              omega (arith, is, later)
          | inr off ↦
              let waker = law w l rest (none_active off) c class item online wakes there in
              let low = online_low waker.0 waker.1 in
              let is : next_interrupt s ≡ least = cond-false some_active (w.clock + 1) least off in
              let by =
              least_below (λ d. (cpu_at s d).wakeup) NEVER (all_cpus s) waker.0
              (in_range (cpu_count s) waker.0 (omega (arith, low, count_seen w))) in
              omega (arith, is, by, wakeup_seen w waker.0 low, waker.2)
        ]

    pub passes_none : (end : ℕ) (ms : List Moment) →
        PassesNone w (next_moment step_rules end ms w)
    passes_none end ms c class item online wakes there later =
        let by = interrupt_by c class item online wakes there later in
        omega (arith, by, later)

-- THE ONE OF THE PLAY: the moments that come after a time are those that a play has left then
is_later : (a b : ℕ) → a < b → nat_lt a b ≡ true
is_later a b later = grind (arith, nat_tests)

not_later : (a b : ℕ) → b ≤ a → nat_lt a b ≡ false
not_later a b early = grind (arith, nat_tests)

past_all : (now end : ℕ) (ms : List Moment) → Rise (now + 1) end ms → moments_past now ms ≡ ms
past_all now end [] up = refl
past_all now end (m ∷ ms) (from, rest) =
    cond-true (nat_lt now m.at) (m ∷ ms) (moments_past now ms)
    (is_later now m.at (omega (arith, from)))

-- one that isn't after the time is left out
past_one : (now : ℕ) (m : Moment) (ms : List Moment) → m.at ≤ now →
    moments_past now (m ∷ ms) ≡ moments_past now ms
past_one now m ms early =
    cond-false (nat_lt now m.at) (m ∷ ms) (moments_past now ms) (not_later now m.at early)

-- so those after a time aren't changed by a moment that was before it
past_after : (now t : ℕ) (ms : List Moment) → now ≤ t →
    moments_past t (moments_after now ms) ≡ moments_past t ms
past_after now t [] low = refl
past_after now t (m ∷ ms) low =
    elim (cases_eq m.at now) [
      | inl same ↦
          ap (moments_past t) (cond-true (m.at == now) ms (m ∷ ms) (eq-eqb m.at now same))
          ∙ sym (past_one t m ms (omega (arith, same, low)))
      | inr other ↦
          ap (moments_past t) (cond-false (m.at == now) ms (m ∷ ms) (ne_eqb m.at now other))
    ]

-- a moment, and the one behind it
pub record Follows {S : Type 0} (r : Rules S) (end : ℕ) (all : List Moment) (here there : Turn S) :
    Type 0 where
  pub at : there.at ≡ next_moment r end (moments_past here.at all) here.played.state
  pub clock : r.clock here.played.state ≡ here.at

module _ {S : Type 0} (jobs : Replies) (r : Rules S) (end : ℕ) where
  -- the first of some moments is at their time
  first_then : (is_last : Bool) (rest : S → List (Turn S)) (t there : Turn S) →
      slice_get (turn_then is_last rest t) 0 ≡ Some there → t ≡ there
  first_then true rest t there is = same_Some t there is
  first_then false rest t there is = same_Some t there is

  first_at : (n now : ℕ) (ms : List Moment) (s : S) (there : Turn S) →
      slice_get (turns jobs r n end now ms s) 0 ≡ Some there → there.at ≡ now
  unfolding turns
  first_at zero now ms s there is = absurd (none-some there is)
  first_at (suc n) now ms s there is =
      let left = moments_after now ms in
      sym
      (ap (λ (u : Turn S). u.at)
      (first_then (now == end) (λ t. turns jobs r n end (next_moment r end left t) left t)
      (turn jobs r ms now s) there is))

  -- two moments, one behind the other: the first two, or two of those behind the first
  module _ (all : List Moment) where
    pair : (is_last : Bool) (rest : S → List (Turn S)) (t here there : Turn S) (k : ℕ) →
        slice_get (turn_then is_last rest t) k ≡ Some here →
        slice_get (turn_then is_last rest t) (suc k) ≡ Some there →
        (is_last ≡ false → slice_get (rest t.played.state) 0 ≡ Some there →
        Follows r end all t there) →
        (is_last ≡ false → (j : ℕ) → slice_get (rest t.played.state) j ≡ Some here →
        slice_get (rest t.played.state) (suc j) ≡ Some there → Follows r end all here there) →
        Follows r end all here there
    pair true rest t here there k one two first later = absurd (none-some there two)
    pair false rest t here there zero one two first later =
        subst (λ u. Follows r end all u there) (same_Some t here one) (first refl two)
    pair false rest t here there (suc j) one two first later = later refl j one two

module _ {S : Type 0} (jobs : Replies) (r : Rules S) (cpus timers levels end : ℕ)
    (P : (now : ℕ) → Stage → S → Type 0) (Fits : Arming → Type 0)
    (keeps : KeptByRules r cpus timers levels end Fits P) (all : List Moment) where
  follows : (n now : ℕ) (ms : List Moment) (s : S) (k : ℕ) (here there : Turn S) →
      Playing jobs r cpus timers levels end P Fits keeps now ms s →
      ((t : ℕ) → now ≤ t → moments_past t ms ≡ moments_past t all) →
      slice_get (turns jobs r n end now ms s) k ≡ Some here →
      slice_get (turns jobs r n end now ms s) (suc k) ≡ Some there →
      Follows r end all here there
  unfolding turns
  follows zero now ms s k here there playing same one two = absurd (none-some here one)
  follows (suc n) now ms s k here there (known, up, low, holds) same one two =
      let t = turn jobs r ms now s in
      let after = moment_kept jobs r cpus timers levels end P Fits keeps now ms (r.at_clock now s)
      known holds in
      let clock : r.clock t.played.state ≡ now = keeps.clock now t.played.state after in
      let left = moments_after now ms in
      let rise = after_rise now end ms up in
      let time = next_moment r end left t.played.state in
      let still : moments_past now all ≡ left =
      sym (same now (omega arith)) ∙ (sym (past_after now now ms (omega arith)) ∙ past_all now end left rise) in
      pair jobs r end all (now == end)
      (λ u. turns jobs r n end (next_moment r end left u) left u) t here there k one two
      (λ more first. record {
        at =
            first_at jobs r end n time left t.played.state there first
            ∙ ap (λ ms. next_moment r end ms t.played.state) (sym still);
        clock = clock;
      })
      (λ more j one two.
      let apart : now ≢ end = eqb-false now end more in
      let next = next_is jobs r cpus timers levels end P Fits keeps now left t.played.state rise
      (omega (arith, low, apart)) clock in
      let later = next.later in
      follows n time left t.played.state j here there (
        after_in (IsMomentIn cpus timers) now ms known,
        next.rise,
        next.by_the_end,
        keeps.comes now time t.played.state after next.later next.by_the_end next.no_later,
      ) (λ t far. past_after now t ms (omega (arith, far, later)) ∙ same t (omega (arith, far, later)))
      one two)

-- in every script's play
module _ (jobs : Replies) (script : Script) (is : IsScript script) where
  abbrev tree : Shape
  tree = tree_for script

  first : Begun tree 0 (having_interrupt plain_rules (at_clock 0 (start tree script.timers)))
      (at_clock 0 (start tree script.timers))
  first =
      let kept = start_kept tree script.timers (planned_for script is) in
      record {
        whole = record { at = record { tree = refl; clock = refl }; kept = kept };
        online = due_online (at_clock 0 (start tree script.timers));
      }

  pub plain_follows : (k : ℕ) (here there : Turn State) →
      slice_get (play_turns jobs script) k ≡ Some here →
      slice_get (play_turns jobs script) (suc k) ≡ Some there →
      Follows plain_rules script.end script.moments here there
  plain_follows k here there one two =
      follows jobs plain_rules (cpu_count_of tree) script.timers (level_count_of tree) script.end
      (Settles tree) (λ a. Unit {0}) (rules_keep tree script.timers script.end is.early_end)
      script.moments (script.end + 1) 0 script.moments (start tree script.timers) k here there
      (moments_in script is, moments_rise script is, omega arith, first) (λ t low. refl) one two

  -- a moment of the play by steps, as Play sees it
  seen : StepsArePlay → (k : ℕ) (t : Turn World) →
      slice_get (step_turns jobs script) k ≡ Some t →
      slice_get (play_turns jobs script) k ≡ Some (turn_seen t)
  seen law k t there =
      ap (λ ts. slice_get ts k) (sym (law jobs script is).turns)
      ∙ slice_get-map turn_seen (step_turns jobs script) k ∙ ap (option_map turn_seen) there

  step_follows : StepsArePlay → (k : ℕ) (here there : Turn World) →
      slice_get (step_turns jobs script) k ≡ Some here →
      slice_get (step_turns jobs script) (suc k) ≡ Some there →
      Follows plain_rules script.end script.moments (turn_seen here) (turn_seen there)
  step_follows law k here there one two =
      plain_follows k (turn_seen here) (turn_seen there) (seen law k here one)
      (seen law (suc k) there two)

pub next_of_play : StepsArePlay → (w : World) (script : Script) → IsScript script →
    IsNextOfPlay w script
    (next_moment step_rules script.end (moments_past w.clock script.moments) w)
next_of_play law w script is jobs n here there one two at =
    let next : n + 1 ≡ suc n = omega arith in
    let behind = subst (λ k. slice_get (step_turns jobs script) k ≡ Some there) next two in
    let f = step_follows jobs script is law n here there one behind in
    f.at
    ∙ ap (λ t. next_moment step_rules script.end (moments_past t script.moments) here.played.state)
    (sym f.clock)
    ∙ ap (λ v. next_moment step_rules script.end (moments_past v.clock script.moments) v) at
