-- the work of a story, moment by moment
use Rattle.std.proofs.Common.{◌≡◌, ℕ, zero, suc, ◌+◌, ◌*◌, ◌<◌, ◌≤◌, List, [], ◌∷◌, Bool, true}
use Rattle.std.proofs.Common.{false, Some, None, refl, sym, ◌∙◌, subst, arith, inl, inr}
use Rattle.std.proofs.Common.{length}
use Rattle.std.specs.Prelude.{All, ◌≢◌, ◌==◌, nat_le}
use Rattle.std.specs.List.{sum_by}
use Rattle.std.specs.Ordering.{nat_cmp}
use Rattle.std.specs.FinSet as set
use Rattle.std.proofs.Math.Nat.{le-mul_of_pos_right, suc-mul}
use Rattle.std.proofs.lemmas.Bool.{cases_eq, cond-false, eq-eqb, lt-leb, ne_eqb}
use Rattle.std.proofs.lemmas.List.Sums.{sum_by-cons}
use Rattle.std.proofs.lemmas.List.Elements.{All-cons, All-head, All-nil, All-tail}
use Rattle.tm_base.specs.declared.limits.TheConstants.{SCRIPT_TIME_LIMIT}
use Rattle.tm_script.specs.declared.syntax.Moment.{Moment}
use Rattle.tm_script.specs.declared.syntax.Script.{Script}
use Rattle.tm_script.specs.Grammar.{IsScript}
use Rattle.tree_plan.specs.Shape.{Shape}
use Rattle.tree_plan.specs.Paths.{cpu_count_of, level_count_of}
use Rattle.wheel_core.specs.WheelExpiry.{greatest_timeout}
use Rattle.play_rules.specs.Interrupts.{Replies, having_interrupt, interrupts}
use Rattle.play_rules.specs.Moments.{AfterEach, Turn, moment_at, moments_after, next_moment}
use Rattle.play_rules.specs.Moments.{spent_at}
use Rattle.play_rules.specs.Parts.{Played}
use Rattle.play_laws.proofs.Answered.Scripts.{moments_in, moments_rise, tree_for}
use Rattle.play_laws.proofs.Shape.Shape.{KeptByRules}
use Rattle.play_laws.proofs.Shape.ShapeTurns.{IsMomentIn, Rise, after_in, after_rise, moment_kept}
use Rattle.play_laws.proofs.Shape.ShapeTurns.{next_is}
use Rattle.play_laws.proofs.Work.Silent.{scripted_none}
use Rattle.play_laws.proofs.Work.Whole.{all}
use Rattle.core_world.specs.World.{World}
use Rattle.core_facts.specs.core_laws.Start.Layer.{StartsLawful}
use Rattle.step_play.specs.Rules.Seen.{InRun, resting}
use Rattle.step_play.specs.Rules.StepRules.{step_rules}
use Rattle.step_play.specs.SamePlay.{core_start}
use Rattle.step_play.proofs.Starts.{core_starts}
use Rattle.run_story.specs.Stories.{BrokenFrom, Behind, IsMomentBy, IsTurnInTime}
use Rattle.run_story.specs.Stories.{StoryFrom, count_due, is_plain, ops_of}
use Rattle.run_laws.specs.Work.{BrokenWorkIsBounded, MomentWorkIsBounded, StoryIsUnspent}
use Rattle.run_laws.proofs.Built.{Any, IsBuilt, at_time, rules_build}
use Rattle.run_laws.proofs.Homes.{are_homes, lawful_timers, timers_at}
use Rattle.run_laws.proofs.Interrupts.{interrupts_pay}
use Rattle.run_laws.proofs.Rounds.{count_low, round_runs}

module _ (jobs : Replies) (t : Shape) (timers end : ℕ) (in_time : end < SCRIPT_TIME_LIMIT)
    (soon : end ≤ greatest_timeout) where
  abbrev cpus : ℕ
  cpus = cpu_count_of t

  abbrev most : ℕ
  most = 1 + cpus + timers

  keeps : KeptByRules step_rules cpus timers (level_count_of t) end Any
      (λ now stage w. IsBuilt t timers now w)
  keeps = rules_build t timers end

  -- A CORE AT REST, from which a moment's time comes
  pub record From (now : ℕ) (ms : List Moment) (w : World) : Type 0 where
    pub known : All (IsMomentIn cpus timers) ms
    pub rise : Rise now end ms
    pub low : now ≤ end
    pub run : InRun resting w
    pub built : IsBuilt t timers now (step_rules.at_clock now w)

  module _ (now : ℕ) (ms : List Moment) (w : World) (from : From now ms w) (p : Played World)
      (rest : InRun resting p.state) where
    abbrev o : World
    o = step_rules.at_clock now w

    abbrev due : set.FinSet nat_cmp
    due = having_interrupt step_rules o

    -- ITS WORK
    work_by : (plain : Bool) → IsMomentBy plain jobs due (moment_at now ms) o p → p.work ≤ most
    work_by true h =
        let low = from.low in
        let count = from.built.cpus in
        let many = from.built.timers_are in
        let has = timers_at now w (lawful_timers w from.run.lawful) in
        let early : now < SCRIPT_TIME_LIMIT = omega (arith, low, in_time) in
        let pays = interrupts_pay o.timers (length o.cpus) (level_count_of o.tree) now
        (omega (arith, low, soon)) jobs (length o.cpus) 0 due all o (omega arith)
        (record { at = refl; count = refl; homes = are_homes o has early }) in
        let paid = pays.paid in
        let all_of = count_low o.timers all in
        let none = scripted_none step_rules (moment_at now ms)
        (interrupts jobs step_rules (length o.cpus) 0 due o).state in
        let work = h.work in
        omega (arith, work, paid, all_of, none, count, many)
    work_by false h =
        let low = from.low in
        let count = from.built.cpus in
        let many = from.built.timers_are in
        let has = timers_at now w (lawful_timers w from.run.lawful) in
        let runs = round_runs jobs o due (ops_of (moment_at now ms)) p.state h.told h.round has
        rest.lawful (omega (arith, low, soon)) in
        let called : count_due (length o.cpus) due ≤ length o.cpus =
        count_low (length o.cpus) (set.contains due) in
        let work = h.work in
        omega (arith, work, runs, called, count, many)

    -- WHAT IT LEAVES
    left_by : (plain : Bool) → IsMomentBy plain jobs due (moment_at now ms) o p
        → IsBuilt t timers now p.state
    left_by true h =
        subst (IsBuilt t timers now) (sym h.state)
        (moment_kept jobs step_rules cpus timers (level_count_of t) end
        (λ at stage v. IsBuilt t timers at v) Any keeps now ms o from.known from.built)
    left_by false h = record {
      tree = h.round.tree ∙ from.built.tree;
      timers_are = h.round.timers ∙ from.built.timers_are;
      clock = h.round.clock;
      cpus = h.round.cpus ∙ from.built.cpus;
    }

    -- and the next one
    record Then (ns : List Moment) (next : ℕ) : Type 0 where
      later : now < next
      from_there : From next ns p.state

    next_by : now ≢ end → IsBuilt t timers now p.state
        → Then (moments_after now ms) (next_moment step_rules end (moments_after now ms) p.state)
    next_by apart built =
        let low = from.low in
        let ns = moments_after now ms in
        let next = next_moment step_rules end ns p.state in
        let behind = next_is jobs step_rules cpus timers (level_count_of t) end
        (λ at stage v. IsBuilt t timers at v) Any keeps now ns p.state
        (after_rise now end ms from.rise) (omega (arith, low, apart)) built.clock in
        record {
          later = behind.later;
          from_there = record {
            known = after_in (IsMomentIn cpus timers) now ms from.known;
            rise = behind.rise;
            low = behind.by_the_end;
            run = rest;
            built = at_time t timers now next p.state built;
          };
        }

  -- A MOMENT that comes at its time
  module _ (now : ℕ) (ms : List Moment) (w : World) (from : From now ms w) (u : Turn World)
      (rest : InRun resting u.played.state) (h : IsTurnInTime jobs end ms now w u) where
    turn_low : u.played.work ≤ most
    turn_low = work_by now ms w from u.played rest
        (is_plain (length (step_rules.at_clock now w).cpus)
        (having_interrupt step_rules (step_rules.at_clock now w)) (ops_of (moment_at now ms))) h.1

    turn_then : now ≢ end → Then now ms w from u.played rest (moments_after now ms)
        (next_moment step_rules end (moments_after now ms) u.played.state)
    turn_then apart = next_by now ms w from u.played rest apart
        (left_by now ms w from u.played rest
        (is_plain (length (step_rules.at_clock now w).cpus)
        (having_interrupt step_rules (step_rules.at_clock now w)) (ops_of (moment_at now ms))) h.1)

  -- BROKEN OFF: so many jiffies at most come before the end
  broken_low : (m now : ℕ) (ms : List Moment) (w : World) (ts : List (Turn World))
      → From now ms w → end ≤ now + m → AfterEach (InRun resting) ts
      → BrokenFrom jobs end ms now w ts
      → sum_by (λ (u : Turn World). u.played.work) ts ≤ m * most
  unfolding BrokenFrom
  broken_low m now ms w [] from far rests h = omega arith
  broken_low zero now ms w (u ∷ ts) from far rests h =
      let low = from.low in
      let apart : now ≢ end = h.0 in
      absurd (apart (omega (arith, low, far)))
  broken_low (suc m) now ms w (u ∷ ts) from far rests h =
      let rest = All-head (λ (v : Turn World). InRun resting v.played.state) u ts rests in
      let one = turn_low now ms w from u rest h.1 in
      let next = turn_then now ms w from u rest h.1 h.0 in
      let later = next.later in
      let others = broken_low m (next_moment step_rules end (moments_after now ms) u.played.state)
      (moments_after now ms) u.played.state ts next.from_there (omega (arith, later, far))
      (All-tail (λ (v : Turn World). InRun resting v.played.state) u ts rests) h.2 in
      let sum : suc m * most ≡ m * most + most = suc-mul m most in
      let split : sum_by (λ (v : Turn World). v.played.work) (u ∷ ts)
      ≡ u.played.work + sum_by (λ (v : Turn World). v.played.work) ts =
      sum_by-cons (λ (v : Turn World). v.played.work) u ts in
      omega (arith, one, others, sum, split)

  -- behind the last moment nothing comes
  none_behind : (now : ℕ) (rest : Type 0) (ts : List (Turn World)) → now ≡ end
      → Behind jobs end (now == end) rest ts → ts ≡ []
  none_behind now rest ts last h = subst (λ b. Behind jobs end b rest ts) (eq-eqb now end last) h

  some_behind : (now : ℕ) (rest : Type 0) (ts : List (Turn World)) → now ≢ end
      → Behind jobs end (now == end) rest ts → rest
  some_behind now rest ts apart h =
      subst (λ b. Behind jobs end b rest ts) (ne_eqb now end apart) h

  -- WHOLE: each of its moments
  each_low : (now : ℕ) (ms : List Moment) (w : World) (ts : List (Turn World)) → From now ms w
      → AfterEach (InRun resting) ts → StoryFrom jobs end ms now w ts
      → All (λ (u : Turn World). u.played.work ≤ most) ts
  unfolding StoryFrom
  each_low now ms w [] from rests h = absurd h
  each_low now ms w (u ∷ ts) from rests h =
      let rest = All-head (λ (v : Turn World). InRun resting v.played.state) u ts rests in
      let one = turn_low now ms w from u rest h.0 in
      All-cons (λ (v : Turn World). v.played.work ≤ most) u ts one
      (elim (cases_eq now end) [
        | inl last ↦
            subst (All (λ (v : Turn World). v.played.work ≤ most))
            (sym (none_behind now _ ts last h.1))
            (All-nil (λ (v : Turn World). v.played.work ≤ most))
        | inr apart ↦
            let next = turn_then now ms w from u rest h.0 apart in
            each_low (next_moment step_rules end (moments_after now ms) u.played.state)
            (moments_after now ms) u.played.state ts next.from_there
            (All-tail (λ (v : Turn World). InRun resting v.played.state) u ts rests)
            (some_behind now _ ts apart h.1)
      ])

  -- .. and the count stays below a limit that they can't come to
  spent_later : (limit work : ℕ) (u : Turn World) (ts : List (Turn World))
      → work + u.played.work < limit → spent_at limit (work + u.played.work) ts ≡ None
      → spent_at limit work (u ∷ ts) ≡ None
  spent_later limit work u [] low rest = refl
  spent_later limit work u (v ∷ ts) low rest =
      cond-false (nat_le limit (work + u.played.work)) (Some (work + u.played.work))
      (spent_at limit (work + u.played.work) (v ∷ ts))
      (lt-leb limit (work + u.played.work) low)
      ∙ rest

  last_unspent : (limit work : ℕ) (u : Turn World) (ts : List (Turn World)) → ts ≡ []
      → spent_at limit work (u ∷ ts) ≡ None
  last_unspent limit work u ts none =
      subst (λ xs. spent_at limit work (u ∷ xs) ≡ None) (sym none) refl

  none_spent : (m now work limit : ℕ) (ms : List Moment) (w : World) (ts : List (Turn World))
      → From now ms w → end ≤ now + m → work + m * most < limit → AfterEach (InRun resting) ts
      → StoryFrom jobs end ms now w ts → spent_at limit work ts ≡ None
  unfolding StoryFrom
  none_spent m now work limit ms w [] from far enough rests h = absurd h
  none_spent zero now work limit ms w (u ∷ ts) from far enough rests h =
      elim (cases_eq now end) [
        | inl last ↦ last_unspent limit work u ts (none_behind now _ ts last h.1)
        | inr apart ↦ let low = from.low in absurd (apart (omega (arith, low, far)))
      ]
  none_spent (suc m) now work limit ms w (u ∷ ts) from far enough rests h =
      elim (cases_eq now end) [
        | inl last ↦ last_unspent limit work u ts (none_behind now _ ts last h.1)
        | inr apart ↦
            let rest = All-head (λ (v : Turn World). InRun resting v.played.state) u ts rests in
            let one = turn_low now ms w from u rest h.0 in
            let next = turn_then now ms w from u rest h.0 apart in
            let after = next.later in
            let sum : suc m * most ≡ m * most + most = suc-mul m most in
            spent_later limit work u ts (omega (arith, one, sum, enough))
            (none_spent m (next_moment step_rules end (moments_after now ms) u.played.state)
            (work + u.played.work) limit (moments_after now ms) u.played.state ts next.from_there
            (omega (arith, after, far)) (omega (arith, one, sum, enough))
            (All-tail (λ (v : Turn World). InRun resting v.played.state) u ts rests)
            (some_behind now _ ts apart h.1))
      ]

-- THE START of a script
first_from : StartsLawful → (jobs : Replies) (script : Script) (is : IsScript script)
    (soon : script.end ≤ greatest_timeout)
    → From jobs (tree_for script) script.timers script.end is.early_end soon 0 script.moments
    (core_start script)
first_from starts jobs script is soon = record {
  known = moments_in script is;
  rise = moments_rise script is;
  low = omega arith;
  run = (core_starts starts script is).in_run;
  built = record {
    tree = refl;
    timers_are = refl;
    clock = refl;
    cpus = (core_starts starts script is).in_run.lawful.sized.cpus;
  };
}

-- THE LAWS
pub moments_bounded : StartsLawful → MomentWorkIsBounded
moments_bounded starts jobs script ts is soon rests story =
    each_low jobs (tree_for script) script.timers script.end is.early_end soon 0 script.moments
    (core_start script) ts (first_from starts jobs script is soon) rests story

pub broken_bounded : StartsLawful → BrokenWorkIsBounded
broken_bounded starts jobs script ts is soon rests story =
    broken_low jobs (tree_for script) script.timers script.end is.early_end soon script.end 0
    script.moments (core_start script) ts (first_from starts jobs script is soon) (omega arith)
    rests story

pub story_unspent : StartsLawful → StoryIsUnspent
story_unspent starts jobs script limit ts is few enough rests story =
    let most_of = 1 + cpu_count_of (tree_for script) + script.timers in
    let by : script.end ≤ script.end * most_of = le-mul_of_pos_right script.end (omega arith) in
    let soon : script.end ≤ greatest_timeout = omega (arith, by, few, enough) in
    none_spent jobs (tree_for script) script.timers script.end is.early_end soon script.end 0 0
    limit script.moments (core_start script) ts (first_from starts jobs script is soon)
    (omega arith) (omega (arith, enough)) rests story
