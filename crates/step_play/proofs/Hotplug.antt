-- for crates above: who may go idle and offline, who hands on to whom, and who takes control
use Rattle.std.proofs.Common.{◌≡◌, ◌≢◌, ℕ, ◌+◌, ◌<◌, Bool, true, false, length, Option, Some}
use Rattle.std.proofs.Common.{None, refl, sym, ap, ◌∙◌, subst, arith, inl, inr}
use Rattle.std.specs.Prelude.{◌&&◌, ◌==◌, find, if◌then◌else◌, is_none, min, nat_le, nat_lt, not}
use Rattle.std.specs.Option.{option_or}
use Rattle.std.proofs.lemmas.Bool.{and_from, and_parts, both_ways, cases_Bool, cond-true}
use Rattle.std.proofs.lemmas.Bool.{eq-eqb, leb-false, ltb-true, ne_eqb}
use Rattle.std.proofs.lemmas.Bool.{not_from_false, not_from_true}
use Rattle.std.proofs.lemmas.List.{get_or-set_same, length-set}
use Rattle.std.proofs.lemmas.Option.{none-some}
use Rattle.tm_base.specs.declared.faults.OpFault.TheVariants as faults
use Rattle.tm_base.specs.declared.names.TheConstants.{NEVER}
use Rattle.cpu_bases.specs.CpuBases.{events_of}
use Rattle.tree_plan.specs.Paths.{is_placed_in}
use Rattle.play_rules.specs.Interrupts.{cpu_id}
use Rattle.play_rules.specs.State.{Cpu, State, all_cpus, cpu_at, cpu_count, has_group, is_active}
use Rattle.play_rules.specs.State.{new_cpu}
use Rattle.play_rules.specs.Hierarchy.{common_duty, duty, first_event, least_told, next_of}
use Rattle.play_rules.specs.Hierarchy.{some_placed_active, woken}
use Rattle.play_rules.specs.Operations.{last_online}
use Rattle.play_rules.specs.Play.{hands_on, successor}
use Rattle.play_rules.specs.Timers.{controller, controlling}
use Rattle.play_laws.proofs.Answered.Ranges.{any_here, found_there}
use Rattle.core_world.specs.Enabled.{MayBeMissed, MayGoOffline, MayIdle, MayWake}
use Rattle.core_world.specs.declared.step.Step.TheVariants as steps
use Rattle.core_world.specs.Steps.{stepped}
use Rattle.core_world.specs.World as core
use Rattle.core_world.specs.World.{World, cpu_of}
use Rattle.core_facts.specs.core_laws.Laws.{StepsStayLawful}
use Rattle.step_play.specs.Rules.Alike.{Plays, WakesAlike}
use Rattle.step_play.specs.Rules.Seen.{InPlay, InRun, Phase, cpu_seen, handing, hands_in, resting}
use Rattle.step_play.specs.Rules.Seen.{state_of}
use Rattle.step_play.specs.Rules.StepRules.{handed_on_by_steps, made_active, step_rules}
use Rattle.step_play.specs.Rules.StepRules.{woken_by_steps}
use Rattle.step_play.proofs.Queues.Sights.{count_seen, seen_at}
use Rattle.step_play.proofs.Takes.{hand_plays}
use Rattle.step_play.proofs.Worlds.{free_in}

module _ (w : World) where
  abbrev s : State
  s = state_of w

  -- what Play reads of a CPU that is there
  pub read : {X : Type 0} (f : Cpu → X) (c : ℕ) → c < length w.cpus →
      f (cpu_at s c) ≡ f (cpu_seen w c)
  read f c low = ap f (seen_at w c low)

  -- THE SUCCESSOR
  pub record IsNext (c d : ℕ) : Type 0 where
    pub low : d < length w.cpus
    pub another : d ≢ c
    pub placed : is_placed_in w.tree d ≡ true
    pub online : (cpu_of w d).online ≡ true

  pub next_is : (c d : ℕ) → successor s c ≡ Some d → IsNext c d
  next_is c d is =
      let found =
      found_there (λ e. not (e == c) && (is_placed_in w.tree e && (cpu_at s e).online)) 0
      (cpu_count s) d is in
      let count = count_seen w in
      let low : d < length w.cpus = omega (arith, found.below, count) in
      let a = and_parts (not (d == c)) (is_placed_in w.tree d && (cpu_at s d).online) found.passes
      in
      let b = and_parts (is_placed_in w.tree d) (cpu_at s d).online a.1 in
      record {
        low = low;
        another = λ same. both_ways (not (d == c)) (not_from_true (d == c) (eq-eqb d c same)) a.0;
        placed = b.0;
        online = sym (read (λ x. x.online) d low) ∙ b.1;
      }

  -- THE CONTROLLER
  pub record IsHead (d : ℕ) : Type 0 where
    pub low : d < length w.cpus
    pub placed : is_placed_in w.tree d ≡ true
    pub online : (cpu_of w d).online ≡ true

  abbrev first_active : (d : ℕ) → Bool
  first_active d = is_placed_in w.tree d && ((cpu_at s d).online && not (cpu_at s d).idle)

  abbrev first_online : (d : ℕ) → Bool
  first_online d = is_placed_in w.tree d && (cpu_at s d).online

  head : (d : ℕ) → d < cpu_count s → is_placed_in w.tree d ≡ true → (cpu_at s d).online ≡ true →
      IsHead d
  head d within placed on =
      let count = count_seen w in
      let low : d < length w.cpus = omega (arith, within, count) in
      record { low = low; placed = placed; online = sym (read (λ x. x.online) d low) ∙ on }

  head_by : (o : Option ℕ) (d : ℕ) → find first_active (all_cpus s) ≡ o →
      option_or o (find first_online (all_cpus s)) ≡ Some d → IsHead d
  head_by None d none is =
      let found = found_there first_online 0 (cpu_count s) d is in
      let a = and_parts (is_placed_in w.tree d) (cpu_at s d).online found.passes in
      head d (let low = found.below in omega (arith, low)) a.0 a.1
  head_by (Some e) d at is =
      let found = found_there first_active 0 (cpu_count s) d (at ∙ is) in
      let a = and_parts (is_placed_in w.tree d) ((cpu_at s d).online && not (cpu_at s d).idle)
      found.passes in
      let b = and_parts (cpu_at s d).online (not (cpu_at s d).idle) a.1 in
      head d (let low = found.below in omega (arith, low)) a.0 b.0

  pub head_is : (d : ℕ) → controller s ≡ Some d → IsHead d
  head_is d is = head_by (find first_active (all_cpus s)) d refl is

  -- WHO IS ACTIVE
  pub runs : (c : ℕ) → (cpu_of w c).online ≡ true → (cpu_of w c).idle ≡ false →
      core.is_active (cpu_of w c) ≡ true
  runs c online busy =
      and_from (cpu_of w c).online (not (cpu_of w c).idle) online
      (not_from_false (cpu_of w c).idle busy)

  -- a CPU that hands on hands on to one that is idle, as no placed CPU is active
  pub heir_idle : (c d : ℕ) → hands_on s c ≡ true → IsNext c d → (cpu_of w d).idle ≡ true
  heir_idle c d hands next = elim (cases_Bool (cpu_of w d).idle) [
    | inl idle ↦ idle
    | inr busy ↦
        let parts = and_parts (has_group s c) (nat_lt (duty s c) NEVER) hands in
        let on : is_active s d ≡ true =
        read (λ x. x.online && not x.idle) d next.low ∙ runs d next.online busy in
        let some : some_placed_active s ≡ true =
        any_here (λ e. is_placed_in w.tree e && is_active s e) 0 (cpu_count s) d (omega arith)
        (let low = next.low in let count = count_seen w in omega (arith, low, count))
        (and_from (is_placed_in w.tree d) (is_active s d) next.placed on) in
        let never : duty s c ≡ NEVER =
        cond-true (has_group s c) (common_duty s) (next_of s c) parts.0
        ∙ cond-true (some_placed_active s) NEVER (least_told s (all_cpus s)) some in
        let less = ltb-true (duty s c) NEVER parts.1 in
        absurd (omega (arith, never, less))
  ]

  -- WHAT MAY BE
  module _ (i : InRun resting w) (c : ℕ) (low : c < length w.cpus)
      (online : (cpu_of w c).online ≡ true) (busy : (cpu_of w c).idle ≡ false) where
    pub may_idle : nat_le (first_event s c) (w.clock + 1) ≡ false → MayIdle w c
    may_idle later = record {
      is_free = free_in resting w c i refl low;
      active = runs c online busy;
      outside = i.inside c;
      rests = (
          let far = leb-false (first_event s c) (w.clock + 1) later in
          let same =
          read (λ x. min (events_of x.bases).pin (events_of x.bases).first_global) c low in
          omega (arith, far, same));
    }

    missed : (b : Bool) → is_placed_in w.tree c ≡ b → (o : Option ℕ) → successor s c ≡ o →
        (if b && is_none o then Some faults.LastOnline else None) ≡ None → MayBeMissed w c
    missed false placed o is none = inl placed
    missed true placed None is none = absurd (none-some faults.LastOnline (sym none))
    missed true placed (Some d) is none =
        let next = next_is c d is in inr (d, next.another, next.placed, next.online)

    pub may_go : last_online step_rules w c ≡ None → MayGoOffline w c
    may_go none = record {
      is_free = free_in resting w c i refl low;
      active = runs c online busy;
      outside = i.inside c;
      missed = missed (is_placed_in w.tree c) refl (successor s c) refl none;
    }

-- A CPU IS MADE ACTIVE
pub may_wake : (ph : Phase) (w : World) → InRun ph w → (d : ℕ) → d < length w.cpus →
    hands_in ph d ≡ false → (cpu_of w d).online ≡ true → (cpu_of w d).idle ≡ true → MayWake w d
may_wake ph w i d low other online idle = record {
  is_free = free_in ph w d i other low;
  online = online;
  idle = idle;
}

module _ (wakes : WakesAlike) (ph : Phase) (w : World) (i : InPlay ph w) (d : ℕ)
    (low : d < length w.cpus) (other : hands_in ph d ≡ false)
    (online : (cpu_of w d).online ≡ true) where
  by_idle : (b : Bool) → (cpu_of w d).idle ≡ b →
      Plays ph (if b then woken_by_steps w d else w)
      (if b then woken (state_of w) d else state_of w)
  by_idle true idle = wakes ph w d i (may_wake ph w i.in_run d low other online idle)
  by_idle false busy = record { in_play = i; state = refl }

  pub active_plays : Plays ph (made_active w d) (controlling (state_of w) d)
  active_plays =
      subst (λ b. Plays ph (made_active w d) (if b then woken (state_of w) d else state_of w))
      (sym (read w (λ x. x.idle) d low)) (by_idle (cpu_of w d).idle refl)

-- whoever woke is active
pub woken_active : (w v : World) (d : ℕ) → state_of v ≡ woken (state_of w) d → d < length w.cpus →
    (cpu_of w d).online ≡ true → core.is_active (cpu_of v d) ≡ true
woken_active w v d is low online =
    let count = count_seen w in
    let s = state_of w in
    let x : Cpu = record (cpu_at s d) { idle = false; wakeup = NEVER; told = NEVER } in
    let there : d < length v.cpus =
    (let many = count_seen v in
    let same = ap (λ (t : State). length t.cpus) is in
    let stays = length-set s.cpus d x in
    omega (arith, low, count, many, same, stays)) in
    let at : cpu_at (woken s d) d ≡ x =
    get_or-set_same s.cpus d x new_cpu (omega (arith, low, count)) in
    let seen : cpu_seen v d ≡ x = sym (seen_at v d there) ∙ (ap (λ t. cpu_at t d) is ∙ at) in
    ap (λ (z : Cpu). z.online && not z.idle) seen
    ∙ (ap (λ b. b && true) (read w (λ z. z.online) d low ∙ online))

-- HANDING ON
pub handed_plays : StepsStayLawful → WakesAlike → (w : World) (c d : ℕ) → InPlay (handing c) w →
    c < length w.cpus → hands_on (state_of w) c ≡ true → successor (state_of w) c ≡ Some d →
    Plays resting (handed_on_by_steps w c d) (woken (state_of w) d)
handed_plays law wakes w c d i low hands is =
    let next = next_is w c d is in
    let idle = heir_idle w c d hands next in
    let p = wakes (handing c) w d i
    (may_wake (handing c) w i.in_run d next.low (ne_eqb d c next.another) next.online idle) in
    let v = woken_by_steps w d in
    let many = ap (λ (t : State). length t.cpus) p.state in
    let within : c < length v.cpus =
    (let old = count_seen w in
    let new = count_seen v in
    let stays = length-set (state_of w).cpus d
    (record (cpu_at (state_of w) d) { idle = false; wakeup = NEVER; told = NEVER }) in
    omega (arith, low, many, old, new, stays)) in
    let last = hand_plays law v c d within next.another
    (ap (λ (t : State). is_placed_in t.tree d) p.state ∙ next.placed)
    (woken_active w v d p.state next.low next.online) p.in_play in
    subst (λ (u : World). Plays resting (stepped u (steps.HandOn (cpu_id c) (cpu_id d)))
    (woken (state_of w) d)) (sym (cond-true (cpu_of w d).idle v w idle))
    (record { in_play = last.in_play; state = last.state ∙ p.state })
