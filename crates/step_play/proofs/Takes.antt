-- for crates above: a CPU enters its interrupt, takes another one there, and hands on its duty
use Rattle.std.proofs.Common.{◌≡◌, ◌≢◌, ℕ, ◌<◌, ◌≤◌, true, false, length, Option, Some, None}
use Rattle.std.proofs.Common.{refl, sym, ap, ◌∙◌, subst, arith, inl, inr}
use Rattle.std.specs.Prelude.{◌&&◌, ◌==◌, is_none, nat_le, not}
use Rattle.std.proofs.lemmas.Bool.{and_parts, both_ways, cases_Bool, cases_lt, cond-false}
use Rattle.std.proofs.lemmas.Bool.{cond-true, eq-eqb, leb-true, ne_eqb, true≢false}
use Rattle.std.proofs.lemmas.Option.{none-some}
use Rattle.tm_base.specs.declared.names.TheConstants.{NEVER}
use Rattle.tree_plan.specs.Paths.{group_at_of, is_placed_in}
use Rattle.event_queue.specs.declared.event.Event.{Event}
use Rattle.event_queue.specs.EventMap.{event_at}
use Rattle.walk_rules.specs.declared.walk.Walk.{Walk}
use Rattle.walk_rules.specs.Hierarchy.{side}
use Rattle.play_rules.specs.Interrupts.{cpu_id}
use Rattle.core_world.specs.declared.step.Step.TheVariants as steps
use Rattle.core_world.specs.Enabled.{IsDueAtLeaf, MayEnter, MayHandOn, MayTake}
use Rattle.core_world.specs.Steps.{stepped, with_walk}
use Rattle.core_world.specs.World.{CpuRecord, World, cpu_of, group_of, is_active}
use Rattle.core_facts.specs.core_laws.Laws.{StepsStayLawful}
use Rattle.step_play.specs.Rules.Alike.{Plays}
use Rattle.step_play.specs.Rules.Live.{counting, expiry_of, told_by, told_in}
use Rattle.step_play.specs.Rules.Seen.{InPlay, InRun, WalkFits, handing, inside, resting, serving}
use Rattle.step_play.specs.Rules.Seen.{state_of}
use Rattle.step_play.specs.Rules.StepRules.{can_be_taken}
use Rattle.step_play.proofs.Queues.Sights.{past_of}
use Rattle.step_play.proofs.Worlds.{Bare, Fits, bare, dressed, free_in, own_is, put_bare}
use Rattle.step_play.proofs.Worlds.{put_hidden, put_plays, walk_by}

-- whoever is online is there
pub there : (w : World) (c : ℕ) → (cpu_of w c).online ≡ true → c < length w.cpus
there w c on = elim (cases_lt c (length w.cpus)) [
  | inl low ↦ low
  | inr high ↦ absurd (true≢false (sym on ∙ ap (λ (y : CpuRecord). y.online) (past_of w c high)))
]

none_there : {X : Type 0} (o : Option X) → is_none o ≡ true → o ≡ None
none_there None is = refl
none_there (Some x) is = absurd (both_ways false refl is)

-- what is told and comes is the CPU's event in its leaf
module _ (w : World) (d : ℕ) (clock : w.clock < NEVER) where
  event_due : (leaf : ℕ) → group_at_of w.tree d 0 ≡ Some leaf → (o : Option Event) →
      event_at (group_of w leaf).events (side w.tree d 0) ≡ o →
      expiry_of (counting o) ≤ w.clock → IsDueAtLeaf w d
  event_due leaf path None is come = absurd (omega (arith, come, clock))
  event_due leaf path (Some e) is come = elim (cases_Bool e.ignored) [
    | inl passed ↦
        let never = ap expiry_of (cond-true e.ignored None (Some e) passed) in
        absurd (omega (arith, come, clock, never))
    | inr counts ↦
        let same = ap expiry_of (cond-false e.ignored None (Some e) counts) in
        record {
          leaf = leaf;
          event = e;
          path = path;
          there = is;
          counts = counts;
          come = omega (arith, come, same);
        }
  ]

  due_by : (o : Option ℕ) → group_at_of w.tree d 0 ≡ o → told_in w d o ≤ w.clock → IsDueAtLeaf w d
  due_by None path come = absurd (omega (arith, come, clock))
  due_by (Some leaf) path come = event_due leaf path _ refl come

  pub due_at_leaf : told_by w d ≤ w.clock → IsDueAtLeaf w d
  due_at_leaf come = due_by (group_at_of w.tree d 0) refl come

-- whom a look can take
pub record IsTakeable (w : World) (d : ℕ) : Type 0 where
  pub online : (cpu_of w d).online ≡ true
  pub idle : (cpu_of w d).idle ≡ true
  pub unmarked : (cpu_of w d).mark ≡ None
  pub come : told_by w d ≤ w.clock

pub takeable : (w : World) (d : ℕ) → can_be_taken w d ≡ true → IsTakeable w d
takeable w d is =
    let y = cpu_of w d in
    let due = nat_le (told_by w d) w.clock in
    let a = and_parts y.online (y.idle && (is_none y.walk && (is_none y.mark && due))) is in
    let b = and_parts y.idle (is_none y.walk && (is_none y.mark && due)) a.1 in
    let c = and_parts (is_none y.walk) (is_none y.mark && due) b.1 in
    let e = and_parts (is_none y.mark) due c.1 in
    record {
      online = a.0;
      idle = b.0;
      unmarked = none_there y.mark e.0;
      come = leb-true (told_by w d) w.clock e.1;
    }

-- WHAT MAY BE
module _ (w : World) where
  pub may_enter : (c : ℕ) → InRun resting w → (cpu_of w c).online ≡ true → MayEnter w c
  may_enter c i online = record {
    is_free = free_in resting w c i refl (there w c online);
    online = online;
    outside = i.inside c;
  }

  pub may_take : (c d : ℕ) → InRun (inside c) w → is_placed_in w.tree c ≡ true →
      c < length w.cpus → can_be_taken w d ≡ true → MayTake w d c
  may_take c d i placed low_c can =
      let t = takeable w d can in
      let free = free_in (inside c) w c i refl low_c in
      record {
        by_in_range = low_c;
        by_placed = placed;
        by_inside = i.inside c ∙ eq-eqb c c refl;
        by_goes_on = λ made. none-some made.made (sym free.free ∙ made.walk);
        is_free = free_in (inside c) w d i refl (there w d t.online);
        online = t.online;
        idle = t.idle;
        unmarked = t.unmarked;
        due = due_at_leaf w d (let clock = i.lawful.times.clock in omega (arith, clock)) t.come;
      }

  module _ (c d : ℕ) (i : InRun (handing c) w) (low_c : c < length w.cpus)
      (another : d ≢ c) (placed : is_placed_in w.tree d ≡ true)
      (active : is_active (cpu_of w d) ≡ true) where
    may_hand : (m : Option Walk) → (cpu_of w c).walk ≡ m → WalkFits (handing c) c m →
        MayHandOn w c d
    may_hand None is fits = absurd (both_ways (c == c) fits (eq-eqb c c refl))
    may_hand (Some k) is fits = record {
      in_range = low_c;
      made = k;
      walk = is;
      handing = fits.1;
      to_in_range = there w d (and_parts (cpu_of w d).online (not (cpu_of w d).idle) active).0;
      another = another;
      to_placed = placed;
      to_active = active;
    }

    pub may_hand_on : MayHandOn w c d
    may_hand_on = may_hand (cpu_of w c).walk refl (i.walks c)

module _ (law : StepsStayLawful) (w : World) where
  -- ENTER
  pub enters : (c : ℕ) → InRun resting w → (cpu_of w c).online ≡ true →
      InRun (inside c) (stepped w (steps.Enter (cpu_id c)))
  enters c i online =
      let low = there w c online in
      let y = record (cpu_of w c) { inside = true } in
      let v = stepped w (steps.Enter (cpu_id c)) in
      let lawful = law w (steps.Enter (cpu_id c)) i.lawful (may_enter w c i online) in
      let fits : Fits resting (inside c) w c y = record {
        whole = i.whole c;
        inside = sym (eq-eqb c c refl);
        mark = i.marks c;
        walk = walk_by resting (inside c) c (cpu_of w c).walk refl (i.walks c);
        others_inside = λ d ne. ne_eqb d c ne;
        others_marks = λ d ne. refl;
        others_hand = λ d ne. refl;
      } in
      dressed (inside c) v (subst (Bare (inside c)) (sym (own_is w c y))
      (put_bare resting (inside c) w c y low (bare resting w i) fits)) lawful

  pub enter_plays : (c : ℕ) → InPlay resting w → (cpu_of w c).online ≡ true →
      Plays (inside c) (stepped w (steps.Enter (cpu_id c))) (state_of w)
  enter_plays c i online =
      let low = there w c online in
      let y = record (cpu_of w c) { inside = true } in
      record {
        in_play = put_plays resting (inside c) w c y _ low refl refl (own_is w c y) i
            (enters c i.in_run online);
        state = ap state_of (own_is w c y) ∙ put_hidden w c y low refl;
      }

  -- TAKE
  pub takes : (c d : ℕ) → InRun (inside c) w → is_placed_in w.tree c ≡ true →
      c < length w.cpus → can_be_taken w d ≡ true →
      InRun (serving c d) (stepped w (steps.Take (cpu_id d) (cpu_id c)))
  takes c d i placed low_c can =
      let t = takeable w d can in
      let low = there w d t.online in
      let y = record (cpu_of w d) { mark = Some c } in
      let v = stepped w (steps.Take (cpu_id d) (cpu_id c)) in
      let lawful = law w (steps.Take (cpu_id d) (cpu_id c)) i.lawful
      (may_take w c d i placed low_c can) in
      let fits : Fits (inside c) (serving c d) w d y = record {
        whole = i.whole d;
        inside = i.inside d;
        mark = sym (cond-true (d == d) (Some c) None (eq-eqb d d refl));
        walk = walk_by (inside c) (serving c d) d (cpu_of w d).walk refl (i.walks d);
        others_inside = λ e ne. refl;
        others_marks = λ e ne. cond-false (e == d) (Some c) None (ne_eqb e d ne);
        others_hand = λ e ne. refl;
      } in
      dressed (serving c d) v (subst (Bare (serving c d)) (sym (own_is w d y))
      (put_bare (inside c) (serving c d) w d y low (bare (inside c) w i) fits)) lawful

  pub take_plays : (c d : ℕ) → InPlay (inside c) w → is_placed_in w.tree c ≡ true →
      c < length w.cpus → can_be_taken w d ≡ true →
      Plays (serving c d) (stepped w (steps.Take (cpu_id d) (cpu_id c))) (state_of w)
  take_plays c d i placed low_c can =
      let low = there w d (takeable w d can).online in
      let y = record (cpu_of w d) { mark = Some c } in
      record {
        in_play = put_plays (inside c) (serving c d) w d y _ low refl refl (own_is w d y) i
            (takes c d i.in_run placed low_c can);
        state = ap state_of (own_is w d y) ∙ put_hidden w d y low refl;
      }

  -- HANDING ON
  module _ (c d : ℕ) (low_c : c < length w.cpus) (another : d ≢ c)
      (placed : is_placed_in w.tree d ≡ true) (active : is_active (cpu_of w d) ≡ true) where
    pub hands : InRun (handing c) w →
        InRun resting (stepped w (steps.HandOn (cpu_id c) (cpu_id d)))
    hands i =
        let y = with_walk (cpu_of w c) None in
        let v = stepped w (steps.HandOn (cpu_id c) (cpu_id d)) in
        let lawful = law w (steps.HandOn (cpu_id c) (cpu_id d)) i.lawful
        (may_hand_on w c d i low_c another placed active) in
        let fits : Fits (handing c) resting w c y = record {
          whole = i.whole c;
          inside = i.inside c;
          mark = i.marks c;
          walk = refl;
          others_inside = λ e ne. refl;
          others_marks = λ e ne. refl;
          others_hand = λ e ne. sym (ne_eqb e c ne);
        } in
        dressed resting v (subst (Bare resting) (sym (own_is w c y))
        (put_bare (handing c) resting w c y low_c (bare (handing c) w i) fits)) lawful

    pub hand_plays : InPlay (handing c) w →
        Plays resting (stepped w (steps.HandOn (cpu_id c) (cpu_id d))) (state_of w)
    hand_plays i =
        let y = with_walk (cpu_of w c) None in
        record {
          in_play = put_plays (handing c) resting w c y _ low_c refl refl (own_is w c y) i
              (hands i.in_run);
          state = ap state_of (own_is w c y) ∙ put_hidden w c y low_c refl;
        }
