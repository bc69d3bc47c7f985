-- the stages of a walk that read, and those that take locks
use Rattle.std.proofs.Common.{◌≡◌, ℕ, zero, suc, ◌+◌, ◌-◌, Bool, true, false, take, cond, Some}
use Rattle.std.proofs.Common.{length, refl, sym, ap, ◌∙◌, arith}
use Rattle.std.specs.Prelude.{◌==◌, ◌||◌, is_some}
use Rattle.std.proofs.lemmas.Bool.{cond-true, eqb-true}
use Rattle.tm_base.specs.declared.names.TheConstants.{NEVER}
use Rattle.event_queue.specs.EventMap.{EventMap, event_at}
use Rattle.walk_rules.specs.declared.walk.Walk.{Walk}
use Rattle.walk_rules.specs.declared.walk.Stage.{Stage}
use Rattle.walk_rules.specs.declared.walk.Stage.TheVariants as stages
use Rattle.walk_rules.specs.Hierarchy.{at_top, group_on}
use Rattle.walk_rules.specs.Scene.{Group}
use Rattle.walk_rules.specs.Stages.{after_sight, at_stage, child_next, first_of, first_sight}
use Rattle.walk_rules.specs.Stages.{read_next, see_child_next, sooner_event, with_lock}
use Rattle.core_facts.specs.core_laws.Laws.{StepsStayLawful}
use Rattle.core_world.specs.Enabled.{MayGoOn}
use Rattle.core_world.specs.Lawful.{IsLawful}
use Rattle.core_world.specs.Steps.{child_here, child_on, here, walked}
use Rattle.walk_rules.specs.Standing.{FitsStage}
use Rattle.step_play.specs.Rules.Live.{first, first_in}
use Rattle.core_world.specs.World.{World, group_of}
use Rattle.step_play.proofs.Telling.Slots.{first_all, first_more, first_upto, least_live}
use Rattle.step_play.proofs.Telling.Standing.{child_free, child_is, child_off, eight, fits}
use Rattle.step_play.proofs.Telling.Standing.{group_free}
use Rattle.step_play.proofs.Telling.Standing.{sees_on, there, under}
use Rattle.step_play.proofs.Telling.Staying.{IsSame, IsWithin, events_same, fields_at, further}
use Rattle.step_play.proofs.Telling.Staying.{lawful_after, migrator_same, stays, stepping}
use Rattle.step_play.proofs.Telling.Telling.{Begun, Fields, IsBest, IsFurther, Sees, Tells, finds}
use Rattle.step_play.proofs.Telling.Telling.{is_under_way, looks}
use Rattle.step_play.proofs.Activation.Scans.{scan_all, scan_more}

-- the first word that is read under the locks
sight_within : (k : Walk) (n : ℕ) → IsWithin k stages.LockGroup (at_stage k (first_sight n))
sight_within k zero = record {
  level = refl;
  kind = refl;
  left = omega arith;
  stored = λ e. e;
  under = refl;
  further = omega arith;
}
sight_within k (suc n) = record {
  level = refl;
  kind = refl;
  left = omega arith;
  stored = λ e. e;
  under = refl;
  further = omega arith;
}

sight_fields : (w : World) (c : ℕ) (k : Walk) (n : ℕ) → Begun k → Fields w c k (first_sight n)
sight_fields w c k zero b = b
sight_fields w c k (suc n) b = b

module _ (laws : StepsStayLawful) {old w : World} {c : ℕ} {made k : Walk}
    (t : Tells old c made w k) where
  lawful : (st : Stage) → k.stage ≡ st → MayGoOn w c k st → IsLawful (walked w c k st)
  lawful st at may = lawful_after t laws st at may

  -- a step within a level that changes its walk, and of a group its lock alone
  pub calm : (st : Stage) → k.stage ≡ st → is_under_way st ≡ true → (g : ℕ) (x : Group) →
      IsSame x (group_of w g) → (j : Walk) → IsWithin k st j →
      IsLawful (stepping w c g x j false) → Fields (stepping w c g x j false) c j j.stage →
      IsFurther old c made k (stepping w c g x j false)
  calm st at on g x same j within kept fields =
      further t st at (stepping w c g x j false) j
      (stays t g x j false st at on same within kept fields) within.further

  -- of its walk alone
  abbrev Own : Walk → World
  Own j = stepping w c 0 (group_of w 0) j false

  mine : (st : Stage) → k.stage ≡ st → is_under_way st ≡ true → (j : Walk) → IsWithin k st j →
      IsLawful (Own j) → Fields (Own j) c j j.stage → IsFurther old c made k (Own j)
  mine st at on j =
      calm st at on 0 (group_of w 0) (record { active = refl; migrator = refl; events = refl }) j

  migrator_own : (j : Walk) (h : ℕ) → (group_of (Own j) h).migrator ≡ (group_of w h).migrator
  migrator_own j h = migrator_same w c 0 (group_of w 0) j false refl h

  events_own : (j : Walk) (h : ℕ) → (group_of (Own j) h).events ≡ (group_of w h).events
  events_own j h = events_same w c 0 (group_of w 0) j false refl h

  begun : (j : Walk) → j.first ≡ k.first → j.best ≡ k.best → Begun k → Begun j
  begun j first best b = record { first = first ∙ b.first; best = best ∙ b.best }

  -- READS of the group's word and of the child
  pub read : k.stage ≡ stages.Read → IsFurther old c made k (walked w c k stages.Read)
  read at =
      let f = fields_at t stages.Read at in
      mine stages.Read at refl (read_next k)
      (record {
        level = refl;
        kind = refl;
        left = omega arith;
        stored = λ e. e;
        under = refl;
        further = omega arith;
      })
      (lawful stages.Read at tt) (begun (read_next k) refl refl f, refl)

  pub child : k.stage ≡ stages.Child → IsFurther old c made k (walked w c k stages.Child)
  child at =
      let j = child_next (child_on w c k.level) k in
      let f = fields_at t stages.Child at in
      mine stages.Child at refl j
      (record {
        level = refl;
        kind = refl;
        left = omega arith;
        stored = λ e. e;
        under = refl;
        further = omega arith;
      })
      (lawful stages.Child at tt)
      (begun j refl refl f.0, f.1, child_off t stages.Child at refl)

  -- LOCKS are free
  pub lock_child : k.stage ≡ stages.LockChild →
      IsFurther old c made k (walked w c k stages.LockChild)
  lock_child at =
      let g = child_here w c k in
      let j = at_stage k stages.LockGroup in
      let f = fields_at t stages.LockChild at in
      calm stages.LockChild at refl g (with_lock (group_of w g) (Some c))
      (record { active = refl; migrator = refl; events = refl }) j
      (record {
        level = refl;
        kind = refl;
        left = omega arith;
        stored = λ e. e;
        under = refl;
        further = omega arith;
      })
      (lawful stages.LockChild at (child_free t at)) (begun j refl refl f)

  pub lock_group : k.stage ≡ stages.LockGroup →
      IsFurther old c made k (walked w c k stages.LockGroup)
  lock_group at =
      let g = here w c k in
      let j = at_stage k (first_sight k.level) in
      let x = with_lock (group_of w g) (Some c) in
      let f = fields_at t stages.LockGroup at in
      calm stages.LockGroup at refl g x (record { active = refl; migrator = refl; events = refl })
      j (sight_within k k.level)
      (lawful stages.LockGroup at (group_free t at))
      (sight_fields (stepping w c g x j false) c j k.level (begun j refl refl f))

  -- SIGHTS: the child is inactive
  pub see_child : k.stage ≡ stages.SeeChild →
      IsFurther old c made k (walked w c k stages.SeeChild)
  see_child at = by_sight (child_on w c k.level) (child_off t stages.SeeChild at refl)
      (lawful stages.SeeChild at tt)
    where
      by_sight : (b : Bool) → b ≡ false → IsLawful (Own (see_child_next b k)) →
          IsFurther old c made k (Own (see_child_next b k))
      by_sight true e l = cc
      by_sight false e l =
          let j = at_stage k stages.SeeGroup in
          mine stages.SeeChild at refl j
          (record {
            level = refl;
            kind = refl;
            left = omega arith;
            stored = λ e. e;
            under = refl;
            further = omega arith;
          })
          l (begun j refl refl (fields_at t stages.SeeChild at))

  pub see_group : k.stage ≡ stages.SeeGroup →
      IsFurther old c made k (walked w c k stages.SeeGroup)
  see_group at = by_level k.level refl (lawful stages.SeeGroup at tt)
    where
      f : Begun k
      f = fields_at t stages.SeeGroup at

      j : ℕ → Walk
      j n = record k {
        on = is_some (group_of w (here w c k)).migrator;
        over = is_some (group_of w (here w c k)).migrator || at_top w.tree c k.level;
        stage = after_sight n;
      }

      saw : (n : ℕ) → Sees (Own (j n)) c (j n)
      saw n = record { on = ap is_some (sym (migrator_own (j n) (here w c k))); over = refl }

      by_level : (n : ℕ) → k.level ≡ n → IsLawful (Own (j n)) → IsFurther old c made k (Own (j n))
      by_level zero e l =
          mine stages.SeeGroup at refl (j 0)
          (record {
            level = refl;
            kind = refl;
            left = omega arith;
            stored = λ e. e;
            under = refl;
            further = omega arith;
          })
          l (f.first, saw 0, (λ l up. absurd (omega (arith, e, up))))
      by_level (suc n) e l =
          mine stages.SeeGroup at refl (j (suc n))
          (record {
            level = refl;
            kind = refl;
            left = omega arith;
            stored = λ e. e;
            under = refl;
            further = omega arith;
          })
          l (f.first, saw (suc n), f.best)

  -- SLOTS, one more
  module _ (n : ℕ) where
    -- of the child
    module _ (at : k.stage ≡ stages.Scan n) where
      scan_fields : Fields w c k (stages.Scan n)
      scan_fields = fields_at t (stages.Scan n) at

      scan_fits : FitsStage w.tree c k.kind k.level (stages.Scan n)
      scan_fits = fits t (stages.Scan n) at refl

      abbrev child_events : EventMap
      child_events = (group_of w (child_here w c k)).events

      child_long : length child_events ≡ 8
      child_long =
          let up : k.level ≡ suc (k.level - 1) = omega (arith, scan_fits.1) in
          eight t (k.level - 1) (child_here w c k)
          (under t (k.level - 1) up
          (there t (stages.Scan n) at refl))

      abbrev scanned : Bool → Walk
      scanned last = record k {
        best = sooner_event k.best (event_at child_events n);
        stage = cond last stages.Store (stages.Scan (n + 1));
      }

      scan_saw : (last : Bool) → Sees (Own (scanned last)) c (scanned last)
      scan_saw last =
          let f = scan_fields in
          record {
            on = sees_on w c k 0 (group_of w 0) (scanned last) refl f.1;
            over = f.1.over;
          }

      one_more : sooner_event k.best (event_at child_events n)
          ≡ first_in (take (n + 1) child_events)
      one_more =
          ap (λ b. sooner_event b (event_at child_events n)) scan_fields.2
          ∙ sym (scan_more child_events n (omega (arith, scan_fits.2, child_long)))

      last_one : n ≡ 7 → IsBest (Own (scanned true)) c (scanned true)
      last_one end l up =
          one_more
          ∙ (scan_all child_events (n + 1) (omega (arith, end, child_long))
          ∙ (ap (first w) (child_is t l up)
          ∙ ap first_in (sym (events_own (scanned true) (group_on w.tree c l)))))

      by_scan : (b : Bool) → (n == 7) ≡ b → IsLawful (Own (scanned b)) →
          IsFurther old c made k (Own (scanned b))
      by_scan true e l =
          let end = eqb-true n 7 e in
          mine (stages.Scan n) at refl (scanned true)
          (record {
            level = refl;
            kind = refl;
            left = omega arith;
            stored = λ e. e;
            under = refl;
            further = omega (arith, end);
          })
          l (scan_fields.0, scan_saw true, last_one end)
      by_scan false e l =
          mine (stages.Scan n) at refl (scanned false)
          (record {
            level = refl;
            kind = refl;
            left = omega arith;
            stored = λ e. e;
            under = refl;
            further = omega arith;
          })
          l (
            scan_fields.0,
            scan_saw false,
            one_more ∙ ap (λ es. first_in (take (n + 1) es))
                (sym (events_own (scanned false) (child_here w c k))),
          )

      pub scan : IsFurther old c made k (walked w c k (stages.Scan n))
      scan = by_scan (n == 7) refl (lawful (stages.Scan n) at tt)

    -- of the top
    module _ (at : k.stage ≡ stages.First n) where
      find_fields : Fields w c k (stages.First n)
      find_fields = fields_at t (stages.First n) at

      find_fits : FitsStage w.tree c k.kind k.level (stages.First n)
      find_fits = fits t (stages.First n) at refl

      abbrev events : EventMap
      events = (group_of w (here w c k)).events

      long : length events ≡ 8
      long = eight t k.level (here w c k)
          (there t (stages.First n) at refl)

      abbrev found : Bool → Walk
      found last = record k {
        first = first_of k.first (event_at events n);
        stage = cond last stages.FreeGroup (stages.First (n + 1));
      }

      find_saw : (last : Bool) → Sees (Own (found last)) c (found last)
      find_saw last =
          let f = find_fields in
          record {
            on = sees_on w c k 0 (group_of w 0) (found last) refl f.0;
            over = f.0.over;
          }

      find_more : first_of k.first (event_at events n) ≡ first_upto (n + 1) events
      find_more =
          ap (λ b. first_of b (event_at events n)) find_fields.2
          ∙ sym (first_more n events (omega (arith, find_fits.2, long)))

      find_last : n ≡ 7 → (found true).first ≡ finds (Own (found true)) c (found true)
      find_last end =
          let same = events_own (found true) (here w c k) in
          find_more
          ∙ (first_all (n + 1) events (omega (arith, end, long))
          ∙ (ap least_live (sym same)
          ∙ sym (cond-true (looks w c k)
          (least_live (group_of (Own (found true)) (here w c k)).events) NEVER find_fields.1)))

      by_find : (b : Bool) → (n == 7) ≡ b → IsLawful (Own (found b)) →
          IsFurther old c made k (Own (found b))
      by_find true e l =
          let end = eqb-true n 7 e in
          mine (stages.First n) at refl (found true)
          (record {
            level = refl;
            kind = refl;
            left = omega arith;
            stored = λ e. e;
            under = refl;
            further = omega (arith, end);
          })
          l (record { sees = find_saw true; first = find_last end })
      by_find false e l =
          mine (stages.First n) at refl (found false)
          (record {
            level = refl;
            kind = refl;
            left = omega arith;
            stored = λ e. e;
            under = refl;
            further = omega arith;
          })
          l (
            find_saw false,
            find_fields.1,
            find_more ∙ ap (first_upto (n + 1))
                (sym (events_own (found false) (here w c k))),
          )

      pub find : IsFurther old c made k (walked w c k (stages.First n))
      find = by_find (n == 7) refl (lawful (stages.First n) at tt)
