-- NoNever is kept by every step
use Rattle.std.proofs.Common.{◌≡◌, ◌≢◌, ◌⊎◌, inl, inr, ℕ, zero, suc, ◌<◌, Bool, true, false}
use Rattle.std.proofs.Common.{true≢false, cond, length, Option, Some, None, refl, sym, ap, ◌∙◌}
use Rattle.std.proofs.Common.{subst, eq-eqb}
use Rattle.std.specs.Prelude.{◌==◌, nat_lt}
use Rattle.std.proofs.lemmas.Bool.{cases_eq}
use Rattle.std.proofs.lemmas.Option.{none-some, same_Some}
use Rattle.tm_base.specs.declared.names.TheConstants.{NEVER}
use Rattle.event_queue.specs.declared.event.Event.{Event}
use Rattle.event_queue.specs.EventMap.{event_at}
use Rattle.walk_rules.specs.declared.walk.Walk.{Walk}
use Rattle.walk_rules.specs.declared.walk.WalkKind.{WalkKind}
use Rattle.walk_rules.specs.declared.walk.WalkKind.TheVariants as kinds
use Rattle.walk_rules.specs.declared.walk.Stage.{Stage}
use Rattle.walk_rules.specs.declared.walk.Stage.TheVariants as stages
use Rattle.walk_rules.specs.Hierarchy.{at_top, side}
use Rattle.walk_rules.specs.Scene.{Group}
use Rattle.walk_rules.specs.Stages.{at_stage, best_event, free_group_next, freed_next, leaf_event}
use Rattle.walk_rules.specs.Stages.{mark_next, see_child_next, sooner_event, stored_event}
use Rattle.walk_rules.specs.Stages.{store_next, swap_next, up_next, with_mark}
use Rattle.core_world.specs.declared.step.Step.{Step}
use Rattle.core_world.specs.declared.step.Step.TheVariants as steps
use Rattle.core_world.specs.Enabled.{Enabled, MayGoOn}
use Rattle.core_world.specs.Steps.{child_here, child_on, finished, here, stepped}
use Rattle.walk_rules.specs.Stages.{begun_where}
use Rattle.core_world.specs.Steps.{swapped, walk_made, walked, with_walk}
use Rattle.core_world.specs.Timers.{NoNever}
use Rattle.core_world.specs.World.{CpuRecord, World, cpu_of, group_of, moved, own, scene_of}
use Rattle.core_world.proofs.Moves.{moved_laws}
use Rattle.core_world.proofs.Quiet.{quiet_steps}
use Rattle.core_world.specs.Frames.{is_quiet}
use Rattle.core_laws.proofs.Tops.Slots.{found_in, group_cases, left_events, marked_expiry, slot_cases}

-- what is so of each walk of a world that sees the same
quiet : (w v : World) → scene_of v ≡ scene_of w → NoNever w → NoNever v
quiet w v same f = record {
  slots = λ g k e is. f.slots g k e (sym (λ i. event_at ((same i).group g).events k) ∙ is);
  bests = λ c k e is best.
      (let j = found_in (cpu_of v c).walk (cpu_of w c).walk k (λ i. (same i).walk c) is in
      f.bests c j.0 e j.1 (ap (λ (z : Walk). z.best) j.2 ∙ best));
}

-- A STEP OF THE GENERAL FORM
module _ (w : World) (g : ℕ) (x : Group) (c : ℕ) (y : CpuRecord) (r : Bool) (hc : c < length w.cpus)
    (f : NoNever w) where
  general : ((k : ℕ) (e : Event) → event_at x.events k ≡ Some e → e.expiry ≢ NEVER) →
      ((k : Walk) (e : Event) → y.walk ≡ Some k → k.best ≡ Some e → e.expiry ≢ NEVER) →
      NoNever (moved w g x c y r)
  general slots bests = record {
    slots = λ h k e is. elim (group_cases w g x c y r h) [
      | inl p ↦ slots k e (sym (ap (λ (z : Group). event_at z.events k) p.1) ∙ is)
      | inr same ↦ f.slots h k e (sym (ap (λ (z : Group). event_at z.events k) same) ∙ is)
    ];
    bests = λ d k e is best. elim (cases_eq d c) [
      | inl same ↦
          bests k e (sym (ap (λ (z : CpuRecord). z.walk) ((moved_laws w g x c y r).cpu hc))
          ∙ (ap (λ n. (cpu_of (moved w g x c y r) n).walk) (sym same) ∙ is)) best
      | inr ne ↦
          (let j = found_in (cpu_of (moved w g x c y r) d).walk (cpu_of w d).walk k
          ((moved_laws w g x c y r).changes.walk d ne) is in
          f.bests d j.0 e j.1 (ap (λ (z : Walk). z.best) j.2 ∙ best))
    ];
  }

  -- events stay
  calm : x.events ≡ (group_of w g).events →
      ((k : Walk) (e : Event) → y.walk ≡ Some k → k.best ≡ Some e → e.expiry ≢ NEVER) →
      NoNever (moved w g x c y r)
  calm events bests =
      general (λ k e is. f.slots g k e (sym (ap (λ z. event_at z k) events) ∙ is)) bests

no_best : (k : Walk) (e : Event) → k.best ≡ None → k.best ≡ Some e → ⊥
no_best k e none is = none-some e (sym none ∙ is)

-- a walk that begins knows no event
begun_best : (q : Bool) (kind : WalkKind) (stage : Stage) (pin next : ℕ) (k : Walk) →
    begun_where q kind stage pin next ≡ Some k → k.best ≡ None
begun_best true kind stage pin next k e = ap (λ (z : Walk). z.best) (sym (same_Some _ _ e))
begun_best false kinds.Activate stage pin next k e = absurd (none-some k e)
begun_best false kinds.Deactivate stage pin next k e =
    ap (λ (z : Walk). z.best) (sym (same_Some _ _ e))
begun_best false kinds.Offline stage pin next k e =
    ap (λ (z : Walk). z.best) (sym (same_Some _ _ e))
begun_best false kinds.Reeval stage pin next k e = ap (λ (z : Walk). z.best) (sym (same_Some _ _ e))
begun_best false (kinds.Remote by) stage pin next k e =
    ap (λ (z : Walk). z.best) (sym (same_Some _ _ e))

-- the event that a walk goes on with, if any, is the one that it had
abbrev SameBest : Walk → Option Walk → Type 0
SameBest k m = (j : Walk) (e : Event) → m ≡ Some j → j.best ≡ Some e → k.best ≡ Some e

same_best : (k j : Walk) → j.best ≡ k.best → SameBest k (Some j)
same_best k j same i e is best = sym same ∙ (ap (λ (z : Walk). z.best) (same_Some _ _ is) ∙ best)

none_best : (k j : Walk) → j.best ≡ None → SameBest k (Some j)
none_best k j none i e is best =
    absurd (none-some e (sym none ∙ (ap (λ (z : Walk). z.best) (same_Some _ _ is) ∙ best)))

ended_best : (k : Walk) → SameBest k None
ended_best k i e is best = absurd (none-some i is)

up_best : (top more : Bool) (k : Walk) → SameBest k (up_next top more k)
up_best true more k = ended_best k
up_best false more k = same_best k (at_stage k (stages.Mark more)) refl

mark_best : (more : Bool) (k : Walk) → SameBest k (mark_next more k)
mark_best true k = none_best k _ refl
mark_best false k = ended_best k

see_best : (on : Bool) (k : Walk) → SameBest k (Some (see_child_next on k))
see_best true k = same_best k _ refl
see_best false k = same_best k _ refl

freed_best : (over : Bool) (k : Walk) → SameBest k (Some (freed_next over k))
freed_best true k = same_best k _ refl
freed_best false k = none_best k _ refl

free_best : (l : ℕ) (k : Walk) → SameBest k (Some (free_group_next l k))
free_best zero k = freed_best k.over k
free_best (suc l) k = same_best k _ refl

handing_best : (q : Bool) (k : Walk) → SameBest k (cond q None (Some (at_stage k stages.Handing)))
handing_best true k = ended_best k
handing_best false k = same_best k _ refl

-- what Scan takes up
taken_up : (ignored : Bool) (b : Option Event) (e f : Event) → cond ignored b (Some f) ≡ Some e →
    (b ≡ Some e) ⊎ (f ≡ e)
taken_up true b e f is = inl is
taken_up false b e f is = inr (same_Some _ _ is)

sooner : (best m : Option Event) (e : Event) → sooner_event best m ≡ Some e →
    (best ≡ Some e) ⊎ (m ≡ Some e)
sooner best None e is = inl is
sooner None (Some f) e is =
    elim (taken_up f.ignored None e f is) [ inl none ↦ inl none | inr same ↦ inr (ap Some same) ]
sooner (Some b) (Some f) e is = by_mark f.ignored is
  where
    by_time : (q : Bool) → cond q (Some f) (Some b) ≡ Some e →
        (◌≡◌ {A = Option Event} (Some b) (Some e)) ⊎ (◌≡◌ {A = Option Event} (Some f) (Some e))
    by_time true at = inr at
    by_time false at = inl at

    by_mark : (q : Bool) →
        cond q (Some b) (cond (nat_lt f.expiry b.expiry) (Some f) (Some b)) ≡ Some e →
        (◌≡◌ {A = Option Event} (Some b) (Some e)) ⊎ (◌≡◌ {A = Option Event} (Some f) (Some e))
    by_mark true at = inl at
    by_mark false at = by_time (nat_lt f.expiry b.expiry) at

-- what Store writes
leaf_time : (c next : ℕ) (e : Event) → leaf_event c next ≡ Some e → e.expiry ≢ NEVER
leaf_time c next e is = by_test (next == NEVER) refl is
  where
    by_test : (q : Bool) → (next == NEVER) ≡ q →
        cond q None
        (Some (record { expiry = next; cpu = record { 0 = c }; ignored = false })) ≡ Some e →
        e.expiry ≢ NEVER
    by_test true t at = absurd (none-some e at)
    by_test false t at =
        λ never. true≢false
        (sym (eq-eqb next NEVER (ap (λ (z : Event). z.expiry) (same_Some _ _ at) ∙ never)) ∙ t)

best_time : (m : Option Event) (e : Event) → best_event m ≡ Some e →
    (f : Event) × (m ≡ Some f) × (f.expiry ≡ e.expiry)
best_time None e is = absurd (none-some e is)
best_time (Some f) e is = (f, refl, ap (λ (z : Event). z.expiry) (same_Some _ _ is))

-- STEPS OF WALKS
module _ (w : World) (c : ℕ) (k : Walk) (hc : c < length w.cpus) (f : NoNever w)
    (is : (cpu_of w c).walk ≡ Some k) where
  keeps : (g : ℕ) (x : Group) (y : CpuRecord) (r : Bool) → x.events ≡ (group_of w g).events →
      SameBest k y.walk → NoNever (moved w g x c y r)
  keeps g x y r events best =
      calm w g x c y r hc f events (λ j e at known. f.bests c k e is (best j e at known))

  walks : (y : CpuRecord) → SameBest k y.walk → NoNever (own w c y)
  walks y best = keeps 0 (group_of w 0) y false refl best

  marks : (g j : ℕ) (m : Option Walk) → SameBest k m →
      NoNever (moved w g (with_mark (group_of w g) j) c (with_walk (cpu_of w c) m) false)
  marks g j m best = general w g _ c _ false hc f
      (λ i e at. (let p = marked_expiry (group_of w g).events j i e at in
      λ never. f.slots g i p.0 p.1 (p.2 ∙ never)))
      (λ i e at known. f.bests c k e is (best i e at known))

  swap : (fresh : Bool) → NoNever (swapped w c k fresh)
  swap true = keeps _ _ _ true (left_events k.child_on _ _) (same_best k (swap_next true k) refl)
  swap false = walks _ (same_best k (swap_next false k) refl)

  stored_time : (l : ℕ) (e : Event) → stored_event l c k ≡ Some e → e.expiry ≢ NEVER
  stored_time zero e at = leaf_time c k.next e at
  stored_time (suc l) e at =
      (let p = best_time k.best e at in λ never. f.bests c k p.0 is p.1 (p.2 ∙ never))

  store : NoNever (walked w c k stages.Store)
  store = general w _ _ c _ false hc f
      (λ i e at.
      elim (slot_cases (group_of w (here w c k)).events (side w.tree c k.level)
      (stored_event k.level c k) i) [
        | inl p ↦ stored_time k.level e (sym p.1 ∙ at)
        | inr same ↦ f.slots (here w c k) i e (sym same ∙ at)
      ])
      (λ i e at known.
      f.bests c k e is (same_best k (store_next (at_top w.tree c k.level) k) refl i e at known))

  scan : (j : ℕ) → NoNever (walked w c k (stages.Scan j))
  scan j = calm w 0 (group_of w 0) c _ false hc f refl
      (λ i e at known.
      elim (sooner k.best (event_at (group_of w (child_here w c k)).events j) e
      (ap (λ (z : Walk). z.best) (same_Some _ _ at) ∙ known)) [
        | inl was ↦ f.bests c k e is was
        | inr there ↦ f.slots (child_here w c k) j e there
      ])

  finish : (kind : WalkKind) → NoNever (own w c (finished (cpu_of w c) k kind))
  finish kinds.Activate = walks _ (ended_best k)
  finish kinds.Deactivate = walks _ (ended_best k)
  finish kinds.Offline = walks _ (handing_best (k.first == NEVER) k)
  finish kinds.Reeval = walks _ (ended_best k)
  finish (kinds.Remote by) = walks _ (ended_best k)

  by_stage : (st : Stage) → MayGoOn w c k st → NoNever (walked w c k st)
  by_stage stages.Own may = marks _ _ _ (same_best k (at_stage k stages.Up) refl)
  by_stage stages.Up may = keeps _ _ _ true refl (up_best _ _ k)
  by_stage (stages.Mark more) may = marks _ _ _ (mark_best more k)
  by_stage stages.Read may = walks _ (same_best k _ refl)
  by_stage stages.Child may = walks _ (same_best k _ refl)
  by_stage stages.Swap may = swap k.fresh
  by_stage stages.LockChild may = keeps _ _ _ false refl (same_best k _ refl)
  by_stage stages.LockGroup may = keeps _ _ _ false refl (same_best k _ refl)
  by_stage stages.SeeChild may = walks _ (see_best (child_on w c k.level) k)
  by_stage stages.SeeGroup may = walks _ (same_best k _ refl)
  by_stage (stages.Scan j) may = scan j
  by_stage stages.Store may = store
  by_stage (stages.First j) may = walks _ (same_best k _ refl)
  by_stage stages.FreeGroup may = keeps _ _ _ false refl (free_best k.level k)
  by_stage stages.FreeChild may = keeps _ _ _ false refl (freed_best k.over k)
  by_stage stages.Finish may = finish k.kind
  by_stage stages.Handing may = absurd may

-- a walk begins
begins : (w : World) (c : ℕ) (y : CpuRecord) → c < length w.cpus → NoNever w →
    ((k : Walk) → y.walk ≡ Some k → k.best ≡ None) → NoNever (own w c y)
begins w c y hc f none =
    calm w 0 (group_of w 0) c y false hc f refl
    (λ k e is best. absurd (no_best k e (none k is) best))

resting : (w : World) (step : Step) → NoNever w → Enabled w step → is_quiet step ≡ true →
    NoNever (stepped w step)
resting w step f e q = quiet w (stepped w step) (quiet_steps w step e q) f

pub never_stays : (w : World) (step : Step) → NoNever w → Enabled w step → NoNever (stepped w step)
never_stays w (steps.Idle cpu) f e =
    begins w cpu.0 _ e.is_free.in_range f (begun_best _ kinds.Deactivate _ _ _)
never_stays w (steps.Wake cpu) f e =
    begins w cpu.0 _ e.is_free.in_range f (begun_best _ kinds.Activate _ _ _)
never_stays w (steps.Offline cpu) f e =
    begins w cpu.0 _ e.is_free.in_range f (begun_best _ kinds.Offline _ _ _)
never_stays w (steps.Online cpu) f e =
    begins w cpu.0 _ e.is_free.in_range f (begun_best _ kinds.Activate _ _ _)
never_stays w (steps.Reeval cpu) f e =
    begins w cpu.0 _ e.is_free.in_range f (begun_best _ kinds.Reeval _ _ _)
never_stays w (steps.Carry cpu) f e =
    begins w cpu.0 _ e.is_free.in_range f (begun_best _ (kinds.Remote _) _ _ _)
never_stays w (steps.HandOn cpu to) f e =
    walks w cpu.0 e.made e.in_range f e.walk _ (ended_best e.made)
never_stays w (steps.Walk cpu) f e =
    subst (λ m. NoNever (walk_made w cpu.0 m)) (sym e.walk)
    (by_stage w cpu.0 e.made e.in_range f e.walk e.made.stage e.may_go_on)
never_stays w (steps.Clock now) f e = resting w (steps.Clock now) f e refl
never_stays w (steps.Enter cpu) f e = resting w (steps.Enter cpu) f e refl
never_stays w (steps.Leave cpu) f e = resting w (steps.Leave cpu) f e refl
never_stays w (steps.Arm cpu timer class expires job arg line) f e =
    resting w (steps.Arm cpu timer class expires job arg line) f e refl
never_stays w (steps.Cancel cpu timer by line) f e =
    resting w (steps.Cancel cpu timer by line) f e refl
never_stays w (steps.Hand cpu timer runner) f e = resting w (steps.Hand cpu timer runner) f e refl
never_stays w (steps.Ticked cpu class runner) f e =
    resting w (steps.Ticked cpu class runner) f e refl
never_stays w (steps.Move from to timer) f e = resting w (steps.Move from to timer) f e refl
never_stays w (steps.Take cpu by) f e = resting w (steps.Take cpu by) f e refl
never_stays w (steps.Release cpu) f e = resting w (steps.Release cpu) f e refl
