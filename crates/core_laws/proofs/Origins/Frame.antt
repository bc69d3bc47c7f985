-- where times and events come from, of one walk and one slot; and a step of the general form
use Rattle.std.proofs.Common.{◌≡◌, ◌⊎◌, ℕ, zero, suc, ◌<◌, Bool, true, false, length, get_or, set}
use Rattle.std.proofs.Common.{cond, List, [], ◌∷◌, Option, Some, None, refl, sym, ap, ◌∙◌, subst}
use Rattle.std.proofs.Common.{inl, inr}
use Rattle.std.specs.Prelude.{option_map}
use Rattle.std.proofs.lemmas.Bool.{cases_eq}
use Rattle.std.proofs.lemmas.Option.{none-some, same_Some}
use Rattle.event_queue.specs.declared.event.Event.{Event}
use Rattle.event_queue.specs.EventMap.{event_at}
use Rattle.tree_plan.specs.Shape.{Shape}
use Rattle.tree_plan.specs.Paths.{bit_of, child_towards, group_at_of}
use Rattle.walk_rules.specs.declared.walk.Walk.{Walk}
use Rattle.walk_rules.specs.Queues.{group_under}
use Rattle.walk_rules.specs.Scene.{Group, no_group}
use Rattle.walk_rules.specs.Stages.{forget}
use Rattle.core_world.specs.Origins.{ComesBy, HasOrigin, IsBelowGroup, WalkOrigins}
use Rattle.core_world.specs.World.{CpuRecord, World, cpu_of, group_of, moved, reads_at, stale_walk}
use Rattle.core_world.proofs.Moves.{beside, cpu_else, cpu_same, moved_laws}
use Rattle.core_laws.proofs.Timers.Bases.{moved_bases}
use Rattle.core_laws.specs.Origins.Layer.{OriginsFit}
use Rattle.core_laws.proofs.Origins.Grow.{JournalsGrow, origin_grows, same_grow}

-- of CPU c's walk
pub record WalkHas (w : World) (c : ℕ) (k : Walk) : Type 0 where
  pub times : WalkOrigins w k
  pub best : (e : Event) → k.best ≡ Some e → HasOrigin w e.expiry
  pub below : (g : ℕ) (e : Event) → k.best ≡ Some e → group_under w.tree c k.level ≡ Some g
      → IsBelowGroup w g e

-- of the event in slot j of group g
pub record EventHas (w : World) (g j : ℕ) (e : Event) : Type 0 where
  pub expiry : HasOrigin w e.expiry
  pub below : ComesBy w g j e

-- and of all
pub record AllHave (w : World) : Type 0 where
  pub wakeups : (c : ℕ) → c < length w.cpus → HasOrigin w (cpu_of w c).wakeup
  pub walks : (c : ℕ) (k : Walk) → (cpu_of w c).walk ≡ Some k → WalkHas w c k
  pub events : (g j : ℕ) (e : Event) → event_at (group_of w g).events j ≡ Some e → EventHas w g j e

pub have_all : (w : World) → OriginsFit w → AllHave w
have_all w f = record {
  wakeups = f.times.wakeups;
  walks = λ c k is. record {
    times = f.times.walks c k is;
    best =
        λ e. f.bests.expiry c k e is;
    below = λ g e. f.bests.below c g k e is;
  };
  events = λ g j e is. record {
    expiry = f.events.expiry g j e is;
    below =
        f.events.below g j e is;
  };
}

pub fit_all : (w : World) → AllHave w → OriginsFit w
fit_all w a = record {
  times = record { wakeups = a.wakeups; walks = λ c k is. (a.walks c k is).times };
  events = record {
    expiry = λ g k e is. (a.events g k e is).expiry;
    below =
        λ g k e is. (a.events g k e is).below;
  };
  bests = record {
    expiry = λ c k e is. (a.walks c k is).best e;
    below =
        λ c g k e is. (a.walks c k is).below g e;
  };
}

-- THEY STAY as journals grow over the same tree
module _ (w v : World) (tree : v.tree ≡ w.tree) (grow : JournalsGrow w v) where
  still : (time : ℕ) → HasOrigin w time → HasOrigin v time
  still = origin_grows w v grow

  pub still_walk : (c : ℕ) (k : Walk) → WalkHas w c k → WalkHas v c k
  still_walk c k h = record {
    times = record {
      pin = still k.pin h.times.pin;
      next = still k.next h.times.next;
      first =
          still k.first h.times.first;
    };
    best = λ e is. still e.expiry (h.best e is);
    below = λ g e is under. (let b = h.below g e is (subst (λ t. group_under t c k.level ≡ Some g)
        tree under) in
        record {
          level = b.level;
          there = subst (λ t. group_at_of t e.cpu.0 b.level ≡ Some g)
              (sym tree) b.there;
        });
  }

  pub still_event : (g j : ℕ) (e : Event) → EventHas w g j e → EventHas v g j e
  still_event g j e h =
      let b = h.below in
      record {
        expiry = still e.expiry h.expiry;
        below = record {
          level = b.level;
          child = b.child;
          through = subst (λ t. child_towards t e.cpu.0 b.level ≡ Some b.child) (sym tree)
              b.through;
          into = subst (λ t. group_at_of t e.cpu.0 b.level ≡ Some g) (sym tree) b.into;
          number = subst (λ t. bit_of t b.child ≡ j) (sym tree) b.number;
        };
      }

-- a stale walk is the same in all but its reading
same_walk : (b : Bool) (k : Walk) → forget (cond b (record k { fresh = false }) k) ≡ forget k
same_walk true k = refl
same_walk false k = refl

unstale : (t : Shape) (g d : ℕ) (m : Option Walk) (k : Walk)
    → option_map (stale_walk t g d) m ≡ Some k → (j : Walk) × (m ≡ Some j) × (forget k ≡ forget j)
unstale t g d None k e = absurd (none-some k e)
unstale t g d (Some j) k e = (
  j,
  refl,
  ap forget (sym (same_Some _ _ e))
      ∙ same_walk (reads_at t g d j) j,
)

forgotten : (w : World) (c : ℕ) (k : Walk) → WalkHas w c (forget k) → WalkHas w c k
forgotten w c k h = record {
  times = record {
    pin = h.times.pin;
    next = h.times.next;
    first =
        h.times.first;
  };
  best = h.best;
  below = h.below;
}

forgets : (w : World) (c : ℕ) (k : Walk) → WalkHas w c k → WalkHas w c (forget k)
forgets w c k h = record {
  times = record {
    pin = h.times.pin;
    next = h.times.next;
    first =
        h.times.first;
  };
  best = h.best;
  below = h.below;
}

beside_walk : (w : World) (r : Bool) (g d : ℕ) (y : CpuRecord)
    → ((k : Walk) → y.walk ≡ Some k → WalkHas w d k) → (k : Walk)
    → (beside w.tree r g d y).walk ≡ Some k → WalkHas w d k
beside_walk w false g d y h = h
beside_walk w true g d y h = λ k is.
    (let j = unstale w.tree g d y.walk k is in forgotten w d k
    (subst (WalkHas w d) (sym j.2) (forgets w d j.0 (h j.0 j.1))))

-- what stands in a list where one element was set
pub set_or : {A : Type 0} (xs : List A) (i : ℕ) (y d : A) (k : ℕ)
    → ((k ≡ i) × (get_or (set xs i y) k d ≡ y)) ⊎ (get_or (set xs i y) k d ≡ get_or xs k d)
set_or [] i y d k = inr refl
set_or (x ∷ xs) zero y d zero = inl (refl, refl)
set_or (x ∷ xs) zero y d (suc k) = inr refl
set_or (x ∷ xs) (suc i) y d zero = inr refl
set_or (x ∷ xs) (suc i) y d (suc k) = later (set_or xs i y d k)
  where
    later : ((k ≡ i) × (get_or (set xs i y) k d ≡ y)) ⊎ (get_or (set xs i y) k d ≡ get_or xs k d)
        → ((suc k ≡ suc i) × (get_or (set xs i y) k d ≡ y)) ⊎
        (get_or (set xs i y) k d ≡ get_or xs k d)
    later (inl p) = inl (ap suc p.0, p.1)
    later (inr q) = inr q

-- A STEP OF THE GENERAL FORM keeps them where its CPU and group have them
module _ (w : World) (g : ℕ) (x : Group) (c : ℕ) (y : CpuRecord) (r : Bool) (hc : c < length w.cpus)
    (f : OriginsFit w) (bases : y.bases ≡ (cpu_of w c).bases) where
  grow : JournalsGrow w (moved w g x c y r)
  grow = same_grow w (moved w g x c y r) (moved_bases w g x c y r hc bases)

  a : AllHave w
  a = have_all w f

  pub moved_origins : HasOrigin w y.wakeup → ((k : Walk) → y.walk ≡ Some k → WalkHas w c k)
      → ((j : ℕ) (e : Event) → event_at x.events j ≡ Some e → EventHas w g j e)
      → OriginsFit (moved w g x c y r)
  moved_origins wakeup walk events = fit_all (moved w g x c y r) (record {
    wakeups = λ d hd. origin_grows w (moved w g x c y r) grow _ (elim (cases_eq d c) [
      | inl same ↦ subst (λ n. HasOrigin w (cpu_of (moved w g x c y r) n).wakeup) (sym same)
          (subst (λ (z : CpuRecord). HasOrigin w z.wakeup) (sym (cpu_same w g x c y r hc)) wakeup)
      | inr ne ↦ subst (HasOrigin w) (sym (ap (λ (z : CpuRecord). z.wakeup)
          (cpu_else w g x c y r d ne) ∙ beside_wakeup r (cpu_of w d) d))
          (f.times.wakeups d (subst (λ n. d < n) (moved_laws w g x c y r).cpus hd))
    ]);
    walks = λ d k is. still_walk w (moved w g x c y r) refl grow d k (elim (cases_eq d c) [
      | inl same ↦ subst (λ n. WalkHas w n k) (sym same)
          (walk k (sym (ap (λ (z : CpuRecord). z.walk) (cpu_same w g x c y r hc))
          ∙ (ap (λ n. (cpu_of (moved w g x c y r) n).walk) (sym same) ∙ is)))
      | inr ne ↦ beside_walk w r g d (cpu_of w d) (a.walks d) k
          (sym (ap (λ (z : CpuRecord). z.walk) (cpu_else w g x c y r d ne)) ∙ is)
    ]);
    events = λ h j e is. still_event w (moved w g x c y r) refl grow h j e
        (elim (set_or w.groups g x no_group h) [
          | inl p ↦ subst (λ n. EventHas w n j e) (sym p.0) (events j e
              (sym (ap (λ (z : Group). event_at z.events j) p.1) ∙ is))
          | inr q ↦ a.events h j e (sym (ap (λ (z : Group). event_at z.events j) q) ∙ is)
        ]);
  })
    where
      beside_wakeup : (q : Bool) (z : CpuRecord) (d : ℕ) → (beside w.tree q g d z).wakeup ≡ z.wakeup
      beside_wakeup true z d = refl
      beside_wakeup false z d = refl

-- A STEP that leaves walks, wakeups and groups
pub kept_origins : (w v : World) → v.tree ≡ w.tree → JournalsGrow w v
    → length v.cpus ≡ length w.cpus → ((d : ℕ) → (cpu_of v d).wakeup ≡ (cpu_of w d).wakeup)
    → ((d : ℕ) → (cpu_of v d).walk ≡ (cpu_of w d).walk) → ((h : ℕ) → group_of v h ≡ group_of w h)
    → OriginsFit w → OriginsFit v
kept_origins w v tree grow cpus wakeup walk group f =
    let a = have_all w f in
    fit_all v (record {
      wakeups = λ d hd. origin_grows w v grow _ (subst (HasOrigin w) (sym (wakeup d))
          (a.wakeups d (subst (λ n. d < n) cpus hd)));
      walks = λ d k is. still_walk w v tree grow d k (a.walks d k (sym (walk d) ∙ is));
      events = λ h j e is. still_event w v tree grow h j e
          (a.events h j e (sym (ap (λ (z : Group). event_at z.events j) (group h)) ∙ is));
    })
