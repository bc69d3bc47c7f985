-- 5c: a group that was found active under its lock
use Rattle.std.proofs.Common.{◌≡◌, ◌≢◌, ◌⊎◌, inl, inr, ℕ, zero, suc, ◌<◌, Bool, true, false, true≢false, cond, length, Option, Some, None, refl, sym, ap, ◌∙◌, subst}
use Rattle.std.specs.Prelude.{◌==◌, is_none, is_some, option_map}
use Rattle.std.proofs.lemmas.Bool.{cases_eq}
use Rattle.std.proofs.lemmas.Option.{none-some, same_Some}
use Rattle.tm_base.specs.declared.names.TheConstants.{NEVER}
use Rattle.event_queue.specs.EventMap.{event_at}
use Rattle.tree_plan.specs.Shape.{Shape}
use Rattle.tm_base.specs.Children.{of_group}
use Rattle.tree_plan.specs.Paths.{group_at_of}
use Rattle.walk_rules.specs.declared.walk.Walk.{Walk}
use Rattle.walk_rules.specs.declared.walk.WalkKind.{WalkKind}
use Rattle.walk_rules.specs.declared.walk.WalkKind.TheVariants as kinds
use Rattle.walk_rules.specs.declared.walk.Stage.{Stage}
use Rattle.walk_rules.specs.declared.walk.Stage.TheVariants as stages
use Rattle.walk_rules.specs.Hierarchy.{at_top, side}
use Rattle.walk_rules.specs.Locks.{HoldsBy, group_lock}
use Rattle.walk_rules.specs.Queues.{IsOnItsWay, SightsHold, is_locking, is_past_sight}
use Rattle.walk_rules.specs.Scene.{Group, Scene, is_on}
use Rattle.walk_rules.specs.Stages.{at_stage, first_lock, first_next, first_sight, first_stage, forget, free_group_next, freed_next, left_by, mark_next, scan_next, see_child_next, see_group_next, store_next, swap_next, up_next, with_lock}
use Rattle.walk_rules.specs.Standing.{is_leaving}
use Rattle.core_world.specs.Enabled.{MayGoOn}
use Rattle.core_world.specs.Frames.{ChangesOnly}
use Rattle.core_world.specs.Steps.{child_here, child_on, finished, here, swapped, walked, with_walk}
use Rattle.walk_rules.specs.Stages.{begun_where}
use Rattle.core_world.specs.World.{CpuRecord, World, cpu_of, group_of, moved, own, scene_of}
use Rattle.core_world.proofs.Moves.{moved_laws}
use Rattle.core_laws.proofs.Events.Rises.{swap_off, up_off}
use Rattle.core_laws.proofs.Events.Told.{was_off}
use Rattle.core_laws.proofs.Events.Walking.{BeforeStep, at_here, fits, flags, named, sees_on, walk_is}

module _ (t : Shape) (old new : Scene) (c g : ℕ) (r : Bool) (ch : ChangesOnly t old new c g r) where
  pub way_else : (x d : ℕ) → d ≢ c → IsOnItsWay t old x d → IsOnItsWay t new x d
  way_else x d ne way = record { made = way.made; walk = ch.walk d ne ∙ way.walk; leaves = way.leaves; locking = way.locking; here = way.here }

  -- others saw what they saw, and who was on the way is, but for what the CPU that steps does
  sights_step : SightsHold t old
      → ((x : ℕ) → is_on new (of_group x) ≡ false → (is_on old (of_group x) ≡ false) ⊎ IsOnItsWay t new x c)
      → ((x d : ℕ) (j : Walk) → d ≢ c → old.walk d ≡ Some j → is_past_sight j.stage ≡ true → group_at_of t d j.level ≡ Some x → IsOnItsWay t old x c → IsOnItsWay t new x c)
      → ((x : ℕ) (j : Walk) → new.walk c ≡ Some j → is_past_sight j.stage ≡ true → j.on ≡ true → group_at_of t c j.level ≡ Some x → is_on new (of_group x) ≡ false → (d : ℕ) × ((d ≢ c) × IsOnItsWay t new x d))
      → SightsHold t new
  sights_step f back goes own d x j is past on at off = elim (cases_eq d c) [
    | inl same ↦ subst (λ n. (e : ℕ) × ((e ≢ n) × IsOnItsWay t new x e)) (sym same)
        (own x j (subst (λ n. new.walk n ≡ Some j) same is) past on (subst (λ n. group_at_of t n j.level ≡ Some x) same at) off)
    | inr ne ↦ elim (back x off) [
      | inl was ↦ from_old (f d x j (sym (ch.walk d ne) ∙ is) past on at was) (λ way. goes x d j ne (sym (ch.walk d ne) ∙ is) past at way) ne
      | inr way ↦ (c, (λ z. ne (sym z), way))
    ]
  ]
    where
      from_old : ((e : ℕ) × ((e ≢ d) × IsOnItsWay t old x e)) → (IsOnItsWay t old x c → IsOnItsWay t new x c) → d ≢ c → (e : ℕ) × ((e ≢ d) × IsOnItsWay t new x e)
      from_old o goes ne = elim (cases_eq o.0 c) [
        | inl same ↦ (c, (λ z. ne (sym z), goes (subst (IsOnItsWay t old x) same o.1.1)))
        | inr other ↦ (o.0, (o.1.0, way_else x o.0 other o.1.1))
      ]

-- whether a walk is past its sight of its group
abbrev pub sees_by : Option Walk → Bool
sees_by None = false
sees_by (Some k) = is_past_sight k.stage

-- STAGES before the sight, or after the lock
unseen_up : (top more : Bool) (k : Walk) → sees_by (option_map forget (up_next top more k)) ≡ false
unseen_up true more k = refl
unseen_up false more k = refl

unseen_mark : (more : Bool) (k : Walk) → sees_by (option_map forget (mark_next more k)) ≡ false
unseen_mark true k = refl
unseen_mark false k = refl

unseen_lock : (l : ℕ) → is_past_sight (first_lock l) ≡ false
unseen_lock zero = refl
unseen_lock (suc l) = refl

unseen_sight : (l : ℕ) → is_past_sight (first_sight l) ≡ false
unseen_sight zero = refl
unseen_sight (suc l) = refl

unseen_first : (kind : WalkKind) → is_past_sight (first_stage kind) ≡ false
unseen_first kinds.Activate = refl
unseen_first kinds.Deactivate = refl
unseen_first kinds.Offline = refl
unseen_first kinds.Reeval = refl
unseen_first (kinds.Remote by) = refl

unseen_freed : (over : Bool) (k : Walk) → is_past_sight (freed_next over k).stage ≡ false
unseen_freed true k = refl
unseen_freed false k = unseen_first k.kind

unseen_free : (l : ℕ) (k : Walk) → is_past_sight (free_group_next l k).stage ≡ false
unseen_free zero k = unseen_freed k.over k
unseen_free (suc l) k = refl

unseen_handing : (q : Bool) (k : Walk) → sees_by (option_map forget (cond q None (Some (at_stage k stages.Handing)))) ≡ false
unseen_handing true k = refl
unseen_handing false k = refl

pub unseen_begun : (q : Bool) (kind : WalkKind) (stage : Stage) (pin next : ℕ) → is_past_sight stage ≡ false → sees_by (option_map forget (begun_where q kind stage pin next)) ≡ false
unseen_begun true kind stage pin next none = none
unseen_begun false kinds.Activate stage pin next none = refl
unseen_begun false kinds.Deactivate stage pin next none = refl
unseen_begun false kinds.Offline stage pin next none = refl
unseen_begun false kinds.Reeval stage pin next none = refl
unseen_begun false (kinds.Remote by) stage pin next none = refl

lock_waits : (l : ℕ) → is_locking (first_lock l) ≡ true
lock_waits zero = refl
lock_waits (suc l) = refl

-- where a walk is past its sight it has its group's lock
sight_lock : (t : Shape) (d level : ℕ) (st : Stage) → is_past_sight st ≡ true → group_lock t d level st ≡ group_at_of t d level
sight_lock t d level (stages.Scan i) e = refl
sight_lock t d level stages.Store e = refl
sight_lock t d level (stages.First i) e = refl
sight_lock t d level stages.FreeGroup e = refl
sight_lock t d level stages.Own e = absurd (true≢false (sym e))
sight_lock t d level stages.Up e = absurd (true≢false (sym e))
sight_lock t d level (stages.Mark more) e = absurd (true≢false (sym e))
sight_lock t d level stages.Read e = absurd (true≢false (sym e))
sight_lock t d level stages.Child e = absurd (true≢false (sym e))
sight_lock t d level stages.Swap e = absurd (true≢false (sym e))
sight_lock t d level stages.LockChild e = absurd (true≢false (sym e))
sight_lock t d level stages.LockGroup e = absurd (true≢false (sym e))
sight_lock t d level stages.SeeChild e = absurd (true≢false (sym e))
sight_lock t d level stages.SeeGroup e = absurd (true≢false (sym e))
sight_lock t d level stages.FreeChild e = absurd (true≢false (sym e))
sight_lock t d level stages.Finish e = absurd (true≢false (sym e))
sight_lock t d level stages.Handing e = absurd (true≢false (sym e))

-- a walk that is no longer past its sight, or never was
unseen : (m : Option Walk) (j : Walk) → sees_by m ≡ false → m ≡ Some j → is_past_sight j.stage ≡ true → ⊥
unseen m j none is past = true≢false (sym past ∙ (ap sees_by (sym is) ∙ none))

module _ (w : World) (g : ℕ) (x : Group) (c : ℕ) (y : CpuRecord) (r : Bool) (hc : c < length w.cpus) (f : SightsHold w.tree (scene_of w)) where
  pub walk_now : (scene_of (moved w g x c y r)).walk c ≡ option_map forget y.walk
  walk_now = ap (λ (i : CpuRecord). option_map forget i.walk) ((moved_laws w g x c y r).cpu hc)

  -- the CPU's walk sees nothing then
  pub blind_sights : sees_by (option_map forget y.walk) ≡ false
      → ((z : ℕ) → is_on (scene_of (moved w g x c y r)) (of_group z) ≡ false → (is_on (scene_of w) (of_group z) ≡ false) ⊎ IsOnItsWay w.tree (scene_of (moved w g x c y r)) z c)
      → ((z d : ℕ) (j : Walk) → d ≢ c → (scene_of w).walk d ≡ Some j → is_past_sight j.stage ≡ true → group_at_of w.tree d j.level ≡ Some z → IsOnItsWay w.tree (scene_of w) z c → IsOnItsWay w.tree (scene_of (moved w g x c y r)) z c)
      → SightsHold w.tree (scene_of (moved w g x c y r))
  blind_sights none back goes = sights_step w.tree (scene_of w) (scene_of (moved w g x c y r)) c g r (moved_laws w g x c y r).changes f back goes
      (λ z j is past on at off. absurd (unseen (option_map forget y.walk) j none (sym walk_now ∙ is) past))

  -- it was on the way nowhere, and is past its sight
  pub seeing_sights : x.migrator ≡ (group_of w g).migrator → (j : Walk) → y.walk ≡ Some j → ((z : ℕ) → IsOnItsWay w.tree (scene_of w) z c → ⊥)
      → ((z : ℕ) → j.on ≡ true → group_at_of w.tree c j.level ≡ Some z → is_on (scene_of w) (of_group z) ≡ false → (d : ℕ) × ((d ≢ c) × IsOnItsWay w.tree (scene_of w) z d))
      → SightsHold w.tree (scene_of (moved w g x c y r))
  seeing_sights migrator j is stays own = sights_step w.tree (scene_of w) (scene_of (moved w g x c y r)) c g r (moved_laws w g x c y r).changes f
      (λ z off. inl (was_off w g x c y r migrator z off)) (λ z d i ne at past here way. absurd (stays z way))
      (λ z i now past on at off.
      (let same : forget j ≡ i = same_Some _ _ (ap (option_map forget) (sym is) ∙ (sym walk_now ∙ now)) in
      let d = own z (ap (λ (q : Walk). q.on) same ∙ on) (ap (λ (q : Walk). group_at_of w.tree c q.level) same ∙ at) (was_off w g x c y r migrator z off) in
      (d.0, (d.1.0, way_else w.tree (scene_of w) (scene_of (moved w g x c y r)) c g r (moved_laws w g x c y r).changes z d.0 d.1.0 d.1.1))))

-- a free CPU is on no way
pub free_sights : (w : World) (c : ℕ) (y : CpuRecord) → c < length w.cpus → SightsHold w.tree (scene_of w) → (cpu_of w c).walk ≡ None → sees_by (option_map forget y.walk) ≡ false → SightsHold w.tree (scene_of (own w c y))
free_sights w c y hc f free none = blind_sights w 0 (group_of w 0) c y false hc f none (λ z off. inl (was_off w 0 (group_of w 0) c y false refl z off))
    (λ z d j ne is past at way. absurd (none-some way.made (sym (ap (option_map forget) free) ∙ way.walk)))

-- STEPS OF WALKS
module _ (w : World) (c : ℕ) (k : Walk) (hc : c < length w.cpus) (a : BeforeStep w) (is : (cpu_of w c).walk ≡ Some k) where
  made_is : (x : ℕ) (way : IsOnItsWay w.tree (scene_of w) x c) → forget k ≡ way.made
  made_is x way = same_Some _ _ (sym (walk_is w c k a is) ∙ way.walk)

  -- at a stage at which it waits for no lock it is on no way
  no_way : (st : Stage) → k.stage ≡ st → is_locking st ≡ false → (x : ℕ) → IsOnItsWay w.tree (scene_of w) x c → ⊥
  no_way st e free x way = true≢false (sym way.locking ∙ (ap (λ (j : Walk). is_locking j.stage) (sym (made_is x way)) ∙ (ap is_locking e ∙ free)))

  blind : (st : Stage) → k.stage ≡ st → is_locking st ≡ false → (g : ℕ) (x : Group) → x.migrator ≡ (group_of w g).migrator → (y : CpuRecord) (r : Bool) → sees_by (option_map forget y.walk) ≡ false → SightsHold w.tree (scene_of (moved w g x c y r))
  blind st e free g x migrator y r none = blind_sights w g x c y r hc a.events.sights none (λ z off. inl (was_off w g x c y r migrator z off))
      (λ z d j ne at past here way. absurd (no_way st e free z way))

  -- what it saw it still says
  seen_on : (st : Stage) → k.stage ≡ st → is_locking st ≡ false → is_past_sight st ≡ true → (g : ℕ) (x : Group) → x.migrator ≡ (group_of w g).migrator → (j : Walk) → j.on ≡ k.on → j.level ≡ k.level
      → SightsHold w.tree (scene_of (moved w g x c (with_walk (cpu_of w c) (Some j)) false))
  seen_on st e free past g x migrator j on level = seeing_sights w g x c (with_walk (cpu_of w c) (Some j)) false hc a.events.sights migrator j refl (no_way st e free)
      (λ z is_on at off. a.events.sights c z (forget k) (walk_is w c k a is) (ap is_past_sight e ∙ past) (sym on ∙ is_on) (ap (group_at_of w.tree c) (sym level) ∙ at) off)

  up_sights : k.stage ≡ stages.Up → SightsHold w.tree (scene_of (walked w c k stages.Up))
  up_sights e = blind_sights w (here w c k) _ c _ true hc a.events.sights (unseen_up (at_top w.tree c k.level) (is_none (group_of w (here w c k)).migrator) k)
      (λ z off. inl (up_off w c k hc a is e z off)) (λ z d j ne at past here way. absurd (no_way stages.Up e refl z way))

  -- SWAP: the walk that takes a child out is on its way to the lock
  swap_sights : k.stage ≡ stages.Swap → (on : Bool)
      → SightsHold w.tree (scene_of (moved w (here w c k) (left_by on (group_of w (here w c k)) (side w.tree c k.level)) c (with_walk (cpu_of w c) (Some (swap_next true k))) true))
  swap_sights e on =
      let x = left_by on (group_of w (here w c k)) (side w.tree c k.level) in
      let y = with_walk (cpu_of w c) (Some (swap_next true k)) in
      let new = scene_of (moved w (here w c k) x c y true) in
      let way : IsOnItsWay w.tree new (here w c k) c = record {
        made = forget (swap_next true k);
        walk = walk_now w (here w c k) x c y true hc a.events.sights;
        leaves = fits w c k a is stages.Swap e (λ z. cc);
        locking = lock_waits k.level;
        here = at_here w c k a is stages.Swap e (λ z. cc);
      } in
      blind_sights w (here w c k) x c y true hc a.events.sights (unseen_lock k.level)
      (λ z off. elim (cases_eq z (here w c k)) [
        | inl same ↦ inr (subst (λ n. IsOnItsWay w.tree new n c) (sym same) way)
        | inr ne ↦ inl (swap_off w c k hc a is on z ne off)
      ])
      (λ z d j ne at past here way. absurd (no_way stages.Swap e refl z way))

  swapped_sights : k.stage ≡ stages.Swap → (fresh : Bool) → SightsHold w.tree (scene_of (swapped w c k fresh))
  swapped_sights e true = swap_sights e k.child_on
  swapped_sights e false = blind stages.Swap e refl 0 (group_of w 0) refl _ false refl

  -- LOCKCHILD: it is on its way still
  lock_child_sights : k.stage ≡ stages.LockChild → SightsHold w.tree (scene_of (walked w c k stages.LockChild))
  lock_child_sights e =
      let x = with_lock (group_of w (child_here w c k)) (Some c) in
      let y = with_walk (cpu_of w c) (Some (at_stage k stages.LockGroup)) in
      blind_sights w (child_here w c k) x c y false hc a.events.sights refl
      (λ z off. inl (was_off w (child_here w c k) x c y false refl z off))
      (λ z d j ne at past there way. record {
        made = forget (at_stage k stages.LockGroup);
        walk = walk_now w (child_here w c k) x c y false hc a.events.sights;
        leaves = ap (λ (i : Walk). is_leaving i.kind) (made_is z way) ∙ way.leaves;
        locking = refl;
        here = ap (λ (i : Walk). group_at_of w.tree c i.level) (made_is z way) ∙ way.here;
      })

  -- LOCKGROUP: as long as another has the lock it isn't taken
  lock_group_sights : k.stage ≡ stages.LockGroup → (group_of w (here w c k)).lock ≡ None → SightsHold w.tree (scene_of (walked w c k stages.LockGroup))
  lock_group_sights e free =
      let x = with_lock (group_of w (here w c k)) (Some c) in
      let y = with_walk (cpu_of w c) (Some (at_stage k (first_sight k.level))) in
      blind_sights w (here w c k) x c y false hc a.events.sights (unseen_sight k.level)
      (λ z off. inl (was_off w (here w c k) x c y false refl z off))
      (λ z d j ne at past there way. absurd (taken z d j at past there (ap (λ (i : Walk). group_at_of w.tree c i.level) (made_is z way) ∙ way.here)))
    where
      taken : (z d : ℕ) (j : Walk) → (scene_of w).walk d ≡ Some j → is_past_sight j.stage ≡ true → group_at_of w.tree d j.level ≡ Some z → group_at_of w.tree c k.level ≡ Some z → ⊥
      taken z d j at past there own =
          let lock = a.locks.holds z d (subst (λ m. HoldsBy w.tree d m z) (sym at) (inl (sight_lock w.tree d j.level j.stage past ∙ there))) in
          none-some d (sym free ∙ (ap (λ n. (group_of w n).lock) (named w c k a is k.level z own) ∙ lock))

  see_child_sights : k.stage ≡ stages.SeeChild → (q : Bool) → SightsHold w.tree (scene_of (own w c (with_walk (cpu_of w c) (Some (see_child_next q k)))))
  see_child_sights e false = blind stages.SeeChild e refl 0 (group_of w 0) refl _ false refl
  see_child_sights e true = seeing_sights w 0 (group_of w 0) c (with_walk (cpu_of w c) (Some (see_child_next true k))) false hc a.events.sights refl (see_child_next true k) refl (no_way stages.SeeChild e refl)
      (λ z on at off. absurd (true≢false (sym on ∙ (flags w c k a is stages.SeeChild e k.level z at).0)))

  see_group_sights : k.stage ≡ stages.SeeGroup → SightsHold w.tree (scene_of (walked w c k stages.SeeGroup))
  see_group_sights e =
      let j = see_group_next (is_some (group_of w (here w c k)).migrator) (at_top w.tree c k.level) k in
      seeing_sights w 0 (group_of w 0) c (with_walk (cpu_of w c) (Some j)) false hc a.events.sights refl j refl (no_way stages.SeeGroup e refl)
      (λ z on at off. absurd (true≢false (sym (sees_on w c k a is z at on) ∙ off)))

  finish_sights : k.stage ≡ stages.Finish → (kind : WalkKind) → SightsHold w.tree (scene_of (own w c (finished (cpu_of w c) k kind)))
  finish_sights e kinds.Activate = blind stages.Finish e refl 0 (group_of w 0) refl _ false refl
  finish_sights e kinds.Deactivate = blind stages.Finish e refl 0 (group_of w 0) refl _ false refl
  finish_sights e kinds.Offline = blind stages.Finish e refl 0 (group_of w 0) refl _ false (unseen_handing (k.first == NEVER) k)
  finish_sights e kinds.Reeval = blind stages.Finish e refl 0 (group_of w 0) refl _ false refl
  finish_sights e (kinds.Remote by) = blind stages.Finish e refl 0 (group_of w 0) refl _ false refl

  pub handed_sights : k.stage ≡ stages.Handing → SightsHold w.tree (scene_of (own w c (with_walk (cpu_of w c) None)))
  handed_sights e = blind stages.Handing e refl 0 (group_of w 0) refl _ false refl

  pub stage_sights : (st : Stage) → k.stage ≡ st → MayGoOn w c k st → SightsHold w.tree (scene_of (walked w c k st))
  stage_sights stages.Own e may = blind stages.Own e refl _ _ refl _ false refl
  stage_sights stages.Up e may = up_sights e
  stage_sights (stages.Mark more) e may = blind (stages.Mark more) e refl _ _ refl _ false (unseen_mark more k)
  stage_sights stages.Read e may = blind stages.Read e refl 0 (group_of w 0) refl _ false refl
  stage_sights stages.Child e may = blind stages.Child e refl 0 (group_of w 0) refl _ false refl
  stage_sights stages.Swap e may = swapped_sights e k.fresh
  stage_sights stages.LockChild e may = lock_child_sights e
  stage_sights stages.LockGroup e may = lock_group_sights e may
  stage_sights stages.SeeChild e may = see_child_sights e (child_on w c k.level)
  stage_sights stages.SeeGroup e may = see_group_sights e
  stage_sights (stages.Scan i) e may = seen_on (stages.Scan i) e refl refl 0 (group_of w 0) refl (scan_next (event_at (group_of w (child_here w c k)).events i) i k) refl refl
  stage_sights stages.Store e may = seen_on stages.Store e refl refl (here w c k) _ refl (store_next (at_top w.tree c k.level) k) refl refl
  stage_sights (stages.First i) e may = seen_on (stages.First i) e refl refl 0 (group_of w 0) refl (first_next (event_at (group_of w (here w c k)).events i) i k) refl refl
  stage_sights stages.FreeGroup e may = blind stages.FreeGroup e refl (here w c k) _ refl _ false (unseen_free k.level k)
  stage_sights stages.FreeChild e may = blind stages.FreeChild e refl (child_here w c k) _ refl _ false (unseen_freed k.over k)
  stage_sights stages.Finish e may = finish_sights e k.kind
  stage_sights stages.Handing e may = absurd may
