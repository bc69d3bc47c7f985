-- 5b: a walk's first event so far
use Rattle.std.proofs.Common.{◌≡◌, ◌≢◌, inl, inr, ℕ, zero, suc, ◌+◌, ◌-◌, ◌<◌, Bool, true, false, cond, length, Option, Some, None, refl, sym, ap, ◌∙◌, subst, arith}
use Rattle.std.specs.Prelude.{◌==◌, ◌&&◌, not, is_none, is_some, option_map, unwrap_or}
use Rattle.std.proofs.lemmas.Bool.{cases_eq, eqb-true}
use Rattle.std.proofs.lemmas.Option.{none-some, same_Some}
use Rattle.tm_base.specs.declared.names.TheConstants.{NEVER}
use Rattle.event_queue.specs.declared.event.Event.{Event}
use Rattle.event_queue.specs.EventMap.{Counts, event_at, marked_slot}
use Rattle.tm_base.specs.declared.names.Child.{Child}
use Rattle.tm_base.specs.Children.{of_cpu, of_group}
use Rattle.tree_plan.specs.Shape.{Shape}
use Rattle.tree_plan.specs.Paths.{child_towards, group_at_of}
use Rattle.walk_rules.specs.declared.walk.Walk.{Walk}
use Rattle.walk_rules.specs.declared.walk.WalkKind.{WalkKind}
use Rattle.walk_rules.specs.declared.walk.WalkKind.TheVariants as kinds
use Rattle.walk_rules.specs.declared.walk.Stage.{Stage}
use Rattle.walk_rules.specs.declared.walk.Stage.TheVariants as stages
use Rattle.walk_rules.specs.Hierarchy.{at_top, group_on, side}
use Rattle.walk_rules.specs.Locks.{HoldsBy, child_lock, group_lock}
use Rattle.walk_rules.specs.Queues.{BestHolds, FirstBelow, group_under, read_of}
use Rattle.walk_rules.specs.Scene.{Group, Scene}
use Rattle.walk_rules.specs.Stages.{after_sight, at_stage, first_lock, first_sight, first_stage, forget, free_group_next, freed_next, is_remote, joined_by, left_by, mark_next, scan_next, see_child_next, see_group_next, sooner_event, store_next, stored_event, swap_next, up_next, with_event, with_mark}
use Rattle.core_world.specs.Frames.{ChangesOnly}
use Rattle.core_world.specs.Steps.{child_here, child_on, finished, here, swapped, walked, with_walk}
use Rattle.walk_rules.specs.Stages.{begun_where}
use Rattle.core_world.specs.World.{CpuRecord, World, cpu_of, group_of, moved, own, scene_of}
use Rattle.core_world.proofs.Moves.{moved_laws}
use Rattle.core_world.proofs.Quiet.{moved_group_field}
use Rattle.core_laws.proofs.Edges.Facts.{own_child, through_group}
use Rattle.core_laws.proofs.Events.Rises.{writes_at}
use Rattle.core_laws.proofs.Events.Slots.{first_more, first_none}
use Rattle.core_laws.proofs.Events.Walking.{BeforeStep, at_here, fits, sided, walk_is}
use Rattle.core_laws.proofs.Events.Writes.{counts_was}

-- others' first events stay where what counts in their children's queues was there
best_step : (t : Shape) (old new : Scene) (c g : ℕ) (r : Bool) → ChangesOnly t old new c g r → BestHolds t old
    → ((d x n : ℕ) (j : Walk) → d ≢ c → old.walk d ≡ Some j → read_of j.stage ≡ Some n → group_under t d j.level ≡ Some x
    → (i : ℕ) (e : Event) → event_at (new.group x).events i ≡ Some e → Counts e → event_at (old.group x).events i ≡ Some e)
    → ((x n : ℕ) (j : Walk) → new.walk c ≡ Some j → read_of j.stage ≡ Some n → group_under t c j.level ≡ Some x → FirstBelow (new.group x).events n j.best)
    → BestHolds t new
best_step t old new c g r ch f was own d x n j is read under = elim (cases_eq d c) [
  | inl same ↦ own x n j (subst (λ i. new.walk i ≡ Some j) same is) read (subst (λ i. group_under t i j.level ≡ Some x) same under)
  | inr ne ↦
      let before = sym (ch.walk d ne) ∙ is in
      (λ i e low there counts. f d x n j before read under i e low (was d x n j ne before read under i e there counts) counts)
]

-- how many events a walk has read, if it reads
abbrev pub read_by : Option Walk → Option ℕ
read_by None = None
read_by (Some k) = read_of k.stage

module _ (w : World) (g : ℕ) (x : Group) (c : ℕ) (y : CpuRecord) (r : Bool) (hc : c < length w.cpus) (f : BestHolds w.tree (scene_of w)) where
  walk_now : (scene_of (moved w g x c y r)).walk c ≡ option_map forget y.walk
  walk_now = ap (λ (i : CpuRecord). option_map forget i.walk) ((moved_laws w g x c y r).cpu hc)

  same_events : x.events ≡ (group_of w g).events → (h : ℕ) → (group_of (moved w g x c y r) h).events ≡ (group_of w h).events
  same_events events h = moved_group_field w g x c y r (λ (i : Group). i.events) events h

  -- the CPU's walk, if any, reads no events then
  pub unread_best : read_by (option_map forget y.walk) ≡ None
      → ((d z n : ℕ) (j : Walk) → d ≢ c → (scene_of w).walk d ≡ Some j → read_of j.stage ≡ Some n → group_under w.tree d j.level ≡ Some z
      → (i : ℕ) (e : Event) → event_at (group_of (moved w g x c y r) z).events i ≡ Some e → Counts e → event_at (group_of w z).events i ≡ Some e)
      → BestHolds w.tree (scene_of (moved w g x c y r))
  unread_best none was = best_step w.tree (scene_of w) (scene_of (moved w g x c y r)) c g r (moved_laws w g x c y r).changes f was
      (λ z n j is read under. absurd (none-some n (sym none ∙ (ap read_by (sym walk_now ∙ is) ∙ read))))

  -- and no events change
  pub calm_best : x.events ≡ (group_of w g).events → read_by (option_map forget y.walk) ≡ None → BestHolds w.tree (scene_of (moved w g x c y r))
  calm_best events none = unread_best none (λ d z n j ne is read under i e there counts. ap (λ es. event_at es i) (sym (same_events events z)) ∙ there)

  -- the CPU's walk reads on
  pub reads_best : x.events ≡ (group_of w g).events → (j : Walk) → y.walk ≡ Some j
      → ((z n : ℕ) → read_of j.stage ≡ Some n → group_under w.tree c j.level ≡ Some z → FirstBelow (group_of w z).events n j.best) → BestHolds w.tree (scene_of (moved w g x c y r))
  reads_best events j is own = best_step w.tree (scene_of w) (scene_of (moved w g x c y r)) c g r (moved_laws w g x c y r).changes f
      (λ d z n i ne is read under m e there counts. ap (λ es. event_at es m) (sym (same_events events z)) ∙ there)
      (λ z n i now read under.
      (let same : forget j ≡ i = same_Some _ _ (ap (option_map forget) (sym is) ∙ (sym walk_now ∙ now)) in
      subst (λ es. FirstBelow es n i.best) (sym (same_events events z))
      (subst (λ (q : Walk). FirstBelow (group_of w z).events n q.best) same
      (own z n (ap (λ (q : Walk). read_of q.stage) same ∙ read) (ap (λ (q : Walk). group_under w.tree c q.level) same ∙ under)))))

-- STAGES at which nothing is read
unread_cond : (q : Bool) (x y : Stage) → read_of x ≡ None → read_of y ≡ None → read_of (cond q x y) ≡ None
unread_cond true x y hx hy = hx
unread_cond false x y hx hy = hy

unread_up : (top more : Bool) (k : Walk) → read_by (option_map forget (up_next top more k)) ≡ None
unread_up true more k = refl
unread_up false more k = refl

unread_mark : (more : Bool) (k : Walk) → read_by (option_map forget (mark_next more k)) ≡ None
unread_mark true k = refl
unread_mark false k = refl

unread_lock : (l : ℕ) → read_of (first_lock l) ≡ None
unread_lock zero = refl
unread_lock (suc l) = refl

unread_sight : (l : ℕ) → read_of (first_sight l) ≡ None
unread_sight zero = refl
unread_sight (suc l) = refl

unread_see : (q : Bool) (k : Walk) → read_of (see_child_next q k).stage ≡ None
unread_see true k = refl
unread_see false k = refl

unread_first : (kind : WalkKind) → read_of (first_stage kind) ≡ None
unread_first kinds.Activate = refl
unread_first kinds.Deactivate = refl
unread_first kinds.Offline = refl
unread_first kinds.Reeval = refl
unread_first (kinds.Remote by) = refl

unread_freed : (over : Bool) (k : Walk) → read_of (freed_next over k).stage ≡ None
unread_freed true k = refl
unread_freed false k = unread_first k.kind

unread_free : (l : ℕ) (k : Walk) → read_of (free_group_next l k).stage ≡ None
unread_free zero k = unread_freed k.over k
unread_free (suc l) k = refl

unread_handing : (q : Bool) (k : Walk) → read_by (option_map forget (cond q None (Some (at_stage k stages.Handing)))) ≡ None
unread_handing true k = refl
unread_handing false k = refl

pub unread_begun : (q : Bool) (kind : WalkKind) (stage : Stage) (pin next : ℕ) → read_of stage ≡ None → read_by (option_map forget (begun_where q kind stage pin next)) ≡ None
unread_begun true kind stage pin next none = none
unread_begun false kinds.Activate stage pin next none = refl
unread_begun false kinds.Deactivate stage pin next none = refl
unread_begun false kinds.Offline stage pin next none = refl
unread_begun false kinds.Reeval stage pin next none = refl
unread_begun false (kinds.Remote by) stage pin next none = refl

-- where a walk reads it has its child's lock
reading_lock : (t : Shape) (d level : ℕ) (st : Stage) (n : ℕ) → read_of st ≡ Some n → child_lock t d level st ≡ group_under t d level
reading_lock t d level (stages.Scan i) n e = refl
reading_lock t d level stages.Store n e = refl
reading_lock t d level stages.Own n e = absurd (none-some n e)
reading_lock t d level stages.Up n e = absurd (none-some n e)
reading_lock t d level (stages.Mark more) n e = absurd (none-some n e)
reading_lock t d level stages.Read n e = absurd (none-some n e)
reading_lock t d level stages.Child n e = absurd (none-some n e)
reading_lock t d level stages.Swap n e = absurd (none-some n e)
reading_lock t d level stages.LockChild n e = absurd (none-some n e)
reading_lock t d level stages.LockGroup n e = absurd (none-some n e)
reading_lock t d level stages.SeeChild n e = absurd (none-some n e)
reading_lock t d level stages.SeeGroup n e = absurd (none-some n e)
reading_lock t d level (stages.First i) n e = absurd (none-some n e)
reading_lock t d level stages.FreeGroup n e = absurd (none-some n e)
reading_lock t d level stages.FreeChild n e = absurd (none-some n e)
reading_lock t d level stages.Finish n e = absurd (none-some n e)
reading_lock t d level stages.Handing n e = absurd (none-some n e)

-- STEPS OF WALKS
module _ (w : World) (c : ℕ) (k : Walk) (hc : c < length w.cpus) (a : BeforeStep w) (is : (cpu_of w c).walk ≡ Some k) where
  calm : (g : ℕ) (x : Group) → x.events ≡ (group_of w g).events → (y : CpuRecord) (r : Bool) → read_by (option_map forget y.walk) ≡ None → BestHolds w.tree (scene_of (moved w g x c y r))
  calm g x events y r none = calm_best w g x c y r hc a.events.best events none

  -- OWN, MARK: what is marked counts no more
  mark_best : (n g : ℕ) (m : Child) → group_at_of w.tree c n ≡ Some g → child_towards w.tree c n ≡ Some m → (y : CpuRecord) → read_by (option_map forget y.walk) ≡ None
      → BestHolds w.tree (scene_of (moved w (group_on w.tree c n) (with_mark (group_of w (group_on w.tree c n)) (side w.tree c n)) c y false))
  mark_best n g m at through y none =
      let x = with_mark (group_of w (group_on w.tree c n)) (side w.tree c n) in
      let slot = marked_slot (group_of w (group_on w.tree c n)).events (side w.tree c n) in
      unread_best w (group_on w.tree c n) x c y false hc a.events.best none
      (λ d z i j ne was read under. counts_was w.tree a.hierarchy (scene_of w) (scene_of (moved w (group_on w.tree c n) x c y false)) m (group_on w.tree c n) slot
      (writes_at w c k hc a is n g m at through x slot refl y) (ap (marked_slot (group_of w (group_on w.tree c n)).events) (sided w c k a is n m through)) z)

  own_best : k.stage ≡ stages.Own → BestHolds w.tree (scene_of (walked w c k stages.Own))
  own_best e =
      let level = (fits w c k a is stages.Own e (λ z. cc)).1 in
      mark_best 0 (here w c k) (of_cpu c) (ap (group_at_of w.tree c) (sym level) ∙ at_here w c k a is stages.Own e (λ z. cc)) (own_child w.tree c)
      (with_walk (cpu_of w c) (Some (at_stage k stages.Up))) refl

  marks_best : (more : Bool) → k.stage ≡ stages.Mark more → BestHolds w.tree (scene_of (walked w c k (stages.Mark more)))
  marks_best more e =
      let at = at_here w c k a is (stages.Mark more) e (λ z. cc) in
      let above = (fits w c k a is (stages.Mark more) e (λ z. cc)).1 in
      mark_best (suc k.level) above.0 (of_group (here w c k)) above.1 (through_group w.tree c k.level (here w c k) at)
      (with_walk (cpu_of w c) (mark_next more k)) (unread_mark more k)

  swap_best : (on : Bool) → BestHolds w.tree (scene_of (moved w (here w c k) (left_by on (group_of w (here w c k)) (side w.tree c k.level)) c (with_walk (cpu_of w c) (Some (swap_next true k))) true))
  swap_best true = calm (here w c k) (group_of w (here w c k)) refl _ true (unread_lock k.level)
  swap_best false = calm (here w c k) (left_by false (group_of w (here w c k)) (side w.tree c k.level)) refl _ true (unread_lock k.level)

  swapped_best : (fresh : Bool) → BestHolds w.tree (scene_of (swapped w c k fresh))
  swapped_best true = swap_best k.child_on
  swapped_best false = calm 0 (group_of w 0) refl _ false refl

  see_group_best : BestHolds w.tree (scene_of (walked w c k stages.SeeGroup))
  see_group_best =
      let j = see_group_next (is_some (group_of w (here w c k)).migrator) (at_top w.tree c k.level) k in
      reads_best w 0 (group_of w 0) c (with_walk (cpu_of w c) (Some j)) false hc a.events.best refl j refl (λ z n read under. begins k.level z n read under)
    where
      begins : (l z n : ℕ) → read_of (after_sight l) ≡ Some n → group_under w.tree c l ≡ Some z → FirstBelow (group_of w z).events n k.best
      begins zero z n read under = absurd (none-some z under)
      begins (suc l) z n read under = subst (λ i. FirstBelow (group_of w z).events i k.best) (same_Some _ _ read) (first_none (group_of w z).events k.best)

  scan_best : (i : ℕ) → k.stage ≡ stages.Scan i → BestHolds w.tree (scene_of (walked w c k (stages.Scan i)))
  scan_best i e =
      let j = scan_next (event_at (group_of w (child_here w c k)).events i) i k in
      reads_best w 0 (group_of w 0) c (with_walk (cpu_of w c) (Some j)) false hc a.events.best refl j refl (λ z n read under.
      (let one_more = first_more (group_of w z).events i k.best (a.events.best c z i (forget k) (walk_is w c k a is) (ap read_of e) under) in
      let named : child_here w c k ≡ z = names k.level z under in
      subst (λ q. FirstBelow (group_of w z).events n (sooner_event k.best (event_at (group_of w q).events i))) (sym named)
      (subst (λ q. FirstBelow (group_of w z).events q (sooner_event k.best (event_at (group_of w z).events i))) (counted (i == 7) n refl read) one_more)))
    where
      names : (l z : ℕ) → group_under w.tree c l ≡ Some z → group_on w.tree c (l - 1) ≡ z
      names zero z under = absurd (none-some z under)
      names (suc l) z under = let below : suc l - 1 ≡ l = omega arith in ap (group_on w.tree c) below ∙ ap (λ m. unwrap_or m 0) under

      counted : (q : Bool) (n : ℕ) → (i == 7) ≡ q → read_of (cond q stages.Store (stages.Scan (i + 1))) ≡ Some n → i + 1 ≡ n
      counted true n last read = let seven = eqb-true i 7 last in let eight : 8 ≡ n = same_Some _ _ read in omega (arith, seven, eight)
      counted false n last read = same_Some _ _ read

  -- STORE: nobody else reads the queue that it writes, for it has the lock
  store_best : k.stage ≡ stages.Store → BestHolds w.tree (scene_of (walked w c k stages.Store))
  store_best e =
      let at = at_here w c k a is stages.Store e (λ z. cc) in
      let top = at_top w.tree c k.level in
      let x = with_event (group_of w (here w c k)) (side w.tree c k.level) (stored_event k.level c k) in
      let y = with_walk (cpu_of w c) (Some (store_next top k)) in
      unread_best w (here w c k) x c y false hc a.events.best (unread_cond (top && (not k.on && not (is_remote k.kind))) (stages.First 0) stages.FreeGroup refl refl)
      (λ d z n j ne is' read under i f there counts.
      (let other : z ≢ here w c k = (λ same. ne (same_Some _ _ (sym (locks d z n j is' read under) ∙ (ap (λ m. (group_of w m).lock) same ∙ own_lock at)))) in
      ap (λ (m : Group). event_at m.events i) (sym ((moved_laws w (here w c k) x c y false).changes.group z other)) ∙ there))
    where
      locks : (d z n : ℕ) (j : Walk) → (scene_of w).walk d ≡ Some j → read_of j.stage ≡ Some n → group_under w.tree d j.level ≡ Some z → (group_of w z).lock ≡ Some d
      locks d z n j is' read under = a.locks.holds z d (subst (λ m. HoldsBy w.tree d m z) (sym is') (inr (reading_lock w.tree d j.level j.stage n read ∙ under)))

      own_lock : group_at_of w.tree c k.level ≡ Some (here w c k) → (group_of w (here w c k)).lock ≡ Some c
      own_lock at = a.locks.holds (here w c k) c (subst (λ m. HoldsBy w.tree c m (here w c k)) (sym (walk_is w c k a is)) (inl (ap (group_lock w.tree c k.level) e ∙ at)))

  finish_best : (kind : WalkKind) → BestHolds w.tree (scene_of (own w c (finished (cpu_of w c) k kind)))
  finish_best kinds.Activate = calm 0 (group_of w 0) refl _ false refl
  finish_best kinds.Deactivate = calm 0 (group_of w 0) refl _ false refl
  finish_best kinds.Offline = calm 0 (group_of w 0) refl _ false (unread_handing (k.first == NEVER) k)
  finish_best kinds.Reeval = calm 0 (group_of w 0) refl _ false refl
  finish_best (kinds.Remote by) = calm 0 (group_of w 0) refl _ false refl

  pub stage_best : (st : Stage) → k.stage ≡ st → BestHolds w.tree (scene_of (walked w c k st))
  stage_best stages.Own e = own_best e
  stage_best stages.Up e = calm (here w c k) (joined_by (group_of w (here w c k)) (side w.tree c k.level)) refl _ true (unread_up (at_top w.tree c k.level) (is_none (group_of w (here w c k)).migrator) k)
  stage_best (stages.Mark more) e = marks_best more e
  stage_best stages.Read e = calm 0 (group_of w 0) refl _ false refl
  stage_best stages.Child e = calm 0 (group_of w 0) refl _ false refl
  stage_best stages.Swap e = swapped_best k.fresh
  stage_best stages.LockChild e = calm (child_here w c k) _ refl _ false refl
  stage_best stages.LockGroup e = calm (here w c k) _ refl _ false (unread_sight k.level)
  stage_best stages.SeeChild e = calm 0 (group_of w 0) refl _ false (unread_see (child_on w c k.level) k)
  stage_best stages.SeeGroup e = see_group_best
  stage_best (stages.Scan i) e = scan_best i e
  stage_best stages.Store e = store_best e
  stage_best (stages.First i) e = calm 0 (group_of w 0) refl _ false (unread_cond (i == 7) stages.FreeGroup (stages.First (i + 1)) refl refl)
  stage_best stages.FreeGroup e = calm (here w c k) _ refl _ false (unread_free k.level k)
  stage_best stages.FreeChild e = calm (child_here w c k) _ refl _ false (unread_freed k.over k)
  stage_best stages.Finish e = finish_best k.kind
  stage_best stages.Handing e = a.events.best
