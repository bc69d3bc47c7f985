-- for crates above: what each stage makes of a walk that fits
use Rattle.std.proofs.Common.{◌≡◌, ℕ, zero, suc, ◌+◌, ◌<◌, Bool, true, false, true≢false, cond, Option, Some, None, refl, sym, ap, ◌∙◌, subst, arith}
use Rattle.std.specs.Prelude.{◌==◌, ◌&&◌, ◌||◌, not, is_none}
use Rattle.std.proofs.lemmas.Bool.Decides.{nat_tests}
use Rattle.std.proofs.lemmas.Option.{none-some, same_Some}
use Rattle.event_queue.specs.declared.event.Event.{Event}
use Rattle.tree_plan.specs.Shape.{Shape}
use Rattle.tree_plan.specs.Paths.{group_at_of}
use Rattle.walk_rules.specs.declared.walk.Walk.{Walk}
use Rattle.walk_rules.specs.declared.walk.WalkKind.{WalkKind}
use Rattle.walk_rules.specs.declared.walk.WalkKind.TheVariants as kinds
use Rattle.walk_rules.specs.declared.walk.Stage.{Stage}
use Rattle.walk_rules.specs.declared.walk.Stage.TheVariants as stages
use Rattle.walk_rules.specs.Hierarchy.{HasGroup, at_top}
use Rattle.walk_rules.specs.Stages.{after_sight, at_stage, child_next, first_lock, first_next, first_sight, first_stage, forget, free_group_next, freed_next, higher, is_remote, mark_next, read_next, scan_next, see_child_next, see_group_next, store_next, swap_next, up_next}
use Rattle.walk_rules.specs.Standing.{FitsStage, FlagsAt, IsWalker, Leaves, Tells}
use Rattle.core_laws.specs.Walks.Fit.{IsFit}

pub tells_leaving : (kind : WalkKind) → Leaves kind → Tells kind
tells_leaving kinds.Activate l e = true≢false (sym l)
tells_leaving kinds.Deactivate l e = cc
tells_leaving kinds.Offline l e = cc
tells_leaving kinds.Reeval l e = cc
tells_leaving (kinds.Remote by) l e = cc

tells_offline : (kind : WalkKind) → kind ≡ kinds.Offline → Tells kind
tells_offline kind is e = cc

pub goes_on : (m : Option ℕ) → is_none m ≡ false → (p : ℕ) × (m ≡ Some p)
goes_on None e = absurd (true≢false e)
goes_on (Some p) e = (p, refl)

either : (b : Bool) → (b ≡ true → ⊥) → b ≡ false
either true refuse = absurd (refuse refl)
either false refuse = refl

both : (a b : Bool) → (a && b) ≡ true → (a ≡ true) × (b ≡ true)
both true b e = (refl, e)
both false b e = absurd (true≢false (sym e))

not_of : (b : Bool) → not b ≡ true → b ≡ false
not_of true e = absurd (true≢false (sym e))
not_of false e = refl

seven : (j : ℕ) → j < 8 → (j == 7) ≡ false → j + 1 < 8
seven j h e = grind (arith, nat_tests)

-- where a level begins
pub first_fits : (t : Shape) (c l : ℕ) (kind : WalkKind) → Tells kind → FitsStage t c kind (suc l) (first_stage kind)
first_fits t c l kinds.Activate h = absurd (h refl)
first_fits t c l kinds.Deactivate h = refl
first_fits t c l kinds.Offline h = refl
first_fits t c l kinds.Reeval h = (h, omega arith)
first_fits t c l (kinds.Remote by) h = (h, omega arith)

first_flags : (top : Bool) (kind : WalkKind) → FlagsAt top false false (first_stage kind)
first_flags top kinds.Activate = tt
first_flags top kinds.Deactivate = (refl, refl)
first_flags top kinds.Offline = (refl, refl)
first_flags top kinds.Reeval = (refl, refl)
first_flags top (kinds.Remote by) = (refl, refl)

lock_fits : (t : Shape) (c l : ℕ) (kind : WalkKind) → Tells kind → FitsStage t c kind l (first_lock l)
lock_fits t c zero kind h = h
lock_fits t c (suc l) kind h = (h, omega arith)

lock_flags : (top on over : Bool) (l : ℕ) → (on ≡ false) × (over ≡ false) → FlagsAt top on over (first_lock l)
lock_flags top on over zero h = h
lock_flags top on over (suc l) h = h

sight_fits : (t : Shape) (c l : ℕ) (kind : WalkKind) → Tells kind → FitsStage t c kind l (first_sight l)
sight_fits t c zero kind h = h
sight_fits t c (suc l) kind h = (h, omega arith)

sight_flags : (top on over : Bool) (l : ℕ) → (on ≡ false) × (over ≡ false) → FlagsAt top on over (first_sight l)
sight_flags top on over zero h = h
sight_flags top on over (suc l) h = h

after_fits : (t : Shape) (c l : ℕ) (kind : WalkKind) → Tells kind → FitsStage t c kind l (after_sight l)
after_fits t c zero kind h = h
after_fits t c (suc l) kind h = (h, omega arith, omega arith)

after_flags : (top on : Bool) (l : ℕ) → FlagsAt top on (on || top) (after_sight l)
after_flags top on zero = refl
after_flags top on (suc l) = refl

scan_fits : (t : Shape) (c l j : ℕ) (kind : WalkKind) (b : Bool) → Tells kind × (0 < l) × (j < 8) → (b ≡ false → j + 1 < 8)
    → FitsStage t c kind l (cond b stages.Store (stages.Scan (j + 1)))
scan_fits t c l j kind true h n = h.0
scan_fits t c l j kind false h n = (h.0, h.1, n refl)

scan_flags : (top on over : Bool) (j : ℕ) (b : Bool) → over ≡ (on || top) → FlagsAt top on over (cond b stages.Store (stages.Scan (j + 1)))
scan_flags top on over j true h = h
scan_flags top on over j false h = h

first_event_fits : (t : Shape) (c l j : ℕ) (kind : WalkKind) (b : Bool) → Tells kind × (at_top t c l ≡ true) × (j < 8) → (b ≡ false → j + 1 < 8)
    → FitsStage t c kind l (cond b stages.FreeGroup (stages.First (j + 1)))
first_event_fits t c l j kind true h n = h.0
first_event_fits t c l j kind false h n = (h.0, h.1, n refl)

first_event_flags : (top on over : Bool) (j : ℕ) (b : Bool) → (on ≡ false) × (over ≡ true) → FlagsAt top on over (cond b stages.FreeGroup (stages.First (j + 1)))
first_event_flags top on over j true h = λ _. h.1
first_event_flags top on over j false h = h

store_fits : (t : Shape) (c l : ℕ) (kind : WalkKind) (b : Bool) → Tells kind → (b ≡ true → at_top t c l ≡ true)
    → FitsStage t c kind l (cond b (stages.First 0) stages.FreeGroup)
store_fits t c l kind true h n = (h, n refl, omega arith)
store_fits t c l kind false h n = h

or_true : (on : Bool) → (on || true) ≡ true
or_true true = refl
or_true false = refl

store_flags : (top on over b : Bool) → over ≡ (on || top) → (b ≡ true → (top ≡ true) × (on ≡ false)) → FlagsAt top on over (cond b (stages.First 0) stages.FreeGroup)
store_flags top on over true h n = ((n refl).1, h ∙ (ap (λ z. on || z) (n refl).0 ∙ or_true on))
store_flags top on over false h n = λ is. h ∙ (ap (λ z. on || z) is ∙ or_true on)

module _ (t : Shape) (c : ℕ) (online idle : Bool) (k : Walk) (fit : IsFit t c online idle (forget k)) where
  fits_at : (st : Stage) → k.stage ≡ st → HasGroup t c → FitsStage t c k.kind k.level st
  fits_at st e g = subst (FitsStage t c k.kind k.level) e (fit.in_tree g).fits

  flags_at : (st : Stage) → k.stage ≡ st → HasGroup t c → FlagsAt (at_top t c k.level) k.on k.over st
  flags_at st e g = subst (FlagsAt (at_top t c k.level) k.on k.over) e (fit.flags g)

  here : HasGroup t c → (g : ℕ) × (group_at_of t c k.level ≡ Some g)
  here g = (fit.in_tree g).there

  -- a walk that goes on at a stage other than Finish is one of a CPU that has a group
  next_fit : (st : Stage) → k.stage ≡ st → (st ≡ stages.Finish → ⊥) → (j : Walk) → j.kind ≡ k.kind
      → (HasGroup t c → (g : ℕ) × (group_at_of t c j.level ≡ Some g)) → (HasGroup t c → FitsStage t c j.kind j.level j.stage)
      → (HasGroup t c → FlagsAt (at_top t c j.level) j.on j.over j.stage) → IsFit t c online idle (forget j)
  next_fit st e other j same there fits flags = record {
    in_tree = λ g. record { there = there g; fits = fits g };
    alone = λ none. absurd (other (sym e ∙ (fit.alone none).finishing));
    flags = flags;
    walker = subst (λ kind. IsWalker kind online idle) (sym same) fit.walker;
  }

  pub own_fits : k.stage ≡ stages.Own → IsFit t c online idle (forget (at_stage k stages.Up))
  own_fits e = next_fit stages.Own e (λ z. cc) (at_stage k stages.Up) refl here (λ g. (fits_at stages.Own e g).0) (λ g. tt)

  pub up_fits : k.stage ≡ stages.Up → (top more : Bool) → top ≡ at_top t c k.level → (j : Walk) → up_next top more k ≡ Some j → IsFit t c online idle (forget j)
  up_fits e true more is j at = absurd (none-some j at)
  up_fits e false more is j at = subst (λ z. IsFit t c online idle (forget z)) (same_Some _ _ at)
      (next_fit stages.Up e (λ z. cc) (at_stage k (stages.Mark more)) refl here (λ g. (fits_at stages.Up e g, goes_on _ (sym is))) (λ g. tt))

  pub mark_fits : (m : Bool) → k.stage ≡ stages.Mark m → (j : Walk) → mark_next m k ≡ Some j → IsFit t c online idle (forget j)
  mark_fits false e j at = absurd (none-some j at)
  mark_fits true e j at = subst (λ z. IsFit t c online idle (forget z)) (same_Some _ _ at)
      (next_fit (stages.Mark true) e (λ z. cc) (higher k stages.Up) refl (λ g. (fits_at (stages.Mark true) e g).1) (λ g. (fits_at (stages.Mark true) e g).0) (λ g. tt))

  pub read_fits : k.stage ≡ stages.Read → IsFit t c online idle (forget (read_next k))
  read_fits e = next_fit stages.Read e (λ z. cc) (read_next k) refl here (fits_at stages.Read e) (flags_at stages.Read e)

  pub child_fits : (on : Bool) → k.stage ≡ stages.Child → IsFit t c online idle (forget (child_next on k))
  child_fits on e = next_fit stages.Child e (λ z. cc) (child_next on k) refl here (fits_at stages.Child e) (flags_at stages.Child e)

  pub swap_fits : (fresh : Bool) → k.stage ≡ stages.Swap → IsFit t c online idle (forget (swap_next fresh k))
  swap_fits true e = next_fit stages.Swap e (λ z. cc) (swap_next true k) refl here
      (λ g. lock_fits t c k.level k.kind (tells_leaving k.kind (fits_at stages.Swap e g))) (λ g. lock_flags _ k.on k.over k.level (flags_at stages.Swap e g))
  swap_fits false e = next_fit stages.Swap e (λ z. cc) (swap_next false k) refl here (fits_at stages.Swap e) (flags_at stages.Swap e)

  pub lock_child_fits : k.stage ≡ stages.LockChild → IsFit t c online idle (forget (at_stage k stages.LockGroup))
  lock_child_fits e = next_fit stages.LockChild e (λ z. cc) (at_stage k stages.LockGroup) refl here (λ g. (fits_at stages.LockChild e g).0) (flags_at stages.LockChild e)

  pub lock_group_fits : k.stage ≡ stages.LockGroup → IsFit t c online idle (forget (at_stage k (first_sight k.level)))
  lock_group_fits e = next_fit stages.LockGroup e (λ z. cc) (at_stage k (first_sight k.level)) refl here
      (λ g. sight_fits t c k.level k.kind (fits_at stages.LockGroup e g)) (λ g. sight_flags _ k.on k.over k.level (flags_at stages.LockGroup e g))

  pub see_child_fits : (on : Bool) → k.stage ≡ stages.SeeChild → IsFit t c online idle (forget (see_child_next on k))
  see_child_fits true e = next_fit stages.SeeChild e (λ z. cc) (see_child_next true k) refl here (λ g. (fits_at stages.SeeChild e g).0) (λ g _. refl)
  see_child_fits false e = next_fit stages.SeeChild e (λ z. cc) (see_child_next false k) refl here (λ g. (fits_at stages.SeeChild e g).0) (flags_at stages.SeeChild e)

  pub see_group_fits : (on : Bool) → k.stage ≡ stages.SeeGroup → IsFit t c online idle (forget (see_group_next on (at_top t c k.level) k))
  see_group_fits on e = next_fit stages.SeeGroup e (λ z. cc) (see_group_next on (at_top t c k.level) k) refl here
      (λ g. after_fits t c k.level k.kind (fits_at stages.SeeGroup e g)) (λ g. after_flags (at_top t c k.level) on k.level)

  pub scan_fit : (e : Option Event) (j : ℕ) → k.stage ≡ stages.Scan j → IsFit t c online idle (forget (scan_next e j k))
  scan_fit event j e = next_fit (stages.Scan j) e (λ z. cc) (scan_next event j k) refl here
      (λ g. let f = fits_at (stages.Scan j) e g in scan_fits t c k.level j k.kind (j == 7) f (seven j f.2))
      (λ g. scan_flags _ k.on k.over j (j == 7) (flags_at (stages.Scan j) e g))

  pub store_fit : k.stage ≡ stages.Store → IsFit t c online idle (forget (store_next (at_top t c k.level) k))
  store_fit e = next_fit stages.Store e (λ z. cc) (store_next (at_top t c k.level) k) refl here
      (λ g. store_fits t c k.level k.kind (at_top t c k.level && (not k.on && not (is_remote k.kind))) (fits_at stages.Store e g) (λ z. (both _ _ z).0))
      (λ g. store_flags (at_top t c k.level) k.on k.over (at_top t c k.level && (not k.on && not (is_remote k.kind))) (flags_at stages.Store e g)
      (λ z. ((both _ _ z).0, not_of _ (both _ _ (both _ _ z).1).0)))

  pub first_fit : (e : Option Event) (j : ℕ) → k.stage ≡ stages.First j → IsFit t c online idle (forget (first_next e j k))
  first_fit event j e = next_fit (stages.First j) e (λ z. cc) (first_next event j k) refl here
      (λ g. let f = fits_at (stages.First j) e g in first_event_fits t c k.level j k.kind (j == 7) f (seven j f.2))
      (λ g. first_event_flags _ k.on k.over j (j == 7) (flags_at (stages.First j) e g))

  -- after the last lock, from either of the two stages that give one back
  freed_fits : (st : Stage) → k.stage ≡ st → (st ≡ stages.Finish → ⊥) → (HasGroup t c → Tells k.kind) → (HasGroup t c → at_top t c k.level ≡ true → k.over ≡ true)
      → (over : Bool) → over ≡ k.over → IsFit t c online idle (forget (freed_next over k))
  freed_fits st e other tells flags true is = next_fit st e other (freed_next true k) refl here tells (λ g. sym is)
  freed_fits st e other tells flags false is = next_fit st e other (freed_next false k) refl
      (λ g. goes_on _ (either (at_top t c k.level) (λ z. true≢false (sym (flags g z) ∙ sym is))))
      (λ g. first_fits t c k.level k.kind (tells g)) (λ g. first_flags _ k.kind)

  pub free_group_fits : k.stage ≡ stages.FreeGroup → (l : ℕ) → l ≡ k.level → IsFit t c online idle (forget (free_group_next l k))
  free_group_fits e zero is = freed_fits stages.FreeGroup e (λ z. cc) (fits_at stages.FreeGroup e) (flags_at stages.FreeGroup e) k.over refl
  free_group_fits e (suc l) is = next_fit stages.FreeGroup e (λ z. cc) (at_stage k stages.FreeChild) refl here
      (λ g. (fits_at stages.FreeGroup e g, omega (arith, is))) (flags_at stages.FreeGroup e)

  pub free_child_fits : k.stage ≡ stages.FreeChild → IsFit t c online idle (forget (freed_next k.over k))
  free_child_fits e = freed_fits stages.FreeChild e (λ z. cc) (λ g. (fits_at stages.FreeChild e g).0) (flags_at stages.FreeChild e) k.over refl
