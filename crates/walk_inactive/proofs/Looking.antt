-- what a walk has looked at, step by step
use Rattle.std.proofs.Common.{◌≡◌, ◌≢◌, ℕ, zero, suc, ◌+◌, ◌<◌, ◌==◌, Bool, true, false, true≢false}
use Rattle.std.proofs.Common.{List, [], ◌∷◌, ◌++◌, length, Some, refl, sym, ap, ◌∙◌}
use Rattle.std.proofs.Common.{subst, arith, append_assoc, append-nil, eqb-true}
use Rattle.std.specs.Prelude.{◌||◌, ◌&&◌, MatchBool, not, is_none, if◌then◌else◌}
use Rattle.event_queue.specs.Word.{slot_of}
use Rattle.tree_plan.specs.Paths.{group_at_of}
use Rattle.walk_rules.specs.declared.walk.Walk.{Walk}
use Rattle.walk_rules.specs.declared.walk.WalkKind.{WalkKind}
use Rattle.walk_rules.specs.declared.walk.WalkKind.TheVariants as kinds
use Rattle.walk_rules.specs.declared.walk.Stage.TheVariants as stages
use Rattle.walk_rules.specs.Hierarchy.{at_top}
use Rattle.walk_rules.specs.Standing.{Tells}
use Rattle.walk_rules.specs.Stages.{after_sight, first_lock, first_of, first_sight}
use Rattle.walk_rules.specs.Stages.{first_stage, freed_next, free_group_next, higher, is_remote}
use Rattle.walk_rules.specs.Stages.{see_child_next}
use Rattle.core_world.specs.World.{World}
use Rattle.shared_words.specs.Exchanges.{shows_migrator}
use Rattle.shared_cpus.specs.shared_rule.declared.parts.Look.{Look}
use Rattle.shared_walks.specs.Steps.{slot_place, state_place}
use Rattle.walk_inactive.specs.Looks.{HasWalkLooked, group_looks, reads_slots, walk_slot_looks}
use Rattle.walk_inactive.specs.Ways.{HasClosedLevel, HasPassedLevels, HasReadSlots, HasSeen, LooksAt}
use Rattle.walk_inactive.proofs.Lists.{first_at_end, group_look_at_end, longer, slot_look_at_end}
use Rattle.walk_inactive.proofs.Lists.{still_none}

module _ (o : World) (cpu : ℕ) (k : Walk) (looked : List Look) where
  -- what a walk looks at next at a level is known by the level
  pub at_first_lock : (level : ℕ) → HasPassedLevels o cpu k.level looked k.first
      → LooksAt o cpu k looked (first_lock level)
  at_first_lock zero passed = passed
  at_first_lock (suc l) passed = passed

  pub at_first_sight : (level : ℕ) → HasPassedLevels o cpu k.level looked k.first
      → LooksAt o cpu k looked (first_sight level)
  at_first_sight zero passed = passed
  at_first_sight (suc l) passed = passed

  pub at_after_sight : (level : ℕ) → HasSeen o cpu k.level k.on looked k.first
      → LooksAt o cpu k looked (after_sight level)
  at_after_sight zero seen = seen
  at_after_sight (suc l) seen = seen

  pub at_scan : (last : Bool) (n : ℕ) → HasSeen o cpu k.level k.on looked k.first
      → LooksAt o cpu k looked (if last then stages.Store else (stages.Scan n))
  at_scan true n seen = seen
  at_scan false n seen = seen

-- the look at a group's word at the walk's level
pub seen_at : (o : World) (cpu level found first : ℕ) (looked : List Look)
    → HasPassedLevels o cpu level looked first
    → HasSeen o cpu level (shows_migrator found)
    (looked ++ record { word = state_place o cpu level; found = found } ∷ []) first
seen_at o cpu zero found first looked passed = record {
  below = [];
  last = found;
  level_is = refl;
  looks = ap (λ z. z ++ record { word = state_place o cpu 0; found = found } ∷ []) passed.0;
  passed = refl;
  seen = refl;
  first_is = passed.1;
}
seen_at o cpu (suc l) found first looked passed =
    let below = passed.below ++ passed.last ∷ [] in
    let level : length below ≡ suc l = longer passed.below passed.last ∙ ap suc passed.level_is in
    record {
      below = below;
      last = found;
      level_is = level;
      looks =
          (λ i. passed.looks i ++ record { word = state_place o cpu (suc l); found = found } ∷ [])
          ∙ sym (group_look_at_end o cpu 0 below found
          ∙ ap (λ n. group_looks o cpu 0 below
          ++ record { word = state_place o cpu n; found = found } ∷ [])
          (let e : length below + 0 ≡ suc l = omega (arith, level) in e));
      passed = still_none passed.below passed.last passed.passed passed.seen;
      seen = refl;
      first_is = passed.first_is;
    }

-- a walk that ends under its group, which isn't the leaf: the child was found active under its lock
pub ends_under : (o : World) (cpu level first : ℕ) (kind : WalkKind) (looked : List Look)
    → 0 < level → (g : ℕ) × (group_at_of o.tree cpu level ≡ Some g)
    → HasPassedLevels o cpu level looked first → HasWalkLooked o cpu kind looked first
ends_under o cpu zero first kind looked high path passed = absurd (omega (arith, high))
ends_under o cpu (suc l) first kind looked high path passed = record {
  below = passed.below;
  last = passed.last;
  slots = [];
  looks = passed.looks ∙ sym (append-nil _);
  passed = passed.passed;
  read =
      let top : at_top o.tree cpu (length passed.below) ≡ false =
      ap (at_top o.tree cpu) passed.level_is ∙ ap is_none path.1 in
      sym (λ i. if top i && (not (shows_migrator passed.last) && not (is_remote kind)) then 8 else 0);
  first_is = passed.first_is;
}

-- after the store of a level the walk reads the top, ends or rises
stored_here : (o : World) (cpu : ℕ) (k : Walk) (looked : List Look) (over reads : Bool)
    → k.over ≡ over → over ≡ (k.on || at_top o.tree cpu k.level)
    → (at_top o.tree cpu k.level && (not k.on && not (is_remote k.kind))) ≡ reads
    → HasSeen o cpu k.level k.on looked k.first
    → LooksAt o cpu k looked (if reads then stages.First 0 else stages.FreeGroup)
stored_here o cpu k looked over true over_is ends is seen = record {
  below = seen.below;
  last = seen.last;
  slots = [];
  level_is = seen.level_is;
  looks = seen.looks ∙ sym (append-nil _);
  passed = seen.passed;
  reads =
      (λ i. at_top o.tree cpu (seen.level_is i)
      && (not (seen.seen i) && not (is_remote k.kind))) ∙ is;
  count_is = refl;
  first_is = seen.first_is;
}
stored_here o cpu k looked true false over_is ends is seen =
    subst (λ z. MatchBool z (HasWalkLooked o cpu k.kind looked k.first)
    (HasPassedLevels o cpu (suc k.level) looked k.first)) (sym over_is) (record {
      below = seen.below;
      last = seen.last;
      slots = [];
      looks = seen.looks ∙ sym (append-nil _);
      passed = seen.passed;
      read =
          let no : reads_slots o.tree cpu (length seen.below) seen.last k.kind ≡ false =
          (λ i. at_top o.tree cpu (seen.level_is i)
          && (not (seen.seen i) && not (is_remote k.kind))) ∙ is in
          sym (λ i. if no i then 8 else 0);
      first_is = seen.first_is;
    })
stored_here o cpu k looked false false over_is ends is seen =
    subst (λ z. MatchBool z (HasWalkLooked o cpu k.kind looked k.first)
    (HasPassedLevels o cpu (suc k.level) looked k.first)) (sym over_is)
    (subst (λ z. HasSeen o cpu k.level z looked k.first) (off k.on (sym ends)) seen)
  where
    off : (on : Bool) → (on || at_top o.tree cpu k.level) ≡ false → on ≡ false
    off true e = absurd (true≢false e)
    off false e = refl

pub stored_at : (o : World) (cpu : ℕ) (k : Walk) (looked : List Look)
    → k.over ≡ (k.on || at_top o.tree cpu k.level)
    → HasSeen o cpu k.level k.on looked k.first
    → LooksAt o cpu k looked
    (if at_top o.tree cpu k.level && (not k.on && not (is_remote k.kind)) then stages.First 0
    else stages.FreeGroup)
stored_at o cpu k looked ends seen =
    stored_here o cpu k looked k.over
    (at_top o.tree cpu k.level && (not k.on && not (is_remote k.kind))) refl ends refl seen

-- one more slot of the top was read
pub slot_read : (o : World) (cpu level count found first : ℕ) (kind : WalkKind)
    (looked : List Look) → HasReadSlots o cpu level kind count looked first
    → HasReadSlots o cpu level kind (suc count)
    (looked ++ record { word = slot_place o cpu level count; found = found } ∷ [])
    (first_of first (slot_of found))
slot_read o cpu level count found first kind looked h = record {
  below = h.below;
  last = h.last;
  slots = h.slots ++ found ∷ [];
  level_is = h.level_is;
  looks =
      (λ i. h.looks i ++ record {
        word = slot_place o cpu (sym h.level_is i) (sym next i);
        found = found;
      } ∷ [])
      ∙ append_assoc groups slots_so_far _
      ∙ ap (λ z. groups ++ z)
      (sym (slot_look_at_end o cpu (length h.below) 0 h.slots found));
  passed = h.passed;
  reads = h.reads;
  count_is = longer h.slots found ∙ ap suc h.count_is;
  first_is = ap (λ f. first_of f (slot_of found)) h.first_is ∙ sym (first_at_end h.slots found);
}
  where
    groups : List Look
    groups = group_looks o cpu 0 (h.below ++ h.last ∷ [])

    slots_so_far : List Look
    slots_so_far = walk_slot_looks o cpu (length h.below) 0 h.slots

    next : length h.slots + 0 ≡ count
    next = let e : length h.slots + 0 ≡ length h.slots = omega arith in e ∙ h.count_is

-- all slots of the top are read
all_read : (o : World) (cpu level first : ℕ) (kind : WalkKind) (looked : List Look)
    → HasReadSlots o cpu level kind 8 looked first → HasWalkLooked o cpu kind looked first
all_read o cpu level first kind looked h = record {
  below = h.below;
  last = h.last;
  slots = h.slots;
  looks = h.looks;
  passed = h.passed;
  read = h.count_is ∙ sym (λ i. if h.reads i then 8 else 0);
  first_is = h.first_is;
}

-- so the walk goes on to the next slot, or closes
read_here : (o : World) (cpu : ℕ) (k : Walk) (looked : List Look) (n : ℕ) (last : Bool)
    → (n == 7) ≡ last → k.over ≡ true
    → HasReadSlots o cpu k.level k.kind (suc n) looked k.first
    → LooksAt o cpu k looked (if last then stages.FreeGroup else (stages.First (n + 1)))
read_here o cpu k looked n true is over h =
    let eight : suc n ≡ 8 = ap suc (eqb-true n 7 is) in
    subst (λ z. MatchBool z (HasWalkLooked o cpu k.kind looked k.first)
    (HasPassedLevels o cpu (suc k.level) looked k.first)) (sym over)
    (all_read o cpu k.level k.first k.kind looked
    (subst (λ z. HasReadSlots o cpu k.level k.kind z looked k.first) eight h))
read_here o cpu k looked n false is over h =
    let same : suc n ≡ n + 1 = omega arith in
    subst (λ z. HasReadSlots o cpu k.level k.kind z looked k.first) same h

pub read_at : (o : World) (cpu : ℕ) (k : Walk) (looked : List Look) (n : ℕ)
    → k.over ≡ true → HasReadSlots o cpu k.level k.kind (suc n) looked k.first
    → LooksAt o cpu k looked (if n == 7 then stages.FreeGroup else (stages.First (n + 1)))
read_at o cpu k looked n over h = read_here o cpu k looked n (n == 7) refl over h

-- where a walk that tells begins a level
rises : (o : World) (cpu : ℕ) (k : Walk) (looked : List Look) (kind : WalkKind) → Tells kind
    → HasPassedLevels o cpu k.level looked k.first → LooksAt o cpu k looked (first_stage kind)
rises o cpu k looked kinds.Activate tells passed = absurd (tells refl)
rises o cpu k looked kinds.Deactivate tells passed = passed
rises o cpu k looked kinds.Offline tells passed = passed
rises o cpu k looked kinds.Reeval tells passed = passed
rises o cpu k looked (kinds.Remote by) tells passed = passed

-- the last lock of a level was given back
freed_here : (o : World) (cpu : ℕ) (k : Walk) (looked : List Look) (over : Bool) → Tells k.kind
    → MatchBool over (HasWalkLooked o cpu k.kind looked k.first)
    (HasPassedLevels o cpu (suc k.level) looked k.first)
    → LooksAt o cpu (freed_next over k) looked (freed_next over k).stage
freed_here o cpu k looked true tells closed = closed
freed_here o cpu k looked false tells closed =
    rises o cpu (higher k (first_stage k.kind)) looked k.kind tells closed

pub freed_at : (o : World) (cpu : ℕ) (k : Walk) (looked : List Look) → Tells k.kind
    → HasClosedLevel o cpu k looked
    → LooksAt o cpu (freed_next k.over k) looked (freed_next k.over k).stage
freed_at o cpu k looked tells closed = freed_here o cpu k looked k.over tells closed

-- the group's lock was given back
pub group_freed_at : (o : World) (cpu : ℕ) (k : Walk) (looked : List Look) (level : ℕ)
    → Tells k.kind → HasClosedLevel o cpu k looked
    → LooksAt o cpu (free_group_next level k) looked (free_group_next level k).stage
group_freed_at o cpu k looked zero tells closed = freed_at o cpu k looked tells closed
group_freed_at o cpu k looked (suc l) tells closed = closed

-- the child was seen under its lock
pub child_seen_at : (o : World) (cpu : ℕ) (k : Walk) (looked : List Look) (on : Bool)
    → 0 < k.level → (g : ℕ) × (group_at_of o.tree cpu k.level ≡ Some g)
    → HasPassedLevels o cpu k.level looked k.first
    → LooksAt o cpu (see_child_next on k) looked (see_child_next on k).stage
child_seen_at o cpu k looked true high path passed =
    ends_under o cpu k.level k.first k.kind looked high path passed
child_seen_at o cpu k looked false high path passed = passed
