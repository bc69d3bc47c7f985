-- what each step tells the seat that makes it
use Rattle.std.specs.Prelude.{◌≡◌, ◌↔◌, ◌≢◌, ℕ, zero, suc, not, ◌^◌, ◌<◌, ◌≤◌, ◌==◌, Contains}
use Rattle.std.specs.Prelude.{Bool, bit_or, option_map, true, false, List, [], ◌∷◌, ◌++◌, length}
use Rattle.std.specs.Prelude.{Option}
use Rattle.std.specs.Prelude.{Some, None, is_some}
use Rattle.std.specs.Option.{ForSome}
use Rattle.tm_base.specs.declared.names.TheConstants.{NEVER}
use Rattle.tm_base.specs.declared.names.Class.{Class}
use Rattle.event_queue.specs.declared.event.Event.{Event}
use Rattle.event_queue.specs.EventMap as events
use Rattle.event_queue.specs.Word.{slot_of}
use Rattle.cpu_bases.specs.CpuBases.{IsConsistent, NotAhead, base_of, class_in, events_of}
use Rattle.cpu_bases.specs.Replay.{AddsReplay, IsPlayed}
use Rattle.tree_plan.specs.Shape.{IsPlanned}
use Rattle.tree_plan.specs.Paths.{group_at_of}
use Rattle.walk_rules.specs.declared.walk.Walk.{Walk}
use Rattle.walk_rules.specs.declared.walk.WalkKind.TheVariants as kinds
use Rattle.walk_rules.specs.declared.walk.Stage.{Stage}
use Rattle.walk_rules.specs.declared.walk.Stage.TheVariants as stages
use Rattle.walk_rules.specs.Hierarchy.{HasGroup, at_top}
use Rattle.walk_rules.specs.Standing.{FitsStage, FlagsAt, StandsAlone}
use Rattle.walk_rules.specs.Stages.{at_stage, child_next, first_next, first_sight, forget}
use Rattle.walk_rules.specs.Stages.{free_group_next, freed_next, leaf_event, mark_next, read_next}
use Rattle.walk_rules.specs.Stages.{scan_next, see_child_next, see_group_next, store_next}
use Rattle.walk_rules.specs.Stages.{swap_next, up_next}
use Rattle.core_world.specs.World.{World, CpuRecord, cpu_of, is_reading}
use Rattle.walk_rules.specs.Stages.{begun_where}
use Rattle.core_world.specs.Wakeups.{WalkTimes}
use Rattle.core_state.specs.core_facts.Ranges.{WalkInRange}
use Rattle.core_state.specs.core_facts.Told.{SaysOf}
use Rattle.core_state.specs.core_facts.Walkers.{WalkerIs}
use Rattle.core_state.specs.Kept.{WorldFits}
use Rattle.shared_words.specs.declared.spot.Spot.{Spot}
use Rattle.shared_words.specs.Exchanges.{HasRoom, shows_migrator}
use Rattle.shared_words.specs.Words.{spot_of}
use Rattle.shared_rule.specs.declared.parts.BoxView.{BoxView}
use Rattle.shared_rule.specs.declared.parts.PassView.{PassView}
use Rattle.shared_rule.specs.declared.parts.Deed.TheVariants as deeds
use Rattle.shared_rule.specs.Whole.{no_looks}
use Rattle.shared_rule.specs.Shows.{BeginsWith, reevaluates}
use Rattle.shared_rule.specs.Rule.{Each, Me, Step}

-- WHAT IS TRUE OF EVERY BOX: of its walk, what the steps of the walk ask
pub record WalkFits (o : World) (b : BoxView) (k : Walk) : Type 0 where
  pub low : k.level < 3
  pub ranges : WalkInRange o k
  pub in_tree : k.stage ≢ stages.Finish → (g : ℕ) × (group_at_of o.tree b.cpu k.level ≡ Some g)
  pub fits : HasGroup o.tree b.cpu → FitsStage o.tree b.cpu k.kind k.level k.stage
  pub flags : HasGroup o.tree b.cpu → FlagsAt (at_top o.tree b.cpu k.level) k.on k.over k.stage
  pub alone : (HasGroup o.tree b.cpu → ⊥) → StandsAlone k
  pub staying : k.kind ≢ kinds.Offline
  pub walker : WalkerIs k.kind b.own
  pub times : WalkTimes b.own k
  -- what it read is the word of a state
  pub good : is_reading k.stage ≡ true → HasRoom b.read
  -- as it finishes, its CPU's slot in the leaf says what it was to tell
  pub told : k.stage ≡ stages.Finish → (leaf : ℕ) → group_at_of o.tree b.cpu 0 ≡ Some leaf →
      SaysOf b.cpu k.next b.leaf

-- a box part fits: its opening, its CPU, its bases and journal, its leaf event and its walk
pub record PartFits (b : BoxView) : Type 0 where
  pub opening : WorldFits b.opening
  pub cpu : b.cpu < length b.opening.cpus
  pub planned : IsPlanned b.opening.tree
  pub many : length b.opening.cpus ≤ 512
  pub online : b.own.online ≡ (cpu_of b.opening b.cpu).online
  pub wakeup : b.own.wakeup < 2 ^ 48
  pub mark : (c : ℕ) → b.own.mark ≡ Some c → c < length b.opening.cpus
  pub consistent : IsConsistent b.own.bases
  pub timers : (t : ℕ) (class : Class) → class_in t b.own.bases ≡ Some class
      → t < b.opening.timers
  pub played : IsPlayed b.own.bases
  pub replayed : AddsReplay (cpu_of b.opening b.cpu).bases b.own.bases
  -- no base's clock is past the jiffy after the run's
  pub ahead : (class : Class) → NotAhead b.opening.clock (base_of class b.own.bases)
  pub leaf : ForSome b.leaf events.FitsWord
  pub walk : (k : Walk) → b.own.walk ≡ Some k → WalkFits b.opening b k

-- WHAT IS TRUE OF EVERY BOX AND PASS that one seat has: they speak of one run, agree on the CPU
-- where it is the same, and on whose mark the box's CPU has
pub record Agree (b : BoxView) (p : PassView) : Type 0 where
  pub opening : p.opening ≡ b.opening
  pub idle : p.cpu ≡ b.cpu → p.idle ≡ b.own.idle
  pub inside : p.cpu ≡ b.cpu → p.inside ≡ b.own.inside
  pub wakeup : p.cpu ≡ b.cpu → p.wakeup ≡ b.own.wakeup
  pub reeval : p.cpu ≡ b.cpu → p.reeval ≡ reevaluates b.own.walk
  pub journal : p.cpu ≡ b.cpu → BeginsWith b.own.bases.journal p.journal
  pub marks : (b.own.mark ≡ Some p.cpu) ↔ Contains p.marks b.cpu

-- what every step tells besides: parts fit and agree
abbrev pub Sound : Me → Type 0
Sound v = Each (λ b. PartFits b × Each (Agree b) v.0.passes) v.0.boxes

-- VIEWS AFTER A STEP: the box changes
abbrev pub head_box : (BoxView → BoxView) → List BoxView → List BoxView
head_box f [] = []
head_box f (b ∷ bs) = f b ∷ bs

-- the box of a seat changes
abbrev pub on_box : (BoxView → BoxView) → Me → Me
on_box f v = (record { boxes = head_box f v.0.boxes; passes = v.0.passes }, v.1)

-- the first pass changes
abbrev pub head_pass : (PassView → PassView) → List PassView → List PassView
head_pass f [] = []
head_pass f (p ∷ ps) = f p ∷ ps

-- the first pass changes by what the box is
abbrev pub by_box : (BoxView → PassView → PassView) → List BoxView → List PassView → List PassView
by_box f [] ps = ps
by_box f (b ∷ bs) ps = head_pass (f b) ps

-- box and pass of a seat change
abbrev pub on_both : (BoxView → BoxView) → (BoxView → PassView → PassView) → Me → Me
on_both f h v =
    (record { boxes = head_box f v.0.boxes; passes = by_box h v.0.boxes v.0.passes }, v.1)

-- the pass of a seat changes
abbrev pub on_pass : (PassView → PassView) → Me → Me
on_pass f v = (record { boxes = v.0.boxes; passes = head_pass f v.0.passes }, v.1)

-- a walk, if there is one, goes on or ends
abbrev pub bound_walk : (Walk → Option Walk) → Option Walk → Option Walk
bound_walk f None = None
bound_walk f (Some k) = f k

-- the walk of a box goes on or ends
abbrev pub by_walk : (BoxView → Walk → Option Walk) → BoxView → BoxView
by_walk f b = record b { own = record b.own { walk = bound_walk (f b) b.own.walk } }

-- LOADS BY A PASS: it keeps the word, what it found, and how many receipts it had then
abbrev pub seen_pass : (word found : ℕ) → PassView → PassView
seen_pass word found p = record p {
  did = p.did ++ record { held = length p.receipts; deed = deeds.Saw word found } ∷ [];
}

-- a load of any word by a pass
abbrev pub Sees : Step → Me → ℕ → Me → Type 0
Sees t v found w = w ≡ on_pass (seen_pass t.word found) v

-- a load of a group's word by a pass, which is the word of a state
abbrev pub SeesState : Step → Me → ℕ → Me → Type 0
SeesState t v found w = (w ≡ on_pass (seen_pass t.word found) v) × HasRoom found

-- the word of a timer names a CPU of the run, as the first of these passes knows it, or none
abbrev pub NamesCpu : List PassView → (found : ℕ) → Type 0
NamesCpu [] found = ⊥
NamesCpu (p ∷ ps) found =
    (at : Spot) → spot_of found ≡ Some at → at.cpu.0 < length p.opening.cpus

-- a load of a timer's word by a pass, which names a CPU of the run, or none
abbrev pub SeesTimer : Step → Me → ℕ → Me → Type 0
SeesTimer t v found w = (w ≡ on_pass (seen_pass t.word found) v) × NamesCpu v.0.passes found

-- WAKE: the CPU wakes, and an activation begins
abbrev pub woken : World → (c : ℕ) → CpuRecord → CpuRecord
woken o c y = record y {
  idle = false;
  wakeup = NEVER;
  walk =
      begun_where (is_some (group_at_of o.tree c 0)) kinds.Activate stages.Own
      (events_of y.bases).pin (events_of y.bases).next;
}

-- its box
abbrev pub woken_box : BoxView → BoxView
woken_box b = record b { own = woken b.opening b.cpu b.own; looked = no_looks }

-- its own pass, with which one walk more was begun
abbrev pub woken_pass : BoxView → PassView → PassView
woken_pass b p =
    record p { walks = suc p.walks; idle = false; wakeup = NEVER; reeval = false }

-- the store of a CPU's word by Wake
abbrev pub Wakes : Step → Me → ℕ → Me → Type 0
Wakes t v found w = (w ≡ on_both woken_box woken_pass v) × Sound w

-- WHAT A BOX REMEMBERS of its walk: the word that it read last
abbrev pub reading : (found : ℕ) → BoxView → BoxView
reading found b = record b { read = found }

-- what it looked at, in order
abbrev pub looking : (word found : ℕ) → BoxView → BoxView
looking word found b = record b {
  looked = record b.looked {
    seen = b.looked.seen ++ record { word = word; found = found } ∷ [];
  };
}

-- what it found as it tried its step, in order
abbrev pub trying : (word found : ℕ) → BoxView → BoxView
trying word found b = record b {
  looked = record b.looked {
    tried = b.looked.tried ++ record { word = word; found = found } ∷ [];
  };
}

-- and nothing of that any more, as the step is made
abbrev pub done_trying : BoxView → BoxView
done_trying b = record b { looked = record b.looked { tried = [] } }

-- UP: a look at a group's word, which is that of a state
abbrev pub Looks : Step → Me → ℕ → Me → Type 0
Looks t v found w = ((w ≡ on_box (trying t.word found) v) × HasRoom found) × Sound w

-- the walk after its exchange of a word that was this one
abbrev pub up_walk : ℕ → BoxView → Walk → Option Walk
up_walk word b k =
    up_next (at_top b.opening.tree b.cpu k.level) (not (shows_migrator word)) k

-- the box after an exchange of a word that was this one, by which its walk goes on
abbrev pub risen_box : (word : ℕ) → BoxView → BoxView
risen_box word b = done_trying (by_walk (up_walk word) b)

-- the box where the exchange at this place was made, or where it found another word than the one
-- that was wanted
abbrev pub up_box : Bool → (wanted place found : ℕ) → BoxView → BoxView
up_box true wanted place found b = risen_box wanted b
up_box false wanted place found b = trying place found b

-- the exchange of an activation was made, or has found another word
abbrev pub Rises : Step → Me → ℕ → Me → Type 0
Rises t v found w =
    (w ≡ on_box (up_box (found == t.first) t.first t.word found) v) × Sound w

-- LOCK: the walk that has taken the lock of its child goes on to its group's
abbrev pub child_locked_walk : BoxView → Walk → Option Walk
child_locked_walk b k = Some (at_stage k stages.LockGroup)

-- the walk that has taken the lock of its group goes on to look
abbrev pub locked_walk : BoxView → Walk → Option Walk
locked_walk b k = Some (at_stage k (first_sight k.level))

-- the box after the lock was taken, by which its walk goes on
abbrev pub taken_lock : (BoxView → Walk → Option Walk) → BoxView → BoxView
taken_lock next b = done_trying (by_walk next b)

-- the box where the lock at this place was taken, or where it was found to be another walk's
abbrev pub lock_box : (BoxView → Walk → Option Walk) → Bool → (place found : ℕ) → BoxView
    → BoxView
lock_box next true place found b = taken_lock next b
lock_box next false place found b = trying place found b

-- the exchange that takes the lock of a child was made, or has found it taken
abbrev pub LocksChild : Step → Me → ℕ → Me → Type 0
LocksChild t v found w =
    (w ≡ on_box (lock_box child_locked_walk (found == t.first) t.word found) v) × Sound w

-- the exchange that takes the lock of a group was made, or has found it taken
abbrev pub Locks : Step → Me → ℕ → Me → Type 0
Locks t v found w =
    (w ≡ on_box (lock_box locked_walk (found == t.first) t.word found) v) × Sound w

-- FREE: the walk that has given back the lock of its group gives back its child's, or at a leaf it
-- ends or rises
abbrev pub group_freed_walk : BoxView → Walk → Option Walk
group_freed_walk b k = Some (free_group_next k.level k)

-- the walk that has given back the lock of its child ends or rises
abbrev pub child_freed_walk : BoxView → Walk → Option Walk
child_freed_walk b k = Some (freed_next k.over k)

-- the store that gives back the lock of a group
abbrev pub FreesGroup : Step → Me → ℕ → Me → Type 0
FreesGroup t v found w = (w ≡ on_box (by_walk group_freed_walk) v) × Sound w

-- the store that gives back the lock of a child
abbrev pub FreesChild : Step → Me → ℕ → Me → Type 0
FreesChild t v found w = (w ≡ on_box (by_walk child_freed_walk) v) × Sound w

-- SIGHT, under the locks: the walk that has found its child active, or not
abbrev pub child_sight : (found : ℕ) → BoxView → Walk → Option Walk
child_sight found b k = Some (see_child_next (shows_migrator found) k)

-- the walk that has found its group active, or not
abbrev pub group_sight : (found : ℕ) → BoxView → Walk → Option Walk
group_sight found b k =
    Some
    (see_group_next (shows_migrator found) (at_top b.opening.tree b.cpu k.level) k)

-- the number of the slot that a walk at this stage looks at, and 0 where it looks at none
abbrev pub slot_number : Stage → ℕ
slot_number (stages.Scan k) = k
slot_number (stages.First k) = k
slot_number other = 0

-- the walk that has read a slot of its child
abbrev pub scan_sight : (found : ℕ) → BoxView → Walk → Option Walk
scan_sight found b k = Some (scan_next (slot_of found) (slot_number k.stage) k)

-- the walk that has read a slot of the top
abbrev pub top_sight : (found : ℕ) → BoxView → Walk → Option Walk
top_sight found b k = Some (first_next (slot_of found) (slot_number k.stage) k)

-- the load of a child's word
abbrev pub SeesChild : Step → Me → ℕ → Me → Type 0
SeesChild t v found w = (w ≡ on_box (by_walk (child_sight found)) v) × Sound w

-- the load of a group's word
abbrev pub SeesGroup : Step → Me → ℕ → Me → Type 0
SeesGroup t v found w =
    (w ≡ on_box (λ b. looking t.word found (by_walk (group_sight found) b)) v) × Sound w

-- the load of a slot of a child
abbrev pub Scans : Step → Me → ℕ → Me → Type 0
Scans t v found w = (w ≡ on_box (by_walk (scan_sight found)) v) × Sound w

-- the load of a slot of the top
abbrev pub ScansTop : Step → Me → ℕ → Me → Type 0
ScansTop t v found w =
    (w ≡ on_box (λ b. looking t.word found (by_walk (top_sight found) b)) v) × Sound w

-- LEAVING: the walk that has read its group's word goes on to its child's; no box knows whether
-- what it read is fresh
abbrev pub read_walk : BoxView → Walk → Option Walk
read_walk b k = Some (forget (read_next k))

-- the load of a group's word, before its exchange
abbrev pub ReadsGroup : Step → Me → ℕ → Me → Type 0
ReadsGroup t v found w = (w ≡ on_box (λ b. reading found (by_walk read_walk b)) v) × Sound w

-- the walk that has found its child active, or not, makes its exchange next
abbrev pub child_read_walk : (found : ℕ) → BoxView → Walk → Option Walk
child_read_walk found b k = Some (child_next (shows_migrator found) k)

-- at a leaf the child is the walk's CPU, which isn't active
abbrev pub own_read_walk : BoxView → Walk → Option Walk
own_read_walk b k = Some (child_next false k)

-- the load of a child's word, before the exchange
abbrev pub ReadsChild : Step → Me → ℕ → Me → Type 0
ReadsChild t v found w = (w ≡ on_box (by_walk (child_read_walk found)) v) × Sound w

-- the load of the word of the walk's CPU, at a leaf
abbrev pub ReadsOwn : Step → Me → ℕ → Me → Type 0
ReadsOwn t v found w = (w ≡ on_box (by_walk own_read_walk) v) × Sound w

-- the walk that has made its exchange goes on to the locks
abbrev pub swapped_walk : BoxView → Walk → Option Walk
swapped_walk b k = Some (swap_next true k)

-- the box where the exchange was made, or where it failed and has read the word anew
abbrev pub swap_box : Bool → (found : ℕ) → BoxView → BoxView
swap_box true found b = by_walk swapped_walk b
swap_box false found b = reading found (by_walk read_walk b)

-- the exchange by which a child leaves
abbrev pub Swaps : Step → Me → ℕ → Me → Type 0
Swaps t v found w = (w ≡ on_box (swap_box (found == t.first) found) v) × Sound w

-- MARK: the walk that has marked its CPU's own slot joins its leaf
abbrev pub own_marked_walk : BoxView → Walk → Option Walk
own_marked_walk b k = Some (at_stage k stages.Up)

-- its box, where the slot's event is ignored, if there is one
abbrev pub own_marked_box : BoxView → BoxView
own_marked_box b =
    record (by_walk own_marked_walk b) { leaf = option_map events.as_ignored b.leaf }

-- the marking of a CPU's own slot in its leaf
abbrev pub MarksOwn : Step → Me → ℕ → Me → Type 0
MarksOwn t v found w = (w ≡ on_box own_marked_box v) × Sound w

-- whether a walk at this stage marks, and goes on then
abbrev pub marks_more : Stage → Bool
marks_more (stages.Mark more) = more
marks_more other = false

-- the walk that has marked its group's slot in the parent goes on there, or ends
abbrev pub marked_walk : BoxView → Walk → Option Walk
marked_walk b k = mark_next (marks_more k.stage) k

-- the marking of a group's slot in its parent
abbrev pub Marks : Step → Me → ℕ → Me → Type 0
Marks t v found w = (w ≡ on_box (by_walk marked_walk) v) × Sound w

-- the word of a slot whose event is marked as ignored already
abbrev pub is_marked : (word : ℕ) → Bool
is_marked word = bit_or word (2 ^ 58) == word

-- the box where the mark was there, which is as good as marking it, or where it wasn't
abbrev pub marked_where : Bool → BoxView → BoxView
marked_where true b = by_walk marked_walk b
marked_where false b = b

-- a look at a group's slot in its parent, before it is marked
abbrev pub FindsMark : Step → Me → ℕ → Me → Type 0
FindsMark t v found w = (w ≡ on_box (marked_where (is_marked found)) v) × Sound w

-- STORE: the CPU's slot in its leaf after a store at a level
abbrev pub leaf_after : (level : ℕ) → (stored old : Option Event) → Option Event
leaf_after zero stored old = stored
leaf_after (suc l) stored old = old

-- and after the store of a box's walk
abbrev pub stored_leaf : BoxView → Option Walk → Option Event
stored_leaf b None = b.leaf
stored_leaf b (Some k) = leaf_after k.level (leaf_event b.cpu k.next) b.leaf

-- the walk that has stored looks at the top or gives back its locks
abbrev pub stored_walk : BoxView → Walk → Option Walk
stored_walk b k = Some (store_next (at_top b.opening.tree b.cpu k.level) k)

-- the box of a walk that has stored
abbrev pub stored_box : BoxView → BoxView
stored_box b = record (by_walk stored_walk b) { leaf = stored_leaf b b.own.walk }

-- the store of an event
abbrev pub Stores : Step → Me → ℕ → Me → Type 0
Stores t v found w = (w ≡ on_box stored_box v) × Sound w
