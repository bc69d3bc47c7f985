-- what the rule says, as laws for crates above
use Rattle.std.specs.Prelude.{◌≡◌, ◌+◌, ◌-◌, ℕ, suc, ◌^◌, ◌<◌, ◌==◌, true, List, [], ◌∷◌, length}
use Rattle.std.specs.Prelude.{Bool, None, Option, Some, bit_or, false}
use mathlib.Core.Option.{none}
use prog.Atomic.{either}
use Rattle.atomic_table.specs.Table.{Allows, Final, Joins, Seen, Splits, step}
use Rattle.event_queue.specs.Word.{slot_word}
use Rattle.tm_base.specs.declared.names.TimerId.{TimerId}
use Rattle.tree_plan.specs.Paths.{group_at_of}
use Rattle.walk_rules.specs.declared.walk.Walk.{Walk}
use Rattle.walk_rules.specs.declared.walk.Stage.{Stage}
use Rattle.walk_rules.specs.declared.walk.Stage.TheVariants as stages
use Rattle.walk_rules.specs.Hierarchy.{side}
use Rattle.walk_rules.specs.Stages.{stored_event}
use Rattle.core_world.specs.declared.step.Step.TheVariants as steps
use Rattle.core_world.specs.Covered.{IsSettled}
use Rattle.core_world.specs.World.{World}
use Rattle.core_state.specs.Kept.{WorldFits}
use Rattle.shared_words.specs.declared.layout.SharedWord.{SharedWord}
use Rattle.shared_words.specs.Exchanges.{IsJoinOf, IsSwapOf}
use Rattle.shared_words.specs.Layout.{IsWordOf, index_of}
use Rattle.shared_rule.specs.declared.parts.BoxView.{BoxView}
use Rattle.shared_rule.specs.declared.parts.PassView.{PassView}
use Rattle.shared_rule.specs.declared.parts.Said.{Said}
use Rattle.shared_rule.specs.declared.parts.View.{View}
use Rattle.shared_rule.specs.Whole.{Spell, Whole, box_of, cpu_at, layout_of, lock_at, own_word}
use Rattle.shared_rule.specs.Whole.{slot_at, state_at, timer_at, word_at}
use Rattle.shared_rule.specs.Shows.{CoreStep, IsShown}
use Rattle.shared_rule.specs.Rule.{Each, Goes, Loads, seen}
use Rattle.shared_rule.specs.Rule.{HasFirstBox, HasFirstPass, Holds, Me, Shows, first_box}
use Rattle.shared_rule.specs.Rule.{first_pass, nothing, renewed_pass, seat_of, together}
use Rattle.shared_rule.specs.Rule.{without_box, without_pass}
use Rattle.shared_rule.specs.Starts.{EndsAs, HasAll, first_view, first_whole}
use Rattle.shared_rule.specs.Plays.{FindsMark, FreesChild, FreesGroup, Locks, LocksChild}
use Rattle.shared_rule.specs.Plays.{Looks, Marks, is_marked}
use Rattle.shared_rule.specs.Plays.{MarksOwn, ReadsChild, ReadsGroup, ReadsOwn, Rises, Scans}
use Rattle.shared_rule.specs.Plays.{ScansTop, Sees, SeesChild, SeesGroup, SeesState}
use Rattle.shared_rule.specs.Plays.{SeesTimer, Stores, Swaps}
use Rattle.shared_rule.specs.Plays.{Wakes, woken}

-- THE START: words that spell a settled core show it, together with the view that has all parts of
-- it, however many walks count as begun
abbrev pub Begins : Type 0
Begins = (o : World) (made : ℕ) (words : List ℕ) → WorldFits o → IsSettled o → made < 2 ^ 32
    → Spell (layout_of o) words (first_whole o made) → Shows o words (first_view o made ∷ [])

-- THE END: what the words of a table that is closed show, with a seat that has all parts
abbrev pub Ends : Type 0
Ends = (o : World) (id : ℕ) (boxes : List BoxView) (passes : List PassView) (words : List ℕ)
    (slots : List Said) → HasAll o boxes passes
    → Final (Seen {S = Said} {V = View} (Holds o) id (seen boxes passes)) words slots
    → EndsAs o words boxes passes

-- SEATS: the rule stays where a part goes off to a seat of its own, and where two seats are joined
pub record SeatsStay (o : World) : Type 0 where
  -- the first box, or the first pass, of a view in which its CPU has no other
  pub box_off : (id : ℕ) (v : View) → HasFirstBox v →
      Splits {S = Said} {V = View} (Holds o) id v (without_box v) (first_box v)
  pub pass_off : (id : ℕ) (v : View) → HasFirstPass v →
      Splits {S = Said} {V = View} (Holds o) id v (without_pass v) (first_pass v)
  -- the first pass, with the journal of the first box, which may be longer than its own
  pub renewed : (id : ℕ) (v : View) → HasFirstPass v →
      Splits {S = Said} {V = View} (Holds o) id v (without_pass v) (renewed_pass v)
  pub joined : (id other : ℕ) (v w : View) →
      Joins {S = Said} {V = View} (Holds o) id v other w (together v w) nothing

-- STEPS OF THE CORE, as laws name them: the next step of the walk of a CPU
abbrev pub walk_of : (c : ℕ) → CoreStep
walk_of c = steps.Walk (record { 0 = c })

-- that step, whatever word is found
abbrev pub walk_always : (c : ℕ) → ℕ → Option CoreStep
walk_always c n = Some (walk_of c)

-- no step, whatever word is found
abbrev pub none_made : ℕ → Option CoreStep
none_made n = None

-- a step where the test says so, and none where it doesn't
abbrev pub where_made : Bool → CoreStep → Option CoreStep
where_made true step = Some step
where_made false step = None

-- in every whole that is shown and has these parts, the step of the core is made that `by` names
-- for the word that is found, or none
abbrev pub EachGoes : World → BoxView → List PassView → SharedWord → (ℕ → ℕ)
    → (ℕ → Option CoreStep) → (ℕ → Me → Type 0) → Type 0
EachGoes o b ps p f by then =
    (s : Whole) → IsShown o s → b.cpu < length o.cpus → b ≡ box_of o s b.cpu →
    Each (λ x. (x.cpu < length o.cpus) × (x ≡ s.pass x.cpu)) ps → word_at s p < 2 ^ 64 →
    Goes o s b ps p f by then

-- A STEP of the seat that has box b and the passes ps, on one word: which step of the core it
-- makes; and so the table allows it, whatever the others have done
pub record Stays (o : World) (slots id : ℕ) (b : BoxView) (ps : List PassView) (p : SharedWord)
    (f : ℕ → ℕ) (by : ℕ → Option CoreStep) (then : ℕ → Me → Type 0) : Type 0 where
  pub goes : EachGoes o b ps p f by then
  pub allowed : Allows {S = Said} {V = View} (Holds o) slots id (seat_of (b ∷ []) ps)
      (index_of (layout_of o) p) f then

-- WAKE: what has to be known where an idle CPU stores its word, as it wakes with its own pass
pub record MayStoreWake (o : World) (b : BoxView) (p : PassView) (new : ℕ) : Type 0 where
  pub cpu : b.cpu < length o.cpus
  pub own : p.cpu ≡ b.cpu
  pub free : b.own.walk ≡ None
  pub online : b.own.online ≡ true
  pub idle : b.own.idle ≡ true
  pub left : suc p.walks < 2 ^ 32
  pub word : new ≡ own_word (woken o b.cpu b.own)

-- the store keeps the rule, and the seat is told that the CPU is awake and its activation begun
abbrev pub WakeStays : World → Type 0
WakeStays o = (slots id : ℕ) (b : BoxView) (p : PassView) (new : ℕ) → MayStoreWake o b p new →
    Stays o slots id b (p ∷ []) (cpu_at b.cpu) (λ n. new)
    (λ n. Some (steps.Wake (record { 0 = b.cpu })))
    (λ n. Wakes (step slots (index_of (layout_of o) (cpu_at b.cpu)) new 0 none)
    (seat_of (b ∷ []) (p ∷ [])) new)

-- UP: a look at the word of a group
abbrev pub LookStays : World → Type 0
LookStays o = (slots id g : ℕ) (b : BoxView) (ps : List PassView) → g < length o.groups →
    Stays o slots id b ps (state_at g) (λ n. n)
    none_made
    (Looks (step slots (index_of (layout_of o) (state_at g)) 0 0 none) (seat_of (b ∷ []) ps))

-- what has to be known where an activation exchanges the word of a group that it has looked at
pub record MayRise (o : World) (b : BoxView) (k : Walk) (g old new : ℕ) : Type 0 where
  pub opening : b.opening ≡ o
  pub group : g < length o.groups
  pub walk : b.own.walk ≡ Some k
  pub stage : k.stage ≡ stages.Up
  pub path : group_at_of o.tree b.cpu k.level ≡ Some g
  pub word : IsJoinOf old (side o.tree b.cpu k.level) new

-- the exchange keeps the rule, whatever word it finds, and the seat is told that its walk has gone
-- on, or what was found in its place
abbrev pub RiseStays : World → Type 0
RiseStays o = (slots id g : ℕ) (b : BoxView) (k : Walk) (ps : List PassView) (old new : ℕ) →
    MayRise o b k g old new →
    Stays o slots id b ps (state_at g) (λ n. either (n == old) new n)
    (λ n. where_made (n == old) (walk_of b.cpu))
    (Rises (step slots (index_of (layout_of o) (state_at g)) old new none) (seat_of (b ∷ []) ps))

-- WALKS: what has to be known where the walk of a box makes its next step, at this stage, on the
-- group of its path at a level
pub record IsWalkAt (o : World) (b : BoxView) (k : Walk) (at : Stage) (level g : ℕ) : Type 0 where
  pub group : g < length o.groups
  pub walk : b.own.walk ≡ Some k
  pub stage : k.stage ≡ at
  pub path : group_at_of o.tree b.cpu level ≡ Some g

-- LOCK: the try of a walk for the lock of its child keeps the rule, and the seat is told that its
-- walk has the lock and has gone on, or the word of another one that was found
abbrev pub LockChildStays : World → Type 0
LockChildStays o = (slots id g : ℕ) (b : BoxView) (k : Walk) (ps : List PassView) →
    IsWalkAt o b k stages.LockChild (k.level - 1) g →
    Stays o slots id b ps (lock_at g) (λ n. either (n == 0) (1 + b.cpu) n)
    (λ n. where_made (n == 0) (walk_of b.cpu))
    (LocksChild (step slots (index_of (layout_of o) (lock_at g)) 0 (1 + b.cpu) none)
    (seat_of (b ∷ []) ps))

-- and so does its try for the lock of its group
abbrev pub LockStays : World → Type 0
LockStays o = (slots id g : ℕ) (b : BoxView) (k : Walk) (ps : List PassView) →
    IsWalkAt o b k stages.LockGroup k.level g →
    Stays o slots id b ps (lock_at g) (λ n. either (n == 0) (1 + b.cpu) n)
    (λ n. where_made (n == 0) (walk_of b.cpu))
    (Locks (step slots (index_of (layout_of o) (lock_at g)) 0 (1 + b.cpu) none)
    (seat_of (b ∷ []) ps))

-- FREE: the store by which a walk gives back the lock of its group keeps the rule, and the seat is
-- told that its walk has gone on
abbrev pub FreeGroupStays : World → Type 0
FreeGroupStays o = (slots id g : ℕ) (b : BoxView) (k : Walk) (ps : List PassView) →
    IsWalkAt o b k stages.FreeGroup k.level g →
    Stays o slots id b ps (lock_at g) (λ n. 0)
    (walk_always b.cpu)
    (λ n. FreesGroup (step slots (index_of (layout_of o) (lock_at g)) 0 0 none)
    (seat_of (b ∷ []) ps) 0)

-- and so does the store by which it gives back the lock of its child
abbrev pub FreeChildStays : World → Type 0
FreeChildStays o = (slots id g : ℕ) (b : BoxView) (k : Walk) (ps : List PassView) →
    IsWalkAt o b k stages.FreeChild (k.level - 1) g →
    Stays o slots id b ps (lock_at g) (λ n. 0)
    (walk_always b.cpu)
    (λ n. FreesChild (step slots (index_of (layout_of o) (lock_at g)) 0 0 none)
    (seat_of (b ∷ []) ps) 0)

-- SIGHT: a walk's load of the word of its child keeps the rule, and the seat is told what it found
abbrev pub SeeChildStays : World → Type 0
SeeChildStays o = (slots id g : ℕ) (b : BoxView) (k : Walk) (ps : List PassView) →
    IsWalkAt o b k stages.SeeChild (k.level - 1) g →
    Stays o slots id b ps (state_at g) (λ n. n)
    (walk_always b.cpu)
    (SeesChild (step slots (index_of (layout_of o) (state_at g)) 0 0 none) (seat_of (b ∷ []) ps))

-- and so does its load of the word of its group
abbrev pub SeeGroupStays : World → Type 0
SeeGroupStays o = (slots id g : ℕ) (b : BoxView) (k : Walk) (ps : List PassView) →
    IsWalkAt o b k stages.SeeGroup k.level g →
    Stays o slots id b ps (state_at g) (λ n. n)
    (walk_always b.cpu)
    (SeesGroup (step slots (index_of (layout_of o) (state_at g)) 0 0 none) (seat_of (b ∷ []) ps))

-- and its load of a slot of its child
abbrev pub ScanStays : World → Type 0
ScanStays o = (slots id g number : ℕ) (b : BoxView) (k : Walk) (ps : List PassView) → number < 8 →
    IsWalkAt o b k (stages.Scan number) (k.level - 1) g →
    Stays o slots id b ps (slot_at g number) (λ n. n)
    (walk_always b.cpu)
    (Scans (step slots (index_of (layout_of o) (slot_at g number)) 0 0 none)
    (seat_of (b ∷ []) ps))

-- and its load of a slot of the top
abbrev pub ScanTopStays : World → Type 0
ScanTopStays o = (slots id g number : ℕ) (b : BoxView) (k : Walk) (ps : List PassView) →
    number < 8 → IsWalkAt o b k (stages.First number) k.level g →
    Stays o slots id b ps (slot_at g number) (λ n. n)
    (walk_always b.cpu)
    (ScansTop (step slots (index_of (layout_of o) (slot_at g number)) 0 0 none)
    (seat_of (b ∷ []) ps))

-- LEAVING: a walk's load of the word of its group, before its exchange, keeps the rule, and the
-- seat is told what it found
abbrev pub ReadGroupStays : World → Type 0
ReadGroupStays o = (slots id g : ℕ) (b : BoxView) (k : Walk) (ps : List PassView) →
    IsWalkAt o b k stages.Read k.level g →
    Stays o slots id b ps (state_at g) (λ n. n)
    (walk_always b.cpu)
    (ReadsGroup (step slots (index_of (layout_of o) (state_at g)) 0 0 none) (seat_of (b ∷ []) ps))

-- and so does its load of the word of its child, above a leaf
abbrev pub ReadChildStays : World → Type 0
ReadChildStays o = (slots id g : ℕ) (b : BoxView) (k : Walk) (ps : List PassView) → 0 < k.level →
    IsWalkAt o b k stages.Child (k.level - 1) g →
    Stays o slots id b ps (state_at g) (λ n. n)
    (walk_always b.cpu)
    (ReadsChild (step slots (index_of (layout_of o) (state_at g)) 0 0 none) (seat_of (b ∷ []) ps))

-- and of the word of its CPU, at a leaf
abbrev pub ReadOwnStays : World → Type 0
ReadOwnStays o = (slots id g : ℕ) (b : BoxView) (k : Walk) (ps : List PassView) →
    b.cpu < length o.cpus → k.level ≡ 0 → IsWalkAt o b k stages.Child k.level g →
    Stays o slots id b ps (cpu_at b.cpu) (λ n. n)
    (walk_always b.cpu)
    (ReadsOwn (step slots (index_of (layout_of o) (cpu_at b.cpu)) 0 0 none) (seat_of (b ∷ []) ps))

-- the exchange of the word that it read keeps the rule, whatever word it finds, and the seat is
-- told that its walk has gone on, or has read the word anew
abbrev pub SwapStays : World → Type 0
SwapStays o = (slots id g new : ℕ) (b : BoxView) (k : Walk) (ps : List PassView) →
    IsWalkAt o b k stages.Swap k.level g →
    IsSwapOf b.read (side o.tree b.cpu k.level) k.child_on new →
    Stays o slots id b ps (state_at g) (λ n. either (n == b.read) new n)
    (walk_always b.cpu)
    (Swaps (step slots (index_of (layout_of o) (state_at g)) b.read new none)
    (seat_of (b ∷ []) ps))

-- MARK: an activation's marking of its CPU's slot in the leaf keeps the rule, and the seat is told
-- that its walk has gone on
abbrev pub MarkOwnStays : World → Type 0
MarkOwnStays o = (slots id g : ℕ) (b : BoxView) (k : Walk) (ps : List PassView) →
    side o.tree b.cpu 0 < 8 → IsWalkAt o b k stages.Own 0 g →
    Stays o slots id b ps (slot_at g (side o.tree b.cpu 0)) (λ n. bit_or n (2 ^ 58))
    (walk_always b.cpu)
    (MarksOwn (step slots (index_of (layout_of o) (slot_at g (side o.tree b.cpu 0))) (2 ^ 58) 0
    none) (seat_of (b ∷ []) ps))

-- and so does its marking of its group's slot in the parent
abbrev pub MarkStays : World → Type 0
MarkStays o = (slots id g : ℕ) (more : Bool) (b : BoxView) (k : Walk) (ps : List PassView) →
    side o.tree b.cpu (suc k.level) < 8 → IsWalkAt o b k (stages.Mark more) (suc k.level) g →
    Stays o slots id b ps (slot_at g (side o.tree b.cpu (suc k.level))) (λ n. bit_or n (2 ^ 58))
    (walk_always b.cpu)
    (Marks (step slots (index_of (layout_of o) (slot_at g (side o.tree b.cpu (suc k.level))))
    (2 ^ 58) 0 none) (seat_of (b ∷ []) ps))

-- and its look at that slot, by which the seat is told that its walk has gone on where the mark is
-- there, and else that nothing has changed
abbrev pub FindMarkStays : World → Type 0
FindMarkStays o = (slots id g : ℕ) (more : Bool) (b : BoxView) (k : Walk) (ps : List PassView) →
    side o.tree b.cpu (suc k.level) < 8 → IsWalkAt o b k (stages.Mark more) (suc k.level) g →
    Stays o slots id b ps (slot_at g (side o.tree b.cpu (suc k.level))) (λ n. n)
    (λ n. where_made (is_marked n) (walk_of b.cpu))
    (FindsMark (step slots (index_of (layout_of o) (slot_at g (side o.tree b.cpu (suc k.level)))) 0
    0 none) (seat_of (b ∷ []) ps))

-- STORE: a walk's store of the event that it tells keeps the rule, and the seat is told that its
-- walk has gone on
abbrev pub StoreStays : World → Type 0
StoreStays o = (slots id g new : ℕ) (b : BoxView) (k : Walk) (ps : List PassView) →
    side o.tree b.cpu k.level < 8 → IsWalkAt o b k stages.Store k.level g →
    new ≡ slot_word (stored_event k.level b.cpu k) →
    Stays o slots id b ps (slot_at g (side o.tree b.cpu k.level)) (λ n. new)
    (walk_always b.cpu)
    (λ n. Stores (step slots (index_of (layout_of o) (slot_at g (side o.tree b.cpu k.level))) new 0
    none) (seat_of (b ∷ []) ps) new)

-- LOADS BY A PASS: a load by the seat of pass q makes no step of the core, in whatever whole has
-- that pass; and so the table allows it
pub record LoadStays (o : World) (slots id : ℕ) (q : PassView) (m : SharedWord)
    (then : ℕ → Me → Type 0) : Type 0 where
  pub goes : (s : Whole) → IsShown o s → q ≡ s.pass q.cpu → Loads o s q m then
  pub allowed : Allows {S = Said} {V = View} (Holds o) slots id (seat_of [] (q ∷ []))
      (index_of (layout_of o) m) (λ n. n) then

-- a load of any word keeps the rule, and the pass remembers what it found
abbrev pub SeeStays : World → Type 0
SeeStays o = (slots id : ℕ) (q : PassView) (m : SharedWord) → IsWordOf (layout_of o) m →
    LoadStays o slots id q m
    (Sees (step slots (index_of (layout_of o) m) 0 0 none) (seat_of [] (q ∷ [])))

-- a load of a group's word besides finds the word of a state
abbrev pub SeeStateStays : World → Type 0
SeeStateStays o = (slots id g : ℕ) (q : PassView) → g < length o.groups →
    LoadStays o slots id q (state_at g)
    (SeesState (step slots (index_of (layout_of o) (state_at g)) 0 0 none) (seat_of [] (q ∷ [])))

-- and a load of a timer's word a CPU of the run, or none
abbrev pub SeeTimerStays : World → Type 0
SeeTimerStays o = (slots id : ℕ) (timer : TimerId) (q : PassView) → timer.0 < o.timers →
    LoadStays o slots id q (timer_at timer.0)
    (SeesTimer (step slots (index_of (layout_of o) (timer_at timer.0)) 0 0 none)
    (seat_of [] (q ∷ [])))
