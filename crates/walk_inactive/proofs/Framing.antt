-- what a walk's step leaves of the part of its CPU
use Rattle.std.proofs.Common.{◌≡◌, ℕ, zero, suc, ◌-◌, Bool, true, false, Option}
use Rattle.std.proofs.Common.{Some, refl, sym, ap, ◌∙◌, subst}
use Rattle.std.specs.Prelude.{not}
use Rattle.std.proofs.lemmas.Option.{none-some, same_Some}
use Rattle.walk_rules.specs.declared.walk.Walk.{Walk}
use Rattle.walk_rules.specs.declared.walk.Stage.{Stage}
use Rattle.walk_rules.specs.declared.walk.Stage.TheVariants as stages
use Rattle.walk_rules.specs.Hierarchy.{at_top}
use Rattle.walk_rules.specs.Stages.{at_stage, free_group_next, freed_next, higher, mark_next}
use Rattle.walk_rules.specs.Stages.{see_child_next, up_next}
use Rattle.shared_words.specs.Exchanges.{shows_migrator}
use Rattle.core_world.specs.World.{World}
use Rattle.shared_cpus.specs.shared_rule.declared.parts.BoxView.{BoxView}
use Rattle.shared_cpus.specs.shared_rule.Plays.{bound_walk, by_walk, child_freed_walk}
use Rattle.shared_cpus.specs.shared_rule.Plays.{child_locked_walk}
use Rattle.shared_cpus.specs.shared_rule.Plays.{child_read_walk, child_sight, group_freed_walk}
use Rattle.shared_cpus.specs.shared_rule.Plays.{taken_lock}
use Rattle.shared_cpus.specs.shared_rule.Plays.{locked_walk, marked_walk, marks_more}
use Rattle.shared_cpus.specs.shared_rule.Plays.{own_marked_box}
use Rattle.shared_cpus.specs.shared_rule.Plays.{own_read_walk, read_walk, reading, scan_sight}
use Rattle.shared_cpus.specs.shared_rule.Plays.{stored_box}
use Rattle.shared_cpus.specs.shared_rule.Plays.{group_sight, own_marked_walk, stored_walk, swap_box}
use Rattle.shared_cpus.specs.shared_rule.Plays.{risen_box, swapped_walk, top_sight, trying, up_walk}
use Rattle.shared_cpus.specs.shared_rule.Parts.{HeldPart}
use Rattle.walk_inactive.specs.Frames.{IsFramed, IsSameErrand, box_with}
use Rattle.shared_walks.specs.Steps.{LockTried, group_seen, lock_place, on_part, state_place}
use Rattle.shared_walks.specs.Steps.{top_seen}
use Rattle.shared_walks.specs.Walks.{HasReadChild, StepOf}

-- a change of a box that changes no more than a step of a walk may
abbrev Frames : (BoxView → BoxView) → Type 0
Frames f = (b : BoxView)
    → f b ≡ box_with b (f b).own.walk (f b).leaf (f b).read (f b).looked

-- the walk after the change is for what the one before it was for
abbrev KeepsErrand : (BoxView → BoxView) → Type 0
KeepsErrand f = (b : BoxView) (k j : Walk) → b.own.walk ≡ Some k → (f b).own.walk ≡ Some j
    → IsSameErrand k j

-- a part whose box is changed so
framed : (f : BoxView → BoxView) (old new : HeldPart) → Frames f → KeepsErrand f → new ≡ on_part f old
    → IsFramed old new
framed f old new frames keeps is =
    subst (IsFramed old) (sym is) (record {
      rest = λ i. on_part (λ b. frames old.box i) old;
      errand = keeps old.box;
    })

-- the walk of a box goes on so
walked : (g : BoxView → Walk → Option Walk)
    → ((b : BoxView) (k j : Walk) → g b k ≡ Some j → IsSameErrand k j) → KeepsErrand (by_walk g)
walked g errand b k j is next =
    errand b k j (ap (bound_walk (g b)) (sym is) ∙ next)

-- a walk that surely goes on
sure : (k i j : Walk) → Some i ≡ Some j → IsSameErrand k i → IsSameErrand k j
sure k i j e same = subst (IsSameErrand k) (same_Some i j e) same

up_errand : (top more : Bool) (k j : Walk) → up_next top more k ≡ Some j → IsSameErrand k j
up_errand true more k j e = absurd (none-some j e)
up_errand false more k j e =
    sure k (at_stage k (stages.Mark more)) j e (record { kind = refl; pin = refl; next = refl })

mark_errand : (more : Bool) (k j : Walk) → mark_next more k ≡ Some j → IsSameErrand k j
mark_errand true k j e =
    sure k (higher k stages.Up) j e (record { kind = refl; pin = refl; next = refl })
mark_errand false k j e = absurd (none-some j e)

child_errand : (on : Bool) (k : Walk) → IsSameErrand k (see_child_next on k)
child_errand true k = record { kind = refl; pin = refl; next = refl }
child_errand false k = record { kind = refl; pin = refl; next = refl }

freed_errand : (over : Bool) (k : Walk) → IsSameErrand k (freed_next over k)
freed_errand true k = record { kind = refl; pin = refl; next = refl }
freed_errand false k = record { kind = refl; pin = refl; next = refl }

group_errand : (level : ℕ) (k : Walk) → IsSameErrand k (free_group_next level k)
group_errand zero k = freed_errand k.over k
group_errand (suc l) k = record { kind = refl; pin = refl; next = refl }

-- a part whose walk has found a word as it tried, and stands where it stood
tried : (place found : ℕ) (old new : HeldPart) → new ≡ on_part (trying place found) old
    → IsFramed old new
tried place found old new is =
    framed (trying place found) old new (λ b. refl)
    (λ b k j e f. sure k k j (sym e ∙ f) (record { kind = refl; pin = refl; next = refl })) is

read_child : (level : ℕ) (old new : HeldPart) → HasReadChild level old new → IsFramed old new
read_child zero old new e =
    framed (by_walk own_read_walk) old new (λ b. refl)
    (walked own_read_walk (λ b k j e. sure k _ j e (record { kind = refl; pin = refl; next = refl }))) e
read_child (suc l) old new e =
    framed (by_walk (child_read_walk e.0)) old new (λ b. refl)
    (walked (child_read_walk e.0) (λ b k j e. sure k _ j e (record { kind = refl; pin = refl; next = refl }))) e.1

swapped : (made : Bool) (found : ℕ) (old new : HeldPart) → new ≡ on_part (swap_box made found) old
    → IsFramed old new
swapped true found old new e =
    framed (swap_box true found) old new (λ b. refl)
    (walked swapped_walk (λ b k j e. sure k _ j e (record { kind = refl; pin = refl; next = refl }))) e
swapped false found old new e =
    framed (swap_box false found) old new (λ b. refl)
    (walked read_walk (λ b k j e. sure k _ j e (record { kind = refl; pin = refl; next = refl }))) e

child_locked : (o : World) (level : ℕ) (made : Bool) (old new : HeldPart)
    → LockTried o child_locked_walk level made old new → IsFramed old new
child_locked o level true old new e =
    framed (taken_lock child_locked_walk) old new (λ b. refl)
    (walked child_locked_walk (λ b k j e. sure k _ j e (record { kind = refl; pin = refl; next = refl }))) e
child_locked o level false old new e = tried (lock_place o old.box.cpu level) e.found old new e.box

locked : (o : World) (level : ℕ) (made : Bool) (old new : HeldPart)
    → LockTried o locked_walk level made old new → IsFramed old new
locked o level true old new e =
    framed (taken_lock locked_walk) old new (λ b. refl)
    (walked locked_walk (λ b k j e. sure k _ j e (record { kind = refl; pin = refl; next = refl }))) e
locked o level false old new e = tried (lock_place o old.box.cpu level) e.found old new e.box

-- EACH STEP of a walk has the frame
pub step_framed : (o : World) (k : Walk) (at : Stage) (made : Bool) (old new : HeldPart)
    → StepOf o k at made old new → IsFramed old new
step_framed o k stages.Own made old new e =
    framed own_marked_box old new (λ b. refl)
    (walked own_marked_walk (λ b k j e. sure k _ j e (record { kind = refl; pin = refl; next = refl }))) e.1
step_framed o k stages.Up true old new e =
    framed (risen_box e.0) old new (λ b. refl)
    (walked (up_walk e.0) (λ b k j. up_errand (at_top b.opening.tree b.cpu k.level)
    (not (shows_migrator e.0)) k j)) e.1
step_framed o k stages.Up false old new e =
    let place = state_place o old.box.cpu k.level in
    framed (λ b. trying place e.found (trying place e.loaded b)) old new (λ b. refl)
    (λ b k j f g. sure k k j (sym f ∙ g) (record { kind = refl; pin = refl; next = refl })) e.box
step_framed o k (stages.Mark more) made old new e =
    framed (by_walk marked_walk) old new (λ b. refl)
    (walked marked_walk (λ b k j. mark_errand (marks_more k.stage) k j)) e.1
step_framed o k stages.Read made old new e =
    framed (λ b. reading e.1.0 (by_walk read_walk b)) old new (λ b. refl)
    (walked read_walk (λ b k j e. sure k _ j e (record { kind = refl; pin = refl; next = refl }))) e.1.1
step_framed o k stages.Child made old new e = read_child k.level old new e.1
step_framed o k stages.Swap made old new e = swapped e.1 e.2.found old new e.2.box
step_framed o k stages.LockChild made old new e = child_locked o (k.level - 1) made old new e
step_framed o k stages.LockGroup made old new e = locked o k.level made old new e
step_framed o k stages.SeeChild made old new e =
    framed (by_walk (child_sight e.1.0)) old new (λ b. refl)
    (walked (child_sight e.1.0) (λ b k j e. sure k _ j e (child_errand _ k))) e.1.1
step_framed o k stages.SeeGroup made old new e =
    framed (group_seen o k e.1.0) old new (λ b. refl)
    (walked (group_sight e.1.0) (λ b k j e. sure k _ j e (record { kind = refl; pin = refl; next = refl }))) e.1.1
step_framed o k (stages.Scan n) made old new e =
    framed (by_walk (scan_sight e.1.0)) old new (λ b. refl)
    (walked (scan_sight e.1.0) (λ b k j e. sure k _ j e (record { kind = refl; pin = refl; next = refl }))) e.1.1
step_framed o k stages.Store made old new e =
    framed stored_box old new (λ b. refl)
    (walked stored_walk (λ b k j e. sure k _ j e (record { kind = refl; pin = refl; next = refl }))) e.1
step_framed o k (stages.First n) made old new e =
    framed (top_seen o k n e.1.0) old new (λ b. refl)
    (walked (top_sight e.1.0) (λ b k j e. sure k _ j e (record { kind = refl; pin = refl; next = refl }))) e.1.1
step_framed o k stages.FreeGroup made old new e =
    framed (by_walk group_freed_walk) old new (λ b. refl)
    (walked group_freed_walk (λ b k j e. sure k _ j e (group_errand k.level k))) e.1
step_framed o k stages.FreeChild made old new e =
    framed (by_walk child_freed_walk) old new (λ b. refl)
    (walked child_freed_walk (λ b k j e. sure k _ j e (freed_errand k.over k))) e.1
step_framed o k stages.Finish made old new e = absurd e
step_framed o k stages.Handing made old new e = absurd e
