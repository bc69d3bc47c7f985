-- what the steps of a CPU's interrupt, idling and running of timers tell the seat that makes them
use Rattle.std.specs.Prelude.{◌≡◌, ◌⊎◌, ℕ, suc, true, false, List, [], ◌∷◌, ◌++◌, length, Option}
use Rattle.std.specs.Prelude.{◌==◌, None, Some, filter, is_some, min, not}
use Rattle.tm_base.specs.declared.names.Class.{Class}
use Rattle.tm_base.specs.declared.names.Class.TheVariants.{Global}
use Rattle.cpu_bases.specs.CpuBases.{events_of, handed_out, ticked_entry}
use Rattle.event_queue.specs.Word.{slot_of}
use Rattle.tree_plan.specs.Paths.{group_at_of}
use Rattle.walk_rules.specs.declared.walk.Walk.{Walk}
use Rattle.walk_rules.specs.declared.walk.WalkKind.{WalkKind}
use Rattle.walk_rules.specs.declared.walk.WalkKind.TheVariants as kinds
use Rattle.walk_rules.specs.declared.walk.Stage.{Stage}
use Rattle.walk_rules.specs.declared.walk.Stage.TheVariants as stages
use Rattle.core_world.specs.Steps.{finished}
use Rattle.walk_rules.specs.Stages.{begun_where}
use Rattle.core_world.specs.World.{World, CpuRecord}
use Rattle.shared_rule.specs.declared.parts.BoxView.{BoxView}
use Rattle.shared_rule.specs.declared.parts.PassView.{PassView}
use Rattle.shared_rule.specs.declared.parts.Deed.TheVariants as deeds
use Rattle.shared_rule.specs.Whole.{no_looks, own_word}
use Rattle.shared_rule.specs.Shows.{receipt_of}
use Rattle.shared_rule.specs.Rule.{Me, Step}
use Rattle.shared_rule.specs.Plays.{Sound, by_box, on_both, on_pass, seen_pass}

-- VIEWS AFTER A STEP: the box changes by what the first pass is
abbrev pub pair_boxes : (BoxView → PassView → BoxView) → List BoxView → List PassView
    → List BoxView
pair_boxes f [] ps = []
pair_boxes f (b ∷ bs) [] = b ∷ bs
pair_boxes f (b ∷ bs) (p ∷ ps) = f b p ∷ bs

-- box and pass change by what both are
abbrev pub on_pair : (BoxView → PassView → BoxView) → (BoxView → PassView → PassView) → Me → Me
on_pair f h v = (
  record {
    boxes = pair_boxes f v.0.boxes v.0.passes;
    passes = by_box h v.0.boxes v.0.passes;
  },
  v.1,
)

-- RUNNING: the CPU of a pass may run timers of a class of a box's CPU: its own inside its
-- interrupt, and the global ones of a CPU that it has marked
abbrev pub MayRunOf : BoxView → Class → PassView → Type 0
MayRunOf b class p =
    ((p.cpu ≡ b.cpu) × (b.own.inside ≡ true))
    ⊎ ((class ≡ Global) × (b.own.mark ≡ Some p.cpu))

-- DRAINING: a base counts as drained, by the CPU of a pass
abbrev pub ticked_box : Class → BoxView → PassView → BoxView
ticked_box class b p = record b {
  own = record b.own {
    bases = handed_out b.opening.clock class (record { 0 = p.cpu }) b.own.bases;
  };
}

-- the pass has the receipt
abbrev pub ticked_pass : Class → BoxView → PassView → PassView
ticked_pass class b p = record p {
  receipts =
      p.receipts
      ++ receipt_of b.cpu (length b.own.bases.journal)
      (ticked_entry b.opening.clock class (record { 0 = p.cpu })) ∷ [];
}

-- a load of the CPU's word, at which the base of a class counts as drained
abbrev pub Ticks : Class → Step → Me → ℕ → Me → Type 0
Ticks class t v found w = (w ≡ on_pair (ticked_box class) (ticked_pass class) v) × Sound w

-- ENTER: the CPU is inside its interrupt
abbrev pub entered : CpuRecord → CpuRecord
entered y = record y { inside = true }

-- its box
abbrev pub entered_box : BoxView → BoxView
entered_box b = record b { own = entered b.own }

-- its pass
abbrev pub entered_pass : BoxView → PassView → PassView
entered_pass b p = record p { inside = true }

-- the store of a CPU's word by which its interrupt begins
abbrev pub Enters : Step → Me → ℕ → Me → Type 0
Enters t v found w = (w ≡ on_both entered_box entered_pass v) × Sound w

-- LEAVE: the CPU is outside its interrupt
abbrev pub outside : CpuRecord → CpuRecord
outside y = record y { inside = false }

-- its box
abbrev pub outside_box : BoxView → BoxView
outside_box b = record b { own = outside b.own }

-- its pass
abbrev pub outside_pass : BoxView → PassView → PassView
outside_pass b p = record p { inside = false }

-- the store of a CPU's word by which its interrupt ends
abbrev pub Exits : Step → Me → ℕ → Me → Type 0
Exits t v found w = (w ≡ on_both outside_box outside_pass v) × Sound w

-- WALKS THAT BEGIN: one of a kind, which tells the CPU's first event
abbrev pub begun : World → (c : ℕ) → CpuRecord → WalkKind → Stage → Option Walk
begun o c y kind stage =
    begun_where (is_some (group_at_of o.tree c 0)) kind stage (events_of y.bases).pin
    (events_of y.bases).next

-- IDLE: the CPU is idle, and its walk out of the active sets begins
abbrev pub idled : World → (c : ℕ) → CpuRecord → CpuRecord
idled o c y = record y { idle = true; walk = begun o c y kinds.Deactivate stages.Read }

-- its box
abbrev pub idled_box : BoxView → BoxView
idled_box b = record b { own = idled b.opening b.cpu b.own; looked = no_looks }

-- its pass, with which one walk more was begun
abbrev pub idled_pass : BoxView → PassView → PassView
idled_pass b p = record p { walks = suc p.walks; idle = true; reeval = false }

-- the store of a CPU's word by which it goes idle
abbrev pub Idles : Step → Me → ℕ → Me → Type 0
Idles t v found w = (w ≡ on_both idled_box idled_pass v) × Sound w

-- REEVAL: an idle CPU's walk begins that tells its first event anew
abbrev pub retold : World → (c : ℕ) → CpuRecord → CpuRecord
retold o c y = record y { walk = begun o c y kinds.Reeval stages.LockGroup }

-- its box
abbrev pub retold_box : BoxView → BoxView
retold_box b = record b { own = retold b.opening b.cpu b.own; looked = no_looks }

-- its pass, with which one walk more was begun
abbrev pub retold_pass : BoxView → PassView → PassView
retold_pass b p = record p { walks = suc p.walks; reeval = true }

-- the load of a CPU's word at which its re-evaluation begins
abbrev pub Retells : Step → Me → ℕ → Me → Type 0
Retells t v found w = (w ≡ on_both retold_box retold_pass v) × Sound w

-- TAKE: the mark of a CPU is that of the CPU of a pass
abbrev pub taken : (by : ℕ) → CpuRecord → CpuRecord
taken by y = record y { mark = Some by }

-- its box
abbrev pub taken_box : BoxView → PassView → BoxView
taken_box b p = record b { own = taken p.cpu b.own }

-- the pass that has set it
abbrev pub taken_pass : BoxView → PassView → PassView
taken_pass b p = record p {
  marks = p.marks ++ b.cpu ∷ [];
  did = p.did ++ record { held = length p.receipts; deed = deeds.Took b.cpu } ∷ [];
}

-- the store of a CPU's word by which it is marked
abbrev pub Takes : Step → Me → ℕ → Me → Type 0
Takes t v found w = (w ≡ on_pair taken_box taken_pass v) × Sound w

-- RELEASE: the mark of a CPU is gone
abbrev pub released : CpuRecord → CpuRecord
released y = record y { mark = None }

-- its box
abbrev pub released_box : BoxView → PassView → BoxView
released_box b p = record b { own = released b.own }

-- the marks of a pass without that of a CPU
abbrev pub marks_without : (c : ℕ) → List ℕ → List ℕ
marks_without c marks = filter (λ m. not (m == c)) marks

-- the pass that had set it
abbrev pub released_pass : BoxView → PassView → PassView
released_pass b p = record p {
  marks = marks_without b.cpu p.marks;
  did = p.did ++ record { held = length p.receipts; deed = deeds.Released b.cpu } ∷ [];
}

-- the store of a CPU's word by which its mark is taken back
abbrev pub Releases : Step → Me → ℕ → Me → Type 0
Releases t v found w = (w ≡ on_pair released_box released_pass v) × Sound w

-- FINISH: the CPU after the end of a walk of this kind, where it has one
abbrev pub finish_of : WalkKind → CpuRecord → Option Walk → CpuRecord
finish_of kind y None = y
finish_of kind y (Some k) = finished y k kind

-- its box
abbrev pub finished_box : WalkKind → BoxView → BoxView
finished_box kind b = record b { own = finish_of kind b.own b.own.walk }

-- the wakeup that the walk has found
abbrev pub found_wakeup : (old : ℕ) → Option Walk → ℕ
found_wakeup old None = old
found_wakeup old (Some k) = min k.pin k.first

-- the pass of a CPU that has gone idle
abbrev pub rested_pass : BoxView → PassView → PassView
rested_pass b p = record p { wakeup = found_wakeup p.wakeup b.own.walk }

-- and of one whose re-evaluation has ended, and its interrupt with it
abbrev pub reevaluated_pass : BoxView → PassView → PassView
reevaluated_pass b p = record p {
  wakeup = found_wakeup p.wakeup b.own.walk;
  inside = false;
  reeval = false;
}

-- the store of a CPU's word as its walk out of the active sets ends
abbrev pub Rests : Step → Me → ℕ → Me → Type 0
Rests t v found w = (w ≡ on_both (finished_box kinds.Deactivate) rested_pass v) × Sound w

-- the store of a CPU's word as its re-evaluation ends
abbrev pub Reevaluates : Step → Me → ℕ → Me → Type 0
Reevaluates t v found w = (w ≡ on_both (finished_box kinds.Reeval) reevaluated_pass v) × Sound w

-- CARRY: the walk of a marked CPU begins that carries its next event upwards, made by the CPU that
-- set the mark
abbrev pub carried : World → (c by : ℕ) → CpuRecord → CpuRecord
carried o c by y =
    record y { walk = begun o c y (kinds.Remote (record { 0 = by })) stages.LockGroup }

-- its box
abbrev pub carried_box : BoxView → PassView → BoxView
carried_box b p = record b { own = carried b.opening b.cpu p.cpu b.own; looked = no_looks }

-- the pass that makes it, with which one walk more was begun
abbrev pub carried_pass : BoxView → PassView → PassView
carried_pass b p = record p { walks = suc p.walks }

-- the load of a marked CPU's word at which its walk begins
abbrev pub Carries : Step → Me → ℕ → Me → Type 0
Carries t v found w = (w ≡ on_pair carried_box carried_pass v) × Sound w

-- what a walk, if there is one, has told
abbrev pub found_next : Option Walk → ℕ
found_next None = 0
found_next (Some k) = k.next

-- the box of a CPU whose walk of this kind has ended, and its mark with it
abbrev pub carry_ended_box : BoxView → PassView → BoxView
carry_ended_box b p = finished_box (kinds.Remote (record { 0 = p.cpu })) b

-- the pass that had set the mark, and made the walk
abbrev pub carry_ended_pass : BoxView → PassView → PassView
carry_ended_pass b p = record p {
  marks = marks_without b.cpu p.marks;
  did =
      p.did
      ++ record {
        held = length p.receipts;
        deed = deeds.Carried b.cpu (found_next b.own.walk);
      } ∷ [];
}

-- the store of a marked CPU's word as its walk ends
abbrev pub CarryEnds : Step → Me → ℕ → Me → Type 0
CarryEnds t v found w = (w ≡ on_pair carry_ended_box carry_ended_pass v) × Sound w

-- LOOKS AT A CPU, with a pass that remembers them: what was found is the word of the box's CPU
abbrev pub IsOwnWord : List BoxView → (found : ℕ) → Type 0
IsOwnWord [] found = ⊥
IsOwnWord (b ∷ bs) found = found ≡ own_word b.own

-- what was found is the word of the slot of the box's CPU in its leaf
abbrev pub IsOwnLeaf : List BoxView → (found : ℕ) → Type 0
IsOwnLeaf [] found = ⊥
IsOwnLeaf (b ∷ bs) found = slot_of found ≡ b.leaf

-- a load of a CPU's word, with its box and a pass
abbrev pub SeesCpu : Step → Me → ℕ → Me → Type 0
SeesCpu t v found w =
    ((w ≡ on_pass (seen_pass t.word found) v) × IsOwnWord v.0.boxes found) × Sound w

-- a load of a CPU's slot in its leaf, with its box and a pass
abbrev pub SeesLeaf : Step → Me → ℕ → Me → Type 0
SeesLeaf t v found w =
    ((w ≡ on_pass (seen_pass t.word found) v) × IsOwnLeaf v.0.boxes found) × Sound w
