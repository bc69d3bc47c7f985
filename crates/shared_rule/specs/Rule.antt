-- the rule of the table: words and views show a core that fits
use Rattle.std.specs.Prelude.{◌≡◌, ◌≢◌, ℕ, ◌+◌, ◌<◌, List, [], ◌∷◌, ◌++◌, map, length, Option, None}
use Rattle.std.proofs.Common.{cond, eqb}
use mathlib.Core.Option.{some}
use lib.ListN.{get_elem?}
use Rattle.atomic_table.specs.Table as tables
use Rattle.core_world.specs.World.{World}
use Rattle.shared_words.specs.declared.layout.SharedWord.{SharedWord}
use Rattle.shared_words.specs.Layout.{IsWordOf, index_of}
use Rattle.shared_rule.specs.declared.parts.BoxView.{BoxView}
use Rattle.shared_rule.specs.declared.parts.PassView.{PassView}
use Rattle.shared_rule.specs.declared.parts.Said.{Said}
use Rattle.shared_rule.specs.declared.parts.View.{View}
use Rattle.shared_rule.specs.Whole.{Whole, word_at, Spell, box_of, layout_of}
use Rattle.shared_rule.specs.Shows.{CoreStep, StepMade, IsShown}

-- what the seat that makes a step has: its view, and no slots
abbrev pub Me : Type 0
Me = tables.Me Said View

-- a step of the table, with what it announces
abbrev pub Step : Type 0
Step = tables.Step Said

-- a fact of each element of a list
abbrev pub Each : {X : Type 0} → (X → Type 0) → List X → Type 0
Each P [] = Unit {0}
Each P (x ∷ xs) = P x × Each P xs

-- a part is what the whole has of its CPU, and stands in the view of the seat that owns it
pub record IsPart {X : Type 0} (n : ℕ) (cpu : X → ℕ) (whole : ℕ → X) (owner : ℕ → ℕ) (id : ℕ)
    (x : X) : Type 0 where
  pub low : cpu x < n
  pub owned : owner (cpu x) ≡ id
  pub is : x ≡ whole (cpu x)

-- the CPU of a box part
abbrev pub box_cpu : BoxView → ℕ
box_cpu b = b.cpu

-- the CPU of a pass part
abbrev pub pass_cpu : PassView → ℕ
pass_cpu p = p.cpu

-- a box part in the view of a seat
abbrev pub IsBoxOf : World → Whole → (ℕ → ℕ) → ℕ → BoxView → Type 0
IsBoxOf o s boxer id b = IsPart (length o.cpus) box_cpu (box_of o s) boxer id b

-- a pass part in the view of a seat
abbrev pub IsPassOf : World → Whole → (ℕ → ℕ) → ℕ → PassView → Type 0
IsPassOf o s passer id p = IsPart (length o.cpus) pass_cpu s.pass passer id p

-- the view of a seat
pub record IsViewOf (o : World) (s : Whole) (boxer passer : ℕ → ℕ) (id : ℕ) (v : View) : Type 0
  where
    pub boxes : Each (IsBoxOf o s boxer id) v.boxes
    pub passes : Each (IsPassOf o s passer id) v.passes

-- how many parts of a CPU stand in a list
abbrev pub times : {X : Type 0} → (X → ℕ) → ℕ → List X → ℕ
times cpu c [] = 0
times cpu c (x ∷ xs) = cond (eqb (cpu x) c) 1 0 + times cpu c xs

-- the CPU has exactly one part in the view of its owner
abbrev pub Stands : {X : Type 0} → (X → ℕ) → (View → List X) → List View → (ℕ → ℕ) → ℕ → Type 0
Stands cpu parts views owner c =
    (v : View) × (get_elem? views (owner c) ≡ some v) × (times cpu c (parts v) ≡ 1)

-- the box parts of a view
abbrev pub boxes_in : View → List BoxView
boxes_in v = v.boxes

-- the pass parts of a view
abbrev pub passes_in : View → List PassView
passes_in v = v.passes

-- THE RULE: there is a whole that the words spell, whose parts the views have, each CPU's in
-- exactly one view, and of which all that the rule says holds
abbrev pub Shows : World → List ℕ → List View → Type 0
Shows o words views =
    (s : Whole) × (boxer : ℕ → ℕ) × (passer : ℕ → ℕ)
    × IsShown o s × Spell (layout_of o) words s
    × ((id : ℕ) (v : View) → get_elem? views id ≡ some v → IsViewOf o s boxer passer id v)
    × ((c : ℕ) → c < length o.cpus →
    Stands box_cpu boxes_in views boxer c × Stands pass_cpu passes_in views passer c)

-- the rule of a table's state
abbrev pub Holds : World → tables.State Said View → Type 0
Holds o state = Shows o state.words state.views

-- a view of these parts
abbrev pub seen : List BoxView → List PassView → View
seen boxes passes = record { boxes = boxes; passes = passes }

-- a seat with these parts, and no slots
abbrev pub seat_of : List BoxView → List PassView → Me
seat_of boxes passes = (seen boxes passes, [])

-- A STEP by the seat of box b, with the passes ps brought, as a step of the whole: there is a next
-- whole that is shown, whose core is made of this one by the step that `by` names for the word that
-- is found, or is this one where it names none. In it the word is the new one and all others are as
-- they were, the parts of other seats too, and of it the seat is told
pub record Goes (o : World) (s : Whole) (b : BoxView) (ps : List PassView) (p : SharedWord)
    (f : ℕ → ℕ) (by : ℕ → Option CoreStep) (then : ℕ → Me → Type 0) : Type 0 where
  pub next : Whole
  pub box : BoxView
  pub passes : List PassView
  pub shown : IsShown o next
  pub makes : StepMade (by (word_at s p)) s.world next.world
  pub word : word_at next p ≡ f (word_at s p)
  pub words : (q : SharedWord) → IsWordOf (layout_of o) q →
      index_of (layout_of o) q ≢ index_of (layout_of o) p → word_at next q ≡ word_at s q
  pub own : box ≡ box_of o next b.cpu
  pub boxes : (d : ℕ) → d ≢ b.cpu → box_of o next d ≡ box_of o s d
  pub same : map pass_cpu passes ≡ map pass_cpu ps
  pub brought : Each (λ x. x ≡ next.pass x.cpu) passes
  pub others : (d : ℕ) → Each (λ x. x.cpu ≢ d) ps → next.pass d ≡ s.pass d
  pub told : then (word_at s p) (seat_of (box ∷ []) passes)

-- A LOAD by the seat of pass q, as a step of the whole: there is a next whole that is shown, with
-- the same core, the same words and the same parts of other seats, and of it the seat is told
pub record Loads (o : World) (s : Whole) (q : PassView) (p : SharedWord)
    (then : ℕ → Me → Type 0) : Type 0 where
  pub next : Whole
  pub pass : PassView
  pub shown : IsShown o next
  pub makes : StepMade None s.world next.world
  pub words : (m : SharedWord) → word_at next m ≡ word_at s m
  pub boxes : (d : ℕ) → box_of o next d ≡ box_of o s d
  pub own : pass ≡ next.pass q.cpu
  pub others : (d : ℕ) → d ≢ q.cpu → next.pass d ≡ s.pass d
  pub told : then (word_at s p) (seat_of [] (pass ∷ []))

-- SEATS: the first of a list
abbrev pub head_of : {X : Type 0} → List X → List X
head_of [] = []
head_of (x ∷ xs) = x ∷ []

-- all but the first
abbrev pub tail_of : {X : Type 0} → List X → List X
tail_of [] = []
tail_of (x ∷ xs) = xs

-- the view of a seat that was joined away
abbrev pub nothing : View
nothing = seen [] []

-- two views in one
abbrev pub together : View → View → View
together v w = seen (v.boxes ++ w.boxes) (v.passes ++ w.passes)

-- the first box of a view, and what is left without it
abbrev pub first_box : View → View
first_box v = seen (head_of v.boxes) []

-- a view without its first box
abbrev pub without_box : View → View
without_box v = seen (tail_of v.boxes) v.passes

-- the first pass of a view
abbrev pub first_pass : View → View
first_pass v = seen [] (head_of v.passes)

-- a pass with the journal of this box, where that is its CPU's
abbrev pub with_journal : BoxView → PassView → PassView
with_journal b p = record p {
  journal = cond (eqb p.cpu b.cpu) b.own.bases.journal p.journal;
}

-- the first of these passes, with the journal of the first box where that is its CPU's
abbrev pub renewed : List BoxView → List PassView → List PassView
renewed [] ps = head_of ps
renewed (b ∷ bs) [] = []
renewed (b ∷ bs) (p ∷ ps) = with_journal b p ∷ []

-- the first pass of a view, as it takes the journal of the first box with it
abbrev pub renewed_pass : View → View
renewed_pass v = seen [] (renewed v.boxes v.passes)

-- a view without its first pass
abbrev pub without_pass : View → View
without_pass v = seen v.boxes (tail_of v.passes)

-- the first part's CPU has no other in the list
abbrev pub HasFirst : {X : Type 0} → (X → ℕ) → List X → Type 0
HasFirst cpu [] = ⊥
HasFirst cpu (x ∷ xs) = Each (λ y. cpu y ≢ cpu x) xs

-- there is a first box, and its CPU has no other
abbrev pub HasFirstBox : View → Type 0
HasFirstBox v = HasFirst box_cpu v.boxes

-- there is a first pass, and its CPU has no other
abbrev pub HasFirstPass : View → Type 0
HasFirstPass v = HasFirst pass_cpu v.passes

-- no CPU has two parts in the list
abbrev pub Apart : {X : Type 0} → (X → ℕ) → List X → Type 0
Apart cpu [] = Unit {0}
Apart cpu (x ∷ xs) = Each (λ y. cpu y ≢ cpu x) xs × Apart cpu xs
