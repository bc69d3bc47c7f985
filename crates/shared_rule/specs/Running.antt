-- THE HEADLINE OF A RUN: what whoever has a seat of its table may know of it at any moment
use Rattle.std.specs.Prelude.{◌≡◌, ℕ, ◌<◌, List, [], ◌∷◌, length}
use Rattle.core_world.specs.World.{World}
use Rattle.core_state.specs.core_facts.Cover.Runs.{EachIsAnswered}
use Rattle.shared_words.specs.declared.layout.SharedWord.{SharedWord}
use Rattle.shared_words.specs.Layout.{IsWordOf, index_of}
use Rattle.shared_rule.specs.declared.parts.BoxView.{BoxView}
use Rattle.shared_rule.specs.declared.parts.PassView.{PassView}
use Rattle.shared_rule.specs.Whole.{Whole, box_of, layout_of, word_at}
use Rattle.shared_rule.specs.Shows.{IsShown}
use Rattle.shared_rule.specs.Rule.{Each, Me, Step}

-- the first part of a seat is of the run that began with this core
abbrev pub IsOfOpening : World → List BoxView → List PassView → Type 0
IsOfOpening o (b ∷ bs) ps = b.opening ≡ o
IsOfOpening o [] (p ∷ ps) = p.opening ≡ o
IsOfOpening o [] [] = ⊥

-- RUNNING: there is a whole that is shown, of the core with which the run began. This seat's parts
-- are its parts, what was found at a place is its word there, and in its core each global timer
-- that is queued on an online idle CPU is held, woken for or carried; and held or woken for where
-- no walk and no interrupt is under way
pub record IsRunning (o : World) (me : Me) (place found : ℕ) : Type 0 where
  pub whole : Whole
  pub shown : IsShown o whole
  pub boxes : Each (λ b. (b.cpu < length o.cpus) × (b ≡ box_of o whole b.cpu)) me.0.boxes
  pub passes : Each (λ p. (p.cpu < length o.cpus) × (p ≡ whole.pass p.cpu)) me.0.passes
  pub loaded : (m : SharedWord) → IsWordOf (layout_of o) m → index_of (layout_of o) m ≡ place →
      found ≡ word_at whole m
  pub answered : EachIsAnswered whole.world

-- a load that changes nothing, and tells that the run is one of some core
abbrev pub FindsRunning : Step → Me → ℕ → Me → Type 0
FindsRunning t v found w = (w ≡ v) × ((o : World) × IsRunning o v t.word found)
