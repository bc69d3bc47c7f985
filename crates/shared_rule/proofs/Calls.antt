-- for crates above: what a call of a run's table asks, where the rule's law says it of the opening
use Rattle.std.proofs.Common.{◌≡◌, ℕ, List, [], ◌∷◌, ◌<◌, Option, arith, sym, ap, ◌∙◌, subst}
use Rattle.atomic_table.specs.Seated.{TableId}
use Rattle.atomic_table.specs.Table.{Allows}
use Rattle.tree_plan.specs.Shape.{Shape}
use Rattle.core_world.specs.World.{World}
use Rattle.shared_words.specs.declared.layout.Layout.{Layout}
use Rattle.shared_words.specs.declared.layout.SharedWord.{SharedWord}
use Rattle.shared_words.specs.Layout.{IsWordOf, count_of, index_of}
use Rattle.shared_words.proofs.Apart.{index_below}
use Rattle.shared_rule.specs.declared.parts.BoxView.{BoxView}
use Rattle.shared_rule.specs.declared.parts.PassView.{PassView}
use Rattle.shared_rule.specs.declared.parts.Said.{Said}
use Rattle.shared_rule.specs.declared.parts.View.{View}
use Rattle.shared_rule.specs.Whole.{layout_of}
use Rattle.shared_rule.specs.Rule.{Holds, Me, seat_of}
use Rattle.shared_rule.specs.Laws.{Stays}
use Rattle.shared_rule.specs.Runs.{RunFits}
use Rattle.shared_rule.specs.Shows.{CoreStep}

module _ (name : TableId) (o : World) (table : TableId) (key : World) (tree : Shape)
    (layout : Layout) (fits : RunFits name o table key tree layout) where
  -- the index of a word of the opening's layout is below the number of words
  pub below : (p : SharedWord) → IsWordOf (layout_of o) p → index_of layout p < table.words
  below p within =
      let h : index_of layout p < count_of layout = index_below layout p
      (subst (λ (l : Layout). IsWordOf l p) (sym fits.places) within) in
      subst (λ n. index_of layout p < n) (sym fits.count) h

  -- and it is the one that the rule speaks of
  pub place : (p : SharedWord) → index_of layout p ≡ index_of (layout_of o) p
  place p = ap (λ (l : Layout). index_of l p) fits.places

  -- there is a word, which seats are cut and joined by
  pub some_word : 0 < table.words
  some_word = subst (λ n. 0 < n) (sym fits.count) (omega arith)

-- a step that the rule of the opening allows is one that the table allows
pub allowed : (o key : World) (slots id : ℕ) (me m : Me) (i j : ℕ) (f : ℕ → ℕ)
    (then : ℕ → Me → ℕ → Me → Type 0) → key ≡ o → me ≡ m → i ≡ j
    → Allows {S = Said} {V = View} (Holds o) slots id m j f (then j m)
    → Allows {S = Said} {V = View} (Holds key) slots id me i f (then i me)
allowed o key slots id me m i j f then ek em ei h =
    subst (λ (z : World × (Me × ℕ)). Allows {S = Said} {V = View} (Holds z.0) slots id z.1.0 z.1.1 f
    (then z.1.1 z.1.0)) {x = (o, (m, j))} (λ t. (sym ek t, (sym em t, sym ei t))) h

-- what a step of a part's seat asks of the table, where the rule has a law for it
pub asks : {by : ℕ → Option CoreStep} (name : TableId) (o : World) (table : TableId) (key : World) (tree : Shape)
    (layout : Layout) → RunFits name o table key tree layout → (mine : TableId) (id i : ℕ) (me : Me)
    (b : BoxView) (ps : List PassView) (p : SharedWord) (f : ℕ → ℕ)
    (then : ℕ → Me → ℕ → Me → Type 0) → mine ≡ name → me ≡ seat_of (b ∷ []) ps
    → i ≡ index_of layout p → IsWordOf (layout_of o) p
    → Stays o table.slots id b ps p f by (then (index_of (layout_of o) p) (seat_of (b ∷ []) ps))
    → (mine ≡ table) × (i < table.words)
    × Allows {S = Said} {V = View} (Holds key) table.slots id me i f (then i me)
asks name o table key tree layout fits mine id i me b ps p f then named is at within law = (
  named ∙ sym fits.named,
  subst (λ n. n < table.words) (sym at) (below name o table key tree layout fits p within),
  allowed o key table.slots id me (seat_of (b ∷ []) ps) i (index_of (layout_of o) p) f then
      fits.opened is (at ∙ place name o table key tree layout fits p) law.allowed,
)
