-- for crates above: a box's seat looks at words of its CPU, and the pass that it has remembers them
use Rattle.std.proofs.Common.{◌≡◌, ℕ, [], ◌∷◌, Some, length, refl, sym, ap, ◌∙◌}
use Rattle.std.proofs.Common.{subst}
use Rattle.event_queue.specs.EventMap.{event_at}
use Rattle.tree_plan.specs.Paths.{group_at_of}
use Rattle.walk_rules.specs.Hierarchy.{side}
use Rattle.core_world.specs.World.{World, group_of}
use Rattle.shared_words.specs.declared.layout.SharedWord.{SharedWord}
use Rattle.shared_words.specs.Layout.{IsWordOf, index_of}
use Rattle.shared_rule.specs.declared.parts.BoxView.{BoxView}
use Rattle.shared_rule.specs.declared.parts.Deed.TheVariants as deeds
use Rattle.shared_rule.specs.declared.parts.Did.{Did}
use Rattle.shared_rule.specs.declared.parts.PassView.{PassView}
use Rattle.shared_rule.specs.CoreLaws.{CoreLaws}
use Rattle.shared_rule.specs.Whole.{Whole, box_of, cpu_at, layout_of, leaf_in, slot_at}
use Rattle.shared_rule.specs.Whole.{word_at}
use Rattle.shared_rule.specs.Shows.{IsShown}
use Rattle.shared_rule.specs.Rule.{Goes, Me, seat_of}
use Rattle.shared_rule.specs.Plays.{on_pass, seen_pass}
use Rattle.shared_rule.specs.Turns.{IsOwnLeaf, IsOwnWord}
use Rattle.shared_rule.specs.TurnLaws.{SeeCpuStays, SeeLeafStays}
use Rattle.shared_rule.proofs.Going.{allows}
use Rattle.shared_rule.proofs.Looking.{learned, learns, looked}
use Rattle.shared_rule.proofs.Moving.{set_else, set_here}
use Rattle.shared_rule.proofs.Passing.{with_pass, word_stays}
use Rattle.shared_rule.proofs.Sights.{slot_shown}
use Rattle.shared_rule.specs.Laws.{none_made}

-- a step that leaves the word m as it was, which the pass p remembers
module _ (law : CoreLaws) (o : World) (s : Whole) (h : IsShown o s) (c : ℕ) (p : PassView)
    (m : SharedWord) (within : IsWordOf (layout_of o) m) (is : p ≡ s.pass p.cpu) (f : ℕ → ℕ)
    (stays : f (word_at s m) ≡ word_at s m) (then : ℕ → Me → Type 0) where
  abbrev did : Did
  did = record {
    held = length p.receipts;
    deed = deeds.Saw (index_of (layout_of o) m) (word_at s m);
  }

  abbrev mine : PassView
  mine = learned did (s.pass p.cpu)

  pub notices : then (word_at s m)
      (on_pass (seen_pass (index_of (layout_of o) m) (word_at s m))
      (seat_of (box_of o s c ∷ []) (p ∷ [])))
      → Goes o s (box_of o s c) (p ∷ []) m f none_made then
  notices told = record {
    next = with_pass s p.cpu mine;
    box = box_of o s c;
    passes = learned did p ∷ [];
    shown = learns o s h p.cpu did (looked law o s h p m within is);
    makes = refl;
    word = word_stays s p.cpu mine m ∙ sym stays;
    words = λ z low ne. word_stays s p.cpu mine z;
    own = refl;
    boxes = λ d ne. refl;
    same = refl;
    brought = (ap (learned did) is ∙ sym (set_here p.cpu mine s.pass), tt);
    others = λ d ne. set_else p.cpu mine s.pass d (λ e. ne.0 (sym e));
    told = told;
  }

pub sees_cpu : (law : CoreLaws) (o : World) → SeeCpuStays o
sees_cpu law o slots id b p low =
    allows law o slots id b (p ∷ []) (cpu_at b.cpu) (λ n. n) none_made
    (λ n v. (v
    ≡ on_pass (seen_pass (index_of (layout_of o) (cpu_at b.cpu)) n) (seat_of (b ∷ []) (p ∷ [])))
    × IsOwnWord (b ∷ []) n) low
    (λ s h hc is known fits.
    subst (λ (z : BoxView). Goes o s z (p ∷ []) (cpu_at b.cpu) (λ n. n) none_made
    (λ n v. (v
    ≡ on_pass (seen_pass (index_of (layout_of o) (cpu_at b.cpu)) n) (seat_of (z ∷ []) (p ∷ [])))
    × IsOwnWord (z ∷ []) n)) (sym is)
    (notices law o s h b.cpu p (cpu_at b.cpu) low known.0.1 (λ n. n) refl
    (λ n v. (v
    ≡ on_pass (seen_pass (index_of (layout_of o) (cpu_at b.cpu)) n)
    (seat_of (box_of o s b.cpu ∷ []) (p ∷ [])))
    × IsOwnWord (box_of o s b.cpu ∷ []) n) (refl, refl)))

pub sees_leaf : (law : CoreLaws) (o : World) → SeeLeafStays o
sees_leaf law o slots id g b p in_range low path =
    allows law o slots id b (p ∷ []) (slot_at g (side o.tree b.cpu 0)) (λ n. n) none_made
    (λ n v. (v
    ≡ on_pass (seen_pass (index_of (layout_of o) (slot_at g (side o.tree b.cpu 0))) n)
    (seat_of (b ∷ []) (p ∷ [])))
    × IsOwnLeaf (b ∷ []) n) (in_range, low)
    (λ s h hc is known fits.
    subst (λ (z : BoxView). Goes o s z (p ∷ []) (slot_at g (side o.tree b.cpu 0)) (λ n. n) none_made
    (λ n v. (v
    ≡ on_pass (seen_pass (index_of (layout_of o) (slot_at g (side o.tree b.cpu 0))) n)
    (seat_of (z ∷ []) (p ∷ [])))
    × IsOwnLeaf (z ∷ []) n)) (sym is)
    (let w = s.world in
    let path_w : group_at_of w.tree b.cpu 0 ≡ Some g
    = ap (λ z. group_at_of z b.cpu 0) h.same.tree ∙ path in
    notices law o s h b.cpu p (slot_at g (side o.tree b.cpu 0)) (in_range, low) known.0.1
    (λ n. n) refl
    (λ n v. (v
    ≡ on_pass (seen_pass (index_of (layout_of o) (slot_at g (side o.tree b.cpu 0))) n)
    (seat_of (box_of o s b.cpu ∷ []) (p ∷ [])))
    × IsOwnLeaf (box_of o s b.cpu ∷ []) n) (
      refl,
      sym (slot_shown law o s h g (side o.tree b.cpu 0))
          ∙ ((λ i. event_at (group_of w g).events (side (sym h.same.tree i) b.cpu 0))
          ∙ sym (ap (leaf_in w b.cpu) path_w)),
    )))
