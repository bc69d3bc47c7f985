-- what a seat may know of the run at any moment
use Rattle.std.proofs.Common.{◌≡◌, ℕ, zero, suc, ◌<◌, List, [], ◌∷◌, length, refl, sym, ap, ◌∙◌}
use Rattle.std.proofs.Common.{subst, set}
use Rattle.std.specs.Prelude.{slice_index}
use mathlib.Core.Option.{none}
use Rattle.atomic_table.specs.Table.{Allows, keeps, step}
use Rattle.atomic_table.proofs.Lists.{set_again}
use Rattle.core_world.specs.World.{World}
use Rattle.core_state.specs.core_facts.Cover.Runs.{EachLawfulIsAnswered}
use Rattle.shared_rule.specs.declared.parts.BoxView.{BoxView}
use Rattle.shared_rule.specs.declared.parts.PassView.{PassView}
use Rattle.shared_rule.specs.declared.parts.Said.{Said}
use Rattle.shared_rule.specs.declared.parts.View.{View}
use Rattle.shared_rule.specs.Whole.{Whole, box_of}
use Rattle.shared_rule.specs.Rule.{Each, Holds, IsBoxOf, IsPassOf, Me, Shows}
use Rattle.shared_rule.specs.Running.{FindsRunning, IsOfOpening, IsRunning}

-- a number that is written where it stands
written_again : (l : List ℕ) (i : ℕ) → set l i (slice_index l i) ≡ l
written_again [] i = refl
written_again (x ∷ xs) zero = refl
written_again (x ∷ xs) (suc i) = ap (λ l. x ∷ l) (written_again xs i)

module _ (o : World) (s : Whole) (owner : ℕ → ℕ) (id : ℕ) where
  boxes_of : (bs : List BoxView) → Each (IsBoxOf o s owner id) bs
      → Each (λ b. (b.cpu < length o.cpus) × (b ≡ box_of o s b.cpu)) bs
  boxes_of [] each = tt
  boxes_of (b ∷ bs) each = ((each.0.low, each.0.is), boxes_of bs each.1)

  passes_of : (ps : List PassView) → Each (IsPassOf o s owner id) ps
      → Each (λ p. (p.cpu < length o.cpus) × (p ≡ s.pass p.cpu)) ps
  passes_of [] each = tt
  passes_of (p ∷ ps) each = ((each.0.low, each.0.is), passes_of ps each.1)

-- any seat may look
pub finds_running : EachLawfulIsAnswered → (o : World) (slots id i : ℕ) (m : Me)
    → Allows {S = Said} {V = View} (Holds o) slots id m i (λ n. n)
    (FindsRunning (step slots i 0 0 none) m)
finds_running answered o slots id i m t h homes at fits =
    let s = h.0 in
    let mine = h.5 id m.0 at in (
      m.0,
      keeps,
      tt,
      subst (λ (z : List ℕ × List View). Shows o z.0 z.1)
          (λ k. (sym (written_again t.words i) k, sym (set_again t.views id m.0 at) k)) h,
      (
        refl,
        (
          o,
          record {
            whole = s;
            shown = h.3;
            boxes = boxes_of o s h.1 id m.0.boxes mine.boxes;
            passes = passes_of o s h.2 id m.0.passes mine.passes;
            loaded = λ w within is. ap (slice_index t.words) (sym is) ∙ h.4.each w within;
            answered = answered s.world h.3.fits.lawful;
          },
        ),
      ),
    )

-- the core is that with which the run of the seat's first part began
pub opened_with : (o u : World) (me : Me) (place found : ℕ)
    → IsOfOpening o me.0.boxes me.0.passes → IsRunning u me place found
    → IsRunning o me place found
opened_with o u me place found of_run is =
    subst (λ w. IsRunning w me place found)
    (by_parts me.0.boxes me.0.passes is.boxes is.passes of_run) is
  where
    by_parts : (bs : List BoxView) (ps : List PassView)
        → Each (λ b. (b.cpu < length u.cpus) × (b ≡ box_of u is.whole b.cpu)) bs
        → Each (λ p. (p.cpu < length u.cpus) × (p ≡ is.whole.pass p.cpu)) ps
        → IsOfOpening o bs ps → u ≡ o
    by_parts (b ∷ bs) ps boxes passes e =
        sym (ap (λ (z : BoxView). z.opening) boxes.0.1) ∙ e
    by_parts [] (p ∷ ps) boxes passes e =
        sym (ap (λ (z : PassView). z.opening) passes.0.1 ∙ is.shown.opened p.cpu) ∙ e
    by_parts [] [] boxes passes e = absurd e
