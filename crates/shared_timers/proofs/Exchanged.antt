-- what the seat of a part is after a timer's exchange, where one pass is brought
use Rattle.std.proofs.Common.{◌≡◌, ◌≢◌, ℕ, Bool, false, [], ◌∷◌, ap, ◌∙◌}
use Rattle.std.proofs.Common.{subst, ne_eqb, List}
use Rattle.std.specs.Prelude.{◌==◌}
use mathlib.Core.Option.{some}
use Rattle.cpu_bases.specs.CpuBases.{IsConsistent}
use Rattle.shared_rule.specs.declared.parts.BoxView.{BoxView}
use Rattle.shared_rule.specs.declared.parts.PassView.{PassView}
use Rattle.shared_rule.specs.declared.parts.Said.TheVariants as saids
use Rattle.shared_rule.specs.Rule.{Me, seat_of}
use Rattle.shared_rule.specs.Plays.{NamesCpu, Sound, on_pass, seen_pass}
use Rattle.shared_rule.specs.Timers.{ArmTells, armed_box, armed_pass}
use Rattle.shared_rule.specs.Turns.{on_pair}
use Rattle.shared_timers.specs.declared.arming.Arming.{Arming}

-- a change of both, of a seat that has one of either
pub on_pair_of : (f : BoxView → PassView → BoxView) (h : BoxView → PassView → PassView)
    (v w : Me) (b : BoxView) (p : PassView) → v ≡ seat_of (b ∷ []) (p ∷ []) → w ≡ on_pair f h v
    → w ≡ seat_of (f b p ∷ []) (h b p ∷ [])
on_pair_of f h v w b p seat is = is ∙ ap (on_pair f h) seat

-- what the try to arm a timer tells
module _ (a : Arming) (word found : ℕ) (v w : Me) (b : BoxView) (p : PassView)
    (seat : v ≡ seat_of (b ∷ []) (p ∷ [])) where
  abbrev Tells : Bool → Type 0
  Tells hit =
      ArmTells (some (saids.Arm a.timer a.class a.expires a.job a.arg a.line)) hit word found v w

  -- where the timer was queued nowhere
  pub armed_me : found ≡ 0 → Tells (found == 0)
      → w ≡ seat_of (armed_box a.class a.timer.0 a.expires a.job a.arg a.line b p ∷ [])
      (armed_pass a.class a.timer.0 a.expires a.job a.arg a.line b p ∷ [])
  armed_me zero told =
      on_pair_of (armed_box a.class a.timer.0 a.expires a.job a.arg a.line)
      (armed_pass a.class a.timer.0 a.expires a.job a.arg a.line) v w b p seat
      (subst Tells (ap (λ n. n == 0) zero) told)

  -- where it was queued
  pub missed_me : found ≢ 0 → Tells (found == 0)
      → (w ≡ seat_of (b ∷ []) (seen_pass word found p ∷ [])) × NamesCpu (p ∷ []) found
  missed_me there told =
      let t : Tells false = subst Tells (ne_eqb found 0 there) told in (
        t.0 ∙ ap (on_pass (seen_pass word found)) seat,
        subst (λ (ps : List PassView). NamesCpu ps found) (ap (λ (z : Me). z.0.passes) seat) t.1,
      )

-- the first box of a sound seat is consistent
pub consistent_of : (w : Me) (b : BoxView) (p : PassView) → w ≡ seat_of (b ∷ []) (p ∷ [])
    → Sound w → IsConsistent b.own.bases
consistent_of w b p is sound =
    let s : Sound (seat_of (b ∷ []) (p ∷ [])) = subst Sound is sound in
    s.0.0.consistent
