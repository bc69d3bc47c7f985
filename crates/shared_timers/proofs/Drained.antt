-- what a seat with a box and a pass is told as a timer goes out, or as a base counts as drained
use Rattle.std.proofs.Common.{◌≡◌, ℕ, [], ◌∷◌, Option, Some, None, sym, ap, ◌∙◌}
use Rattle.tm_base.specs.declared.names.Class.{Class}
use Rattle.tm_base.specs.declared.names.TimerId.{TimerId}
use Rattle.wheel_core.specs.declared.item.Item.{Item}
use Rattle.wheel_core.specs.PlainBase.{next_out}
use Rattle.cpu_bases.specs.CpuBases.{base_of}
use Rattle.core_world.specs.World.{World}
use Rattle.shared_rule.specs.declared.parts.BoxView.{BoxView}
use Rattle.shared_rule.specs.declared.parts.PassView.{PassView}
use Rattle.shared_rule.specs.Rule.{Me, seat_of}
use Rattle.shared_rule.specs.Timers.{hand_noted, handed_box, handed_pass}
use Rattle.shared_rule.specs.Turns.{on_pair, ticked_box, ticked_pass}
use Rattle.shared_timers.specs.Draining.{drained_pass, out_noted}
use Rattle.shared_timers.specs.Exchanging.{MayTryHand, MayTryTick}

-- two changes of the pass that come to the same
told_so : (me w : Me) (f : BoxView → PassView → BoxView) (h k : BoxView → PassView → PassView)
    (b : BoxView) (p : PassView) → me ≡ seat_of (b ∷ []) (p ∷ []) → h b p ≡ k b p
    → w ≡ on_pair f h me → w ≡ on_pair f k me
told_so me w f h k b p seat same is =
    is
    ∙ (ap (on_pair f h) seat
    ∙ (ap (λ q. seat_of (f b p ∷ []) (q ∷ [])) same ∙ sym (ap (on_pair f k) seat)))

pub handed_told : (o : World) (me w : Me) (cpu : ℕ) (class : Class) (timer : TimerId)
    → MayTryHand o me cpu class timer → w ≡ on_pair (handed_box class) (handed_pass class) me
    → w ≡ on_pair (handed_box class) (drained_pass class) me
handed_told o me w cpu class timer may is =
    let b = may.box in
    let p = may.pass in
    let due : next_out b.opening.clock (base_of class b.own.bases) ≡ Some may.fits.0 =
    ap (λ (z : World). next_out z.clock (base_of class b.own.bases)) may.opening
    ∙ may.fits.2.due in
    told_so me w (handed_box class) (handed_pass class) (drained_pass class) b p may.seat
    (ap (λ (m : Option Item). hand_noted class m b p) due
    ∙ sym (ap (λ (m : Option Item). out_noted class m b p) due)) is

pub ticked_told : (o : World) (me w : Me) (cpu : ℕ) (class : Class) → MayTryTick o me cpu class
    → w ≡ on_pair (ticked_box class) (ticked_pass class) me
    → w ≡ on_pair (handed_box class) (drained_pass class) me
ticked_told o me w cpu class may is =
    let b = may.box in
    let p = may.pass in
    let none : next_out b.opening.clock (base_of class b.own.bases) ≡ None =
    ap (λ (z : World). next_out z.clock (base_of class b.own.bases)) may.opening
    ∙ may.fits.none_due in
    told_so me w (handed_box class) (ticked_pass class) (drained_pass class) b p may.seat
    (sym (ap (λ (m : Option Item). out_noted class m b p) none)) is
