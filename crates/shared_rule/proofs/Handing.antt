-- for crates above: a timer goes out to be run
use Rattle.std.proofs.Common.{◌≡◌, ℕ, ◌-◌, ◌<◌, [], ◌∷◌, length, Some, None, refl}
use Rattle.std.proofs.Common.{sym, ap, ◌∙◌, subst, arith}
use Rattle.tm_base.specs.declared.names.Class.{Class}
use Rattle.tm_base.specs.declared.names.CpuId.{CpuId}
use Rattle.tm_base.specs.declared.names.TheConstants.{TIME_LIMIT}
use Rattle.wheel_core.specs.declared.item.Item.{Item}
use Rattle.wheel_core.specs.PlainBase.{after_out, next_out}
use Rattle.cpu_bases.specs.declared.entry.Act.TheVariants as deeds
use Rattle.cpu_bases.specs.declared.entry.Entry.{Entry}
use Rattle.cpu_bases.specs.CpuBases.{CpuBases, base_of, changed, entry_of, handed_out}
use Rattle.core_world.specs.declared.step.Step.TheVariants as steps
use Rattle.core_world.specs.Enabled.{MayRun}
use Rattle.core_world.specs.Steps.{handed_of, with_bases}
use Rattle.core_world.specs.World.{World, cpu_of, own}
use Rattle.shared_rule.specs.declared.parts.BoxView.{BoxView}
use Rattle.shared_rule.specs.declared.parts.PassView.{PassView}
use Rattle.shared_rule.specs.CoreLaws.{CoreLaws}
use Rattle.shared_rule.specs.Whole.{Whole, box_of, quiet, timer_at}
use Rattle.shared_rule.specs.Shows.{IsShown}
use Rattle.shared_rule.specs.Rule.{Goes, Me, seat_of}
use Rattle.shared_rule.specs.Timers.{hand_noted, handed_box, handed_pass}
use Rattle.shared_rule.specs.Turns.{MayRunOf, on_pair}
use Rattle.shared_rule.specs.TimerLaws.{HandStays, queued_word, unqueued}
use Rattle.shared_rule.proofs.Going.{allows}
use Rattle.shared_rule.proofs.Outgoing.{outgoes}
use Rattle.shared_rule.proofs.Queues.{handed_else, handed_gone, handed_is, handed_was}
use Rattle.shared_rule.proofs.Waking.{none_shown}

-- what the seat of a box and a pass is told
abbrev Told : Class → BoxView → PassView → ℕ → Me → Type 0
Told class b p n v =
    (v ≡ on_pair (handed_box class) (handed_pass class) (seat_of (b ∷ []) (p ∷ [])))
    × (n ≡ queued_word b.cpu class)

hand_goes : (law : CoreLaws) (o : World) (s : Whole) (c : ℕ) (class : Class) (item : Item)
    (p : PassView) → IsShown o s → c < length o.cpus → p.cpu < length o.cpus → p ≡ s.pass p.cpu
    → (cpu_of s.world c).walk ≡ None
    → next_out o.clock (base_of class (cpu_of s.world c).bases) ≡ Some item
    → MayRun s.world c class p.cpu
    → Goes o s (box_of o s c) (p ∷ []) (timer_at item.id) (unqueued c class)
    (λ n. Some (steps.Hand (record { 0 = c }) (record { 0 = item.id }) (record { 0 = p.cpu })))
    (Told class (box_of o s c) p)
hand_goes law o s c class item p h hc runner is free due may =
    let w = s.world in
    let y0 = cpu_of w c in
    let by : CpuId = record { 0 = p.cpu } in
    let e : Entry = entry_of deeds.Handed 0 o.clock class item by in
    let bases : CpuBases
    = changed class (after_out (base_of class y0.bases) (Some item)) e y0.bases in
    let consistent = h.fits.lawful.timers.consistent c in
    let in_time : o.clock < TIME_LIMIT - 1 = omega (arith, h.opening.in_time) in
    let was = handed_was o.clock class by y0.bases item due consistent in
    let after : handed_out o.clock class by y0.bases ≡ bases
    = handed_is o.clock class by y0.bases item due in
    let hw : c < length w.cpus = omega (arith, hc, h.same.cpus) in
    outgoes law o s h c item.id class bases e p (Told class (box_of o s c) p)
    (record {
      step = steps.Hand (record { 0 = c }) (record { 0 = item.id }) by;
      enabled = record {
        is_free = record { in_range = hw; free = free };
        class = class;
        item = item;
        queued = was;
        due = ap (λ z. next_out z (base_of class y0.bases)) h.clock ∙ due;
        timers = refl;
        may_run = may;
      };
      is =
          (λ i. own w c (with_bases y0 (handed_of (h.clock i) (was i) by y0.bases)))
          ∙ (λ i. own w c (with_bases y0 (after i)));
      time = refl;
      online = refl;
      in_range = hc;
      brought = is;
      written = refl;
      entry = record { runner = runner; at = refl; by = refl; armed = λ z. absurd (not_armed z) };
      was = was;
      gone = handed_gone o.clock class by y0.bases item due in_time consistent;
      rest = handed_else o.clock class by y0.bases item due;
      told = (
        λ i. seat_of
            (record (box_of o s c) { own = record (quiet y0) { bases = sym after i } } ∷ [])
            (hand_noted class (sym due i) (box_of o s c) p ∷ []),
        refl,
      );
    })
  where
    not_armed : deeds.Handed ≡ deeds.Armed → ⊥
    not_armed z = cc

pub hands : (law : CoreLaws) (o : World) → HandStays o
hands law o slots id class item b p may =
    allows law o slots id b (p ∷ []) (timer_at item.id) (unqueued b.cpu class)
    (λ n. Some (steps.Hand (record { 0 = b.cpu }) (record { 0 = item.id }) (record { 0 = p.cpu }))) (Told class b p)
    may.known
    (λ s h hc is known fits.
    subst (λ (z : BoxView). Goes o s z (p ∷ []) (timer_at item.id) (unqueued b.cpu class)
    (λ n. Some (steps.Hand (record { 0 = b.cpu }) (record { 0 = item.id }) (record { 0 = p.cpu })))
    (Told class z p)) (sym is)
    (hand_goes law o s b.cpu class item p h hc known.0.0 known.0.1
    (none_shown _ (ap (λ (z : BoxView). z.own.walk) (sym is) ∙ may.free))
    (ap (λ (z : BoxView). next_out o.clock (base_of class z.own.bases)) (sym is) ∙ may.due)
    (subst (λ (z : BoxView). MayRunOf z class p) is may.may_run)))
