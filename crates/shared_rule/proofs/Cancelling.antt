-- for crates above: a timer is cancelled
use Rattle.std.proofs.Common.{◌≡◌, ℕ, ◌<◌, [], ◌∷◌, length, Some, None, refl, sym, ap}
use Rattle.std.proofs.Common.{◌∙◌, subst, arith}
use Rattle.tm_base.specs.declared.names.Class.{Class}
use Rattle.tm_base.specs.declared.names.CpuId.{CpuId}
use Rattle.cpu_bases.specs.declared.entry.Act.TheVariants as deeds
use Rattle.cpu_bases.specs.declared.entry.Entry.{Entry}
use Rattle.cpu_bases.specs.CpuBases.{CpuBases, after_cancel, base_of, cancelled, changed, class_in}
use Rattle.cpu_bases.specs.CpuBases.{entry_of, found_in}
use Rattle.cpu_bases.proofs.Keeping.{cancelled_gone}
use Rattle.wheel_core.specs.PlainBase.{removed}
use Rattle.core_world.specs.declared.step.Step.TheVariants as steps
use Rattle.core_world.specs.Steps.{with_bases}
use Rattle.core_world.specs.World.{World, cpu_of, own}
use Rattle.shared_rule.specs.declared.parts.BoxView.{BoxView}
use Rattle.shared_rule.specs.declared.parts.PassView.{PassView}
use Rattle.shared_rule.specs.CoreLaws.{CoreLaws}
use Rattle.shared_rule.specs.Whole.{Whole, box_of, quiet, timer_at}
use Rattle.shared_rule.specs.Shows.{IsShown}
use Rattle.shared_rule.specs.Rule.{Goes, seat_of}
use Rattle.shared_rule.specs.Timers.{cancel_noted, cancelled_box, cancelled_pass}
use Rattle.shared_rule.specs.Turns.{on_pair}
use Rattle.shared_rule.specs.TimerLaws.{CancelStays, queued_word, unqueued}
use Rattle.shared_rule.proofs.Going.{allows}
use Rattle.shared_rule.proofs.Outgoing.{outgoes}
use Rattle.shared_rule.proofs.Queues.{cancelled_else, found_there}
use Rattle.shared_rule.proofs.Waking.{none_shown}

cancel_goes : (law : CoreLaws) (o : World) (s : Whole) (c timer line : ℕ) (class : Class)
    (p : PassView) → IsShown o s → c < length o.cpus → p.cpu < length o.cpus → p ≡ s.pass p.cpu
    → (cpu_of s.world c).walk ≡ None → class_in timer (cpu_of s.world c).bases ≡ Some class
    → Goes o s (box_of o s c) (p ∷ []) (timer_at timer) (unqueued c class)
    (λ n. Some (steps.Cancel (record { 0 = c }) (record { 0 = timer }) (record { 0 = p.cpu }) line))
    (λ n v. (v
    ≡ on_pair (cancelled_box timer line) (cancelled_pass timer line)
    (seat_of (box_of o s c ∷ []) (p ∷ [])))
    × (n ≡ queued_word c class))
cancel_goes law o s c timer line class p h hc runner is free was =
    let w = s.world in
    let y0 = cpu_of w c in
    let by : CpuId = record { 0 = p.cpu } in
    let found = found_there (found_in timer y0.bases) class was in
    let item = found.0 in
    let e : Entry = entry_of deeds.Cancelled line o.clock class item by in
    let bases : CpuBases = changed class (removed item.id (base_of class y0.bases)) e y0.bases in
    let hw : c < length w.cpus = omega (arith, hc, h.same.cpus) in
    let hp : p.cpu < length w.cpus = omega (arith, runner, h.same.cpus) in
    let after : cancelled o.clock timer line by y0.bases ≡ bases
    = ap (λ m. after_cancel m o.clock line by y0.bases) found.1 in
    outgoes law o s h c timer class bases e p
    (λ n v. (v
    ≡ on_pair (cancelled_box timer line) (cancelled_pass timer line)
    (seat_of (box_of o s c ∷ []) (p ∷ [])))
    × (n ≡ queued_word c class))
    (record {
      step = steps.Cancel (record { 0 = c }) (record { 0 = timer }) by line;
      enabled = (
        record { is_free = record { in_range = hw; free = free }; queued = (class, was) },
        hp,
      );
      is =
          (λ i. own w c (with_bases y0 (cancelled (h.clock i) timer line by y0.bases)))
          ∙ (λ i. own w c (with_bases y0 (after i)));
      time = refl;
      online = refl;
      in_range = hc;
      brought = is;
      written = refl;
      entry = record { runner = runner; at = refl; by = refl; armed = λ z. absurd (not_armed z) };
      was = was;
      gone =
          ap (class_in timer) (sym after)
          ∙ cancelled_gone o.clock timer line by y0.bases (h.fits.lawful.timers.consistent c);
      rest = λ t ne.
          ap (class_in t) (sym after) ∙ cancelled_else o.clock timer line by y0.bases t ne;
      told = (
        λ i. seat_of
            (record (box_of o s c) { own = record (quiet y0) { bases = sym after i } } ∷ [])
            (cancel_noted line (sym found.1 i) (box_of o s c) p ∷ []),
        refl,
      );
    })
  where
    not_armed : deeds.Cancelled ≡ deeds.Armed → ⊥
    not_armed z = cc

pub cancels : (law : CoreLaws) (o : World) → CancelStays o
cancels law o slots id line class timer b p may =
    allows law o slots id b (p ∷ []) (timer_at timer.0) (unqueued b.cpu class)
    (λ n. Some (steps.Cancel (record { 0 = b.cpu }) timer (record { 0 = p.cpu }) line))
    (λ n v. (v
    ≡ on_pair (cancelled_box timer.0 line) (cancelled_pass timer.0 line)
    (seat_of (b ∷ []) (p ∷ [])))
    × (n ≡ queued_word b.cpu class)) may.known
    (λ s h hc is known fits.
    subst (λ (z : BoxView). Goes o s z (p ∷ []) (timer_at timer.0) (unqueued b.cpu class)
    (λ n. Some (steps.Cancel (record { 0 = b.cpu }) timer (record { 0 = p.cpu }) line))
    (λ n v. (v
    ≡ on_pair (cancelled_box timer.0 line) (cancelled_pass timer.0 line)
    (seat_of (z ∷ []) (p ∷ [])))
    × (n ≡ queued_word b.cpu class))) (sym is)
    (cancel_goes law o s b.cpu timer.0 line class p h hc known.0.0 known.0.1
    (none_shown _ (ap (λ (z : BoxView). z.own.walk) (sym is) ∙ may.free))
    (ap (λ (z : BoxView). class_in timer.0 z.own.bases) (sym is) ∙ may.queued)))
