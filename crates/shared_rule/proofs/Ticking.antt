-- for crates above: a base of a CPU counts as drained
use Rattle.std.proofs.Common.{◌≡◌, ℕ, ◌<◌, [], ◌∷◌, length}
use Rattle.std.proofs.Common.{None, Some, refl, sym, ap, ◌∙◌, subst, inl, inr, arith}
use Rattle.std.proofs.lemmas.Bool.{cases_eq}
use Rattle.tm_base.specs.declared.names.CpuId.{CpuId}
use Rattle.tm_base.specs.declared.names.Class.{Class}
use Rattle.cpu_bases.specs.declared.entry.Act.TheVariants as deeds
use Rattle.cpu_bases.specs.declared.entry.Entry.{Entry}
use Rattle.cpu_bases.specs.CpuBases.{CpuBases, after_hand_out, base_of, class_in, handed_out}
use Rattle.cpu_bases.specs.CpuBases.{ticked_entry, written}
use Rattle.wheel_core.specs.PlainBase.{next_out}
use Rattle.core_world.specs.declared.step.Step.TheVariants as steps
use Rattle.core_world.specs.Enabled.{MayRun}
use Rattle.core_world.specs.Steps.{with_bases}
use Rattle.core_world.specs.World.{World, cpu_of, own}
use Rattle.core_world.proofs.Quiet.{own_field}
use Rattle.shared_rule.specs.declared.parts.BoxView.{BoxView}
use Rattle.shared_rule.specs.declared.parts.PassView.{PassView}
use Rattle.shared_rule.specs.CoreLaws.{CoreLaws}
use Rattle.shared_rule.specs.Whole.{Whole, box_of, cpu_at, own_word, quiet}
use Rattle.shared_rule.specs.Shows.{IsShown}
use Rattle.shared_rule.specs.Rule.{Goes, seat_of}
use Rattle.shared_rule.specs.Turns.{MayRunOf, on_pair, ticked_box, ticked_pass}
use Rattle.shared_rule.specs.TurnLaws.{TickStays}
use Rattle.shared_rule.proofs.Acted.{acts}
use Rattle.shared_rule.proofs.Going.{allows}
use Rattle.shared_rule.proofs.Waking.{none_shown}

tick_goes : (law : CoreLaws) (o : World) (s : Whole) (c : ℕ) (class : Class) (p : PassView)
    → IsShown o s → c < length o.cpus → p.cpu < length o.cpus → p ≡ s.pass p.cpu
    → (cpu_of s.world c).walk ≡ None
    → next_out o.clock (base_of class (cpu_of s.world c).bases) ≡ None
    → MayRun s.world c class p.cpu
    → Goes o s (box_of o s c) (p ∷ []) (cpu_at c) (λ n. n)
    (λ n. Some (steps.Ticked (record { 0 = c }) class (record { 0 = p.cpu })))
    (λ n v. v
    ≡ on_pair (ticked_box class) (ticked_pass class) (seat_of (box_of o s c ∷ []) (p ∷ [])))
tick_goes law o s c class p h hc runner is free none may =
    let w = s.world in
    let y0 = cpu_of w c in
    let by : CpuId = record { 0 = p.cpu } in
    let e : Entry = ticked_entry o.clock class by in
    let bases : CpuBases = written e y0.bases in
    let hw : c < length w.cpus = omega (arith, hc, h.same.cpus) in
    let drained : handed_out o.clock class by y0.bases ≡ bases
    = ap (λ m. after_hand_out m o.clock class by y0.bases) none in
    acts law o s h c p.cpu bases e s.spot p (cpu_at c) (λ n. n)
    (λ n v. v
    ≡ on_pair (ticked_box class) (ticked_pass class) (seat_of (box_of o s c ∷ []) (p ∷ [])))
    (record {
      step = steps.Ticked (record { 0 = c }) class by;
      enabled = record {
        is_free = record { in_range = hw; free = free };
        none_due = ap (λ z. next_out z (base_of class y0.bases)) h.clock ∙ none;
        may_run = may;
      };
      is =
          (λ i. own w c (with_bases y0 (handed_out (h.clock i) class by y0.bases)))
          ∙ (λ i. own w c (with_bases y0 (drained i)));
      time = refl;
      online = refl;
      in_range = hc;
      brought = is;
      whose = refl;
      written = refl;
      entry = record { runner = runner; at = refl; by = refl; armed = λ z. absurd (not_armed z) };
      named = λ t z at. h.named t c z at;
      named_else = λ t d z ne at. h.named t d z at;
      queued = λ t z at. elim (cases_eq z.cpu.0 c) [
        | inl own_cpu ↦
            inl (
              own_cpu,
              ap (λ d. class_in t (cpu_of w d).bases) (sym own_cpu) ∙ (h.queued t z at).1,
            )
        | inr ne ↦ inr (ne, at)
      ];
      left = λ t off was. was;
      word = own_field w c (record y0 { bases = bases }) hw own_word refl c;
      timers = λ t ne. refl;
      told = λ i. seat_of (record (box_of o s c) {
        own = record (quiet y0) { bases = sym drained i };
      } ∷ []) (ticked_pass class (box_of o s c) p ∷ []);
    })
  where
    not_armed : deeds.Ticked ≡ deeds.Armed → ⊥
    not_armed z = cc

pub ticks : (law : CoreLaws) (o : World) → TickStays o
ticks law o slots id class b p may =
    allows law o slots id b (p ∷ []) (cpu_at b.cpu) (λ n. n)
    (λ n. Some (steps.Ticked (record { 0 = b.cpu }) class (record { 0 = p.cpu })))
    (λ n v. v ≡ on_pair (ticked_box class) (ticked_pass class) (seat_of (b ∷ []) (p ∷ []))) may.cpu
    (λ s h hc is known fits.
    subst (λ (z : BoxView). Goes o s z (p ∷ []) (cpu_at b.cpu) (λ n. n)
    (λ n. Some (steps.Ticked (record { 0 = b.cpu }) class (record { 0 = p.cpu })))
    (λ n v. v
    ≡ on_pair (ticked_box class) (ticked_pass class) (seat_of (z ∷ []) (p ∷ [])))) (sym is)
    (tick_goes law o s b.cpu class p h hc known.0.0 known.0.1
    (none_shown _ (ap (λ (z : BoxView). z.own.walk) (sym is) ∙ may.free))
    (ap (λ (z : BoxView). next_out o.clock (base_of class z.own.bases)) (sym is) ∙ may.none_due)
    (subst (λ (z : BoxView). MayRunOf z class p) is may.may_run)))
