-- for crates above: a step of a CPU with its own pass, that leaves groups, timers and marks
use Rattle.std.proofs.Common.{◌≡◌, ◌≢◌, ◌↔◌, ℕ, ◌+◌, ◌^◌, ◌<◌, ◌≤◌, true, false}
use Rattle.std.proofs.Common.{List, [], ◌∷◌, length, Option, Some, None, refl, sym, ap, ◌∙◌, subst}
use Rattle.std.proofs.Common.{inl, inr, arith}
use Rattle.std.specs.Prelude.{Contains, slice_get}
use Rattle.std.proofs.lemmas.Bool.{cases_eq}
use Rattle.std.proofs.lemmas.Option.{none-some}
use Rattle.walk_rules.specs.declared.walk.Walk.{Walk}
use Rattle.walk_rules.specs.declared.walk.WalkKind.TheVariants as kinds
use Rattle.core_world.specs.declared.step.Step.{Step}
use Rattle.core_world.specs.declared.step.Step.TheVariants as steps
use Rattle.core_world.specs.Enabled.{Enabled, MarksNobody}
use Rattle.core_world.specs.Steps.{stepped}
use Rattle.core_world.specs.World.{World, CpuRecord, cpu_of, group_of, is_reading, own}
use Rattle.core_world.proofs.Moves.{cpu_same}
use Rattle.core_world.proofs.Quiet.{own_field}
use Rattle.core_state.specs.core_facts.Reach.{reach_of}
use Rattle.shared_rule.specs.declared.parts.BoxView.{BoxView}
use Rattle.shared_rule.specs.declared.parts.Looked.{Looked}
use Rattle.shared_rule.specs.declared.parts.PassView.{PassView}
use Rattle.shared_rule.specs.CoreLaws.{CoreLaws}
use Rattle.shared_rule.specs.Whole.{Whole, box_as, box_of, cpu_at, leaf_of, own_word}
use Rattle.shared_rule.specs.Shows.{CoreStep}
use Rattle.shared_rule.specs.Shows.{FlagsOf, IsShown, owes, set_at}
use Rattle.shared_rule.specs.Rule.{Goes, Me, seat_of}
use Rattle.shared_rule.specs.Plays.{Sound, on_both}
use Rattle.shared_rule.specs.Turns.{entered, entered_box, entered_pass, outside, outside_box}
use Rattle.shared_rule.specs.Turns.{outside_pass}
use Rattle.shared_rule.specs.TurnLaws.{EnterStays, IsOwnTurn, LeaveStays}
use Rattle.shared_rule.proofs.Sums.{sum_swap}
use Rattle.shared_rule.proofs.Moving.{own_leaf, pass_field, set_else, set_here}
use Rattle.shared_rule.proofs.Made.{IsPlain, made}
use Rattle.shared_rule.proofs.Going.{allows}
use Rattle.shared_rule.proofs.Slotting.{none_read}
use Rattle.shared_rule.proofs.Waking.{none_shown}
use Rattle.shared_rule.specs.Laws.{Stays}

-- what such a step has to show, by which CPU c becomes y, and its pass p becomes q
pub record Turned (o : World) (s : Whole) (c : ℕ) (y : CpuRecord) (p q : PassView)
    (looked : Looked) (f : ℕ → ℕ) (then : ℕ → Me → Type 0) : Type 0 where
  pub step : Step
  pub enabled : Enabled s.world step
  pub is : stepped s.world step ≡ own s.world c y
  pub plain : IsPlain (reach_of step)
  pub in_range : c < length o.cpus
  pub brought : p ≡ s.pass p.cpu
  pub whose : p.cpu ≡ c
  pub staying : (k : Walk) → y.walk ≡ Some k → k.kind ≢ kinds.Offline
  pub reads : (k : Walk) → y.walk ≡ Some k → is_reading k.stage ≡ false
  pub mark : y.mark ≡ (cpu_of s.world c).mark
  pub owed : (m : ℕ) → owes o.tree m c y.walk + p.walks
      ≤ owes o.tree m c (cpu_of s.world c).walk + q.walks
  pub few : q.walks < 2 ^ 32
  pub opening : q.opening ≡ p.opening
  pub cpu : q.cpu ≡ p.cpu
  pub journal : q.journal ≡ p.journal
  pub receipts : q.receipts ≡ p.receipts
  pub did : q.did ≡ p.did
  pub marks : q.marks ≡ p.marks
  pub flags : FlagsOf y q
  pub word : own_word y ≡ f (own_word (cpu_of s.world c))
  pub told : then (own_word (cpu_of s.world c))
      (seat_of (box_as o c y (leaf_of s.world c) (s.read c) looked ∷ []) (q ∷ []))

module _ (law : CoreLaws) (o : World) (s : Whole) (h : IsShown o s) (c : ℕ) (y : CpuRecord)
    (p q : PassView) (looked : Looked) (f : ℕ → ℕ) (then : ℕ → Me → Type 0)
    (t : Turned o s c y p q looked f then) where
  here : p ≡ s.pass c
  here = t.brought ∙ ap s.pass t.whose

  -- a field that the new pass has of the old one
  but : {X : Type 0} (g : PassView → X) → g q ≡ g p → (d : ℕ)
      → g (set_at c q s.pass d) ≡ g (s.pass d)
  but g is d = pass_field g s.pass c q (is ∙ ap g here) d

  pub turns : Goes o s (box_of o s c) (p ∷ []) (cpu_at c) f (λ n. Some t.step) then
  turns =
      let w = s.world in
      let hw : c < length w.cpus = omega (arith, t.in_range, h.same.cpus) in
      made law o s h c 0 (group_of w 0) y false (s.read c) s.stray looked (set_at c q s.pass)
      (p ∷ []) (q ∷ []) (cpu_at c) f then
      (record {
        step = t.step;
        enabled = t.enabled;
        is = t.is;
        plain = t.plain;
        in_range = t.in_range;
        group = inr refl;
        kept = λ z. (refl, refl);
        staying = t.staying;
        reads = none_read w.tree c y.walk (s.read c) _ _ t.reads;
        owed = λ m.
            let a = t.owed m in
            let sum = sum_swap (length o.cpus) c (λ d. (s.pass d).walks)
            (λ d. (set_at c q s.pass d).walks) t.in_range
            (λ d ne. ap (λ (x : PassView). x.walks) (set_else c q s.pass d ne)) in
            let before : (s.pass c).walks ≡ p.walks = ap (λ (x : PassView). x.walks) (sym here) in
            let now : (set_at c q s.pass c).walks ≡ q.walks
            = ap (λ (x : PassView). x.walks) (set_here c q s.pass) in
            omega (arith, a, sum, before, now);
        few = λ d. elim (cases_eq d c) [
          | inl e ↦
              subst (λ (x : PassView). x.walks < 2 ^ 32)
              (sym (ap (set_at c q s.pass) e ∙ set_here c q s.pass)) t.few
          | inr ne ↦
              subst (λ (x : PassView). x.walks < 2 ^ 32) (sym (set_else c q s.pass d ne)) (h.few d)
        ];
        opened = λ d. but (λ z. z.opening) t.opening d ∙ h.opened d;
        passes = λ d. but (λ z. z.cpu) t.cpu d ∙ h.passes d;
        flags = subst (FlagsOf y) (sym (set_here c q s.pass)) t.flags;
        flags_else = λ d ne.
            subst (FlagsOf (cpu_of w d)) (sym (set_else c q s.pass d ne)) (h.flags d);
        marked = λ d m.
            subst (λ x. (x ≡ Some m) ↔ Contains (set_at c q s.pass m).marks d)
            (sym (own_field w c y hw (λ z. z.mark) t.mark d))
            (subst (λ l. ((cpu_of w d).mark ≡ Some m) ↔ Contains l d)
            (sym (but (λ z. z.marks) t.marks m)) (h.marked d m));
        journal = but (λ z. z.journal) t.journal;
        receipts = but (λ z. z.receipts) t.receipts;
        did = λ d i z at.
            h.seen d i z (ap (λ l. slice_get l i) (sym (but (λ x. x.did) t.did d)) ∙ at);
        leaf = leaf_of w c;
        leaf_is = sym (own_leaf w c c y);
        leaves = λ d ne. own_leaf w c d y;
        word = ap own_word (cpu_same w 0 (group_of w 0) c y false hw) ∙ t.word;
        state = λ ne. refl;
        lock = λ ne. refl;
        slots = λ k low ne. refl;
        strays = λ m k ne. refl;
        cpu = λ ne. absurd (ne refl);
        same = λ i. t.cpu i ∷ [];
        brought = (sym (ap (set_at c q s.pass) (t.cpu ∙ t.whose) ∙ set_here c q s.pass), tt);
        others = λ d ne. set_else c q s.pass d (λ e. ne.0 (t.whose ∙ sym e));
        told = t.told;
      })

-- what is known of a whole where a CPU makes a step of its own with its pass
pub record OwnTurn (o : World) (s : Whole) (b : BoxView) (p : PassView) : Type 0 where
  pub shown : IsShown o s
  pub in_range : b.cpu < length o.cpus
  pub box : b ≡ box_of o s b.cpu
  pub brought : p ≡ s.pass p.cpu
  pub whose : p.cpu ≡ b.cpu
  pub free : (cpu_of s.world b.cpu).walk ≡ None
  pub online : (cpu_of s.world b.cpu).online ≡ true
  pub flags : FlagsOf (cpu_of s.world b.cpu) p

-- the seat of such a CPU may step, where each such whole goes on
pub at_turn : (law : CoreLaws) (o : World) (slots id : ℕ) (b : BoxView) (p : PassView)
    (y : CpuRecord) (new : ℕ) (f : ℕ → ℕ) (by : CoreStep) (then : BoxView → ℕ → Me → Type 0)
    → IsOwnTurn o b p y new
    → ((s : Whole) → OwnTurn o s b p
    → Goes o s (box_of o s b.cpu) (p ∷ []) (cpu_at b.cpu) f (λ n. Some by)
    (then (box_of o s b.cpu)))
    → Stays o slots id b (p ∷ []) (cpu_at b.cpu) f (λ n. Some by) (λ n w. then b n w × Sound w)
at_turn law o slots id b p y new f by then may goes =
    allows law o slots id b (p ∷ []) (cpu_at b.cpu) f (λ n. Some by) (then b) may.cpu
    (λ s h hc is known fits.
    subst (λ (z : BoxView). Goes o s z (p ∷ []) (cpu_at b.cpu) f (λ n. Some by) (then z)) (sym is)
    (goes s
    (record {
      shown = h;
      in_range = hc;
      box = is;
      brought = known.0.1;
      whose = may.own;
      free = none_shown _ (ap (λ (z : BoxView). z.own.walk) (sym is) ∙ may.free);
      online = ap (λ (z : BoxView). z.own.online) (sym is) ∙ may.online;
      flags =
          subst (FlagsOf (cpu_of s.world b.cpu)) (sym (known.0.1 ∙ ap s.pass may.own))
          (h.flags b.cpu);
    })))

-- who has no walk makes no Offline one and reads nothing
no_walk : (m : Option Walk) → m ≡ None → (k : Walk) → m ≡ Some k → ⊥
no_walk m free k at = none-some k (sym free ∙ at)

-- a pass without marks: its CPU marks nobody
no_marks : (xs : List ℕ) → xs ≡ [] → (d : ℕ) → Contains xs d → ⊥
no_marks xs e d in_it = let z = ap length e in omega (arith, z, in_it.1)

pub marks_nobody : (o : World) (s : Whole) (b : BoxView) (p : PassView) → OwnTurn o s b p
    → p.marks ≡ [] → MarksNobody s.world b.cpu
marks_nobody o s b p q none d mark =
    no_marks (s.pass b.cpu).marks
    (ap (λ (z : PassView). z.marks) (sym (q.brought ∙ ap s.pass q.whose)) ∙ none) d
    ((q.shown.marked d b.cpu).0 mark)

pub enters : (law : CoreLaws) (o : World) → EnterStays o
enters law o slots id b p new may out =
    at_turn law o slots id b p (entered b.own) new (λ n. new) (steps.Enter (record { 0 = b.cpu }))
    (λ z n v. v ≡ on_both entered_box entered_pass (seat_of (z ∷ []) (p ∷ []))) may
    (λ s q.
    let c = b.cpu in
    let w = s.world in
    let h = q.shown in
    let y0 = cpu_of w c in
    turns law o s h c (entered y0) p (entered_pass b p) (s.looked c) (λ n. new)
    (λ n v. v ≡ on_both entered_box entered_pass (seat_of (box_of o s c ∷ []) (p ∷ [])))
    (record {
      step = steps.Enter (record { 0 = c });
      enabled = record {
        is_free = record { in_range = omega (arith, q.in_range, h.same.cpus); free = q.free };
        online = q.online;
        outside = ap (λ (z : BoxView). z.own.inside) (sym q.box) ∙ out;
      };
      is = refl;
      plain = record { time = refl; queues = refl; journals = refl; online = refl };
      in_range = q.in_range;
      brought = q.brought;
      whose = q.whose;
      staying = λ k at. absurd (no_walk y0.walk q.free k at);
      reads = λ k at. absurd (no_walk y0.walk q.free k at);
      mark = refl;
      owed = λ m. omega arith;
      few = subst (λ (z : PassView). z.walks < 2 ^ 32) (sym q.brought) (h.few p.cpu);
      opening = refl;
      cpu = refl;
      journal = refl;
      receipts = refl;
      did = refl;
      marks = refl;
      flags = record {
        idle = q.flags.idle;
        inside = refl;
        wakeup = q.flags.wakeup;
        reeval = q.flags.reeval;
      };
      word = sym (may.word ∙ ap (λ (z : BoxView). own_word (entered z.own)) q.box);
      told = refl;
    }))

pub leaves : (law : CoreLaws) (o : World) → LeaveStays o
leaves law o slots id b p new may at_end =
    at_turn law o slots id b p (outside b.own) new (λ n. new) (steps.Leave (record { 0 = b.cpu }))
    (λ z n v. v ≡ on_both outside_box outside_pass (seat_of (z ∷ []) (p ∷ []))) may
    (λ s q.
    let c = b.cpu in
    let w = s.world in
    let h = q.shown in
    let y0 = cpu_of w c in
    turns law o s h c (outside y0) p (outside_pass b p) (s.looked c) (λ n. new)
    (λ n v. v ≡ on_both outside_box outside_pass (seat_of (box_of o s c ∷ []) (p ∷ [])))
    (record {
      step = steps.Leave (record { 0 = c });
      enabled = record {
        is_free = record { in_range = omega (arith, q.in_range, h.same.cpus); free = q.free };
        inside = ap (λ (z : BoxView). z.own.inside) (sym q.box) ∙ at_end.inside;
        busy = ap (λ (z : BoxView). z.own.idle) (sym q.box) ∙ at_end.busy;
        marks_nobody = marks_nobody o s b p q at_end.marks_nobody;
      };
      is = refl;
      plain = record { time = refl; queues = refl; journals = refl; online = refl };
      in_range = q.in_range;
      brought = q.brought;
      whose = q.whose;
      staying = λ k at. absurd (no_walk y0.walk q.free k at);
      reads = λ k at. absurd (no_walk y0.walk q.free k at);
      mark = refl;
      owed = λ m. omega arith;
      few = subst (λ (z : PassView). z.walks < 2 ^ 32) (sym q.brought) (h.few p.cpu);
      opening = refl;
      cpu = refl;
      journal = refl;
      receipts = refl;
      did = refl;
      marks = refl;
      flags = record {
        idle = q.flags.idle;
        inside = refl;
        wakeup = q.flags.wakeup;
        reeval = q.flags.reeval;
      };
      word = sym (may.word ∙ ap (λ (z : BoxView). own_word (outside z.own)) q.box);
      told = refl;
    }))
