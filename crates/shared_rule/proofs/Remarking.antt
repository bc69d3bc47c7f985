-- for crates above: a step of a CPU with any pass, that leaves groups and timers
use Rattle.std.proofs.Common.{◌≡◌, ◌≢◌, ◌↔◌, ℕ, ◌+◌, ◌^◌, ◌<◌, ◌≤◌}
use Rattle.std.proofs.Common.{false, [], ◌∷◌}
use Rattle.std.proofs.Common.{length}
use Rattle.std.proofs.Common.{Some, refl, sym, ap, ◌∙◌, subst, inl, inr, arith}
use Rattle.std.specs.Prelude.{Contains, slice_get}
use Rattle.std.proofs.lemmas.Bool.{cases_eq}
use Rattle.walk_rules.specs.declared.walk.Walk.{Walk}
use Rattle.walk_rules.specs.declared.walk.WalkKind.TheVariants as kinds
use Rattle.core_world.specs.declared.step.Step.{Step}
use Rattle.core_world.specs.Enabled.{Enabled}
use Rattle.core_world.specs.Steps.{stepped}
use Rattle.core_world.specs.World.{World, CpuRecord, cpu_of, group_of, is_reading, own}
use Rattle.core_world.proofs.Moves.{cpu_same, cpu_else}
use Rattle.core_state.specs.core_facts.Reach.{reach_of}
use Rattle.shared_rule.specs.declared.parts.Did.{Did}
use Rattle.shared_rule.specs.declared.parts.Looked.{Looked}
use Rattle.shared_rule.specs.declared.parts.PassView.{PassView}
use Rattle.shared_rule.specs.CoreLaws.{CoreLaws}
use Rattle.shared_rule.specs.Whole.{Whole, box_as, box_of, cpu_at, leaf_of, own_word}
use Rattle.shared_rule.specs.Shows.{DidRight, FlagsOf, IsShown, owes, reevaluates}
use Rattle.shared_rule.specs.Shows.{set_at}
use Rattle.shared_rule.specs.Rule.{Goes, Me, seat_of}
use Rattle.shared_rule.proofs.Sums.{sum_swap}
use Rattle.shared_rule.proofs.Moving.{own_leaf, pass_field, set_else, set_here}
use Rattle.shared_rule.proofs.Made.{IsPlain, made}
use Rattle.shared_rule.proofs.Slotting.{none_read}

-- what such a step has to show, by which CPU c becomes y, and pass p becomes q
pub record Remarked (o : World) (s : Whole) (c : ℕ) (y : CpuRecord) (p q : PassView)
    (looked : Looked) (f : ℕ → ℕ) (then : ℕ → Me → Type 0) : Type 0 where
  pub step : Step
  pub enabled : Enabled s.world step
  pub is : stepped s.world step ≡ own s.world c y
  pub plain : IsPlain (reach_of step)
  pub in_range : c < length o.cpus
  pub brought : p ≡ s.pass p.cpu
  pub runner : p.cpu < length o.cpus
  -- the CPU's walk, and what else its pass says of it
  pub staying : (k : Walk) → y.walk ≡ Some k → k.kind ≢ kinds.Offline
  pub reads : (k : Walk) → y.walk ≡ Some k → is_reading k.stage ≡ false
  pub still_idle : y.idle ≡ (cpu_of s.world c).idle
  pub still_inside : y.inside ≡ (cpu_of s.world c).inside
  pub still_wakes : y.wakeup ≡ (cpu_of s.world c).wakeup
  pub still_reeval : reevaluates y.walk ≡ reevaluates (cpu_of s.world c).walk
  pub owed : (m : ℕ) → owes o.tree m c y.walk + p.walks
      ≤ owes o.tree m c (cpu_of s.world c).walk + q.walks
  pub few : q.walks < 2 ^ 32
  pub opening : q.opening ≡ p.opening
  pub cpu : q.cpu ≡ p.cpu
  pub receipts : q.receipts ≡ p.receipts
  pub idle : q.idle ≡ p.idle
  pub inside : q.inside ≡ p.inside
  pub reeval : q.reeval ≡ p.reeval
  pub wakeup : q.wakeup ≡ p.wakeup
  pub journal : q.journal ≡ p.journal
  pub did : (i : ℕ) (z : Did) → slice_get q.did i ≡ Some z → DidRight o s.world p.receipts z
  pub mine : (y.mark ≡ Some p.cpu) ↔ Contains q.marks c
  pub other : (b : ℕ) → b ≢ p.cpu → (y.mark ≡ Some b) ↔ Contains (s.pass b).marks c
  pub others : (d : ℕ) → d ≢ c → Contains q.marks d ↔ Contains p.marks d
  pub word : own_word y ≡ f (own_word (cpu_of s.world c))
  pub told : then (own_word (cpu_of s.world c))
      (seat_of (box_as o c y (leaf_of s.world c) (s.read c) looked ∷ []) (q ∷ []))

module _ (law : CoreLaws) (o : World) (s : Whole) (h : IsShown o s) (c : ℕ) (y : CpuRecord)
    (p q : PassView) (looked : Looked) (f : ℕ → ℕ) (then : ℕ → Me → Type 0)
    (t : Remarked o s c y p q looked f then) where
  abbrev w : World
  w = s.world

  abbrev b : ℕ
  b = p.cpu

  abbrev pass : ℕ → PassView
  pass = set_at b q s.pass

  hw : c < length w.cpus
  hw = omega (arith, t.in_range, h.same.cpus)

  but : {X : Type 0} (g : PassView → X) → g q ≡ g p → (d : ℕ) → g (pass d) ≡ g (s.pass d)
  but g is d = pass_field g s.pass b q (is ∙ ap g t.brought) d

  flags : (d : ℕ) → FlagsOf (cpu_of w d) (pass d)
  flags d =
      let was = h.flags d in
      record {
        idle = but (λ z. z.idle) t.idle d ∙ was.idle;
        inside = but (λ z. z.inside) t.inside d ∙ was.inside;
        wakeup = but (λ z. z.wakeup) t.wakeup d ∙ was.wakeup;
        reeval = but (λ z. z.reeval) t.reeval d ∙ was.reeval;
      }

  -- marks of CPUs and those of passes, where either is the one of the step
  marked : (d i : ℕ) → ((cpu_of (own w c y) d).mark ≡ Some i) ↔ Contains (pass i).marks d
  marked d i = elim (cases_eq d c) [
    | inl is ↦
        subst (λ n. ((cpu_of (own w c y) n).mark ≡ Some i) ↔ Contains (pass i).marks n) (sym is)
        (subst (λ (z : CpuRecord). (z.mark ≡ Some i) ↔ Contains (pass i).marks c)
        (sym (cpu_same w 0 (group_of w 0) c y false hw)) (of_own i))
    | inr ne ↦
        subst (λ (z : CpuRecord). (z.mark ≡ Some i) ↔ Contains (pass i).marks d)
        (sym (cpu_else w 0 (group_of w 0) c y false d ne)) (of_other d ne i)
  ]
    where
      of_own : (i : ℕ) → (y.mark ≡ Some i) ↔ Contains (pass i).marks c
      of_own i = elim (cases_eq i b) [
        | inl is ↦
            subst (λ n. (y.mark ≡ Some n) ↔ Contains (pass n).marks c) (sym is)
            (subst (λ (z : PassView). (y.mark ≡ Some b) ↔ Contains z.marks c)
            (sym (set_here b q s.pass)) t.mine)
        | inr ne ↦
            subst (λ (z : PassView). (y.mark ≡ Some i) ↔ Contains z.marks c)
            (sym (set_else b q s.pass i ne)) (t.other i ne)
      ]

      of_other : (d : ℕ) → d ≢ c → (i : ℕ)
          → ((cpu_of w d).mark ≡ Some i) ↔ Contains (pass i).marks d
      of_other d ne i = elim (cases_eq i b) [
        | inl is ↦
            subst (λ n. ((cpu_of w d).mark ≡ Some n) ↔ Contains (pass n).marks d) (sym is)
            (subst (λ (z : PassView). ((cpu_of w d).mark ≡ Some b) ↔ Contains z.marks d)
            (sym (set_here b q s.pass))
            (let was = h.marked d b in
            let same = t.others d ne in
            let old = ap (λ (z : PassView). Contains z.marks d) t.brought in (
              (λ x. same.1 (subst (λ (z : Type 0). z) (sym old) (was.0 x))),
              (λ x. was.1 (subst (λ (z : Type 0). z) old (same.0 x))),
            )))
        | inr other ↦
            subst (λ (z : PassView). ((cpu_of w d).mark ≡ Some i) ↔ Contains z.marks d)
            (sym (set_else b q s.pass i other)) (h.marked d i)
      ]

  -- what each pass did is right
  all_right : (d i : ℕ) (z : Did) → slice_get (pass d).did i ≡ Some z
      → DidRight o w (s.pass d).receipts z
  all_right d i z at = elim (cases_eq d b) [
    | inl is ↦
        subst (λ n. DidRight o w (s.pass n).receipts z) (sym is)
        (subst (λ (x : PassView). DidRight o w x.receipts z) t.brought
        (t.did i z
        (ap (λ (x : PassView). slice_get x.did i) (sym (set_here b q s.pass))
        ∙ subst (λ n. slice_get (pass n).did i ≡ Some z) is at)))
    | inr ne ↦
        h.seen d i z
        (ap (λ (x : PassView). slice_get x.did i) (sym (set_else b q s.pass d ne)) ∙ at)
  ]

  pub remarks : Goes o s (box_of o s c) (p ∷ []) (cpu_at c) f (λ n. Some t.step) then
  remarks =
      made law o s h c 0 (group_of w 0) y false (s.read c) s.stray looked pass (p ∷ [])
      (q ∷ []) (cpu_at c) f then
      (record {
        step = t.step;
        enabled = t.enabled;
        is = t.is;
        plain = t.plain;
        in_range = t.in_range;
        group = inr refl;
        kept = λ z. (refl, refl);
        staying = t.staying;
        reads = none_read w.tree c y.walk (s.read c) _ _ t.reads;
        owed = λ i.
            let a = t.owed i in
            let sum = sum_swap (length o.cpus) b (λ d. (s.pass d).walks) (λ d. (pass d).walks)
            t.runner (λ d ne. ap (λ (x : PassView). x.walks) (set_else b q s.pass d ne)) in
            let before : (s.pass b).walks ≡ p.walks
            = ap (λ (x : PassView). x.walks) (sym t.brought) in
            let now : (pass b).walks ≡ q.walks
            = ap (λ (x : PassView). x.walks) (set_here b q s.pass) in
            omega (arith, a, sum, before, now);
        few = λ d. elim (cases_eq d b) [
          | inl e ↦
              subst (λ (x : PassView). x.walks < 2 ^ 32) (sym (ap pass e ∙ set_here b q s.pass))
              t.few
          | inr ne ↦
              subst (λ (x : PassView). x.walks < 2 ^ 32) (sym (set_else b q s.pass d ne)) (h.few d)
        ];
        opened = λ d. but (λ z. z.opening) t.opening d ∙ h.opened d;
        passes = λ d. but (λ z. z.cpu) t.cpu d ∙ h.passes d;
        flags =
            let was = flags c in
            record {
              idle = was.idle ∙ sym t.still_idle;
              inside = was.inside ∙ sym t.still_inside;
              wakeup = was.wakeup ∙ sym t.still_wakes;
              reeval = was.reeval ∙ sym t.still_reeval;
            };
        flags_else = λ d ne. flags d;
        marked = marked;
        journal = but (λ z. z.journal) t.journal;
        receipts = but (λ z. z.receipts) t.receipts;
        did = all_right;
        leaf = leaf_of w c;
        leaf_is = sym (own_leaf w c c y);
        leaves = λ d ne. own_leaf w c d y;
        word = ap own_word (cpu_same w 0 (group_of w 0) c y false hw) ∙ t.word;
        state = λ ne. refl;
        lock = λ ne. refl;
        slots = λ k low ne. refl;
        strays = λ j k ne. refl;
        cpu = λ ne. absurd (ne refl);
        same = λ i. t.cpu i ∷ [];
        brought = (sym (ap pass t.cpu ∙ set_here b q s.pass), tt);
        others = λ d ne. set_else b q s.pass d (λ e. ne.0 (sym e));
        told = t.told;
      })
