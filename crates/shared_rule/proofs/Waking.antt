-- for crates above: a CPU wakes, and its activation begins
use Rattle.std.proofs.Common.{◌≡◌, ◌↔◌, ℕ, suc, ◌^◌, ◌<◌, Bool, true, false, true≢false, [], ◌∷◌}
use Rattle.std.proofs.Common.{length, Option, Some, None, refl, sym, ap, ◌∙◌, subst, inl, inr}
use Rattle.std.proofs.Common.{arith}
use Rattle.std.specs.Prelude.{option_map, Contains, is_some, slice_get}
use Rattle.std.proofs.lemmas.Bool.{cases_eq}
use Rattle.std.proofs.lemmas.Option.{none-some, same_Some}
use Rattle.tm_base.specs.declared.names.TheConstants.{NEVER}
use Rattle.cpu_bases.specs.CpuBases.{events_of}
use Rattle.tree_plan.specs.Paths.{group_at_of}
use Rattle.walk_rules.specs.declared.walk.Walk.{Walk}
use Rattle.walk_rules.specs.declared.walk.WalkKind.{WalkKind}
use Rattle.walk_rules.specs.declared.walk.WalkKind.TheVariants as kinds
use Rattle.walk_rules.specs.declared.walk.Stage.TheVariants as stages
use Rattle.walk_rules.specs.Stages.{forget}
use Rattle.core_world.specs.declared.step.Step.TheVariants as steps
use Rattle.walk_rules.specs.Stages.{begun_where}
use Rattle.core_world.specs.World.{World, CpuRecord, cpu_of, group_of, is_reading}
use Rattle.core_world.proofs.Moves.{cpu_same}
use Rattle.core_world.proofs.Quiet.{own_field}
use Rattle.shared_rule.specs.declared.parts.BoxView.{BoxView}
use Rattle.shared_rule.specs.declared.parts.PassView.{PassView}
use Rattle.shared_rule.specs.CoreLaws.{CoreLaws}
use Rattle.shared_rule.specs.Whole.{cpu_at, Whole, box_of, no_looks, quiet, own_word, leaf_of}
use Rattle.shared_rule.specs.Shows.{IsShown, FlagsOf, reevaluates, owes, set_at}
use Rattle.shared_rule.specs.Rule.{seat_of, Goes}
use Rattle.shared_rule.specs.Plays.{on_both, woken, woken_box, woken_pass}
use Rattle.shared_rule.specs.Laws.{WakeStays}
use Rattle.shared_rule.proofs.Sums.{sum_swap}
use Rattle.shared_rule.proofs.Owing.{owes_one}
use Rattle.shared_rule.proofs.Moving.{own_leaf, pass_field, set_here, set_else}
use Rattle.shared_rule.proofs.Made.{made}
use Rattle.shared_rule.proofs.Going.{allows}

pub none_shown : (m : Option Walk) → option_map forget m ≡ None → m ≡ None
none_shown None e = refl
none_shown (Some k) e = absurd (none-some (forget k) (sym e))

module _ (pin next : ℕ) where
  abbrev begun : Bool → Option Walk
  begun b = begun_where b kinds.Activate stages.Own pin next

  forget_begun : (b : Bool) → option_map forget (begun b) ≡ begun b
  forget_begun true = refl
  forget_begun false = refl

  begun_is : (b : Bool) (k : Walk) → begun b ≡ Some k → (k.kind ≡ kinds.Activate)
      × (k.stage ≡ stages.Own)
  begun_is true k e = let s = same_Some _ _ e in (
    ap (λ (z : Walk). z.kind) (sym s),
    ap
        (λ (z : Walk). z.stage) (sym s),
  )
  begun_is false k e = absurd (none-some k e)

  no_reeval : (b : Bool) → false ≡ reevaluates (begun b)
  no_reeval true = refl
  no_reeval false = refl

abbrev pub is_offline : WalkKind → Bool
is_offline kinds.Activate = false
is_offline kinds.Deactivate = false
is_offline kinds.Offline = true
is_offline kinds.Reeval = false
is_offline (kinds.Remote by) = false

wake_goes : (law : CoreLaws) (o : World) (s : Whole) (c : ℕ) (p : PassView) (new : ℕ)
    → IsShown o s → c < length o.cpus → p ≡ s.pass p.cpu → p.cpu ≡ c
    → (cpu_of s.world c).walk ≡ None → (cpu_of s.world c).online ≡ true
    → (cpu_of s.world c).idle ≡ true → suc p.walks < 2 ^ 32
    → new ≡ own_word (woken o c (quiet (cpu_of s.world c)))
    → Goes o s (box_of o s c) (p ∷ []) (cpu_at c) (λ n. new)
    (λ n. Some (steps.Wake (record { 0 = c })))
    (λ n w. w ≡ on_both woken_box woken_pass (seat_of (box_of o s c ∷ []) (p ∷ [])))
wake_goes law o s c p new h hc is mine free online idle few new_is =
    let w = s.world in
    let y0 = cpu_of w c in
    let y : CpuRecord = woken w c y0 in
    let q = woken_pass (box_of o s c) p in
    let here : p ≡ s.pass c = is ∙ ap s.pass mine in
    let pin = (events_of y0.bases).pin in
    let nxt = (events_of y0.bases).next in
    let b = is_some (group_at_of w.tree c 0) in
    let hw : c < length w.cpus = omega (arith, hc, h.same.cpus) in
    made law o s h c 0 (group_of w 0) y false (s.read c) s.stray no_looks (set_at c q s.pass) (p ∷ [])
    (q ∷ [])
    (cpu_at c) _ _ (record {
      step = steps.Wake (record { 0 = c });
      enabled = record {
        is_free = record { in_range = hw; free = free };
        online = online;
        idle = idle;
      };
      is = refl;
      plain = record { time = refl; queues = refl; journals = refl; online = refl };
      in_range = hc;
      group = inr refl;
      kept = λ z. (refl, refl);
      staying = λ k at z. true≢false (sym (ap is_offline (sym (begun_is pin nxt b k at).0 ∙ z)));
      reads = record {
        fresh = λ k m at rd here. absurd (true≢false (sym rd
            ∙ ap is_reading (begun_is pin nxt b k at).1));
        before = λ k m at rd here. absurd (true≢false (sym rd
            ∙ ap is_reading (begun_is pin nxt b k at).1));
        good = λ k at rd. absurd (true≢false (sym rd ∙ ap is_reading (begun_is pin nxt b k at).1));
      };
      owed = λ m.
          let a = owes_one o.tree m c y.walk in
          let z : owes o.tree m c y0.walk ≡ 0 = ap (owes o.tree m c) free in
          let sum = sum_swap (length o.cpus) c (λ d. (s.pass d).walks)
          (λ d. (set_at c q s.pass d).walks) hc
          (λ d ne. ap (λ (x : PassView). x.walks) (set_else c q s.pass d ne)) in
          let before : (s.pass c).walks ≡ p.walks = ap (λ (x : PassView). x.walks) (sym here) in
          let now : (set_at c q s.pass c).walks ≡ suc p.walks = ap (λ (x : PassView). x.walks)
          (set_here c q s.pass) in
          omega (arith, a, z, sum, before, now);
      few = λ d. elim (cases_eq d c) [
        | inl e ↦ subst (λ (x : PassView). x.walks < 2 ^ 32)
            (sym (ap (set_at c q s.pass) e ∙ set_here c q s.pass)) few
        | inr ne ↦ subst (λ (x : PassView). x.walks < 2 ^ 32) (sym (set_else c q s.pass d ne))
            (h.few d)
      ];
      opened = λ d. pass_field (λ (x : PassView). x.opening) s.pass c q
          (ap (λ (x : PassView). x.opening) here) d ∙ h.opened d;
      passes = λ d. pass_field (λ (x : PassView). x.cpu) s.pass c q
          (ap (λ (x : PassView). x.cpu) here) d ∙ h.passes d;
      flags = subst (FlagsOf y) (sym (set_here c q s.pass))
          (record {
            idle = refl;
            inside = ap (λ (x : PassView). x.inside) here
                ∙ (h.flags c).inside;
            wakeup = refl;
            reeval = no_reeval pin nxt b;
          });
      flags_else = λ d ne. subst (FlagsOf (cpu_of w d)) (sym (set_else c q s.pass d ne))
          (h.flags d);
      marked = λ d m. subst (λ x. (x ≡ Some m) ↔ Contains (set_at c q s.pass m).marks d)
          (sym (own_field w c y hw (λ z. z.mark) refl d))
          (subst (λ l. ((cpu_of w d).mark ≡ Some m) ↔ Contains l d)
          (sym (pass_field (λ (x : PassView). x.marks) s.pass c q
          (ap (λ (x : PassView). x.marks) here) m)) (h.marked d m));
      journal = pass_field (λ (x : PassView). x.journal) s.pass c q
          (ap (λ (x : PassView). x.journal) here);
      receipts = pass_field (λ (x : PassView). x.receipts) s.pass c q
          (ap (λ (x : PassView). x.receipts) here);
      did = λ d i z at. h.seen d i z (ap (λ l. slice_get l i)
          (sym (pass_field (λ (x : PassView). x.did) s.pass c q
          (ap (λ (x : PassView). x.did) here) d)) ∙ at);
      leaf = leaf_of w c;
      leaf_is = sym (own_leaf w c c y);
      leaves = λ d ne. own_leaf w c d y;
      word = ap own_word (cpu_same w 0 (group_of w 0) c y false hw) ∙ sym new_is;
      state = λ ne. refl;
      lock = λ ne. refl;
      slots = λ k low ne. refl;
      strays = λ m k ne. refl;
      cpu = λ ne. absurd (ne refl);
      same = refl;
      brought = (sym (ap (set_at c q s.pass) mine ∙ set_here c q s.pass), tt);
      others = λ d ne. set_else c q s.pass d (λ e. ne.0 (mine ∙ sym e));
      told = (λ i. (seat_of (record {
        opening = o;
        cpu = c;
        own = record y0 { idle = false; wakeup = NEVER; walk = forget_begun pin nxt b i };
        leaf = leaf_of w c;
        read = s.read c;
        looked = no_looks;
      } ∷ []) (q ∷ [])))
          ∙ (λ i. (seat_of (record {
            opening = o;
            cpu = c;
            own = record y0 {
              idle = false;
              wakeup = NEVER;
              walk = begun pin nxt
                  (is_some (group_at_of (h.same.tree i) c 0));
            };
            leaf = leaf_of w c;
            read = s.read c;
            looked = no_looks;
          } ∷ []) (q ∷ [])));
    })

pub wakes : (law : CoreLaws) (o : World) → WakeStays o
wakes law o slots id b p new may =
    allows law o slots id b (p ∷ []) (cpu_at b.cpu) (λ n. new)
    (λ n. Some (steps.Wake (record { 0 = b.cpu })))
    (λ n v. v ≡ on_both woken_box woken_pass (seat_of (b ∷ []) (p ∷ []))) may.cpu
    (λ s h low is known fits.
    subst (λ (z : BoxView). Goes o s z (p ∷ []) (cpu_at b.cpu) (λ n. new)
    (λ n. Some (steps.Wake (record { 0 = b.cpu })))
    (λ n v. v ≡ on_both woken_box woken_pass (seat_of (z ∷ []) (p ∷ [])))) (sym is)
    (wake_goes law o s b.cpu p new h low known.0.1 may.own
    (none_shown _ (ap (λ (z : BoxView). z.own.walk) (sym is) ∙ may.free))
    (ap (λ (z : BoxView). z.own.online) (sym is) ∙ may.online)
    (ap (λ (z : BoxView). z.own.idle) (sym is) ∙ may.idle) may.left
    (may.word ∙ ap (λ (z : BoxView). own_word (woken o b.cpu z.own)) is)))
