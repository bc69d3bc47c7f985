-- for crates above: a pass sets and takes back the mark of a CPU
use Rattle.std.proofs.Common.{◌≡◌, ◌≢◌, ◌↔◌, ⊎_elim, ℕ, zero, suc, ◌^◌, ◌<◌, ◌≤◌, eqb}
use Rattle.std.proofs.Common.{cond}
use Rattle.std.proofs.Common.{Bool, true, false, true≢false, ne_eqb, eq-eqb, List, [], ◌∷◌, ◌++◌}
use Rattle.std.proofs.Common.{length}
use Rattle.std.proofs.Common.{Some, None, refl, sym, ap, ◌∙◌, subst, inl, inr, arith}
use Rattle.std.specs.Prelude.{Contains, not, slice_get}
use Rattle.std.specs.List.{filter}
use Rattle.std.proofs.lemmas.List.Elements.{All-contains, All-contains_itself, All-filter}
use Rattle.std.proofs.lemmas.List.Elements.{Contains-append_left, Contains-append_right}
use Rattle.std.proofs.lemmas.List.Elements.{Contains-push, Contains-push_cases, filter_passes}
use Rattle.std.proofs.lemmas.Option.{none-some, same_Some}
use Rattle.tree_plan.specs.Paths.{group_at_of, is_placed_in}
use Rattle.core_world.specs.declared.step.Step.TheVariants as steps
use Rattle.core_world.specs.World.{World, cpu_of}
use Rattle.shared_rule.specs.declared.parts.BoxView.{BoxView}
use Rattle.shared_rule.specs.declared.parts.Deed.{Deed}
use Rattle.shared_rule.specs.declared.parts.Deed.TheVariants as deeds
use Rattle.shared_rule.specs.declared.parts.Did.{Did}
use Rattle.shared_rule.specs.declared.parts.PassView.{PassView}
use Rattle.shared_rule.specs.declared.parts.Receipt.{Receipt}
use Rattle.shared_rule.specs.CoreLaws.{CoreLaws}
use Rattle.shared_rule.specs.Whole.{Whole, box_of, cpu_at, leaf_in, own_word}
use Rattle.shared_rule.specs.Shows.{DidRight, IsShown, is_reeval, reevaluates}
use Rattle.shared_rule.specs.Rule.{Goes, seat_of}
use Rattle.shared_rule.specs.Turns.{marks_without, on_pair, released, released_box, released_pass}
use Rattle.shared_rule.specs.Turns.{taken, taken_box, taken_pass}
use Rattle.shared_rule.specs.TurnLaws.{ReleaseStays, TakeStays}
use Rattle.shared_rule.proofs.Fronts.{get_snoc}
use Rattle.shared_rule.proofs.Going.{allows}
use Rattle.shared_rule.proofs.Waking.{none_shown}
use Rattle.shared_rule.proofs.Remarking.{remarks}

-- what a pass did with one deed more
pub more_did : (o w : World) (p : PassView) (deed : Did)
    → ((i : ℕ) (z : Did) → slice_get p.did i ≡ Some z → DidRight o w p.receipts z)
    → DidRight o w p.receipts deed → (i : ℕ) (z : Did)
    → slice_get (p.did ++ deed ∷ []) i ≡ Some z → DidRight o w p.receipts z
more_did o w p deed old right i z at =
    ⊎_elim (λ was. old i z was)
    (λ (u : (i ≡ length p.did) × (deed ≡ z)). subst (DidRight o w p.receipts) u.1 right)
    (get_snoc p.did deed i z at)

-- what a pass that is brought did is right
pub old_did : (o : World) (s : Whole) (p : PassView) → IsShown o s → p ≡ s.pass p.cpu → (i : ℕ)
    (z : Did) → slice_get p.did i ≡ Some z → DidRight o s.world p.receipts z
old_did o s p h is i z at =
    subst (λ (x : PassView). DidRight o s.world x.receipts z) (sym is)
    (h.seen p.cpu i z (ap (λ (x : PassView). slice_get x.did i) (sym is) ∙ at))

-- no such deed tells what was found
module _ (o w : World) (receipts : List Receipt) (deed : Deed)
    (other : (word found : ℕ) → deed ≡ deeds.Saw word found → ⊥) where
  pub unseen : DidRight o w receipts (record { held = length receipts; deed = deed })
  unseen = record {
    held = omega arith;
    named = λ found t p is low at. absurd (other _ _ is);
    armed = λ t i r is low early at act timer. absurd (other _ _ is);
    opening = λ t is low. absurd (other _ _ is);
  }

-- what passes a test stays in the list
kept : (test : ℕ → Bool) (xs : List ℕ) (x : ℕ) → Contains xs x → test x ≡ true
    → Contains (filter test xs) x
kept test [] x (k, low, e) passes = absurd (omega (arith, low))
kept test (z ∷ xs) x (zero, low, e) passes =
    subst (λ b. Contains (cond b (z ∷ filter test xs) (filter test xs)) x)
    (sym (ap test e ∙ passes)) (zero, omega arith, e)
kept test (z ∷ xs) x (suc k, low, e) passes =
    by_test (test z) (kept test xs x (k, omega (arith, low), e) passes)
  where
    by_test : (b : Bool) → Contains (filter test xs) x
        → Contains (cond b (z ∷ filter test xs) (filter test xs)) x
    by_test true r = Contains-append_right (z ∷ []) (filter test xs) x r
    by_test false r = r

-- the marks without that of c
module _ (c : ℕ) (ms : List ℕ) where
  abbrev test : ℕ → Bool
  test m = not (eqb m c)

  pub gone : Contains (marks_without c ms) c → ⊥
  gone x =
      let e : test c ≡ true
      = All-contains (λ m. test m ≡ true) (filter test ms) c (filter_passes test ms) x in
      true≢false (sym e ∙ ap not (eq-eqb c c refl))

  pub stay : (d : ℕ) → d ≢ c → Contains (marks_without c ms) d ↔ Contains ms d
  stay d ne = (
    (λ x. All-contains (Contains ms) (filter test ms) d
        (All-filter test (Contains ms) ms (All-contains_itself ms)) x),
    (λ x. kept test ms d x (ap not (ne_eqb d c ne))),
  )

pub takes : (law : CoreLaws) (o : World) → TakeStays o
takes law o slots id leaf e b p new may =
    allows law o slots id b (p ∷ []) (cpu_at b.cpu) (λ n. new)
    (λ n. Some (steps.Take (record { 0 = b.cpu }) (record { 0 = p.cpu })))
    (λ n v. v ≡ on_pair taken_box taken_pass (seat_of (b ∷ []) (p ∷ []))) may.cpu
    (λ s h hc is known fits.
    subst (λ (z : BoxView). Goes o s z (p ∷ []) (cpu_at b.cpu) (λ n. new)
    (λ n. Some (steps.Take (record { 0 = b.cpu }) (record { 0 = p.cpu })))
    (λ n v. v ≡ on_pair taken_box taken_pass (seat_of (z ∷ []) (p ∷ [])))) (sym is)
    (let c = b.cpu in
    let w = s.world in
    let y0 = cpu_of w c in
    let brought = known.0.1 in
    let by = h.flags p.cpu in
    let unmarked : y0.mark ≡ None = ap (λ (z : BoxView). z.own.mark) (sym is) ∙ may.unmarked in
    let free : y0.walk ≡ None = none_shown _ (ap (λ (z : BoxView). z.own.walk) (sym is)
    ∙ may.free) in
    let path : group_at_of w.tree c 0 ≡ Some leaf
    = ap (λ z. group_at_of z c 0) h.same.tree ∙ may.path in
    remarks law o s h c (taken p.cpu y0) p (taken_pass b p) (s.looked c) (λ n. new)
    (λ n v. v ≡ on_pair taken_box taken_pass (seat_of (box_of o s c ∷ []) (p ∷ [])))
    (record {
      step = steps.Take (record { 0 = c }) (record { 0 = p.cpu });
      enabled = record {
        by_in_range = omega (arith, known.0.0, h.same.cpus);
        by_placed = ap (λ z. is_placed_in z p.cpu) h.same.tree ∙ may.placed;
        by_inside =
            sym by.inside ∙ (ap (λ (z : PassView). z.inside) (sym brought) ∙ may.inside);
        by_goes_on = λ r.
            true≢false
            (sym (by.reeval ∙ (ap reevaluates r.walk ∙ ap is_reeval r.kind))
            ∙ (ap (λ (z : PassView). z.reeval) (sym brought) ∙ may.goes_on));
        is_free = record { in_range = omega (arith, hc, h.same.cpus); free = free };
        online = ap (λ (z : BoxView). z.own.online) (sym is) ∙ may.online;
        idle = ap (λ (z : BoxView). z.own.idle) (sym is) ∙ may.idle;
        unmarked = unmarked;
        due = record {
          leaf = leaf;
          event = e;
          path = path;
          there =
              sym (ap (leaf_in w c) path) ∙ (ap (λ (z : BoxView). z.leaf) (sym is) ∙ may.there);
          counts = may.counts;
          come = subst (λ z. e.expiry ≤ z) (sym h.clock) may.come;
        };
      };
      is = refl;
      plain = record { time = refl; queues = refl; journals = refl; online = refl };
      in_range = hc;
      brought = brought;
      runner = known.0.0;
      staying = λ k at. absurd (none-some k (sym free ∙ at));
      reads = λ k at. absurd (none-some k (sym free ∙ at));
      still_idle = refl;
      still_inside = refl;
      still_wakes = refl;
      still_reeval = refl;
      owed = λ i. omega arith;
      few = subst (λ (z : PassView). z.walks < 2 ^ 32) (sym known.0.1) (h.few p.cpu);
      opening = refl;
      cpu = refl;
      receipts = refl;
      idle = refl;
      inside = refl;
      reeval = refl;
      wakeup = refl;
      journal = refl;
      did = more_did o w p (record { held = length p.receipts; deed = deeds.Took c })
          (old_did o s p h known.0.1) (unseen o w p.receipts (deeds.Took c) (not_saw c));
      mine = ((λ x. Contains-push p.marks c), (λ x. refl));
      other = λ i ne. (
        (λ x. absurd (ne (sym (same_Some _ _ x)))),
        (λ x. absurd (none-some i (sym unmarked ∙ (h.marked c i).1 x))),
      );
      others = λ d ne. (
        (λ x. ⊎_elim (λ z. z) (λ z. absurd (ne (sym z))) (Contains-push_cases p.marks c d x)),
        (λ x. Contains-append_left p.marks (c ∷ []) d x),
      );
      word = sym (may.word ∙ ap (λ (z : BoxView). own_word (taken p.cpu z.own)) is);
      told = refl;
    })))
  where
    not_saw : (c word found : ℕ) → deeds.Took c ≡ deeds.Saw word found → ⊥
    not_saw c word found z = cc

pub releases : (law : CoreLaws) (o : World) → ReleaseStays o
releases law o slots id b p new may =
    allows law o slots id b (p ∷ []) (cpu_at b.cpu) (λ n. new)
    (λ n. Some (steps.Release (record { 0 = b.cpu })))
    (λ n v. v ≡ on_pair released_box released_pass (seat_of (b ∷ []) (p ∷ []))) may.cpu
    (λ s h hc is known fits.
    subst (λ (z : BoxView). Goes o s z (p ∷ []) (cpu_at b.cpu) (λ n. new)
    (λ n. Some (steps.Release (record { 0 = b.cpu })))
    (λ n v. v ≡ on_pair released_box released_pass (seat_of (z ∷ []) (p ∷ [])))) (sym is)
    (let c = b.cpu in
    let w = s.world in
    let y0 = cpu_of w c in
    let marked : y0.mark ≡ Some p.cpu
    = ap (λ (z : BoxView). z.own.mark) (sym is) ∙ may.marked in
    let free : y0.walk ≡ None = none_shown _ (ap (λ (z : BoxView). z.own.walk) (sym is)
    ∙ may.free) in
    remarks law o s h c (released y0) p (released_pass b p) (s.looked c) (λ n. new)
    (λ n v. v ≡ on_pair released_box released_pass (seat_of (box_of o s c ∷ []) (p ∷ [])))
    (record {
      step = steps.Release (record { 0 = c });
      enabled = record {
        is_free = record { in_range = omega (arith, hc, h.same.cpus); free = free };
        marked = (p.cpu, marked);
        awake =
            ⊎_elim (λ z. inl (ap (λ (x : BoxView). x.own.online) (sym is) ∙ z))
            (λ z. inr (ap (λ (x : BoxView). x.own.idle) (sym is) ∙ z)) may.awake;
      };
      is = refl;
      plain = record { time = refl; queues = refl; journals = refl; online = refl };
      in_range = hc;
      brought = known.0.1;
      runner = known.0.0;
      staying = λ k at. absurd (none-some k (sym free ∙ at));
      reads = λ k at. absurd (none-some k (sym free ∙ at));
      still_idle = refl;
      still_inside = refl;
      still_wakes = refl;
      still_reeval = refl;
      owed = λ i. omega arith;
      few = subst (λ (z : PassView). z.walks < 2 ^ 32) (sym known.0.1) (h.few p.cpu);
      opening = refl;
      cpu = refl;
      receipts = refl;
      idle = refl;
      inside = refl;
      reeval = refl;
      wakeup = refl;
      journal = refl;
      did = more_did o w p (record { held = length p.receipts; deed = deeds.Released c })
          (old_did o s p h known.0.1) (unseen o w p.receipts (deeds.Released c) (not_saw c));
      mine = ((λ x. absurd (none-some p.cpu x)), (λ x. absurd (gone c p.marks x)));
      other = λ i ne. (
        (λ x. absurd (none-some i x)),
        (λ x. absurd (ne (same_Some _ _ (sym ((h.marked c i).1 x) ∙ marked)))),
      );
      others = stay c p.marks;
      word = sym (may.word ∙ ap (λ (z : BoxView). own_word (released z.own)) is);
      told = refl;
    })))
  where
    not_saw : (c word found : ℕ) → deeds.Released c ≡ deeds.Saw word found → ⊥
    not_saw c word found z = cc
