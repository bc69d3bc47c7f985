-- the rule at the start; and where a timer is queued (for crates above)
use Rattle.std.proofs.Common.{◌≡◌, ◌≢◌, ◌⊎◌, ⊎_elim, ℕ, zero, suc, ◌^◌, ◌<◌, ◌≤◌, cond, eqb}
use Rattle.std.proofs.Common.{eq-eqb, ne_eqb, List, [], ◌∷◌, length, Option, Some, None}
use Rattle.std.proofs.Common.{refl, sym, ap, ◌∙◌, subst, inl, inr, arith, append-nil}
use Rattle.std.specs.Prelude.{slice_get, Contains}
use Rattle.std.proofs.lemmas.Bool.{cases_eq}
use Rattle.std.proofs.lemmas.List.{get_or_past}
use Rattle.std.proofs.lemmas.Option.{none-some, same_Some, slice_get_within}
use mathlib.Core.Option.{some, some-injective, some-ne-none}
use lib.ListN.{get_elem?}
use Rattle.tm_base.specs.declared.names.Class.{Class}
use Rattle.cpu_bases.specs.CpuBases.{class_in}
use Rattle.cpu_bases.specs.declared.entry.Entry.{Entry}
use Rattle.cpu_bases.proofs.Replays.{adds_none}
use Rattle.core_world.specs.Covered.{IsSettled}
use Rattle.core_world.specs.World.{World, cpu_of, no_cpu}
use Rattle.core_state.specs.Kept.{WorldFits}
use Rattle.shared_words.specs.declared.spot.Spot.{Spot}
use Rattle.shared_rule.specs.declared.parts.View.{View}
use Rattle.shared_rule.specs.CoreLaws.{CoreLaws}
use Rattle.shared_rule.specs.Whole.{Whole, Spell, box_of, layout_of, spot_at}
use Rattle.shared_rule.specs.Shows.{IsShown, owes, sum_to, reevaluates, journal_of}
use Rattle.shared_rule.specs.Rule.{Each, IsViewOf, IsBoxOf, IsPassOf, Shows, times}
use Rattle.shared_rule.specs.Rule.{box_cpu, pass_cpu}
use Rattle.shared_rule.specs.Starts.{first_whole, first_view, spot_or, spot_below}
use Rattle.shared_rule.specs.Starts.{spot_in, all_boxes, all_passes}
use Rattle.shared_rule.proofs.Parting.{each_append, times_append}
use Rattle.shared_rule.proofs.Reaching.{reached_at_first}

-- WHERE TIMERS ARE
beyond : (o : World) (t d : ℕ) (class : Class) → class_in t (cpu_of o d).bases ≡ Some class
    → d < length o.cpus
beyond o t d class e = ⊎_elim (λ low. low) (λ high. absurd (none-some class (past high)))
    (split d (length o.cpus))
  where
    split : (a b : ℕ) → (a < b) ⊎ (b ≤ a)
    split a zero = inr (omega arith)
    split zero (suc b) = inl (omega arith)
    split (suc a) (suc b) = ⊎_elim (λ z. inl (omega (arith, z))) (λ z. inr (omega (arith, z)))
        (split a b)

    past : length o.cpus ≤ d → ◌≡◌ {A = Option Class} None (Some class)
    past high = ap (λ y. class_in t y.bases) (sym (get_or_past o.cpus d no_cpu high)) ∙ e

module _ (o : World) (h : WorldFits o) (t : ℕ) where
  or_else : (m : Option Class) (c d : ℕ) (class : Class) (rest : Option Spot)
      → (cpu_of_is : class_in t (cpu_of o c).bases ≡ m) → c ≢ d
      → class_in t (cpu_of o d).bases ≡ Some class → spot_or m c rest ≡ rest
  or_else None c d class rest is ne e = refl
  or_else (Some other) c d class rest is ne e =
      absurd (ne (h.lawful.timers.one_cpu c d t other class is e))

  found_below : (n d : ℕ) (class : Class) → d < n → class_in t (cpu_of o d).bases ≡ Some class
      → spot_below o t n ≡ Some (spot_at d class)
  found_below zero d class low e = absurd (omega (arith, low))
  found_below (suc n) d class low e = elim (cases_eq n d) [
    | inl is ↦
        ap (λ m. spot_or m n (spot_below o t n)) (ap (λ k. class_in t (cpu_of o k).bases) is ∙ e)
        ∙ ap (λ k. Some (spot_at k class)) is
    | inr ne ↦
        or_else (class_in t (cpu_of o n).bases) n d class (spot_below o t n) refl ne e
        ∙ found_below n d class (omega (arith, low, ne)) e
  ]

  pub spot_found : (d : ℕ) (class : Class) → class_in t (cpu_of o d).bases ≡ Some class
      → spot_in o t ≡ Some (spot_at d class)
  spot_found d class e = found_below (length o.cpus) d class (beyond o t d class e) e

  abbrev pub IsSpot : ℕ → Spot → Type 0
  IsSpot n p = (p.cpu.0 < n) × (class_in t (cpu_of o p.cpu.0).bases ≡ Some p.class)

  by_class : (n : ℕ) (p : Spot) (m : Option Class) → class_in t (cpu_of o n).bases ≡ m
      → (spot_below o t n ≡ Some p → IsSpot n p) → spot_or m n (spot_below o t n) ≡ Some p
      → IsSpot (suc n) p
  by_class n p None is below z = let r = below z in (omega (arith, r.0), r.1)
  by_class n p (Some class) is below z = subst (IsSpot (suc n)) (same_Some _ _ z) (omega arith, is)

  pub names_below : (n : ℕ) (p : Spot) → spot_below o t n ≡ Some p → IsSpot n p
  names_below zero p e = absurd (none-some p e)
  names_below (suc n) p e =
      by_class n p (class_in t (cpu_of o n).bases) refl (names_below n p) e

-- SUMS
nothing_owed : (o : World) (g n : ℕ) → ((c : ℕ) → (cpu_of o c).walk ≡ None)
    → sum_to n (λ c. owes o.tree g c (cpu_of o c).walk) ≡ 0
nothing_owed o g zero free = refl
nothing_owed o g (suc n) free =
    let a : owes o.tree g n (cpu_of o n).walk ≡ 0 = ap (owes o.tree g n) (free n) in
    let b = nothing_owed o g n free in
    omega (arith, a, b)

-- PARTS
boxes_are : (o : World) (s : Whole) (all n : ℕ) → n ≤ length o.cpus
    → Each (IsBoxOf o s (λ c. 0) 0) (all_boxes o s n)
boxes_are o s all zero low = tt
boxes_are o s all (suc n) low =
    each_append _ (all_boxes o s n) (box_of o s n ∷ [])
    (boxes_are o s all n (omega (arith, low)))
    (record { low = omega (arith, low); owned = refl; is = refl }, tt)

module _ (o : World) (s : Whole) (own : (c : ℕ) → (s.pass c).cpu ≡ c) where
  passes_are : (n : ℕ) → n ≤ length o.cpus → Each (IsPassOf o s (λ c. 0) 0) (all_passes s n)
  passes_are zero low = tt
  passes_are (suc n) low =
      each_append _ (all_passes s n) (s.pass n ∷ []) (passes_are n (omega (arith, low))) (
        record {
          low = omega (arith, low, own n);
          owned = refl;
          is = ap s.pass (sym (own n));
        },
        tt,
      )

  none_box : (n c : ℕ) → n ≤ c → times box_cpu c (all_boxes o s n) ≡ 0
  none_box zero c low = refl
  none_box (suc n) c low =
      let a = times_append box_cpu c (all_boxes o s n) (box_of o s n ∷ []) in
      let b = none_box n c (omega (arith, low)) in
      let d : ◌≡◌ {A = ℕ} (cond (eqb n c) 1 0) 0
      = ap (λ z. cond z 1 0) (ne_eqb n c (λ z. absurd (omega (arith, z, low)))) in
      omega (arith, a, b, d)

  pub one_box : (n c : ℕ) → c < n → times box_cpu c (all_boxes o s n) ≡ 1
  one_box zero c low = absurd (omega (arith, low))
  one_box (suc n) c low =
      let a = times_append box_cpu c (all_boxes o s n) (box_of o s n ∷ []) in
      elim (cases_eq n c) [
        | inl is ↦
            let b = none_box n c (omega (arith, is)) in
            let d : ◌≡◌ {A = ℕ} (cond (eqb n c) 1 0) 1 = ap (λ z. cond z 1 0) (eq-eqb n c is) in
            omega (arith, a, b, d)
        | inr ne ↦
            let b = one_box n c (omega (arith, low, ne)) in
            let d : ◌≡◌ {A = ℕ} (cond (eqb n c) 1 0) 0 = ap (λ z. cond z 1 0) (ne_eqb n c ne) in
            omega (arith, a, b, d)
      ]

  pass_there : (n c : ℕ) → ◌≡◌ {A = ℕ} (cond (eqb (s.pass n).cpu c) 1 0) (cond (eqb n c) 1 0)
  pass_there n c = ap (λ z. cond (eqb z c) 1 0) (own n)

  none_pass : (n c : ℕ) → n ≤ c → times pass_cpu c (all_passes s n) ≡ 0
  none_pass zero c low = refl
  none_pass (suc n) c low =
      let a = times_append pass_cpu c (all_passes s n) (s.pass n ∷ []) in
      let b = none_pass n c (omega (arith, low)) in
      let d : ◌≡◌ {A = ℕ} (cond (eqb n c) 1 0) 0
      = ap (λ z. cond z 1 0) (ne_eqb n c (λ z. absurd (omega (arith, z, low)))) in
      omega (arith, a, b, d, pass_there n c)

  pub one_pass : (n c : ℕ) → c < n → times pass_cpu c (all_passes s n) ≡ 1
  one_pass zero c low = absurd (omega (arith, low))
  one_pass (suc n) c low =
      let a = times_append pass_cpu c (all_passes s n) (s.pass n ∷ []) in
      let there = pass_there n c in
      elim (cases_eq n c) [
        | inl is ↦
            let b = none_pass n c (omega (arith, is)) in
            let d : ◌≡◌ {A = ℕ} (cond (eqb n c) 1 0) 1 = ap (λ z. cond z 1 0) (eq-eqb n c is) in
            omega (arith, a, b, d, there)
        | inr ne ↦
            let b = one_pass n c (omega (arith, low, ne)) in
            let d : ◌≡◌ {A = ℕ} (cond (eqb n c) 1 0) 0 = ap (λ z. cond z 1 0) (ne_eqb n c ne) in
            omega (arith, a, b, d, there)
      ]

-- THE START
past : (xs : List Entry) (i : ℕ) (e : Entry) → slice_get xs i ≡ Some e → length xs ≤ i → ⊥
past xs i e at h = let low = slice_get_within xs i e at in omega (arith, low, h)

module _ (law : CoreLaws) (o : World) (made : ℕ) (h : WorldFits o) (rest : IsSettled o)
    (few : made < 2 ^ 32) where
  abbrev s : Whole
  s = first_whole o made

  pub first_shown : IsShown o s
  first_shown =
      let unmarked = (law.rests o h.lawful rest).unmarked in
      record {
        opening = h;
        fits = h;
        reached = reached_at_first o;
        same = record {
          tree = refl;
          groups = refl;
          slots = λ g. refl;
          cpus = refl;
          timers = refl;
        };
        clock = refl;
        online = λ c. refl;
        staying = λ c k at. absurd (none-some k (sym (rest.free c) ∙ at));
        reads = λ c. record {
          fresh = λ k g at. absurd (none-some k (sym (rest.free c) ∙ at));
          before = λ k g at. absurd (none-some k (sym (rest.free c) ∙ at));
          good = λ k at. absurd (none-some k (sym (rest.free c) ∙ at));
        };
        bound = λ g.
            let a = nothing_owed o g (length o.cpus) rest.free in
            omega (arith, a);
        few = λ c. few;
        opened = λ c. refl;
        passes = λ c. refl;
        flags = λ c. record {
          idle = refl;
          inside = refl;
          wakeup = refl;
          reeval = ap reevaluates (sym (rest.free c));
        };
        marked = λ c b. (
          λ at. absurd (none-some b (sym (unmarked c) ∙ at)),
          λ at. absurd
              (no_mark c at),
        );
        named = λ t d class e. spot_found o h t d class e;
        queued = λ t p e. names_below o h t (length o.cpus) p e;
        replayed = λ c. adds_none (cpu_of o c).bases;
        journals = λ c. ([], sym (append-nil (journal_of o c)));
        parted = λ c. ([], sym (append-nil (journal_of o c)));
        noted = (
          λ d place. (0, 0),
          record {
            true = λ c i r at. absurd (none-some r at);
            all = λ d place e at later. absurd (past (journal_of o d) place e at later);
            order = λ c i j r q at. absurd (none-some r at);
          },
        );
        seen = λ c i x at. absurd (none-some x at);
        left = λ c t off none. none;
      }
    where
      no_mark : (c : ℕ) → Contains [] c → ⊥
      no_mark c e = absurd (omega (arith, e.1))

  one_view : (id : ℕ) (v : View) → get_elem? (first_view o made ∷ []) id ≡ some v
      → IsViewOf o s (λ c. 0) (λ c. 0) id v
  one_view zero v e = subst (IsViewOf o s (λ c. 0) (λ c. 0) 0) (some-injective _ _ e) (record {
    boxes = boxes_are o s 0 (length o.cpus) (omega arith);
    passes = passes_are o s (λ c. refl) (length o.cpus) (omega arith);
  })
  one_view (suc id) v e = absurd (some-ne-none v (sym e))

  pub begins : (words : List ℕ) → Spell (layout_of o) words s
      → Shows o words (first_view o made ∷ [])
  begins words spell = (
    s,
    (λ c. 0),
    (λ c. 0),
    first_shown,
    spell,
    one_view,
    λ c low. (
      (first_view o made, refl, one_box o s (λ d. refl) (length o.cpus) c low),
      (first_view o made, refl, one_pass o s (λ d. refl) (length o.cpus) c low),
    ),
  )
