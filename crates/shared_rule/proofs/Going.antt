-- for crates above: a step of a seat that has one box, told as a step of the whole
use Rattle.std.proofs.Common.{◌≡◌, ◌≢◌, ℕ, zero, suc, ◌+◌, ◌^◌, ◌<◌, List, [], ◌∷◌, length, map}
use Rattle.std.proofs.Common.{set, Option}
use Rattle.std.proofs.Common.{refl, sym, ap, ◌∙◌, subst, ⊎_elim, inl, inr, arith, eqb, cond}
use Rattle.std.specs.Prelude.{slice_index}
use Rattle.std.proofs.lemmas.Bool.{cases_eq}
use Rattle.std.proofs.lemmas.List.{get_or-set_same, get_or-set_other, length-set}
use mathlib.Core.Option.{some, some-injective, some-ne-none}
use lib.ListN.{get_elem?}
use Rattle.atomic_table.specs.Table.{Allows, keeps}
use Rattle.atomic_table.proofs.Lists.{at_set, set_here, set_else}
use Rattle.core_world.specs.World.{World}
use Rattle.shared_words.specs.declared.layout.Layout.{Layout}
use Rattle.shared_words.specs.declared.layout.SharedWord.{SharedWord}
use Rattle.shared_words.specs.Layout.{IsWordOf, index_of}
use Rattle.shared_words.proofs.Apart.{index_below, same_word}
use Rattle.shared_rule.specs.declared.parts.BoxView.{BoxView}
use Rattle.shared_rule.specs.declared.parts.PassView.{PassView}
use Rattle.shared_rule.specs.declared.parts.Said.{Said}
use Rattle.shared_rule.specs.declared.parts.View.{View}
use Rattle.shared_rule.specs.CoreLaws.{CoreLaws}
use Rattle.shared_rule.specs.Whole.{Whole, layout_of, word_at, Spell, box_of}
use Rattle.shared_rule.specs.Shows.{CoreStep}
use Rattle.shared_rule.specs.Rule.{Each, IsBoxOf, IsPassOf, IsViewOf, Holds, Me, seen}
use Rattle.shared_rule.specs.Rule.{box_cpu, pass_cpu, boxes_in, passes_in, times, Stands, Goes}
use Rattle.shared_rule.specs.Plays.{Sound}
use Rattle.shared_rule.specs.Laws.{EachGoes, Stays}
use Rattle.shared_rule.proofs.Fits.{sound_of}

pub spells : (l : Layout) (words : List ℕ) (s next : Whole) (p : SharedWord) (n : ℕ)
    → Spell l words s
    → IsWordOf l p → word_at next p ≡ n → ((q : SharedWord) → IsWordOf l q
    → index_of l q ≢ index_of l p → word_at next q ≡ word_at s q)
    → Spell l (set words (index_of l p) n) next
spells l words s next p n h within is else = record {
  count = length-set words (index_of l p) n ∙ h.count;
  each = λ q low. elim (cases_eq (index_of l q) (index_of l p)) [
    | inl e ↦ let at : p ≡ q = same_word l p q within low (sym e) in
        subst (λ r. slice_index (set words (index_of l p) n) (index_of l r) ≡ word_at next r) at
        (get_or-set_same words (index_of l p) n 0
        (omega (arith, index_below l p within, h.count)) ∙ sym is)
    | inr ne ↦ get_or-set_other words (index_of l p) (index_of l q) n 0 ne
        ∙ (h.each q low ∙ sym (else q low ne))
  ];
}

-- passes that are not the seat's have other processors than those of the seat
apart : (o : World) (s : Whole) (passer : ℕ → ℕ) (id d : ℕ) (ps : List PassView) → passer d ≢ id
    → Each (IsPassOf o s passer id) ps → Each (λ x. x.cpu ≢ d) ps
apart o s passer id d [] ne h = tt
apart o s passer id d (x ∷ xs) ne h = (
  (λ e. ne (ap passer (sym e) ∙ h.0.owned)),
  apart o s passer id d xs ne h.1,
)

empty_map : {X Y : Type 0} (f : X → Y) (y : Y) (ys : List Y) (P : Type 0) → map f [] ≡ y ∷ ys → P
empty_map f y ys P e = absurd (nil_cons e)
  where
    nil_cons : {A : Type 0} {a : A} {l : List A} → [] ≡ a ∷ l → ⊥
    nil_cons q = cc

owns : (o : World) (s next : Whole) (passer : ℕ → ℕ) (id : ℕ) (ps qs : List PassView)
    → Each (IsPassOf o s passer id) ps → map pass_cpu qs ≡ map pass_cpu ps
    → Each (λ x. x ≡ next.pass x.cpu) qs → Each (IsPassOf o next passer id) qs
owns o s next passer id ps [] h e is = tt
owns o s next passer id [] (y ∷ ys) h e is = absurd (cc)
owns o s next passer id (x ∷ xs) (y ∷ ys) h e is =
    let c : y.cpu ≡ x.cpu = cc in
    let r : map pass_cpu ys ≡ map pass_cpu xs = cc in (
      record {
        low = subst (λ n. n < length o.cpus) (sym c) h.0.low;
        owned = ap passer c
            ∙ h.0.owned;
        is = is.0;
      },
      owns o s next passer id xs ys h.1 r is.1,
    )

pub at_within : (l : List View) (i : ℕ) (a : View) → get_elem? l i ≡ some a → i < length l
at_within [] i a e = absurd (some-ne-none a (sym e))
at_within (x ∷ xs) zero a e = omega arith
at_within (x ∷ xs) (suc i) a e = let r = at_within xs i a e in omega (arith, r)

pub same_times : {X : Type 0} (cpu : X → ℕ) (d : ℕ) (xs ys : List X) → map cpu xs ≡ map cpu ys
    → times cpu d xs ≡ times cpu d ys
same_times cpu d [] [] e = refl
same_times cpu d [] (y ∷ ys) e = absurd (cc)
same_times cpu d (x ∷ xs) [] e = absurd (cc)
same_times cpu d (x ∷ xs) (y ∷ ys) e =
    let a : cpu x ≡ cpu y = cc in
    let r : map cpu xs ≡ map cpu ys = cc in
    λ i. cond (eqb (a i) d) 1 0 + same_times cpu d xs ys r i

-- where a view keeps its processors, each has one part as before
pub stands_on : {X : Type 0} (cpu : X → ℕ) (parts : View → List X) (views : List View) (owner : ℕ
    → ℕ) (id d : ℕ) (v was : View) → get_elem? views id ≡ some was
    → times cpu d (parts v) ≡ times cpu d (parts was)
    → Stands cpu parts views owner d → Stands cpu parts (set views id v) owner d
stands_on cpu parts views owner id d v was at e h =
    elim (cases_eq (owner d) id) [
      | inl is ↦ (
        v,
        ap (get_elem? (set views id v)) is
            ∙ set_here views id v (at_within views id was at),
        e
            ∙ (ap (λ (x : View). times cpu d (parts x))
            (some-injective _ _ (sym at ∙ (ap (get_elem? views) (sym is) ∙ h.1))) ∙ h.2),
      )
      | inr ne ↦ (h.0, set_else views id (owner d) v ne ∙ h.1, h.2)
    ]

-- the parts of another view are as they were
pub other_boxes : (o : World) (s next : Whole) (boxer : ℕ → ℕ) (j : ℕ) (bs : List BoxView)
    → ((d : ℕ) → boxer d ≡ j → box_of o next d ≡ box_of o s d) → Each (IsBoxOf o s boxer j) bs
    → Each (IsBoxOf o next boxer j) bs
other_boxes o s next boxer j [] same h = tt
other_boxes o s next boxer j (b ∷ bs) same h = (
  record {
    low = h.0.low;
    owned = h.0.owned;
    is = h.0.is ∙ sym (same b.cpu h.0.owned);
  },
  other_boxes o s next boxer j bs same h.1,
)

pub other_passes : (o : World) (s next : Whole) (passer : ℕ → ℕ) (j : ℕ) (ps : List PassView)
    → ((d : ℕ) → passer d ≡ j → next.pass d ≡ s.pass d) → Each (IsPassOf o s passer j) ps
    → Each (IsPassOf o next passer j) ps
other_passes o s next passer j [] same h = tt
other_passes o s next passer j (p ∷ ps) same h = (
  record {
    low = h.0.low;
    owned = h.0.owned;
    is = h.0.is ∙ sym (same p.cpu h.0.owned);
  },
  other_passes o s next passer j ps same h.1,
)

-- the seat of box b may step, where each whole that it may stand for goes on
allows_by : (law : CoreLaws) (o : World) (slots id : ℕ) (b : BoxView) (ps : List PassView)
    (p : SharedWord) (f : ℕ → ℕ) (by : ℕ → Option CoreStep) (then : ℕ → Me → Type 0)
    → IsWordOf (layout_of o) p → EachGoes o b ps p f by then
    → Allows {S = Said} {V = View} (Holds o) slots id (seen (b ∷ []) ps, [])
    (index_of (layout_of o) p) f (λ n w. then n w × Sound w)
allows_by law o slots id b ps p f by then within goes t h homes at fits =
    let s = h.0 in
    let boxer = h.1 in
    let passer = h.2 in
    let mine = h.5 id (seen (b ∷ []) ps) at in
    let is = h.4.each p within in
    let g = goes s h.3 mine.boxes.0.low mine.boxes.0.is (known s passer ps mine.passes)
    (subst (λ n. n < 2 ^ 64) is fits) in
    let v : View = seen (g.box ∷ []) g.passes in
    let c : g.box.cpu ≡ b.cpu = ap (λ (x : BoxView). x.cpu) g.own in (
      v,
      keeps,
      tt,
      (
        g.next,
        boxer,
        passer,
        g.shown,
        spells (layout_of o) t.words s g.next p (f (slice_index t.words
            (index_of (layout_of o) p))) h.4 within (g.word ∙ ap f (sym is)) g.words,
        λ j u there. ⊎_elim
            (λ (e : (j ≡ id) × (v ≡ u)). subst (λ (y : ℕ
            × View). IsViewOf o g.next boxer passer y.0 y.1) (λ i. (sym e.0 i, e.1 i))
            (record {
              boxes = (
                record {
                  low = subst (λ n. n < length o.cpus) (sym c) mine.boxes.0.low;
                  owned = ap boxer c ∙ mine.boxes.0.owned;
                  is = g.own
                      ∙ ap (box_of o g.next) (sym c);
                },
                tt,
              );
              passes = owns o s g.next passer id ps g.passes mine.passes g.same g.brought;
            }))
            (λ (e : (j ≢ id) × (get_elem? t.views j ≡ some u)).
            let was = h.5 j u e.1 in
            record {
              boxes = other_boxes o s g.next boxer j u.boxes
                  (λ d own. g.boxes d (λ z. e.0 (sym own
                  ∙ (ap boxer z ∙ mine.boxes.0.owned)))) was.boxes;
              passes = other_passes o s g.next passer j u.passes
                  (λ d own. g.others d (apart o s passer id d ps
                  (λ z. e.0 (sym own ∙ z)) mine.passes)) was.passes;
            })
            (at_set t.views id j v u there),
        λ d low. (
          stands_on box_cpu boxes_in t.views boxer id d v (seen (b ∷ []) ps) at
              (ap (λ n. cond (eqb n d) 1 0 + 0) c) (h.6 d low).0,
          stands_on pass_cpu passes_in t.views passer id d v (seen (b ∷ []) ps) at
              (same_times pass_cpu d g.passes ps g.same) (h.6 d low).1,
        ),
      ),
      (
        subst (λ n. then n (v, [])) (sym is) g.told,
        sound_of law o g.next g.shown g.box g.passes
            (subst (λ n. n < length o.cpus) (sym c) mine.boxes.0.low) (g.own
            ∙ ap (box_of o g.next) (sym c)) g.brought,
      ),
    )
  where
    known : (s : Whole) (passer : ℕ → ℕ) (qs : List PassView) → Each (IsPassOf o s passer id) qs
        → Each (λ x. (x.cpu < length o.cpus) × (x ≡ s.pass x.cpu)) qs
    known s passer [] h = tt
    known s passer (x ∷ xs) h = ((h.0.low, h.0.is), known s passer xs h.1)

-- what the seat is told, and that its parts fit and agree
sounds : (law : CoreLaws) (o : World) (s : Whole) (b : BoxView) (ps : List PassView)
    (p : SharedWord) (f : ℕ → ℕ) (by : ℕ → Option CoreStep) (then : ℕ → Me → Type 0)
    → b.cpu < length o.cpus → Goes o s b ps p f by then
    → Goes o s b ps p f by (λ n w. then n w × Sound w)
sounds law o s b ps p f by then low g =
    let c : g.box.cpu ≡ b.cpu = ap (λ (x : BoxView). x.cpu) g.own in
    record {
      next = g.next;
      box = g.box;
      passes = g.passes;
      shown = g.shown;
      makes = g.makes;
      word = g.word;
      words = g.words;
      own = g.own;
      boxes = g.boxes;
      same = g.same;
      brought = g.brought;
      others = g.others;
      told = (
        g.told,
        sound_of law o g.next g.shown g.box g.passes
            (subst (λ n. n < length o.cpus) (sym c) low) (g.own ∙ ap (box_of o g.next) (sym c))
            g.brought,
      );
    }

-- which step of the core the seat's step makes, and that the table allows it
pub allows : (law : CoreLaws) (o : World) (slots id : ℕ) (b : BoxView) (ps : List PassView)
    (p : SharedWord) (f : ℕ → ℕ) (by : ℕ → Option CoreStep) (then : ℕ → Me → Type 0)
    → IsWordOf (layout_of o) p → EachGoes o b ps p f by then
    → Stays o slots id b ps p f by (λ n w. then n w × Sound w)
allows law o slots id b ps p f by then within goes = record {
  goes = λ s h low is known fits.
      sounds law o s b ps p f by then low (goes s h low is known fits);
  allowed = allows_by law o slots id b ps p f by then within goes;
}
