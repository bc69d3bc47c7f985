-- for crates above: a pass that goes off takes the journal of its CPU's box with it
use Rattle.std.proofs.Common.{◌≡◌, ◌≢◌, ⊎_elim, ℕ, eqb, cond, Bool, true, false, List, [], ◌∷◌}
use Rattle.std.proofs.Common.{◌++◌, set, refl, sym, ap, ◌∙◌, subst}
use Rattle.std.proofs.lemmas.Bool.{eqb-true}
use Rattle.std.proofs.lemmas.List.{append-nil, append_assoc, set-set}
use mathlib.Core.Option.{some}
use lib.ListN.{get_elem?}
use Rattle.atomic_table.specs.Table as tables
use Rattle.atomic_table.specs.Table.{Splits}
use Rattle.atomic_table.proofs.Lists.{at_set}
use Rattle.atomic_table.proofs.Lists as lists
use Rattle.core_world.specs.World.{World}
use Rattle.shared_rule.specs.declared.parts.BoxView.{BoxView}
use Rattle.shared_rule.specs.declared.parts.PassView.{PassView}
use Rattle.shared_rule.specs.declared.parts.Said.{Said}
use Rattle.shared_rule.specs.declared.parts.View.{View}
use Rattle.shared_rule.specs.Whole.{Whole, box_of}
use Rattle.shared_rule.specs.Shows.{BeginsWith, IsShown, journal_of}
use Rattle.shared_rule.specs.Rule.{Each, HasFirst, HasFirstPass, Holds, IsPassOf, IsViewOf, box_cpu}
use Rattle.shared_rule.specs.Rule.{boxes_in, pass_cpu, passes_in, renewed_pass, seen, with_journal}
use Rattle.shared_rule.specs.Rule.{without_pass}
use Rattle.shared_rule.proofs.Moving.{set_else, set_here}
use Rattle.shared_rule.proofs.Going.{at_within, other_boxes, other_passes, same_times, stands_on}
use Rattle.shared_rule.proofs.Passing.{repassed, with_pass, word_stays}
use Rattle.shared_rule.proofs.Seats.{parts_first_pass}

-- the journal that a pass takes is one that its CPU's begins with, and begins with the opening's
fronts : (o : World) (s : Whole) (c : ℕ) (b : BoxView) → IsShown o s → b ≡ box_of o s b.cpu
    → (e : Bool) → eqb (s.pass c).cpu b.cpu ≡ e
    → BeginsWith (journal_of s.world c) (cond e b.own.bases.journal (s.pass c).journal)
    × BeginsWith (cond e b.own.bases.journal (s.pass c).journal) (journal_of o c)
fronts o s c b h is false e = (h.journals c, h.parted c)
fronts o s c b h is true e =
    let own : c ≡ b.cpu = sym (h.passes c) ∙ eqb-true _ _ e in
    let j : b.own.bases.journal ≡ journal_of s.world c
    = ap (λ (z : BoxView). z.own.bases.journal) is ∙ ap (journal_of s.world) (sym own) in
    let was = h.journals c in
    let first = h.parted c in (
      ([], sym j ∙ sym (append-nil b.own.bases.journal)),
      (
        first.0 ++ was.0,
        j
            ∙ (was.1
            ∙ (ap (λ z. z ++ was.0) first.1 ∙ append_assoc (journal_of o c) first.0 was.0)),
      ),
    )

module _ (o : World) (id : ℕ) (b : BoxView) (p : PassView) (bs : List BoxView)
    (ps : List PassView) (first : Each (λ x. x.cpu ≢ p.cpu) ps) where
  abbrev c : ℕ
  c = p.cpu

  abbrev old : View
  old = seen (b ∷ bs) (p ∷ ps)

  abbrev new : View
  new = seen (b ∷ bs) (with_journal b p ∷ ps)

  -- the other passes of the view
  rest : (s : Whole) (passer : ℕ → ℕ) (q : PassView) (xs : List PassView)
      → Each (IsPassOf o s passer id) xs → Each (λ x. x.cpu ≢ c) xs
      → Each (IsPassOf o (with_pass s c q) passer id) xs
  rest s passer q [] h ne = tt
  rest s passer q (x ∷ xs) h ne = (
    record {
      low = h.0.low;
      owned = h.0.owned;
      is = h.0.is ∙ sym (set_else c q s.pass x.cpu ne.0);
    },
    rest s passer q xs h.1 ne.1,
  )

  -- the rule with the new pass in place of the old one
  in_place : (t : tables.State Said View) → Holds o t → get_elem? t.views id ≡ some old
      → Holds o (record { words = t.words; homes = t.homes; views = set t.views id new })
  in_place t h at =
      let s = h.0 in
      let boxer = h.1 in
      let passer = h.2 in
      let mine = h.5 id old at in
      let known : p ≡ s.pass c = mine.passes.0.is in
      let q : PassView = with_journal b (s.pass c) in
      let next : Whole = with_pass s c q in
      let both = fronts o s c b h.3 mine.boxes.0.is (eqb (s.pass c).cpu b.cpu) refl in
      let own : with_journal b p ≡ next.pass c
      = ap (with_journal b) known ∙ sym (set_here c q s.pass) in (
        next,
        boxer,
        passer,
        repassed o s h.3 c q
            (record {
              opening = refl;
              cpu = refl;
              walks = refl;
              receipts = refl;
              idle = refl;
              inside = refl;
              reeval = refl;
              wakeup = refl;
              marks = refl;
            }) both.0 both.1 (λ i z there. h.3.seen c i z there),
        record {
          count = h.4.count;
          each = λ m low. h.4.each m low ∙ sym (word_stays s c q m);
        },
        λ j u there. ⊎_elim
            (λ (e : (j ≡ id) × (new ≡ u)).
            subst (λ (y : ℕ × View). IsViewOf o next boxer passer y.0 y.1)
            (λ i. (sym e.0 i, e.1 i))
            (record {
              boxes = other_boxes o s next boxer id (b ∷ bs) (λ d is_own. refl) mine.boxes;
              passes = (
                record { low = mine.passes.0.low; owned = mine.passes.0.owned; is = own },
                rest s passer q ps mine.passes.1 first,
              );
            }))
            (λ (e : (j ≢ id) × (get_elem? t.views j ≡ some u)).
            let was = h.5 j u e.1 in
            record {
              boxes = other_boxes o s next boxer j u.boxes (λ d is_own. refl) was.boxes;
              passes = other_passes o s next passer j u.passes
                  (λ d is_own. set_else c q s.pass d
                  (λ z. e.0 (sym is_own ∙ (ap passer z ∙ mine.passes.0.owned)))) was.passes;
            })
            (at_set t.views id j new u there),
        λ d low. (
          stands_on box_cpu boxes_in t.views boxer id d new old at refl (h.6 d low).0,
          stands_on pass_cpu passes_in t.views passer id d new old at
              (same_times pass_cpu d (with_journal b p ∷ ps) (p ∷ ps) refl) (h.6 d low).1,
        ),
      )

  -- and then the new pass goes off
  renews : Splits {S = Said} {V = View} (Holds o) id old (seen (b ∷ bs) ps)
      (seen [] (with_journal b p ∷ []))
  renews t h at =
      subst
      (λ (l : List View). Holds o (record {
        words = t.words;
        homes = t.homes;
        views = l ++ seen [] (with_journal b p ∷ []) ∷ [];
      })) (set-set t.views id new (seen (b ∷ bs) ps))
      (parts_first_pass o id (with_journal b p) (b ∷ bs) ps first
      (record { words = t.words; homes = t.homes; views = set t.views id new })
      (in_place t h at) (lists.set_here t.views id new (at_within t.views id old at)))

pub renews_pass : (o : World) (id : ℕ) (v : View) → HasFirstPass v
    → Splits {S = Said} {V = View} (Holds o) id v (without_pass v) (renewed_pass v)
renews_pass o id v h = by_list v.boxes v.passes h
  where
    by_list : (bs : List BoxView) (ps : List PassView) → HasFirst pass_cpu ps
        → Splits {S = Said} {V = View} (Holds o) id (seen bs ps) (without_pass (seen bs ps))
        (renewed_pass (seen bs ps))
    by_list bs [] h = absurd h
    by_list [] (p ∷ ps) h = parts_first_pass o id p [] ps h
    by_list (b ∷ bs) (p ∷ ps) h = renews o id b p bs ps h
