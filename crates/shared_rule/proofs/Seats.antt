-- for crates above: seats cut in two and put together
use Rattle.std.proofs.Common.{◌≡◌, ◌≢◌, ◌⊎◌, ℕ, zero, suc, ◌+◌, eq-eqb, ne_eqb, cond}
use Rattle.std.proofs.Common.{true, false, List, [], ◌∷◌, ◌++◌, length, set, refl, sym}
use Rattle.std.proofs.Common.{ap, ◌∙◌, subst, inl, inr, ⊎_elim, arith}
use Rattle.std.proofs.lemmas.List.{length-set}
use mathlib.Core.Option.{some, some-injective, some-ne-none}
use lib.ListN.{get_elem?}
use Rattle.atomic_table.specs.Table.{Splits, Joins}
use Rattle.atomic_table.proofs.Lists.{at_set}
use Rattle.core_world.specs.World.{World}
use Rattle.shared_rule.specs.declared.parts.BoxView.{BoxView}
use Rattle.shared_rule.specs.declared.parts.PassView.{PassView}
use Rattle.shared_rule.specs.declared.parts.Said.{Said}
use Rattle.shared_rule.specs.declared.parts.View.{View}
use Rattle.shared_rule.specs.Whole.{box_of}
use Rattle.shared_rule.specs.Rule.{Each, box_cpu, pass_cpu, IsBoxOf, IsPassOf, IsViewOf}
use Rattle.shared_rule.specs.Rule.{Holds, seen, nothing, together, times, boxes_in, passes_in}
use Rattle.shared_rule.specs.Rule.{HasFirst, HasFirstBox, HasFirstPass, without_box}
use Rattle.shared_rule.specs.Rule.{first_box, without_pass, first_pass}
use Rattle.shared_rule.proofs.Parting.{apart, clear, cut, each_append, has, moved_in, off}
use Rattle.shared_rule.proofs.Parting.{owned_off}
use Rattle.shared_rule.proofs.Parting.{put_in, stands_cut, stands_joined, stay, stayed_in}

-- no view at the end of a list is one of those before it
at_snoc_index : {A : Type 0} (l : List A) (a b : A) (j : ℕ) → get_elem? (l ++ a ∷ []) j ≡ some b
    → (get_elem? l j ≡ some b) ⊎ ((j ≡ length l) × (a ≡ b))
at_snoc_index [] a b zero e = inr (refl, some-injective a b e)
at_snoc_index [] a b (suc j) e = absurd (some-ne-none b (sym e))
at_snoc_index (x ∷ xs) a b zero e = inl e
at_snoc_index (x ∷ xs) a b (suc j) e = ⊎_elim (λ t. inl t)
    (λ (t : (j ≡ length xs) × (a ≡ b)). inr (ap suc t.0, t.1)) (at_snoc_index xs a b j e)

-- a view cut in two, so that no CPU has a part in both
pub splits : (o : World) (id : ℕ) (v l r : View)
    → ((P : BoxView → Type 0) → Each P v.boxes → Each P l.boxes × Each P r.boxes)
    → ((P : PassView → Type 0) → Each P v.passes → Each P l.passes × Each P r.passes)
    → Each (λ x. has box_cpu (box_cpu x) r.boxes ≡ false) l.boxes
    → Each (λ x. has box_cpu (box_cpu x) r.boxes ≡ true) r.boxes
    → Each (λ x. has pass_cpu (pass_cpu x) r.passes ≡ false) l.passes
    → Each (λ x. has pass_cpu (pass_cpu x) r.passes ≡ true) r.passes
    → ((d : ℕ) → times box_cpu d v.boxes ≡ times box_cpu d l.boxes + times box_cpu d r.boxes)
    → ((d : ℕ)
    → times pass_cpu d v.passes ≡ times pass_cpu d l.passes + times pass_cpu d r.passes)
    → Splits {S = Said} {V = View} (Holds o) id v l r
splits o id v l r parts passes no_box own_box no_pass own_pass box_sum pass_sum t h at =
    let s = h.0 in
    let boxer = h.1 in
    let passer = h.2 in
    let mine = h.5 id v at in
    let bs = parts (IsBoxOf o s boxer id) mine.boxes in
    let ps = passes (IsPassOf o s passer id) mine.passes in
    let new = length t.views in
    let boxer' : ℕ → ℕ = cut box_cpu r.boxes new boxer in
    let passer' : ℕ → ℕ = cut pass_cpu r.passes new passer in (
      s,
      boxer',
      passer',
      h.3,
      h.4,
      λ j u e. ⊎_elim
          (λ was. ⊎_elim
          (λ (z : (j ≡ id) × (l ≡ u)). subst (λ (y : ℕ
          × View). IsViewOf o s boxer' passer' y.0 y.1) (λ i. (sym z.0 i, z.1 i))
          (record {
            boxes = stay box_cpu (length o.cpus)
                (box_of o s) boxer id new r.boxes l.boxes no_box bs.0;
            passes = stay pass_cpu
                (length o.cpus) s.pass passer id new r.passes l.passes no_pass ps.0;
          }))
          (λ (z : (j ≢ id) × (get_elem? t.views j ≡ some u)).
          let w = h.5 j u z.1 in
          record {
            boxes = apart box_cpu (length o.cpus)
                (box_of o s) boxer id j new r.boxes u.boxes z.0 bs.1 w.boxes;
            passes = apart pass_cpu
                (length o.cpus) s.pass passer id j new r.passes u.passes z.0 ps.1 w.passes;
          })
          (at_set t.views id j l u was))
          (λ (z : (j ≡ length (set t.views id l)) × (r ≡ u)). subst
          (λ (y : ℕ × View). IsViewOf o s boxer' passer' y.0 y.1)
          (λ i. (sym (z.0 ∙ length-set t.views id l) i, z.1 i))
          (record {
            boxes = off box_cpu (length o.cpus)
                (box_of o s) boxer id new r.boxes r.boxes own_box bs.1;
            passes = off pass_cpu
                (length o.cpus) s.pass passer id new r.passes r.passes own_pass ps.1;
          }))
          (at_snoc_index (set t.views id l) r u j e),
      λ d low. (
        stands_cut box_cpu boxes_in t.views boxer id d v l r at (box_sum d)
            (clear box_cpu r.boxes d l.boxes no_box)
            (owned_off box_cpu (length o.cpus) (box_of o s) boxer id d r.boxes bs.1) (h.6 d low).0,
        stands_cut pass_cpu passes_in t.views passer id d v l r at (pass_sum d)
            (clear pass_cpu r.passes d l.passes no_pass)
            (owned_off pass_cpu (length o.cpus) s.pass passer id d r.passes ps.1) (h.6 d low).1,
      ),
    )

pub joins : (o : World) (id other : ℕ) (v w : View)
    → Joins {S = Said} {V = View} (Holds o) id v other w (together v w) nothing
joins o id other v w t h at apart' there =
    let s = h.0 in
    let boxer = h.1 in
    let passer = h.2 in
    let mine = h.5 id v at in
    let theirs' : get_elem? t.views other ≡ some w = ⊎_elim
    (λ (z : (other ≡ id) × (together v w ≡ w)). absurd (apart' z.0))
    (λ (z : (other ≢ id) × (get_elem? t.views other ≡ some w)). z.1)
    (at_set t.views id other (together v w) w there) in
    let theirs = h.5 other w theirs' in
    let boxer' : ℕ → ℕ = put_in box_cpu id other boxer in
    let passer' : ℕ → ℕ = put_in pass_cpu id other passer in
    let ne : id ≢ other = λ z. apart' (sym z) in (
      s,
      boxer',
      passer',
      h.3,
      h.4,
      λ j u e. ⊎_elim
          (λ (z : (j ≡ other) × (nothing ≡ u)). subst
          (λ (y : ℕ × View). IsViewOf o s boxer' passer' y.0 y.1) (λ i. (sym z.0 i, z.1 i))
          (record { boxes = tt; passes = tt }))
          (λ (z : (j ≢ other) × (get_elem? (set t.views id (together v w)) j ≡ some u)). ⊎_elim
          (λ (m : (j ≡ id) × (together v w ≡ u)). subst
          (λ (y : ℕ × View). IsViewOf o s boxer' passer' y.0 y.1) (λ i. (sym m.0 i, m.1 i))
          (record {
            boxes = each_append _ v.boxes w.boxes (stayed_in box_cpu (length o.cpus)
                (box_of o s) boxer id other id v.boxes ne mine.boxes)
                (moved_in box_cpu (length o.cpus) (box_of o s) boxer id other w.boxes theirs.boxes);
            passes = each_append _ v.passes w.passes
                (stayed_in pass_cpu
                (length o.cpus) s.pass passer id other id v.passes ne mine.passes)
                (moved_in pass_cpu (length o.cpus) s.pass passer id other w.passes theirs.passes);
          }))
          (λ (m : (j ≢ id) × (get_elem? t.views j ≡ some u)).
          let was = h.5 j u m.1 in
          record {
            boxes = stayed_in box_cpu (length o.cpus)
                (box_of o s) boxer id other j u.boxes z.0 was.boxes;
            passes = stayed_in pass_cpu
                (length o.cpus) s.pass passer id other j u.passes z.0 was.passes;
          })
          (at_set t.views id j (together v w) u z.1))
          (at_set (set t.views id (together v w)) other j nothing u e),
      λ d low. (
        stands_joined box_cpu boxes_in t.views boxer (length o.cpus) (box_of o s) id other d v w
            (together v w) nothing at theirs' ne refl mine.boxes theirs.boxes (h.6 d low).0,
        stands_joined pass_cpu passes_in t.views passer (length o.cpus) s.pass id other d v w
            (together v w) nothing at theirs' ne refl mine.passes theirs.passes (h.6 d low).1,
      ),
    )

-- the pass that is brought goes off again
pub parts_pass : (o : World) (id : ℕ) (b : BoxView) (p : PassView)
    → Splits {S = Said} {V = View} (Holds o) id (seen (b ∷ []) (p ∷ [])) (seen (b ∷ []) [])
    (seen [] (p ∷ []))
parts_pass o id b p = splits o id _ _ _ (λ P h. (h, tt)) (λ P h. (tt, h)) (refl, tt) tt tt
    (ap (λ z. cond z true false) (eq-eqb p.cpu p.cpu refl), tt) (λ d. omega arith)
    (λ d. omega arith)

-- the first box of a view in which its CPU has no other
pub parts_box : (o : World) (id : ℕ) (b : BoxView) (bs : List BoxView) (ps : List PassView)
    → Each (λ x. x.cpu ≢ b.cpu) bs → Splits {S = Said} {V = View} (Holds o) id (seen (b ∷ bs) ps)
    (seen bs ps) (seen (b ∷ []) [])
parts_box o id b bs ps ne = splits o id _ _ _ (λ P h. (h.1, (h.0, tt))) (λ P h. (h, tt))
    (others bs ne) (ap (λ z. cond z true false) (eq-eqb b.cpu b.cpu refl), tt) (none_off ps) tt
    (λ d. omega arith) (λ d. omega arith)
  where
    others : (xs : List BoxView) → Each (λ x. x.cpu ≢ b.cpu) xs
        → Each (λ x. has box_cpu (box_cpu x) (b ∷ []) ≡ false) xs
    others [] h = tt
    others (x ∷ xs) h = (ap (λ z. cond z true false) (ne_eqb x.cpu b.cpu h.0), others xs h.1)

    none_off : (xs : List PassView) → Each (λ x. has pass_cpu (pass_cpu x) [] ≡ false) xs
    none_off [] = tt
    none_off (x ∷ xs) = (refl, none_off xs)

pub parts_first_pass : (o : World) (id : ℕ) (p : PassView) (bs : List BoxView)
    (ps : List PassView) → Each (λ x. x.cpu ≢ p.cpu) ps
    → Splits {S = Said} {V = View} (Holds o) id (seen bs (p ∷ ps)) (seen bs ps) (seen [] (p ∷ []))
parts_first_pass o id p bs ps ne = splits o id _ _ _ (λ P h. (h, tt)) (λ P h. (h.1, (h.0, tt)))
    (none_off bs) tt (others ps ne) (ap (λ z. cond z true false) (eq-eqb p.cpu p.cpu refl), tt)
    (λ d. omega arith) (λ d. omega arith)
  where
    others : (xs : List PassView) → Each (λ x. x.cpu ≢ p.cpu) xs
        → Each (λ x. has pass_cpu (pass_cpu x) (p ∷ []) ≡ false) xs
    others [] h = tt
    others (x ∷ xs) h = (ap (λ z. cond z true false) (ne_eqb x.cpu p.cpu h.0), others xs h.1)

    none_off : (xs : List BoxView) → Each (λ x. has box_cpu (box_cpu x) [] ≡ false) xs
    none_off [] = tt
    none_off (x ∷ xs) = (refl, none_off xs)

pub cuts_box : (o : World) (id : ℕ) (v : View) → HasFirstBox v
    → Splits {S = Said} {V = View} (Holds o) id v (without_box v) (first_box v)
cuts_box o id v h = by_list v.boxes v.passes h
  where
    by_list : (bs : List BoxView) (ps : List PassView) → HasFirst box_cpu bs
        → Splits {S = Said} {V = View} (Holds o) id (seen bs ps) (without_box (seen bs ps))
        (first_box (seen bs ps))
    by_list [] ps h = absurd h
    by_list (b ∷ bs) ps h = parts_box o id b bs ps h

pub cuts_pass : (o : World) (id : ℕ) (v : View) → HasFirstPass v
    → Splits {S = Said} {V = View} (Holds o) id v (without_pass v) (first_pass v)
cuts_pass o id v h = by_list v.boxes v.passes h
  where
    by_list : (bs : List BoxView) (ps : List PassView) → HasFirst pass_cpu ps
        → Splits {S = Said} {V = View} (Holds o) id (seen bs ps) (without_pass (seen bs ps))
        (first_pass (seen bs ps))
    by_list bs [] h = absurd h
    by_list bs (p ∷ ps) h = parts_first_pass o id p bs ps h
