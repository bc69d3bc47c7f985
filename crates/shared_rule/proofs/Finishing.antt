-- what the words and the seat with all parts say at the end
use Rattle.std.proofs.Common.{◌≡◌, ◌⊎◌, ⊎_elim, ℕ, zero, suc, ◌<◌, ◌≤◌, false, List, [], ◌∷◌}
use Rattle.std.proofs.Common.{length}
use Rattle.std.proofs.Common.{Some, None, refl, sym, ap, ◌∙◌, subst, inl, inr, arith}
use Rattle.std.specs.Prelude.{option_map, slice_get}
use Rattle.std.proofs.lemmas.List.{get_or_past}
use Rattle.std.proofs.lemmas.Option.{none-some, same_Some}
use Rattle.walk_rules.specs.Stages.{forget}
use Rattle.core_world.specs.Covered.{IsSettled}
use Rattle.core_world.specs.World.{World, CpuRecord, cpu_of, no_cpu}
use Rattle.shared_rule.specs.declared.parts.BoxView.{BoxView}
use Rattle.shared_rule.specs.declared.parts.PassView.{PassView}
use Rattle.shared_rule.specs.CoreLaws.{CoreLaws}
use Rattle.shared_rule.specs.Whole.{Spell, Whole, box_of, layout_of, quiet}
use Rattle.shared_rule.specs.Shows.{IsShown}
use Rattle.shared_rule.specs.Rule.{Each, IsViewOf, seen}
use Rattle.shared_rule.specs.Starts.{HasAll}
use Rattle.shared_rule.specs.Laws.{Ends}
use Rattle.shared_rule.proofs.Waking.{none_shown}

each_at : {X : Type 0} (P : X → Type 0) (xs : List X) (i : ℕ) (x : X) → Each P xs
    → slice_get xs i ≡ Some x → P x
each_at P [] i x h e = absurd (none-some x e)
each_at P (y ∷ ys) zero x h e = subst P (same_Some _ _ e) h.0
each_at P (y ∷ ys) (suc i) x h e = each_at P ys i x h.1 e

there_is : {X : Type 0} (xs : List X) (i : ℕ) → i < length xs → (x : X) × (slice_get xs i ≡ Some x)
there_is [] i low = absurd (omega (arith, low))
there_is (x ∷ xs) zero low = (x, refl)
there_is (x ∷ xs) (suc i) low = there_is xs i (omega (arith, low))

below : (a b : ℕ) → (a < b) ⊎ (b ≤ a)
below a zero = inr (omega arith)
below zero (suc b) = inl (omega arith)
below (suc a) (suc b) =
    ⊎_elim (λ z. inl (omega (arith, z))) (λ z. inr (omega (arith, z))) (below a b)

same_quiet : (y : CpuRecord) → y.walk ≡ None → y ≡ quiet y
same_quiet y free = λ i. record y { walk = (free ∙ ap (option_map forget) (sym free)) i }

module _ (o : World) (s : Whole) (h : IsShown o s) (boxer passer : ℕ → ℕ) (id : ℕ)
    (bs : List BoxView) (ps : List PassView) (all : HasAll o bs ps)
    (view : IsViewOf o s boxer passer id (seen bs ps)) where
  box_is : (i : ℕ) (b : BoxView) → slice_get bs i ≡ Some b → b ≡ box_of o s i
  box_is i b at =
      (each_at _ bs i b view.boxes at).is ∙ ap (box_of o s) (all.boxes.order i b at)

  pub pass_is : (i : ℕ) (p : PassView) → slice_get ps i ≡ Some p → p ≡ s.pass i
  pass_is i p at =
      (each_at _ ps i p view.passes at).is ∙ ap s.pass (all.passes.order i p at)

  past_all : (c : ℕ) → length o.cpus ≤ c → cpu_of s.world c ≡ no_cpu
  past_all c high = get_or_past s.world.cpus c no_cpu (omega (arith, high, h.same.cpus))

  free : (c : ℕ) → (cpu_of s.world c).walk ≡ None
  free c = ⊎_elim
      (λ low.
      let b = there_is bs c (omega (arith, low, all.boxes.count)) in
      none_shown (cpu_of s.world c).walk
      (ap (λ (z : BoxView). z.own.walk) (sym (box_is c b.0 b.1))
      ∙ each_at (λ z. z.own.walk ≡ None) bs c b.0 all.free b.1))
      (λ high. ap (λ (y : CpuRecord). y.walk) (past_all c high))
      (below c (length o.cpus))

  outside : (c : ℕ) → (cpu_of s.world c).inside ≡ false
  outside c = ⊎_elim
      (λ low.
      let p = there_is ps c (omega (arith, low, all.passes.count)) in
      sym (h.flags c).inside
      ∙ (ap (λ (z : PassView). z.inside) (sym (pass_is c p.0 p.1))
      ∙ each_at (λ z. z.inside ≡ false) ps c p.0 all.outside p.1))
      (λ high. ap (λ (y : CpuRecord). y.inside) (past_all c high))
      (below c (length o.cpus))

  pub settled : IsSettled s.world
  settled = record { free = free; outside = outside }

  pub own_is : (i : ℕ) (b : BoxView) → slice_get bs i ≡ Some b → cpu_of s.world i ≡ b.own
  own_is i b at =
      same_quiet (cpu_of s.world i) (free i)
      ∙ ap (λ (z : BoxView). z.own) (sym (box_is i b at))

pub ends : (law : CoreLaws) → Ends
ends law o id bs ps words slots all f =
    let t = f.0 in
    let h = f.1.0 in
    let s = h.0 in
    let view = h.5 id (seen bs ps) f.1.1 in
    let still = settled o s h.3 h.1 h.2 id bs ps all view in
    record {
      whole = s;
      shown = h.3;
      spelled = subst (λ l. Spell (layout_of o) l s) f.2 h.4;
      settled = still;
      rests = law.rests s.world h.3.fits.lawful still;
      cpus = own_is o s h.3 h.1 h.2 id bs ps all view;
      passes = pass_is o s h.3 h.1 h.2 id bs ps all view;
    }
