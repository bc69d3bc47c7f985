-- each timer is queued at one place, and each arming has at most one end
use Rattle.std.proofs.Common.{◌≡◌, ℕ, zero, suc, List, [], ◌∷◌, Some, None, refl, sym, ap, ◌∙◌}
use Rattle.std.proofs.Common.{subst}
use Rattle.std.specs.Prelude.{option_map, slice_get}
use Rattle.std.proofs.lemmas.Option.{none-some, same_Some}
use Rattle.tm_base.specs.declared.names.Class.{Class}
use Rattle.wheel_core.specs.declared.item.Item.{Item}
use Rattle.wheel_core.specs.PlainBase.{HasDistinctIds, item_of}
use Rattle.wheel_core.proofs.Ids.{item_there}
use Rattle.cpu_bases.specs.CpuBases.{base_of, class_in, found_in}
use Rattle.cpu_bases.proofs.Ends.{each_end_fits, one_end}
use Rattle.cpu_bases.proofs.Queued.{queued_once}
use Rattle.core_world.specs.Lawful.{IsLawful}
use Rattle.core_world.specs.World.{World, cpu_of}
use Rattle.core_facts.specs.Cover.Once.{EachOnce, IsOnePlace, IsQueuedAt}

-- ids that are distinct stand at one place each
not_behind : (first : Item) (items : List Item) (k : ℕ) (item : Item) →
    HasDistinctIds (first ∷ items) → slice_get items k ≡ Some item → first.id ≡ item.id → ⊥
not_behind first items k item distinct at same =
    none-some item (sym (subst (λ id. item_of id items ≡ None) same distinct.0)
    ∙ item_there items k item distinct.1 at)

one_place : (items : List Item) (i k : ℕ) (item other : Item) → HasDistinctIds items →
    slice_get items i ≡ Some item → slice_get items k ≡ Some other → item.id ≡ other.id → i ≡ k
one_place [] i k item other distinct at at' same = absurd (none-some item at)
one_place (first ∷ items) zero zero item other distinct at at' same = refl
one_place (first ∷ items) zero (suc k) item other distinct at at' same =
    absurd (not_behind first items k other distinct at' (ap (λ (x : Item). x.id) (same_Some _ _ at)
    ∙ same))
one_place (first ∷ items) (suc i) zero item other distinct at at' same =
    absurd (not_behind first items i item distinct at (ap (λ (x : Item). x.id) (same_Some _ _ at')
    ∙ sym same))
one_place (first ∷ items) (suc i) (suc k) item other distinct at at' same =
    ap suc (one_place items i k item other distinct.1 at at' same)

module _ (w : World) (l : IsLawful w) (timer : ℕ) where
  distinct_in : (c : ℕ) (class : Class) → HasDistinctIds (base_of class (cpu_of w c).bases).items
  distinct_in c class = ((l.timers.consistent c).fits class).sound.distinct

  found : (c : ℕ) (class : Class) (place : ℕ) (at : IsQueuedAt w timer c class place) →
      found_in timer (cpu_of w c).bases ≡ Some (class, at.item)
  found c class place at =
      queued_once (cpu_of w c).bases timer class at.item (l.timers.consistent c)
      (subst (λ id. item_of id (base_of class (cpu_of w c).bases).items ≡ Some at.item) at.timers
      (item_there (base_of class (cpu_of w c).bases).items place at.item
      (distinct_in c class) at.there))

  in_class : (c : ℕ) (class : Class) (place : ℕ) → IsQueuedAt w timer c class place →
      class_in timer (cpu_of w c).bases ≡ Some class
  in_class c class place at = ap (option_map (λ (p : Class × Item). p.0)) (found c class place at)

  -- on one CPU
  one_class : (c : ℕ) (class other : Class) (place spot : ℕ) → IsQueuedAt w timer c class place →
      IsQueuedAt w timer c other spot → class ≡ other
  one_class c class other place spot at at' =
      same_Some _ _ (sym (in_class c class place at) ∙ in_class c other spot at')

  same_place : (c : ℕ) (class : Class) (place spot : ℕ) → IsQueuedAt w timer c class place →
      IsQueuedAt w timer c class spot → place ≡ spot
  same_place c class place spot at at' =
      one_place (base_of class (cpu_of w c).bases).items place spot at.item at'.item
      (distinct_in c class) at.there at'.there (at.timers ∙ sym at'.timers)

  queued : (c d : ℕ) (class other : Class) (place spot : ℕ) → IsQueuedAt w timer c class place →
      IsQueuedAt w timer d other spot → IsOnePlace c class place d other spot
  queued c d class other place spot at at' =
      let cpu = l.timers.one_cpu c d timer class other (in_class c class place at)
      (in_class d other spot at') in
      let here : IsQueuedAt w timer c other spot =
      subst (λ n. IsQueuedAt w timer n other spot) (sym cpu) at' in
      let class_is = one_class c class other place spot at here in
      record {
        cpu = cpu;
        class_is = class_is;
        place_is = same_place c class place spot at
            (subst (λ k. IsQueuedAt w timer c k spot) (sym class_is) here);
      }

pub each_once : EachOnce
each_once w l = record {
  queued = λ timer. queued w l timer;
  ended = λ c i j k arming one other ends also. record {
    place_is = one_end c (cpu_of w c).bases.journal i j k arming one other
        (l.timers.legal c).legal ends also;
    fits = each_end_fits c (cpu_of w c).bases.journal i j arming one (l.timers.legal c).legal ends;
  };
}
