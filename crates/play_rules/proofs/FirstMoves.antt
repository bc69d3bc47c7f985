-- for crates above: which timer of a CPU moves first, and that nothing is queued where none does
use Rattle.std.proofs.Common.{◌≡◌, ◌⊎◌, inl, inr, List, [], ◌∷◌, Option, Some, None, length}
use Rattle.std.proofs.Common.{refl, sym, subst, arith}
use Rattle.std.specs.Prelude.{option_map}
use Rattle.std.specs.Option.{option_or}
use Rattle.std.proofs.lemmas.Option.{none-some, same_Some}
use Rattle.tm_base.specs.declared.names.Class.{Class}
use Rattle.tm_base.specs.declared.names.Class.TheVariants.{Pinned, Global, Deferrable}
use Rattle.wheel_core.specs.declared.item.Item.{Item}
use Rattle.cpu_bases.specs.CpuBases.{CpuBases, base_of, oldest_in}
use Rattle.cpu_bases.proofs.Counts.{count_in}
use Rattle.play_rules.specs.Timers.{first_to_move, oldest_of_class}

-- the first of two
pub either_some : {X : Type 0} (a b : Option X) (x : X) → option_or a b ≡ Some x → (a ≡ Some x)
    ⊎ (b ≡ Some x)
either_some None b x is = inr is
either_some (Some y) b x is = inl is

pub either_none : {X : Type 0} (a b : Option X) → option_or a b ≡ None → (a ≡ None) × (b ≡ None)
either_none None b is = (refl, is)
either_none (Some x) b is = absurd (none-some x (sym is))

-- which moves first is the oldest of its class
oldest_is : (class : Class) (b : CpuBases) (o : Option Item) (f : Class × Item)
    → oldest_in (base_of class b).items ≡ o → option_map (λ (item : Item). (class, item)) o ≡ Some f
    → oldest_in (base_of f.0 b).items ≡ Some f.1
oldest_is class b None f at is = absurd (none-some f is)
oldest_is class b (Some item) f at is =
    let same : (class, item) ≡ f = same_Some (class, item) f is in
    subst (λ (x : Class × Item). oldest_in (base_of x.0 b).items ≡ Some x.1) same at

oldest_one : (class : Class) (b : CpuBases) (f : Class × Item) → oldest_of_class class b ≡ Some f
    → oldest_in (base_of f.0 b).items ≡ Some f.1
oldest_one class b f is = oldest_is class b (oldest_in (base_of class b).items) f refl is

pub first_is : (b : CpuBases) (f : Class × Item) → first_to_move b ≡ Some f
    → oldest_in (base_of f.0 b).items ≡ Some f.1
first_is b f is =
    elim (either_some (oldest_of_class Pinned b)
    (option_or (oldest_of_class Global b) (oldest_of_class Deferrable b)) f is) [
      | inl pinned ↦ oldest_one Pinned b f pinned
      | inr others ↦
          elim (either_some (oldest_of_class Global b) (oldest_of_class Deferrable b) f others) [
            | inl global ↦ oldest_one Global b f global
            | inr deferrable ↦ oldest_one Deferrable b f deferrable
          ]
    ]

-- and where none does, nothing is queued
no_items : (class : Class) (items : List Item)
    → option_map {U = Class × Item} (λ item. (class, item)) (oldest_in items) ≡ None
    → length items ≡ 0
no_items class [] none = refl
no_items class (item ∷ items) none = absurd (none-some (class, item) (sym none))

pub none_queued : (b : CpuBases) → first_to_move b ≡ None → count_in b ≡ 0
none_queued b none =
    let some = either_none (oldest_of_class Pinned b)
    (option_or (oldest_of_class Global b) (oldest_of_class Deferrable b)) none in
    let rest = either_none (oldest_of_class Global b) (oldest_of_class Deferrable b) some.1 in
    let p = no_items Pinned (base_of Pinned b).items some.0 in
    let g = no_items Global (base_of Global b).items rest.0 in
    let d = no_items Deferrable (base_of Deferrable b).items rest.1 in
    omega (arith, p, g, d)
