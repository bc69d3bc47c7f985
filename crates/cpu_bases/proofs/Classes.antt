-- for crates above: three of a kind by class, and what becomes of each where one is changed
use Rattle.std.proofs.Common.{◌≡◌, true, false, refl}
use Rattle.std.proofs.lemmas.Bool.{both_ways}
use Rattle.tm_base.specs.Classes.{same_class}
use Rattle.tm_base.specs.declared.names.Class.{Class}
use Rattle.tm_base.specs.declared.names.Class.TheVariants.{Pinned, Global, Deferrable}
use Rattle.cpu_bases.specs.ByClass.{ByClass, of_class, with_class}

pub class_itself : (class : Class) → same_class class class ≡ true
class_itself Pinned = refl
class_itself Global = refl
class_itself Deferrable = refl

pub class_is : (a class : Class) → same_class a class ≡ true → a ≡ class
class_is Pinned Pinned same = refl
class_is Pinned Global same = absurd (both_ways false refl same)
class_is Pinned Deferrable same = absurd (both_ways false refl same)
class_is Global Pinned same = absurd (both_ways false refl same)
class_is Global Global same = refl
class_is Global Deferrable same = absurd (both_ways false refl same)
class_is Deferrable Pinned same = absurd (both_ways false refl same)
class_is Deferrable Global same = absurd (both_ways false refl same)
class_is Deferrable Deferrable same = refl

-- what holds of the new one, and of the others, holds of each
pub each_with : {A : Type 0} (P : Class → A → Type 0) (class : Class) (one : A) (all : ByClass A)
    → P class one → ((k : Class) → same_class class k ≡ false → P k (of_class k all))
    → (k : Class) → P k (of_class k (with_class class one all))
each_with P Pinned one all own others Pinned = own
each_with P Pinned one all own others Global = others Global refl
each_with P Pinned one all own others Deferrable = others Deferrable refl
each_with P Global one all own others Pinned = others Pinned refl
each_with P Global one all own others Global = own
each_with P Global one all own others Deferrable = others Deferrable refl
each_with P Deferrable one all own others Pinned = others Pinned refl
each_with P Deferrable one all own others Global = others Global refl
each_with P Deferrable one all own others Deferrable = own

-- the one of a class that was changed, and another
pub of_class-with : {A : Type 0} (class : Class) (one : A) (all : ByClass A)
    → of_class class (with_class class one all) ≡ one
of_class-with Pinned one all = refl
of_class-with Global one all = refl
of_class-with Deferrable one all = refl

pub same_false : (a class : Class) → (a ≡ class → ⊥) → same_class class a ≡ false
same_false Pinned Pinned apart = absurd (apart refl)
same_false Pinned Global apart = refl
same_false Pinned Deferrable apart = refl
same_false Global Pinned apart = refl
same_false Global Global apart = absurd (apart refl)
same_false Global Deferrable apart = refl
same_false Deferrable Pinned apart = refl
same_false Deferrable Global apart = refl
same_false Deferrable Deferrable apart = absurd (apart refl)

pub of_class-other : {A : Type 0} (class k : Class) (one : A) (all : ByClass A)
    → same_class class k ≡ false → of_class k (with_class class one all) ≡ of_class k all
of_class-other class k one all other =
    each_with (λ j it. same_class class j ≡ false → it ≡ of_class j all) class one all
    (λ same. absurd (both_ways (same_class class class) same (class_itself class)))
    (λ j apart same. refl) k other

-- the one that is there put in its own place
pub with_itself : {A : Type 0} (class : Class) (all : ByClass A)
    → with_class class (of_class class all) all ≡ all
with_itself Pinned all = refl
with_itself Global all = refl
with_itself Deferrable all = refl
