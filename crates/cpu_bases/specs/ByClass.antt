-- what there is one of for each class
use Rattle.tm_base.specs.declared.names.Class.{Class}
use Rattle.tm_base.specs.declared.names.Class.TheVariants.{Pinned, Global, Deferrable}

-- what there is one of for each class
pub record ByClass (A : Type 0) : Type 0 where
  pub pinned : A
  pub global : A
  pub deferrable : A

-- the one of a class
abbrev pub of_class : {A : Type 0} → Class → ByClass A → A
of_class Pinned all = all.pinned
of_class Global all = all.global
of_class Deferrable all = all.deferrable

-- another one in the place of a class's
abbrev pub with_class : {A : Type 0} → Class → A → ByClass A → ByClass A
with_class Pinned one all = record all { pinned = one }
with_class Global one all = record all { global = one }
with_class Deferrable one all = record all { deferrable = one }
