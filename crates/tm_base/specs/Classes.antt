-- the classes of timers
use Rattle.std.specs.Prelude.{ℕ, List, Bool, true, false, codes}
use Rattle.tm_base.specs.declared.names.Class.{Class}
use Rattle.tm_base.specs.declared.names.Class.TheVariants.{Pinned, Global, Deferrable}

-- the word by which scripts and reports name a class
abbrev pub class_text : Class → List ℕ
class_text Pinned = codes "pinned"
class_text Global = codes "global"
class_text Deferrable = codes "deferrable"

-- whether two classes are one
abbrev pub same_class : Class → Class → Bool
same_class Pinned Pinned = true
same_class Global Global = true
same_class Deferrable Deferrable = true
same_class _ _ = false
