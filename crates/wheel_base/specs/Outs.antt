-- what goes out, with its key: cited by no public clause
use Rattle.std.specs.Prelude.{◌≡◌, ℕ, List, Some, ◌==◌, ◌&&◌, filter}
use Rattle.wheel_core.specs.PlainBase.{first_out, least, out_at}
use Rattle.wheel_base.specs.Files.{Entry, IsStored, items_of}
use Rattle.wheel_base.specs.Marks.{Among}

-- the entries of a level and a wheel expiry
abbrev pub at_level : (level wheel : ℕ) → List Entry → List Entry
at_level level wheel filed = filter (λ e. (e.1.wheel == wheel) && (e.1.level == level)) filed

-- no entry has this wheel expiry
abbrev pub NoneAt : (wheel : ℕ) → List Entry → Type 0
NoneAt wheel filed = (e : Entry) → Among e filed → e.1.wheel ≡ wheel → ⊥

-- the entry of what goes out first of a wheel expiry
pub record IsOutOf (wheel : ℕ) (filed : List Entry) (e : Entry) : Type 0 where
  pub out : first_out wheel (items_of filed) ≡ Some e.1
  pub stored : IsStored filed e
  pub wheel_is : e.1.wheel ≡ wheel

-- the entry of what goes out next at a time
pub record IsNextOut (now : ℕ) (filed : List Entry) (e : Entry) : Type 0 where
  pub out : out_at now (least (items_of filed)) (items_of filed) ≡ Some e.1
  pub stored : IsStored filed e
  pub first : least (items_of filed) ≡ Some e.1.wheel
