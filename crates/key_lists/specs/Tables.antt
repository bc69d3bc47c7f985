-- lists of keys as their callers see them
use Rattle.std.specs.Prelude.{◌≡◌, ◌⊎◌, ℕ, ◌<◌, List, [], ◌∷◌, Option, Some, None, ◌==◌}
use Rattle.std.specs.Prelude.{if◌then◌else◌, unwrap_or, slice_index_or}

-- the lists, how many there are, and from where on a key has no room
pub record KeyTable : Type 0 where
  pub lists : List (List ℕ)
  pub number : ℕ
  pub room : ℕ

-- the list of a number
abbrev pub list_of : KeyTable → ℕ → List ℕ
list_of table c = slice_index_or table.lists c []

-- no key of the list is this one
abbrev pub Lacks : ℕ → List ℕ → Type 0
Lacks key [] = Unit {0}
Lacks key (k ∷ ks) = (k ≡ key → ⊥) × Lacks key ks

-- a key of the list is this one
abbrev pub Holds : ℕ → List ℕ → Type 0
Holds key [] = ⊥
Holds key (k ∷ ks) = (k ≡ key) ⊎ Holds key ks

-- the list without the first such key
abbrev pub without : ℕ → List ℕ → List ℕ
without key [] = []
without key (k ∷ ks) = if k == key then ks else k ∷ without key ks

-- the first key of a list, if it has one
abbrev pub first_key : List ℕ → Option ℕ
first_key [] = None
first_key (k ∷ ks) = Some k

-- the last key of a list, if it has one
abbrev pub last_of : List ℕ → Option ℕ
last_of [] = None
last_of (k ∷ ks) = Some (unwrap_or (last_of ks) k)

-- the table has this number of lists, all empty
pub record IsEmptyTable (number : ℕ) (table : KeyTable) : Type 0 where
  pub number_is : table.number ≡ number
  pub empty : (c : ℕ) → c < number → list_of table c ≡ []
