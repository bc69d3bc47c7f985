-- how rings of links keep lists of keys: cited by the crate's own invariant and by no public clause
use Rattle.std.specs.Prelude.{◌≡◌, ℕ, zero, suc, ◌+◌, ◌-◌, ◌<◌, ◌≤◌, ◌^◌, List, [], ◌∷◌, length}
use Rattle.std.specs.Prelude.{◌==◌, if◌then◌else◌, slice_index_or}
use Rattle.key_lists.specs.declared.link.Link.{Link}
use Rattle.key_lists.specs.Tables.{KeyTable}

-- a link to read where there is none
abbrev pub no_link : Link
no_link = record { older = 0; newer = 0 }

-- the place of the next newer key in the ring of a place
abbrev pub newer_of : List Link → ℕ → ℕ
newer_of s i = (slice_index_or s i no_link).newer

-- the place of the next older key in the ring of a place
abbrev pub older_of : List Link → ℕ → ℕ
older_of s i = (slice_index_or s i no_link).older

-- the keys after a place up to the end c, so many at most
abbrev pub walk : ℕ → (ℕ → ℕ) → (n c a : ℕ) → List ℕ
walk zero f n c a = []
walk (suc m) f n c a = if f a == c then [] else (f a - n) ∷ walk m f n c (f a)

-- the keys of list c, from the oldest to the newest, as its ring of links keeps them
abbrev pub keys_of : (n : ℕ) → List Link → ℕ → List ℕ
keys_of n s c = walk (length s) (newer_of s) n c c

-- the values of a function below a number
abbrev pub values_below : ℕ → (ℕ → List ℕ) → List (List ℕ)
values_below zero f = []
values_below (suc n) f = f 0 ∷ values_below n (λ i. f (suc i))

-- the table of n lists that these links keep
abbrev pub table_of : ℕ → List Link → KeyTable
table_of n s = record { lists = values_below n (keys_of n s); number = n; room = length s - n }

-- from the place a the places of these keys follow, and then the end c
abbrev pub IsPath : (f g : ℕ → ℕ) (n size c a : ℕ) → List ℕ → Type 0
IsPath f g n size c a [] = (f a ≡ c) × (g c ≡ a)
IsPath f g n size c a (k ∷ ks) =
    (f a ≡ n + k) × (g (n + k) ≡ a) × (n + k < size) × IsPath f g n size c (n + k) ks

-- each end's ring holds its keys, and a link has 32 bits for a place
pub record IsRings (n : ℕ) (s : List Link) : Type 0 where
  pub ends : n ≤ length s
  pub few : length s ≤ 2 ^ 32
  pub ring : (c : ℕ) → c < n
      → IsPath (newer_of s) (older_of s) n (length s) c c (keys_of n s c)

-- each end is alone in its ring
pub record AreEmptyRings (n : ℕ) (s : List Link) : Type 0 where
  pub ends : length s ≡ n
  pub alone : (c : ℕ) → c < n → slice_index_or s c no_link ≡ record { older = c; newer = c }
