-- rings as lists of links keep them
use Rattle.std.proofs.Common.{◌≡◌, ℕ, zero, suc, ◌+◌, ◌<◌, ◌≤◌, ◌^◌, List, [], ◌∷◌, length, refl, ap, ◌∙◌, sym, subst, arith}
use Rattle.key_lists.specs.Tables.{list_of}
use Rattle.std.specs.Prelude.{slice_index_or}
use Rattle.key_lists.specs.declared.link.Link.{Link}
use Rattle.key_lists.specs.Rings.{AreEmptyRings, no_link, values_below, table_of, newer_of, older_of, keys_of, IsPath, IsRings}
use Rattle.key_lists.proofs.Paths.{path_walk, few}

values_at : (n : ℕ) (f : ℕ → List ℕ) (i : ℕ) → i < n → slice_index_or (values_below n f) i [] ≡ f i
values_at zero f i below = absurd (omega arith)
values_at (suc n) f zero below = refl
values_at (suc n) f (suc i) below = values_at n (λ j. f (suc j)) i (omega arith)

pub list_is : (n : ℕ) (s : List Link) (c : ℕ) → c < n → list_of (table_of n s) c ≡ keys_of n s c
list_is n s c end = values_at n (keys_of n s) c end

-- links that keep these lists
pub record KeepsLists (n : ℕ) (s : List Link) (lists : ℕ → List ℕ) : Type 0 where
  pub rings : IsRings n s
  pub lists_are : (c : ℕ) → c < n → list_of (table_of n s) c ≡ lists c

pub keeps_lists : (n : ℕ) (s : List Link) (lists : ℕ → List ℕ) → n ≤ length s → length s ≤ 2 ^ 32
    → ((c : ℕ) → c < n → IsPath (newer_of s) (older_of s) n (length s) c c (lists c)) → KeepsLists n s lists
keeps_lists n s lists ends few_places path =
    let keys : (c : ℕ) → c < n → keys_of n s c ≡ lists c =
    λ c end. path_walk (length s) (newer_of s) (older_of s) n (length s) c c (lists c) end (path c end)
    (few (newer_of s) (older_of s) n (length s) c c (lists c) end (path c end)) in
    record {
      rings = record { ends = ends; few = few_places; ring = λ c end. subst (IsPath (newer_of s) (older_of s) n (length s) c c) (sym (keys c end)) (path c end) };
      lists_are = λ c end. list_is n s c end ∙ keys c end;
    }

-- each end alone: empty lists
pub empty_rings_keep : (n : ℕ) (s : List Link) → AreEmptyRings n s → n ≤ 2 ^ 32 → KeepsLists n s (λ c. [])
empty_rings_keep n s empty few_lists =
    let ends = empty.ends in
    keeps_lists n s (λ c. []) (omega arith) (omega arith)
    (λ c below. (ap (λ (x : Link). x.newer) (empty.alone c below), ap (λ (x : Link). x.older) (empty.alone c below)))

-- more places
pub path_grown : (f g f_now g_now : ℕ → ℕ) (n size size_now c a : ℕ) (ks : List ℕ) → c < size → a < size → size ≤ size_now
    → ((i : ℕ) → i < size → (f_now i ≡ f i) × (g_now i ≡ g i)) → IsPath f g n size c a ks → IsPath f_now g_now n size_now c a ks
path_grown f g f_now g_now n size size_now c a [] end at grows same path = ((same a at).0 ∙ path.0, (same c end).1 ∙ path.1)
path_grown f g f_now g_now n size size_now c a (k ∷ ks) end at grows same path =
    ((same a at).0 ∙ path.0, (same (n + k) path.2).1 ∙ path.1, omega arith, path_grown f g f_now g_now n size size_now c (n + k) ks end path.2 grows same path.3)

pub rings_grown : (n : ℕ) (s more : List Link) → IsRings n s → length s ≤ length more → length more ≤ 2 ^ 32 → ((i : ℕ) → i < length s → slice_index_or more i no_link ≡ slice_index_or s i no_link)
    → KeepsLists n more (keys_of n s)
rings_grown n s more rings longer few_more same =
    keeps_lists n more (keys_of n s) (omega (arith, rings.ends)) few_more
    (λ c below. path_grown (newer_of s) (older_of s) (newer_of more) (older_of more) n (length s) (length more) c c (keys_of n s c) (omega (arith, rings.ends)) (omega (arith, rings.ends)) longer
    (λ i l. (ap (λ (x : Link). x.newer) (same i l), ap (λ (x : Link). x.older) (same i l))) (rings.ring c below))
