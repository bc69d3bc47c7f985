-- items by their keys, as the wheel keeps them: cited by no public clause
use Rattle.std.specs.Prelude.{◌≡◌, ◌⊎◌, ℕ, ◌+◌, ◌*◌, ◌/◌, ◌%◌, ◌<◌, ◌≤◌, List, [], ◌∷◌, Option}
use Rattle.std.specs.Prelude.{Some, None, ◌==◌, if◌then◌else◌, unwrap_or, slice_index_or, map}
use Rattle.std.specs.Prelude.{filter, length, count_by, is_some, bit_and}
use Rattle.std.specs.Int.{bit_at}
use Rattle.slab.specs.Slab.{Slab}
use Rattle.key_lists.specs.Tables.{KeyTable, Lacks, list_of}
use Rattle.wheel_core.specs.declared.item.Item.{Item}
use Rattle.wheel_core.specs.WheelExpiry.{granularity}
use Rattle.wheel_core.specs.PlainBase.{item_of}

-- a key with its item
abbrev pub Entry : Type 0
Entry = ℕ × Item

-- keys with their items in arming order, and how many there is memory for
pub record Files : Type 0 where
  pub filed : List Entry
  pub room : ℕ

-- the items of these entries
abbrev pub items_of : List Entry → List Item
items_of filed = map (λ (e : Entry). e.1) filed

-- the place of a wheel expiry in its level
abbrev pub place_at : (level wheel : ℕ) → ℕ
place_at level wheel = wheel / granularity level % 64

-- the number of an item's bucket
abbrev pub bucket_of : Item → ℕ
bucket_of item = 64 * item.level + place_at item.level item.wheel

-- the entries of a bucket
abbrev pub in_bucket : (bucket : ℕ) → List Entry → List Entry
in_bucket bucket filed = filter (λ e. bucket_of e.1 == bucket) filed

-- whether there is one, as a bit
abbrev pub bucket_mark : List Entry → ℕ
bucket_mark [] = 0
bucket_mark (e ∷ filed) = 1

-- the first entry, if there is one
abbrev pub first_entry : List Entry → Option Entry
first_entry [] = None
first_entry (e ∷ filed) = Some e

-- the last entry, if there is one
abbrev pub last_entry : List Entry → Option Entry
last_entry [] = None
last_entry (e ∷ filed) = Some (unwrap_or (last_entry filed) e)

-- an entry has this key
abbrev pub HasKey : ℕ → List Entry → Type 0
HasKey key [] = ⊥
HasKey key (e ∷ filed) = (e.0 ≡ key) ⊎ HasKey key filed

-- the item of a key
abbrev pub item_under : ℕ → List Entry → Option Item
item_under key [] = None
item_under key (e ∷ filed) = if e.0 == key then Some e.1 else item_under key filed

-- the entry is found by its key
pub record IsStored (filed : List Entry) (e : Entry) : Type 0 where
  pub has : HasKey e.0 filed
  pub under : item_under e.0 filed ≡ Some e.1

-- the item under the key is the id's
pub record IsKeyOf (id : ℕ) (filed : List Entry) (key : ℕ) : Type 0 where
  pub item : Item
  pub stored : IsStored filed (key, item)
  pub item_is : item_of id (items_of filed) ≡ Some item
  pub id_is : item.id ≡ id

-- the entries without the first that has this key
abbrev pub without_key : ℕ → List Entry → List Entry
without_key key [] = []
without_key key (e ∷ filed) = if e.0 == key then filed else e ∷ without_key key filed

-- THE STORE'S FIELDS
abbrev pub Slots : Type 0
Slots = List (Option Item)

-- an item to read where there is none
abbrev pub no_item : Item
no_item = record { id = 0; expires = 0; wheel = 0; level = 0; job = 0; arg = 0 }

-- the item at a key of the slab
abbrev pub item_at : Slots → ℕ → Item
item_at slots key = unwrap_or (slice_index_or slots key None) no_item

-- these keys with their items
abbrev pub filed_at : Slots → List ℕ → List Entry
filed_at slots keys = map (λ key. (key, item_at slots key)) keys

-- the entries in arming order, and how many the slab has room for
abbrev pub files_of : Slab Item → KeyTable → Files
files_of items armed = record {
  filed = filed_at items.slots (list_of armed 0);
  room = items.capacity;
}

-- each key has an item of one of the nine levels, and no key comes twice
abbrev pub AreStored : Slots → List ℕ → Type 0
AreStored slots [] = Unit {0}
AreStored slots (key ∷ keys) =
    (slice_index_or slots key None ≡ Some (item_at slots key))
    × ((item_at slots key).level < 9) × Lacks key keys × AreStored slots keys

-- the class of an item by its id
abbrev pub name_of : (mask : ℕ) → Item → ℕ
name_of mask item = bit_and item.id mask

-- each list of a table has the keys of a class, in arming order
abbrev pub AreClassed : (class : Item → ℕ) → Slots → List ℕ → KeyTable → Type 0
AreClassed class slots keys table =
    (number : ℕ) → number < table.number
    → list_of table number ≡ filter (λ key. class (item_at slots key) == number) keys

-- items are filed three times: one list in arming order, one for each of 576 buckets, and one for
-- each value of the low bits of an id; a mark is set exactly where a bucket has an entry
pub record IsFiled (items : Slab Item) (armed buckets names : KeyTable) (mask : ℕ)
    (marks : List ℕ) : Type 0 where
  pub one : armed.number ≡ 1
  pub many : buckets.number ≡ 576
  pub masked : mask < names.number
  pub stored : AreStored items.slots (list_of armed 0)
  pub counted : count_by is_some items.slots ≡ length (list_of armed 0)
  pub chained : AreClassed bucket_of items.slots (list_of armed 0) buckets
  pub named : AreClassed (name_of mask) items.slots (list_of armed 0) names
  pub marked : (level place : ℕ) → level < 9 → place < 64
      → bit_at (slice_index_or marks level 0) place
      ≡ bucket_mark (in_bucket (64 * level + place) (filed_at items.slots (list_of armed 0)))
  pub armed_room : items.capacity ≤ armed.room
  pub bucket_room : items.capacity ≤ buckets.room
  pub name_room : items.capacity ≤ names.room
