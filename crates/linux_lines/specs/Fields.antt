-- the fields of an event
use Rattle.std.specs.Prelude.{ℕ, List, ◌==◌, codes, Option, Some, None, Result, Ok, Err, bytes_eq}
use Rattle.std.specs.Prelude.{if◌then◌else◌}
use Rattle.linux_lines.specs.declared.faults.LineFault.{LineFault}
use Rattle.linux_lines.specs.declared.faults.LineFault.TheVariants.{OutOfRange}
use Rattle.linux_lines.specs.declared.events.TheConstants.{NO_EXPIRY}
use Rattle.linux_lines.specs.declared.events.Place.{Place}
use Rattle.linux_lines.specs.declared.numbers.Base.TheVariants.{Ten}
use Rattle.linux_lines.specs.Parts.{has_key, value_in}
use Rattle.linux_lines.specs.Numbers.{number_in, mask_in, pointer_in, within}

-- a step, and what follows it where it gave something
infixl 10 ◌>>=◌
-- what comes after an answer that is no fault
abbrev pub ◌>>=◌ : {A B E : Type 0} → Result A E → (A → Result B E) → Result B E
(Ok x) >>= f = f x
(Err e) >>= f = Err e

-- a decimal field of at most this
unfoldable pub number_at : List ℕ → ℕ → List (List ℕ) → Result ℕ LineFault
number_at key most parts = do
  word ← value_in key parts
  n ← number_in Ten word
  within most n

-- an expiry, or that there is none
unfoldable pub expiry_at : List ℕ → List (List ℕ) → Result ℕ LineFault
expiry_at key parts = number_at key NO_EXPIRY parts

-- a mask of at most this
unfoldable pub mask_at : List ℕ → ℕ → List (List ℕ) → Result ℕ LineFault
mask_at key most parts = do
  word ← value_in key parts
  n ← mask_in word
  within most n

-- the group's address behind this word
unfoldable pub pointer_at : List ℕ → List (List ℕ) → Result ℕ LineFault
pointer_at key parts = value_in key parts >>= pointer_in

-- the child whose bit alone makes this mask
unfoldable pub child_of : ℕ → Result ℕ LineFault
child_of mask =
    if mask == 1 then Ok 0
    else if mask == 2 then Ok 1
    else if mask == 4 then Ok 2
    else if mask == 8 then Ok 3
    else if mask == 16 then Ok 4
    else if mask == 32 then Ok 5
    else if mask == 64 then Ok 6
    else if mask == 128 then Ok 7
    else Err OutOfRange

-- the one child of the mask behind this word
unfoldable pub bit_at : List ℕ → List (List ℕ) → Result ℕ LineFault
bit_at key parts = mask_at key 255 parts >>= child_of

-- the child of a joining or an exchange; kernels name the field so or so
unfoldable pub child_at : List (List ℕ) → Result ℕ LineFault
child_at parts =
    if has_key (codes "groupmask=") parts then bit_at (codes "groupmask=") parts
    else bit_at (codes "childmask=") parts

-- the node: none where it is -1
unfoldable pub node_at : List (List ℕ) → Result (Option ℕ) LineFault
node_at parts = do
  word ← value_in (codes "numa=") parts
  if bytes_eq word (codes "-1") then Ok None else number_in Ten word >>= λ n. Ok (Some n)

-- a group with its level and node, by the key of its pointer
unfoldable pub place_at : List ℕ → List (List ℕ) → Result Place LineFault
place_at key parts = do
  group ← pointer_at key parts
  level ← number_at (codes "lvl=") 255 parts
  node ← node_at parts
  Ok (record { group = group; level = level; node = node })
