-- the word of a group's state, as exchanges read it
use Rattle.std.specs.Prelude.{◌≡◌, ℕ, ◌-◌, ◌/◌, ◌^◌, ◌<◌, ◌==◌, Bool, not, bit_and}
use Rattle.group_word.specs.declared.state.GroupState.{GroupState}
use Rattle.group_word.specs.State.{IsStateOf, activated_state, state_word, swapped_state}

-- the word of a lawful state whose sequence can rise by one
abbrev pub HasRoom : ℕ → Type 0
HasRoom word = (s : GroupState) × IsStateOf word s × (s.seq < 2 ^ 48 - 1)

-- one of the bits of the migrator is set
abbrev pub shows_migrator : ℕ → Bool
shows_migrator word = not (bit_and (word / 2 ^ 8) 255 == 0)

-- the word after the exchange by which a child joins
abbrev pub IsJoinOf : (word child after : ℕ) → Type 0
IsJoinOf word child after =
    (s : GroupState) → IsStateOf word s → after ≡ state_word (activated_state s child)

-- the word after the exchange by which a child leaves, unless it was found active
abbrev pub IsSwapOf : (word child : ℕ) → (on : Bool) → (after : ℕ) → Type 0
IsSwapOf word child on after =
    (s : GroupState) → IsStateOf word s → after ≡ state_word (swapped_state s child on)
