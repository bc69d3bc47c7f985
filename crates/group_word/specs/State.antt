-- the state of a group as it is kept, with the number of exchanges made on it, and its word
use Rattle.std.specs.Prelude.{◌≡◌, ℕ, ◌+◌, ◌*◌, ◌^◌, ◌<◌, ◌==◌, Bool, true, false, Option, Some}
use Rattle.std.specs.Prelude.{None, if◌then◌else◌, bit_or, bit_and}
use Rattle.std.specs.Int.{bit_not, trailing_zeros, w8}
use Rattle.std.specs.Option.{option_or}
use Rattle.group_word.specs.declared.state.GroupState.{GroupState}
use Rattle.group_word.specs.Group.{GroupLaw}

-- a state that a group may have (the kernel's union tmigr_state)
pub record IsLawfulState (s : GroupState) : Type 0 where
  pub eight_children : s.active < 2 ^ 8
  pub group : GroupLaw s.active s.migrator
  pub sequence : s.seq < 2 ^ 48

-- the set with child k
abbrev pub with_child : ℕ → ℕ → ℕ
with_child active k = bit_or active (2 ^ k)

-- the set without child k
abbrev pub without_child : ℕ → ℕ → ℕ
without_child active k = bit_and active (bit_not w8 (2 ^ k))

-- the lowest child of the set
abbrev pub lowest_child : ℕ → Option ℕ
lowest_child active = if active == 0 then None else Some (trailing_zeros w8 active)

-- the migrator where child k has left, and this set remains (tmigr_inactive_up)
abbrev pub migrator_without : Option ℕ → ℕ → ℕ → Option ℕ
migrator_without None k remaining = None
migrator_without (Some migrator) k remaining =
    if migrator == k then lowest_child remaining else Some migrator

-- the state after an exchange by which child k joins: the migrator that there was stays, and else
-- the child is it (tmigr_active_up)
abbrev pub activated_state : GroupState → ℕ → GroupState
activated_state s k = record {
  active = with_child s.active k;
  migrator = option_or s.migrator (Some k);
  seq = s.seq + 1;
}

-- the state after an exchange by which child k leaves, unless it was found active
-- (tmigr_inactive_up)
abbrev pub swapped_state : GroupState → ℕ → Bool → GroupState
swapped_state s k true = record s { seq = s.seq + 1 }
swapped_state s k false = record {
  active = without_child s.active k;
  migrator = migrator_without s.migrator k (without_child s.active k);
  seq = s.seq + 1;
}

-- a migrator as one bit, or 0 where there is none
abbrev pub migrator_bits : Option ℕ → ℕ
migrator_bits None = 0
migrator_bits (Some migrator) = 2 ^ migrator

-- bits 0 to 7 are the active set, 8 to 15 the migrator, 16 to 63 the sequence (union tmigr_state,
-- whose sequence has 16 bits)
abbrev pub state_word : GroupState → ℕ
state_word s = s.active + 2 ^ 8 * migrator_bits s.migrator + 2 ^ 16 * s.seq

-- s is lawful and has this word
pub record IsStateOf (word : ℕ) (s : GroupState) : Type 0 where
  pub lawful : IsLawfulState s
  pub spelled : state_word s ≡ word
