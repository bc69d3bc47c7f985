-- the states of groups, and which follows from which by an exchange
use Rattle.std.specs.Prelude.{ℕ, ◌==◌, ◌&&◌, Bool, true, false, nat_lt, Option, Some, None}
use Rattle.std.specs.Prelude.{if◌then◌else◌}
use Rattle.std.specs.Int.{bit_at}
use Rattle.group_word.specs.declared.state.GroupState.{GroupState}
use Rattle.group_word.specs.State.{activated_state, swapped_state}
use Rattle.linux_lines.specs.declared.events.Exchange.{Exchange}
use Rattle.linux_seen.specs.declared.seen.Word.{Word}

-- the child whose bit alone this is
unfoldable pub named_by : ℕ → Option ℕ
named_by bit =
    if bit == 1 then Some 0
    else if bit == 2 then Some 1
    else if bit == 4 then Some 2
    else if bit == 8 then Some 3
    else if bit == 16 then Some 4
    else if bit == 32 then Some 5
    else if bit == 64 then Some 6
    else if bit == 128 then Some 7
    else None

-- where there is no migrator, no child is active
abbrev pub state_asleep : ℕ → Option GroupState
state_asleep active =
    if active == 0 then Some (record { active = 0; migrator = None; seq = 0 }) else None

-- the migrator is an active child
abbrev pub state_led : ℕ → ℕ → Option GroupState
state_led migrator active =
    if bit_at active migrator == 1
    then Some (record { active = active; migrator = Some migrator; seq = 0 })
    else None

-- the state of an active set with a migrator that is known
abbrev pub state_named : Option ℕ → ℕ → Option GroupState
state_named None active = None
state_named (Some migrator) active = state_led migrator active

-- the lawful state that a word shows, with no exchange counted
unfoldable pub state_of : Word → Option GroupState
state_of w =
    if w.migrator == 0 then state_asleep w.active else state_named (named_by w.migrator) w.active

-- the state after an exchange; a deactivation that finds its child active leaves the bit
abbrev pub exchanged : GroupState → Exchange → GroupState
exchanged s e =
    if e.joins then activated_state s e.bit
    else swapped_state s e.bit (bit_at e.active e.bit == 1)

-- two numbers are the same, or both none
abbrev pub same_number : Option ℕ → Option ℕ → Bool
same_number None None = true
same_number None (Some m) = false
same_number (Some n) None = false
same_number (Some n) (Some m) = n == m

-- one state, but for the count of exchanges
abbrev pub same_state : GroupState → GroupState → Bool
same_state a b = a.active == b.active && same_number a.migrator b.migrator

-- what an exchange's line shows of its group
abbrev pub word_after : Exchange → Word
word_after e = record { active = e.active; migrator = e.migrator }

-- one state follows from another by this exchange
abbrev pub follows_by : Option GroupState → Option GroupState → Exchange → Bool
follows_by None new e = false
follows_by (Some old) None e = false
follows_by (Some old) (Some new) e = same_state (exchanged old e) new

-- made on this word, the exchange gives the word that its line shows
unfoldable pub follows : Word → Exchange → Bool
follows before e = nat_lt e.bit 8 && follows_by (state_of before) (state_of (word_after e)) e
