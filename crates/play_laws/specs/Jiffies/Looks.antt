-- the looks of interrupts: none that is due is left where a CPU has looked
use Rattle.std.specs.Prelude.{◌≡◌, ℕ, ◌<◌, ◌≤◌, [], Some, slice_get, take, true}
use Rattle.std.specs.FinSet as set
use Rattle.tree_plan.specs.Paths.{group_at_of, level_count_of}
use Rattle.tm_script.specs.declared.syntax.Script.{Script}
use Rattle.tm_script.specs.Grammar.{IsScript}
use Rattle.play_rules.specs.Hierarchy.{due_sleepers, looks_after}
use Rattle.play_rules.specs.Interrupts.{Replies, drains, having_interrupt, interrupts, look, looks}
use Rattle.play_rules.specs.Moments.{Turn, last_state}
use Rattle.play_rules.specs.State.{State, cpu_count}
use Rattle.play_rules.specs.Play.{at_clock, plain_rules, play_start, play_turns}

-- a moment begins in state s: the state in which CPU c begins to look, after the interrupts of the
-- CPUs below it and the drains of its own bases
abbrev pub looks_from : Replies → State → (c : ℕ) → State
looks_from jobs s c =
    (drains jobs plain_rules c
    (interrupts jobs plain_rules c 0 (having_interrupt plain_rules s) s).state).state

-- the state in which it comes to its group at a level, where it looked after those below
abbrev pub looks_at_level : Replies → State → (c level : ℕ) → State
looks_at_level jobs s c level = (looks jobs plain_rules level c 0 (looks_from jobs s c)).state

-- it looks after its groups up to this level
abbrev pub LooksUpTo : Replies → State → (c level : ℕ) → Type 0
LooksUpTo jobs s c level =
    (l : ℕ) → l ≤ level → looks_after (looks_at_level jobs s c l) c l ≡ true

-- the state after its look at that level, at which it tries as many CPUs at most as there are
abbrev pub after_look : Replies → State → (c level : ℕ) → State
after_look jobs s c level =
    let there = looks_at_level jobs s c level in
    (look jobs plain_rules (cpu_count there) c level set.empty there).state

-- LOOKS ARE WHOLE: in each moment of every script's play, whatever its jobs answer, where a CPU
-- that is due an interrupt has looked after its group at a level, no CPU below an inactive child of
-- that group has told a time that has come. So as many tries as there are CPUs are enough
abbrev pub LooksAreWhole : Type 0
LooksAreWhole = (jobs : Replies) (script : Script) (n : ℕ) (t : Turn State) → IsScript script
    → let turns = play_turns jobs script in
    slice_get turns n ≡ Some t
    → let begins = at_clock t.at (last_state (play_start script) (take n turns)) in
    (c level g : ℕ) → set.contains (having_interrupt plain_rules begins) c ≡ true
    → level < level_count_of begins.tree → LooksUpTo jobs begins c level
    → let after = after_look jobs begins c level in
    group_at_of after.tree c level ≡ Some g → due_sleepers after g ≡ []
