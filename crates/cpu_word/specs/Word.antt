-- the word of a CPU's state
use Rattle.std.specs.Prelude.{◌≡◌, ℕ, ◌+◌, ◌*◌, ◌^◌, ◌<◌, ◌==◌, ◌-◌, Option, Some, None}
use Rattle.std.specs.Prelude.{if◌then◌else◌}
use Rattle.std.specs.Int.{from_bool}
use Rattle.std.specs.Option.{ForSome}
use Rattle.tm_base.specs.declared.names.CpuId.{CpuId}
use Rattle.cpu_word.specs.declared.state.TheConstants.{MARKER_LIMIT}
use Rattle.cpu_word.specs.declared.state.CpuState.{CpuState}

-- a state that a word can hold
pub record FitsWord (s : CpuState) : Type 0 where
  pub wakeup : s.wakeup < 2 ^ 48
  pub marker : ForSome s.remote (λ c. c.0 < MARKER_LIMIT)

-- one more than the number of the CPU that marked it, or 0 where none did
abbrev pub mark_of : Option CpuId → ℕ
mark_of None = 0
mark_of (Some c) = 1 + c.0

-- the CPU of such a number
abbrev pub cpu_of_mark : ℕ → Option CpuId
cpu_of_mark mark = if mark == 0 then None else Some (record { 0 = mark - 1 })

-- bits 0 to 47 are the wakeup, 48 says that the CPU is online, 49 that it is idle and 50 that it is
-- inside its interrupt, and 51 to 60 are its mark
abbrev pub cpu_word : CpuState → ℕ
cpu_word s =
    s.wakeup + 2 ^ 48 * from_bool s.online + 2 ^ 49 * from_bool s.idle
    + 2 ^ 50 * from_bool s.inside + 2 ^ 51 * mark_of s.remote

-- s fits a word and has this one
pub record IsStateOf (word : ℕ) (s : CpuState) : Type 0 where
  pub fits : FitsWord s
  pub spelled : cpu_word s ≡ word
