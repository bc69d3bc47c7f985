-- THE SAME WITHOUT THE HIERARCHY: the machine of a script on which every CPU but the lowest is
-- isolated, so that each wakes for its own timers; and which script can't be played there
use Rattle.std.specs.Prelude.{◌≡◌, ℕ, ◌==◌, ◌&&◌, Bool, false, List, [], ◌∷◌, Option, Some}
use Rattle.std.specs.Prelude.{None, if◌then◌else◌, nat_lt}
use Rattle.std.specs.FinSet.{contains}
use Rattle.std.specs.Option.{option_or}
use Rattle.tm_base.specs.CpuSet.{Cpus}
use Rattle.tm_script.specs.declared.syntax.Moment.{Moment}
use Rattle.tm_script.specs.declared.syntax.Op.{Op}
use Rattle.tm_script.specs.declared.syntax.Script.{Script}
use Rattle.tm_script.specs.declared.syntax.What.{What}
use Rattle.tm_script.specs.declared.syntax.What.TheVariants as whats
use Rattle.tm_script.specs.Texts.{cpu_count}
use Rattle.view_stat.specs.Stats.{IsMachineFor}

-- of n CPUs exactly those from 1 on are in the set
abbrev pub AreAllButLowest : (n : ℕ) → Cpus → Type 0
AreAllButLowest n isolated = (c : ℕ) → contains isolated c ≡ (nat_lt 0 c && nat_lt c n)

-- A MACHINE WITHOUT THE HIERARCHY: of as many nodes, CPUs and timers as the script's, with every CPU
-- isolated but the lowest
pub record IsAlone (script machine : Script) : Type 0 where
  pub machine_for : IsMachineFor script machine
  pub nodes : machine.nodes ≡ script.nodes
  pub isolated : AreAllButLowest (cpu_count script) machine.isolated

-- an operation takes the lowest CPU offline. That machine can't do it: no other CPU is in the tree,
-- so the operation would be refused there
abbrev pub is_lowest_leaving : (c : ℕ) → What → Bool
is_lowest_leaving c whats.Offline = c == 0
is_lowest_leaving c what = false

-- the line of an operation that does so
abbrev pub leave_of : Op → Option ℕ
leave_of o = if is_lowest_leaving o.cpu.0 o.what then Some o.line else None

-- the first of these operations that does so, and of a script's
unfoldable pub leave_in_ops : List Op → Option ℕ
leave_in_ops [] = None
leave_in_ops (o ∷ os) = option_or (leave_of o) (leave_in_ops os)

-- the line of the first operation of these moments that takes the lowest CPU offline
unfoldable pub first_leave : List Moment → Option ℕ
first_leave [] = None
first_leave (m ∷ ms) = option_or (leave_in_ops m.ops) (first_leave ms)
