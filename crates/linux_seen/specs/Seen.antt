-- what was seen of a machine so far
use Rattle.std.specs.Prelude.{ℕ, ◌==◌, List, [], ◌∷◌, ◌++◌, false, find, position, slice_set}
use Rattle.std.specs.Prelude.{Option, Some, None, max}
use Rattle.tm_base.specs.declared.names.CpuId.{CpuId}
use Rattle.linux_seen.specs.declared.seen.GroupSeen.{GroupSeen}
use Rattle.linux_seen.specs.declared.seen.CpuSeen.{CpuSeen}
use Rattle.linux_seen.specs.declared.seen.Late.{Late}
use Rattle.linux_seen.specs.declared.seen.Walk.TheVariants.{Unknown}
use Rattle.linux_seen.specs.declared.seen.Run.TheVariants as runs

-- the groups and CPUs of which something was seen
pub record Sight : Type 0 where
  pub groups : List GroupSeen
  pub cpus : List CpuSeen
  -- the latest time at the head of a line, in nanoseconds
  pub clock : Option ℕ
  -- the late exchanges on all groups, in the order of their lines
  pub late : List Late

-- a group of which nothing is known
abbrev pub unknown_group : ℕ → GroupSeen
unknown_group pointer = record {
  pointer = pointer;
  spot = None;
  parent = None;
  bit = None;
  told = false;
  word = None;
  late = false;
  event = None;
}

-- a CPU of which nothing is known
abbrev pub unknown_cpu : CpuId → CpuSeen
unknown_cpu cpu = record {
  cpu = cpu;
  leaf = None;
  bit = None;
  told = false;
  active = None;
  walk = Unknown;
  last = 0;
  run = runs.Unknown;
  event = None;
  timer = None;
  wakeup = None;
  first = None;
  looks = None;
  left = None;
  slept = false;
}

-- what is there, or else this
abbrev pub or_else : {X : Type 0} → Option X → X → X
or_else None x = x
or_else (Some y) x = y

-- what was seen of a group
abbrev pub group_at : Sight → ℕ → GroupSeen
group_at s pointer = or_else (find (λ g. g.pointer == pointer) s.groups) (unknown_group pointer)

-- what was seen of a CPU
abbrev pub cpu_at : Sight → CpuId → CpuSeen
cpu_at s cpu = or_else (find (λ c. c.cpu.0 == cpu.0) s.cpus) (unknown_cpu cpu)

-- in the place of what was there, or at the end
abbrev pub put_at : {X : Type 0} → Option ℕ → List X → X → List X
put_at None xs x = xs ++ x ∷ []
put_at (Some i) xs x = slice_set xs i x

-- a group as it is seen now, in place of what was
abbrev pub put_group : List GroupSeen → GroupSeen → List GroupSeen
put_group gs g = put_at (position (λ h. h.pointer == g.pointer) gs) gs g

-- a CPU likewise
abbrev pub put_cpu : List CpuSeen → CpuSeen → List CpuSeen
put_cpu cs c = put_at (position (λ d. d.cpu.0 == c.cpu.0) cs) cs c

-- the later of two times
abbrev pub later : Option ℕ → ℕ → ℕ
later None at = at
later (Some now) at = max now at

-- the time at the head of a line is learned; a trace may have none
unfoldable pub timed : Sight → Option ℕ → Sight
timed s None = s
timed s (Some at) = record s { clock = Some (later s.clock at) }
