-- rests: what groups and CPUs are while no walk is under way
use Rattle.std.specs.Prelude.{ℕ, ◌==◌, ◌&&◌, ◌||◌, not, nat_lt, Bool, true, false}
use Rattle.std.specs.Prelude.{Option, Some, None}
use Rattle.std.specs.Int.{bit_at}
use Rattle.std.specs.List.{list_all}
use Rattle.linux_seen.specs.declared.seen.Word.{Word}
use Rattle.linux_seen.specs.declared.seen.GroupSeen.{GroupSeen}
use Rattle.linux_seen.specs.declared.seen.CpuSeen.{CpuSeen}
use Rattle.linux_seen.specs.Seen.{Sight, group_at}
use Rattle.linux_seen.specs.Walks.{is_open}

-- it is known to be awake
abbrev pub is_awake : Option Bool → Bool
is_awake None = false
is_awake (Some awake) = awake

-- it is known to be asleep
abbrev pub is_asleep : Option Bool → Bool
is_asleep None = false
is_asleep (Some awake) = not awake

-- the word of a group, unless an exchange is late there
abbrev pub word_unless : Bool → Option Word → Option Word
word_unless false word = word
word_unless true word = None

-- a group's word, where no exchange of it is late
abbrev pub known_word : GroupSeen → Option Word
known_word g = word_unless g.late g.word

-- a child of the active set
abbrev pub has_bit : ℕ → ℕ → Bool
has_bit active bit = nat_lt bit 8 && bit_at active bit == 1

-- both or neither
abbrev pub same_truth : Bool → Bool → Bool
same_truth true b = b
same_truth false b = not b

-- the child's bit in its parent says whether it is active, where all of that is known
abbrev pub bit_says : Option Bool → Option ℕ → Option Word → Bool
bit_says None bit parent = true
bit_says (Some active) None parent = true
bit_says (Some active) (Some k) None = true
bit_says (Some active) (Some k) (Some word) = same_truth active (has_bit word.active k)

-- a group is active where it has a migrator
abbrev pub is_led : Option Word → Option Bool
is_led None = None
is_led (Some word) = Some (not (word.migrator == 0))

-- a group's bit in its parent says whether it is active
abbrev pub group_says : Option ℕ → Sight → GroupSeen → Bool
group_says None s g = true
group_says (Some p) s g = bit_says (is_led (known_word g)) g.bit (known_word (group_at s p))

-- a group's bit above says what the group is, once an exchange there came from it
abbrev pub group_edge : Sight → GroupSeen → Bool
group_edge s g = not g.told || group_says g.parent s g

-- a CPU's bit in its leaf says whether it is awake
abbrev pub cpu_says : Option ℕ → Sight → CpuSeen → Bool
cpu_says None s c = true
cpu_says (Some p) s c = bit_says c.active c.bit (known_word (group_at s p))

-- a CPU's bit in its leaf says what the CPU is, once an exchange there came from it
abbrev pub cpu_edge : Sight → CpuSeen → Bool
cpu_edge s c = not c.told || cpu_says c.leaf s c

-- no walk is under way
abbrev pub at_rest : Sight → Bool
at_rest s = list_all (λ c. not (is_open c.walk)) s.cpus

-- bits say what groups and CPUs are, if no walk is under way
abbrev pub rest_fits : Sight → Bool
rest_fits s =
    not (at_rest s) || (list_all (group_edge s) s.groups && list_all (cpu_edge s) s.cpus)
