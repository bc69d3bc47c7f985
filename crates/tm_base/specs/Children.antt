-- the children of groups
use Rattle.std.specs.Prelude.{ℕ, Bool, false, ◌==◌}
use Rattle.tm_base.specs.declared.names.Child.{Child}
use Rattle.tm_base.specs.declared.names.Child.TheVariants.{Cpu, Group}

-- the CPU of a number as a child of a group
abbrev pub of_cpu : ℕ → Child
of_cpu c = Cpu (record { 0 = c })

-- the group of a number as a child of a group
abbrev pub of_group : ℕ → Child
of_group g = Group (record { 0 = g })

-- whether two children are one
unfoldable pub same_child : Child → Child → Bool
same_child (Cpu c) (Cpu d) = c.0 == d.0
same_child (Group g) (Group h) = g.0 == h.0
same_child _ _ = false
