-- how a tree is told apart from another where it is the value of a type; no clause cites it
use Rattle.std.specs.Prelude.{◌≡◌, ◌⊎◌, ℕ, List, refl}
use Rattle.std.specs.Coded.{Coded, code_by, coded×, coded⊎, coded_list, coded_ℕ}
use Rattle.std.specs.FinSet.{code}
use Rattle.std.specs.Ordering.{nat_cmp}
use mathlib.Core.Logic.{inl, inr}
use Rattle.tm_base.specs.declared.names.Child.{Child}
use Rattle.tm_base.specs.declared.names.Child.TheVariants.{Cpu, Group}
use Rattle.tm_base.specs.Children.{of_cpu, of_group}
use Rattle.tm_base.specs.CpuSet.{Cpus}
use Rattle.tree_plan.specs.Shape.{Shape}

-- a child as a number of one of two kinds
abbrev number_of : Child → ℕ ⊎ ℕ
number_of (Cpu c) = inl c.0
number_of (Group g) = inr g.0

-- the child of such a number: a CPU, or a group
abbrev child_of : ℕ ⊎ ℕ → Child
child_of (inl c) = of_cpu c
child_of (inr g) = of_group g

-- each child is that of its number
pub child_back : (m : Child) → child_of (number_of m) ≡ m
child_back (Cpu c) = refl
child_back (Group g) = refl

-- by what a child is told apart from another
abbrev pub child_code : Coded Child
child_code = code_by (ℕ ⊎ ℕ) (coded⊎ coded_ℕ coded_ℕ) number_of child_of child_back

-- by what the levels of groups of a tree are told apart from others
abbrev pub levels_code : Coded (List (List (List Child)))
levels_code = coded_list (coded_list (coded_list child_code))

-- by what a tree is told apart from another
abbrev pub shape_code : Coded Shape
shape_code =
    code_by ((ℕ × ℕ) × (Cpus × List (List (List Child))))
    (coded× (coded× coded_ℕ coded_ℕ) (coded× (code {R = nat_cmp} coded_ℕ) levels_code))
    (λ t. ((t.nodes, t.cpus), (t.isolated, t.levels)))
    (λ p. record { nodes = p.0.0; cpus = p.0.1; isolated = p.1.0; levels = p.1.1 })
    (λ _. refl)
