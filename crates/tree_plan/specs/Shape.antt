-- the tree of a machine: its placed CPUs, those that aren't isolated, are cut into runs of at most
-- eight level by level until one group is left
use Rattle.std.specs.Prelude.{◌≡◌, ℕ, zero, suc, ◌+◌, ◌*◌, ◌/◌, ◌^◌, ◌<◌, ◌≤◌, ◌==◌, nat_lt, nat_le}
use Rattle.std.specs.Prelude.{if◌then◌else◌, false, not, List, [], ◌∷◌, length, take, drop, map}
use Rattle.std.specs.Prelude.{filter, flat_map}
use Rattle.std.specs.List.{range_with_len}
use Rattle.std.specs.FinSet.{contains}
use Rattle.tm_base.specs.declared.names.Child.{Child}
use Rattle.tm_base.specs.declared.limits.TheConstants.{MOST_NODES, MOST_NODE_CPUS}
use Rattle.tm_base.specs.Children.{of_cpu, of_group}
use Rattle.tm_base.specs.CpuSet.{Cpus}

-- lists joined end to end
abbrev pub joined : {A : Type 0} → List (List A) → List A
joined xss = flat_map (λ xs. xs) xss

-- n runs from the front of a list, eight in each as far as the list goes
unfoldable pub runs_of : {A : Type 0} → ℕ → List A → List (List A)
runs_of zero xs = []
runs_of (suc n) xs = take 8 xs ∷ runs_of n (drop 8 xs)

-- a list cut into runs of eight, the last of which has what is left
unfoldable pub cut : {A : Type 0} → List A → List (List A)
cut xs = runs_of ((length xs + 7) / 8) xs

-- the first of the numbers k, k + 1 .. whose power of two is at least x, where n of them are tried
unfoldable pub least_power : ℕ → ℕ → ℕ → ℕ
least_power zero k x = k
least_power (suc n) k x = if nat_le x (2 ^ k) then k else least_power n (suc k) x

-- the binary logarithm rounded up: the least m with 2 ^ m at least x, which is never above x
unfoldable pub log2up : ℕ → ℕ
log2up x = least_power x 0 x

-- how many levels of eight to a group bring x members down to one
unfoldable pub levels_for : ℕ → ℕ
levels_for x = (log2up x + 2) / 3

-- of the n CPUs from `first` on, those that are placed, in ascending order
abbrev pub placed_from : Cpus → (first n : ℕ) → List ℕ
placed_from isolated first n = filter (λ c. not (contains isolated c)) (range_with_len first n)

-- the placed CPUs of each node: node n has the CPUs n * cpus to n * cpus + cpus - 1
unfoldable pub node_cpus : (nodes cpus : ℕ) → Cpus → List (List Child)
node_cpus nodes cpus isolated =
    map (λ n. map of_cpu (placed_from isolated (n * cpus) cpus)) (range_with_len 0 nodes)

-- the groups of each row as members of the next level, numbered on from `first`
unfoldable pub numbered : ℕ → List (List (List Child)) → List (List Child)
numbered first [] = []
numbered first (groups ∷ rows) =
    map of_group (range_with_len first (length groups)) ∷ numbered (first + length groups) rows

-- the rows that level l cuts: the members of each node below the number of levels within a node,
-- and all members in one row from there on
unfoldable pub rows_at : (inner l : ℕ) → List (List Child) → List (List Child)
rows_at inner l rows = if nat_lt l inner then rows else joined rows ∷ []

-- level l and the levels above it, at most n of them, until one member is left. A level is the list
-- of its groups, and a group the list of its children; `first` is the number of the first group of
-- level l
unfoldable pub levels_from : (inner n l first : ℕ) → List (List Child) → List (List (List Child))
levels_from inner zero l first rows = []
levels_from inner (suc n) l first rows =
    if length (joined rows) == 1
    then []
    else (level ∷ levels_from inner n (suc l) (first + length level) (numbered first groups))
  where
    groups : List (List (List Child))
    groups = map cut (rows_at inner l rows)

    level : List (List Child)
    level = joined groups

-- a tree: how many nodes it is for, how many CPUs each of them has, which CPUs are isolated, and
-- its levels from the leaves to the top
pub record Shape : Type 0 where
  pub nodes : ℕ
  pub cpus : ℕ
  pub isolated : Cpus
  pub levels : List (List (List Child))

-- the tree of a machine, whose levels begin with its placed CPUs
abbrev pub tree_of : (nodes cpus : ℕ) → Cpus → Shape
tree_of nodes cpus isolated = record {
  nodes = nodes;
  cpus = cpus;
  isolated = isolated;
  levels =
      levels_from (levels_for cpus) (levels_for cpus + levels_for nodes) 0 0
      (node_cpus nodes cpus isolated);
}

-- the machines that a tree is planned for: 1 to 8 nodes of 1 to 64 CPUs each, of which some CPU is
-- placed
pub record IsWithinLimits (nodes cpus : ℕ) (isolated : Cpus) : Type 0 where
  pub some_node : 1 ≤ nodes
  pub few_nodes : nodes ≤ MOST_NODES
  pub some_cpu : 1 ≤ cpus
  pub few_cpus : cpus ≤ MOST_NODE_CPUS
  pub some_placed : (c : ℕ) × (c < nodes * cpus) × (contains isolated c ≡ false)

-- a tree that was planned for such a machine
pub record IsPlanned (t : Shape) : Type 0 where
  pub limits : IsWithinLimits t.nodes t.cpus t.isolated
  pub tree : t ≡ tree_of t.nodes t.cpus t.isolated
