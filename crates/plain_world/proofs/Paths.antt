-- where the path of a CPU goes, and the CPUs of a set as a list
use Rattle.std.proofs.Common.{◌≡◌, ℕ, zero, suc, ◌+◌, ◌-◌, ◌<◌, ◌≤◌, Bool, true, false, List}
use Rattle.std.proofs.Common.{[], ◌∷◌}
use Rattle.std.proofs.Common.{◌++◌, Option, Some, None, refl, ap, sym, ◌∙◌, arith, inl, inr}
use Rattle.std.specs.Prelude.{◌==◌, ◌&&◌, ◌||◌, ◌⊎◌, nat_lt, not, option_map}
use Rattle.std.specs.Option.{option_map_or}
use Rattle.std.specs.FinSet.{contains}
use Rattle.std.proofs.lemmas.Bool.{cases_Bool, le-ltb}
use Rattle.std.proofs.lemmas.Bool.Decides.{nat_tests}
use Rattle.std.proofs.lemmas.List.Folds.{list_any-append}
use Rattle.tm_base.specs.Children.{of_cpu, of_group}
use Rattle.tm_base.specs.CpuSet.{Cpus, FitsSet}
use Rattle.tree_plan.specs.Laws.{EdgeLaws}
use Rattle.tree_plan.specs.Shape.{Shape}
use Rattle.tree_plan.specs.Paths.{bit_in, bit_of, child_towards, cpu_count_of, group_at_of}
use Rattle.tree_plan.specs.Paths.{is_placed_in, parent_of}
use Rattle.walk_rules.specs.Hierarchy.{side}
use Rattle.plain_world.specs.Planned.{lists}

-- no CPU past the last one is placed
pub past_unplaced : (t : Shape) (c : ℕ) → cpu_count_of t ≤ c → is_placed_in t c ≡ false
past_unplaced t c past =
    ap (λ b. b && not (contains t.isolated c)) (le-ltb c (cpu_count_of t) past)

is_there : (o : Option ℕ) → ((g : ℕ) × (o ≡ Some g)) ⊎ (o ≡ None)
is_there None = inr refl
is_there (Some g) = inl (g, refl)

-- a CPU that isn't placed has no number
pub unplaced_bit : (t : Shape) (c : ℕ) → EdgeLaws t → is_placed_in t c ≡ false
    → bit_of t (of_cpu c) ≡ 0
unfolding bit_of bit_in
unplaced_bit t c laws out =
    elim (is_there (parent_of t (of_cpu c))) [
      | inr none ↦ ap (bit_in t (of_cpu c)) none
      | inl there ↦ let no : true ≡ false = sym (laws.cpu_placed c there.0 there.1) ∙ out in cc
    ]

pub side_at_leaf : (t : Shape) (c l : ℕ) → l ≡ 0 → side t c l ≡ bit_of t (of_cpu c)
unfolding child_towards
side_at_leaf t c l is = ap (side t c) is

pub side_above : (t : Shape) (c l : ℕ) (o : Option ℕ) → 0 < l → group_at_of t c (l - 1) ≡ o
    → side t c l ≡ option_map_or (λ g. bit_of t (of_group g)) o 0
unfolding child_towards
side_above t c zero o high at = absurd (omega arith)
side_above t c (suc l) None high at =
    let same : suc l - 1 ≡ l = omega arith in
    ap (λ m. option_map_or (bit_of t) (option_map of_group m) 0)
    (ap (group_at_of t c) (sym same) ∙ at)
side_above t c (suc l) (Some g) high at =
    let same : suc l - 1 ≡ l = omega arith in
    ap (λ m. option_map_or (bit_of t) (option_map of_group m) 0)
    (ap (group_at_of t c) (sym same) ∙ at)

pub bit_read : (t s : Shape) (g b : ℕ) → s ≡ t → b ≡ bit_of s (of_group g)
    → b ≡ bit_of t (of_group g)
bit_read t s g b same is = is ∙ ap (λ (u : Shape). bit_of u (of_group g)) same

-- one more number at the end of a list
or_false : (b : Bool) → (b || false) ≡ b
or_false true = refl
or_false false = refl

pub lists_push : (xs : List ℕ) (n c : ℕ) → lists (xs ++ n ∷ []) c ≡ (lists xs c || (n == c))
lists_push xs n c =
    list_any-append (λ d. d == c) xs (n ∷ []) ∙ ap (λ b. lists xs c || b) (or_false (n == c))

-- a list of the numbers below n that are in a set, and one more
pub lists_more : (m : ℕ → Bool) (n c : ℕ) (old new : Bool) → old ≡ (nat_lt c n && m c)
    → new ≡ (old || (m n && (n == c))) → new ≡ (nat_lt c (n + 1) && m c)
lists_more m n c old new so_far is = grind (arith, nat_tests)

-- all numbers of a set are below its size
pub lists_all : (cpus : Cpus) (n c : ℕ) (listed : Bool) → FitsSet cpus → n ≡ 512
    → listed ≡ (nat_lt c n && contains cpus c) → contains cpus c ≡ listed
lists_all cpus n c listed fits all is = elim (cases_Bool (contains cpus c)) [
  | inl here ↦ let low = fits c here in grind (arith, nat_tests)
  | inr out ↦ grind (arith, nat_tests)
]
