-- the order of an interrupt: the CPU's own bases are drained first, and then it looks after others
use Rattle.std.specs.Prelude.{◌≡◌, ℕ, ◌+◌, ◌≤◌, ⊤, List, [], ◌∷◌, ◌++◌, length}
use Rattle.std.specs.List.{AllByRecursion}
use Rattle.tm_base.specs.declared.names.Class.{Class}
use Rattle.tm_base.specs.declared.names.Class.TheVariants.{Deferrable, Global, Pinned}
use Rattle.wheel_core.specs.declared.item.Item.{Item}
use Rattle.cpu_bases.specs.declared.entry.Act.TheVariants.{Armed}
use Rattle.tree_plan.specs.Paths.{level_count_of}
use Rattle.core_world.specs.World.{World}
use Rattle.walk_inactive.specs.shared_rule.declared.parts.Did.{Did}
use Rattle.walk_inactive.specs.shared_rule.declared.parts.Receipt.{Receipt}
use Rattle.shared_acts.specs.Looks.{LooksFrom}
use Rattle.shared_acts.specs.Pieces.{HandsOutItems, deeds_of}

-- receipts of armings alone
abbrev pub AreArmings : List Receipt → Type 0
AreArmings rs = AllByRecursion (λ (r : Receipt). r.entry.act ≡ Armed) rs

-- A WHOLE DRAIN of a CPU's base of a class: these timers went out, in order, then the base counts
-- as drained, and what comes behind that is armings alone
pub record IsWholeDrain (home runner : ℕ) (class : Class) (receipts : List Receipt) : Type 0 where
  pub items : List Item
  pub outs : List Receipt
  pub armings : List Receipt
  pub receipts_are : receipts ≡ outs ++ armings
  pub hands : HandsOutItems home runner class items outs
  pub armed : AreArmings armings

-- the first of these deeds, where there is one, was done when the pass had so many receipts, or
-- more
abbrev pub BeginsWhere : ℕ → List Did → Type 0
BeginsWhere n [] = ⊤
BeginsWhere n (x ∷ xs) = n ≤ x.held

-- ITS OWN TIMERS FIRST: behind the first so many receipts of a pass come the drain of the pinned
-- base of its CPU, that of the global one and that of the deferrable one, and then all others; the
-- looks are among the deeds that were done once these three drains had their receipts
pub record RunsOwnFirst (o : World) (cpu first : ℕ) (receipts : List Receipt) (did : List Did)
    : Type 0 where
  pub pinned : List Receipt
  pub global : List Receipt
  pub deferrable : List Receipt
  pub others : List Receipt
  pub receipts_are : receipts ≡ (pinned ++ (global ++ deferrable)) ++ others
  pub of_pinned : IsWholeDrain cpu cpu Pinned pinned
  pub of_global : IsWholeDrain cpu cpu Global global
  pub of_deferrable : IsWholeDrain cpu cpu Deferrable deferrable
  pub drained : List Did
  pub looked : List Did
  pub did_are : did ≡ drained ++ looked
  pub later : BeginsWhere (first + length (pinned ++ (global ++ deferrable))) looked
  pub looks : LooksFrom o cpu others (level_count_of o.tree) 0 (deeds_of looked)
