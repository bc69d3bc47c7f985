-- what the pass of a CPU that is inside its interrupt tells of it
use Rattle.std.specs.Prelude.{◌≡◌, ℕ, ◌<◌, Bool, List, [], Contains, length, slice_get, suc, ◌∷◌}
use Rattle.std.specs.Prelude.{Some, if◌then◌else◌}
use Rattle.tm_base.specs.declared.names.Class.{Class}
use Rattle.cpu_bases.specs.declared.entry.Act.TheVariants.{Ticked}
use Rattle.shared_timers.specs.shared_rule.declared.parts.Deed.{Deed}
use Rattle.shared_timers.specs.shared_rule.declared.parts.Deed.TheVariants as deeds
use Rattle.shared_timers.specs.shared_rule.declared.parts.PassView.{PassView}
use Rattle.shared_timers.specs.shared_rule.declared.parts.Receipt.{Receipt}

-- a CPU drained its own base of a class
pub record HasTicked (cpu : ℕ) (class : Class) (receipts : List Receipt) : Type 0 where
  pub receipt : Receipt
  pub has : Contains receipts receipt
  pub home : receipt.cpu.0 ≡ cpu
  pub by : receipt.entry.by.0 ≡ cpu
  pub act : receipt.entry.act ≡ Ticked
  pub of_class : receipt.entry.class ≡ class

-- the entries of its CPU's own journal for which a pass has receipts are among those that it knows
abbrev pub KnowsOwn : PassView → Type 0
KnowsOwn p = (i : ℕ) (r : Receipt) → slice_get p.receipts i ≡ Some r → r.cpu.0 ≡ p.cpu
    → r.place < length p.journal

-- THE WALKS that these deeds ended: one for each CPU whose next event was carried upwards
abbrev pub walks_by : List Deed → ℕ
walks_by [] = 0
walks_by (deeds.Saw word found ∷ rest) = walks_by rest
walks_by (deeds.Took cpu ∷ rest) = walks_by rest
walks_by (deeds.Carried cpu next ∷ rest) = suc (walks_by rest)
walks_by (deeds.Released cpu ∷ rest) = walks_by rest

-- and that of the CPU itself at its end: an idle one tells its next event anew
abbrev pub own_walk : (idle : Bool) → ℕ
own_walk idle = if idle then 1 else 0

-- the most walks that an interrupt begins: one for each CPU that it tries on three levels, and its
-- own re-evaluation
abbrev pub most_walks : ℕ
most_walks = 1537
