-- a group of the hierarchy: the set of its active children, in a word whose bit k says whether
-- child k is in it, and its migrator
use Rattle.std.specs.Prelude.{◌≡◌, ◌≢◌, ◌↔◌, ℕ, ◌<◌, Option, Some, None}
use Rattle.std.specs.Int.{bit_at}

-- child k is active
abbrev pub IsActive : ℕ → ℕ → Type 0
IsActive active k = bit_at active k ≡ 1

-- no child is active
abbrev pub NoneActive : ℕ → Type 0
NoneActive active = (k : ℕ) → IsActive active k → ⊥

-- the migrator is an active child, and there is none exactly where no child is active
abbrev pub GroupLaw : ℕ → Option ℕ → Type 0
GroupLaw active None = NoneActive active
GroupLaw active (Some migrator) = IsActive active migrator

-- child k has become active, and each other child is as it was
pub record Joins (old new k : ℕ) : Type 0 where
  pub joined : IsActive new k
  pub others : (j : ℕ) → j ≢ k → IsActive new j ↔ IsActive old j

-- child k isn't active any more, and each other child is as it was
pub record Leaves (old new k : ℕ) : Type 0 where
  pub left : IsActive new k → ⊥
  pub others : (j : ℕ) → j ≢ k → IsActive new j ↔ IsActive old j

-- the lowest active child, or none where no child is active
abbrev pub IsLowest : ℕ → Option ℕ → Type 0
IsLowest active None = NoneActive active
IsLowest active (Some k) = IsActive active k × ((j : ℕ) → j < k → IsActive active j → ⊥)

-- what becomes of the migrator where child k has joined: the one that there was stays, and where
-- there was none child k takes the role (tmigr_active_up)
pub record TakesRole (before : Option ℕ) (k : ℕ) (after : Option ℕ) : Type 0 where
  pub stayed : (m : ℕ) → before ≡ Some m → after ≡ Some m
  pub taken : before ≡ None → after ≡ Some k

-- what becomes of the migrator where child k has left: the role of k passes to the lowest child
-- that remains, or to none, and another migrator stays (tmigr_inactive_up)
pub record PassesOn (before : Option ℕ) (k remaining : ℕ) (after : Option ℕ) : Type 0 where
  pub passed : before ≡ Some k → IsLowest remaining after
  pub stayed : before ≢ Some k → after ≡ before

-- a walk from child k looks after the group: it is the migrator, or there is none
-- (tmigr_check_migrator)
abbrev pub LooksAfter : Option ℕ → ℕ → Type 0
LooksAfter None k = Unit {0}
LooksAfter (Some migrator) k = migrator ≡ k
