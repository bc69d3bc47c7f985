-- who answers for the timers of an idle CPU
use Rattle.std.specs.Prelude.{◌≡◌, ◌⊎◌, ℕ, ◌+◌, ◌<◌, ◌≤◌, Bool, true, Option, Some, None}
use Rattle.tm_base.specs.declared.names.Child.{Child}
use Rattle.tm_base.specs.Children.{of_cpu, of_group}

-- what the definitions know of a machine
pub record Machine : Type 0 where
  -- the group of a CPU's path at a level, from the leaf at level 0 up to the top
  pub path : (cpu level : ℕ) → Option ℕ
  -- the number of the child through which that path comes into that group
  pub bit : (cpu level : ℕ) → ℕ
  -- the child of that number of a group, where there is one
  pub child : (group number : ℕ) → Option Child
  -- whether a CPU is placed, so that the tree has it
  pub placed : (cpu : ℕ) → Bool
  -- whether a CPU is active
  pub active : (cpu : ℕ) → Bool
  -- the number of a group's migrator; a group is active where it has one
  pub migrator : (group : ℕ) → Option ℕ
  -- the expiry of a group's event towards the child of a number, where it is there and isn't
  -- ignored
  pub event : (group number : ℕ) → Option ℕ
  -- the programmed wakeup that a CPU keeps
  pub wakeup : (cpu : ℕ) → Option ℕ

-- from an active group, from each group to its migrator, one comes to the active CPU m
pub data Leads (t : Machine) (m : ℕ) : ℕ → Type 0 where
  to_cpu : (g k : ℕ) → t.migrator g ≡ Some k → t.child g k ≡ Some (of_cpu m) →
      t.active m ≡ true → Leads t m g
  to_group : (g k h : ℕ) → t.migrator g ≡ Some k → t.child g k ≡ Some (of_group h) →
      Leads t m h → Leads t m g

-- the event towards a CPU at a level of its path is there and isn't later than W
pub record HasEvent (t : Machine) (c wheel level : ℕ) : Type 0 where
  pub in_group : ℕ
  pub expiry : ℕ
  pub on_path : t.path c level ≡ Some in_group
  pub there : t.event in_group (t.bit c level) ≡ Some expiry
  pub in_time : expiry ≤ wheel

-- W was told upwards to this level: below it the groups of the path are inactive, and there and at
-- it the event is there
pub record Told (t : Machine) (c wheel level : ℕ) : Type 0 where
  pub inactive : (k g : ℕ) → k < level → t.path c k ≡ Some g → t.migrator g ≡ None
  pub events : (k : ℕ) → k ≤ level → HasEvent t c wheel k

-- some active group of the path was told, and its migrators lead to an active CPU
pub record Held (t : Machine) (c wheel : ℕ) : Type 0 where
  pub level : ℕ
  pub in_group : ℕ
  pub runner : ℕ
  pub on_path : t.path c level ≡ Some in_group
  pub told : Told t c wheel level
  pub leads : Leads t runner in_group

-- some placed CPU keeps a wakeup that isn't later than a time
pub record WakesBy (t : Machine) (time : ℕ) : Type 0 where
  pub waker : ℕ
  pub at : ℕ
  pub placed : t.placed waker ≡ true
  pub keeps : t.wakeup waker ≡ Some at
  pub in_time : at ≤ time

-- the CPU has a group, the inactive top was told, and some placed CPU wakes by the top's event
-- towards the CPU
pub record TopWakes (t : Machine) (c wheel : ℕ) : Type 0 where
  pub level : ℕ
  pub top : ℕ
  pub expiry : ℕ
  pub on_path : t.path c level ≡ Some top
  pub is_top : t.path c (level + 1) ≡ None
  pub told : Told t c wheel level
  pub inactive : t.migrator top ≡ None
  pub event : t.event top (t.bit c level) ≡ Some expiry
  pub wakes : WakesBy t expiry

-- the CPU itself keeps a wakeup in time
pub record WakesItself (t : Machine) (c wheel : ℕ) : Type 0 where
  pub at : ℕ
  pub keeps : t.wakeup c ≡ Some at
  pub in_time : at ≤ wheel

-- WOKEN: the CPU wakes in time itself, or some CPU of the tree wakes for the top by then
abbrev pub Woken : (t : Machine) (c wheel : ℕ) → Type 0
Woken t c wheel = WakesItself t c wheel ⊎ TopWakes t c wheel

-- with no walk and no interrupt under way, one of the two holds
abbrev pub IsAnsweredFor : (t : Machine) (c wheel : ℕ) → Type 0
IsAnsweredFor t c wheel = Held t c wheel ⊎ Woken t c wheel
