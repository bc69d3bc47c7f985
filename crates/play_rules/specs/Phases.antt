-- in which phase of a moment a machine's calls may be made
use Rattle.std.specs.Prelude.{◌≡◌, ℕ, Bool, true, false}
use Rattle.tm_base.specs.declared.names.Class.{Class}
use Rattle.tm_base.specs.declared.names.Class.TheVariants.{Global}
use Rattle.play_rules.specs.Rules.{Rules}

-- where a play stands between two rules: between operations; in the interrupt of CPU r; there with
-- CPU d taken, which may be r itself; with CPU c gone offline, which has to hand on its duty
pub data Phase : Type 0 where
  resting : Phase
  inside : (r : ℕ) → Phase
  serving : (r d : ℕ) → Phase
  handing : (c : ℕ) → Phase

-- a runner drains its own bases in its interrupt, and the global one of a CPU that it has taken
abbrev pub MayDrain : Phase → (home : ℕ) → Class → (runner : ℕ) → Type 0
MayDrain resting home class runner = ⊥
MayDrain (inside r) home class runner = (home ≡ r) × (runner ≡ r)
MayDrain (serving r d) home class runner = (home ≡ d) × (class ≡ Global) × (runner ≡ r)
MayDrain (handing c) home class runner = ⊥

-- the CPU whose interrupt it is runs the jobs (no public clause cites it)
abbrev pub MayRunIn : Phase → (runner : ℕ) → Type 0
MayRunIn resting runner = ⊥
MayRunIn (inside r) runner = runner ≡ r
MayRunIn (serving r d) runner = runner ≡ r
MayRunIn (handing c) runner = ⊥

-- whether a CPU that went offline has to hand on says in which phase that leaves the machine
abbrev pub after_offline : (hands_on : Bool) → (c : ℕ) → Phase
after_offline true c = handing c
after_offline false c = resting

module _ {S : Type 0} where
  -- a CPU that is online, and idle or not
  pub record IsUp (r : Rules S) (s : S) (c : ℕ) (idle : Bool) : Type 0 where
    pub online : r.is_online s c ≡ true
    pub idles : r.is_idle s c ≡ idle

  -- a CPU arms by an operation where it is active, and as a runner in its interrupt
  abbrev pub MayArmIn : Rules S → S → Phase → (c : ℕ) → Type 0
  MayArmIn rules s resting c = IsUp rules s c false
  MayArmIn rules s (inside r) c = c ≡ r
  MayArmIn rules s (serving r d) c = c ≡ r
  MayArmIn rules s (handing h) c = ⊥

  -- the machine's state fits some phase that allows a call
  pub record FitsSome (Fit : Phase → S → Type 0) (Allows : Phase → Type 0) (s : S) : Type 0 where
    pub phase : Phase
    pub allowed : Allows phase
    pub fit : Fit phase s

  -- a call leaves it in the phase in which it was made
  abbrev pub StaysFit : (Phase → S → Type 0) → (Phase → Type 0) → (old new : S) → Type 0
  StaysFit Fit Allows old new = (ph : Phase) → Allows ph → Fit ph old → Fit ph new
