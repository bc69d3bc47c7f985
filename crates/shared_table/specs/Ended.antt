-- the end of a run: what is asked of its passes, and what is told of its boxes
use Rattle.std.specs.Prelude.{◌≡◌, ℕ, suc, ◌+◌, ◌<◌, ◌≤◌, List, [], ◌∷◌, length, slice_index_or}
use Rattle.std.specs.Prelude.{false}
use Rattle.atomic_table.specs.Seated.{TableId}
use Rattle.core_world.specs.World.{CpuRecord, World, cpu_of, no_cpu}
use Rattle.shared_rule.specs.declared.parts.BoxView.{BoxView}
use Rattle.shared_rule.specs.declared.parts.PassView.{PassView}
use Rattle.shared_rule.specs.Rule.{Apart, Each, Me, Step, box_cpu}
use Rattle.shared_rule.specs.Parts.{HeldPart}
use Rattle.shared_rule.specs.Passes.{HeldPass, IsPassIn}
use Rattle.shared_table.specs.Readied.{HasNoneBehind}

-- the pass is that of CPU i of a run: it has its seat, which knows that the CPU isn't inside an
-- interrupt
pub record IsPassAt (table : TableId) (i : ℕ) (held : HeldPass) : Type 0 where
  pub part : PassView
  pub seated : IsPassIn table held part
  pub cpu : part.cpu ≡ i
  pub outside : part.inside ≡ false

-- they are those of the CPUs from k on, one after another
abbrev pub PassesFrom : TableId → (k : ℕ) → List HeldPass → Type 0
PassesFrom table k [] = Unit {0}
PassesFrom table k (held ∷ rest) = IsPassAt table k held × PassesFrom table (suc k) rest

-- ALL PASSES of a run over n CPUs, in the order of their CPUs, and none is inside an interrupt
pub record AreAllPasses (table : TableId) (n : ℕ) (passes : List HeldPass) : Type 0 where
  pub count : length passes ≡ n
  pub each : PassesFrom table 0 passes

-- in no base of any CPU is a queued wheel expiry below the base's clock
abbrev pub HasNoBaseBehind : World → Type 0
HasNoBaseBehind w = (c : ℕ) → HasNoneBehind (cpu_of w c).bases

-- the same of a list of CPUs (no public clause cites it)
abbrev pub AreCpusWhole : List CpuRecord → Type 0
AreCpusWhole cpus = (c : ℕ) → HasNoneBehind (slice_index_or cpus c no_cpu).bases

-- boxes of different CPUs of the core with which they began (no public clause cites it)
pub record AreApart (bs : List BoxView) : Type 0 where
  pub apart : Apart box_cpu bs
  pub low : Each (λ b. b.cpu < length b.opening.cpus) bs

-- a load that changes nothing, and tells that the boxes of its seat are of different CPUs
abbrev pub FindsApart : Step → Me → ℕ → Me → Type 0
FindsApart t v found w = (w ≡ v) × AreApart v.0.boxes

-- the number of a part's CPU (no public clause cites it)
abbrev pub number_of : HeldPart → ℕ
number_of p = p.box.cpu

-- the part is of a run that began with this core (no public clause cites it)
abbrev pub BeganWith : World → HeldPart → Type 0
BeganWith o p = p.box.opening ≡ o

-- BOXES SO FAR: those that are left and those that are taken are all, and there is room (no public
-- clause cites it)
pub record TakenSoFar (rest taken capacity all : ℕ) : Type 0 where
  pub count : taken + rest ≡ all
  pub room : all ≤ capacity
