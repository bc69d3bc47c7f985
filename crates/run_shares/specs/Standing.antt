-- how a CPU stands between two of its lines, as its pass tells it, and what a line leaves
use Rattle.std.specs.Prelude.{◌≡◌, ℕ, ◌+◌, ◌<◌, ◌≤◌, Bool, false, List, ◌++◌, length, map}
use Rattle.atomic_table.specs.Seated.{TableId}
use Rattle.tm_script.specs.declared.syntax.Op.{Op}
use Rattle.tm_script.specs.declared.syntax.What.{What}
use Rattle.tm_report.specs.declared.lines.Line.{Line}
use Rattle.core_world.specs.World.{World, cpu_of}
use Rattle.idle_wakeup.specs.shared_rule.declared.parts.Did.{Did}
use Rattle.idle_wakeup.specs.shared_rule.declared.parts.PassView.{PassView}
use Rattle.idle_wakeup.specs.shared_rule.declared.parts.Receipt.{Receipt}
use Rattle.idle_wakeup.specs.shared_rule.Passes.{HeldPass, IsPassIn}
use Rattle.idle_wakeup.specs.shared_rule.Shows.{BeginsWith}
use Rattle.idle_wakeup.specs.shared_table.declared.ready.TheConstants.{MOST_MADE}
use Rattle.shared_acts.specs.Interrupts.{KnowsOwn, most_walks}
use Rattle.play_rules.specs.Interrupts.{Replies}
use Rattle.run_story.specs.Shares.{Standing, TellsByRefusal, TellsIfDue, TellsOps, fault_of}
use Rattle.run_shares.specs.Doing.{by_pass, written_of}

-- STANDS: so the pass says that its CPU stands
pub record StandsBy (p : PassView) (s : Standing) : Type 0 where
  pub wrote : s.wrote ≡ map written_of p.receipts
  pub idle : p.idle ≡ s.idle
  pub wakeup : p.wakeup ≡ s.wakeup
  pub since : s.since ≤ length p.journal
  pub known : KnowsOwn p

-- GROWS: the pass knows all that it knew, its CPU is as much inside an interrupt as before, and so
-- many walks more were begun at most
pub record PassGrows (walks : ℕ) (p q : PassView) : Type 0 where
  pub opening : q.opening ≡ p.opening
  pub cpu : q.cpu ≡ p.cpu
  pub inside : q.inside ≡ p.inside
  pub receipts : List Receipt
  pub receipts_are : q.receipts ≡ p.receipts ++ receipts
  pub did : List Did
  pub did_are : q.did ≡ p.did ++ did
  pub journal : BeginsWith q.journal p.journal
  pub few : q.walks ≤ p.walks + walks

-- a pass of the run whose CPU isn't inside an interrupt, and with which so many walks more may be
-- begun
pub record MayAnswer (table : TableId) (o : World) (walks : ℕ) (held : HeldPass) : Type 0 where
  pub pass : PassView
  pub seated : IsPassIn table held pass
  pub opening : pass.opening ≡ o
  pub own : pass.cpu ≡ held.cpu
  pub low : held.cpu < length o.cpus
  pub outside : pass.inside ≡ false
  pub few : pass.walks + walks ≤ MOST_MADE

-- A STEP of a CPU along its share: the pass has grown, and however the CPU stood before, it stands
-- so that what was told tells it
pub record HasSteppedAlong (table : TableId) (walks : ℕ) (held after : HeldPass)
    (tells : (later : PassView) → (old new : Standing) → Type 0) : Type 0 where
  pub before : PassView
  pub later : PassView
  pub had : IsPassIn table held before
  pub has : IsPassIn table after later
  pub same_cpu : after.cpu ≡ held.cpu
  pub grows : PassGrows walks before later
  pub goes : (s : Standing) → StandsBy before s →
      (t : Standing) × StandsBy later t × tells later s t

-- AN OPERATION is answered by a line (no public clause cites it)
abbrev pub HasAnswered : TableId → World → (now : ℕ) → What → (line : ℕ) → (held after : HeldPass)
    → Line → Type 0
HasAnswered table o now what line held after told =
    HasSteppedAlong table 1 held after
    (λ q s t. TellsByRefusal (by_pass o q) now held.cpu
    (fault_of what (cpu_of o held.cpu).online s.idle) what line s t told)

-- OPERATIONS are answered, by these lines behind others
pub record HaveAnswered (table : TableId) (o : World) (now : ℕ) (ops : List Op)
    (held after : HeldPass) (before lines : List Line) : Type 0 where
  pub told : List Line
  pub lines_are : lines ≡ before ++ told
  pub stepped : HasSteppedAlong table (length ops) held after
      (λ q s t. TellsOps (by_pass o q) now held.cpu (cpu_of o held.cpu).online ops s t told)

-- AN INTERRUPT, where the CPU has one, is told (no public clause cites it)
pub record HasRun (table : TableId) (o : World) (now : ℕ) (jobs : Replies) (due : Bool)
    (held after : HeldPass) (before lines : List Line) : Type 0 where
  pub told : List Line
  pub lines_are : lines ≡ before ++ told
  pub stepped : HasSteppedAlong table most_walks held after
      (λ q s t. TellsIfDue (by_pass o q) now held.cpu due jobs s t told)
