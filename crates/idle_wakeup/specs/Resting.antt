-- what a CPU's thread is answered as its CPU is to go idle
use Rattle.std.specs.Prelude.{◌≡◌, ℕ, suc, ◌+◌, ◌<◌, ◌≤◌, true, false, List, min}
use Rattle.cpu_bases.specs.CpuBases.{CpuBases, empty_bases, events_of}
use Rattle.cpu_bases.specs.declared.entry.Entry.{Entry}
use Rattle.cpu_bases.specs.Replay.{replay}
use Rattle.tree_plan.specs.Paths.{group_at_of}
use Rattle.walk_rules.specs.declared.walk.WalkKind.TheVariants as kinds
use Rattle.core_world.specs.Enabled.{first_event}
use Rattle.core_world.specs.World.{World}
use Rattle.walk_active.specs.shared_rule.declared.parts.BoxView.{BoxView}
use Rattle.walk_active.specs.shared_rule.declared.parts.Look.{Look}
use Rattle.walk_active.specs.shared_rule.declared.parts.PassView.{PassView}
use Rattle.walk_active.specs.shared_rule.Passes.{HeldPass, IsPassIn, knowing, with_pass}
use Rattle.atomic_table.specs.Seated.{TableId}
use Rattle.walk_inactive.specs.Ends.{box_leaf_of, next_of, wakeup_of}
use Rattle.walk_inactive.specs.Looks.{FindsFirst}
use Rattle.idle_wakeup.specs.declared.idling.IdleAnswer.{IdleAnswer}
use Rattle.idle_wakeup.specs.declared.idling.IdleAnswer.TheVariants as answers
use Rattle.idle_wakeup.specs.Calls.{Renews, known_journal}

-- the pass, where it has its seat, says that its CPU isn't inside an interrupt
abbrev pub IsOutside : TableId → HeldPass → Type 0
IsOutside table held = (p : PassView) → IsPassIn table held p → p.inside ≡ false

-- the bases that a journal makes, played from empty ones
abbrev pub made_by : List Entry → CpuBases
made_by journal = record { bases = replay journal empty_bases.bases; journal = journal }

-- the bases of its CPU as a pass knows them
abbrev pub known_bases : HeldPass → CpuBases
known_bases held = made_by (known_journal held.seated)

-- a pass whose CPU has gone idle with this wakeup: one walk more was begun with it
abbrev pub resting_pass : (wakeup : ℕ) → PassView → PassView
resting_pass wakeup p =
    record p { walks = suc p.walks; idle = true; reeval = false; wakeup = wakeup }

-- STAY: the CPU's first event, by the journal that the pass then has, is at this time, which is at
-- most the next jiffy; nothing has changed but that the pass knows the journal as it is by now
pub record IsStay (o : World) (t : ℕ) (old new : HeldPass) : Type 0 where
  pub renews : Renews (λ p. p) old new
  pub first : t ≡ first_event (known_bases new)
  pub soon : t ≤ o.clock + 1

-- UNTIL: the CPU's first event, by the journal that the pass then has, is later; the CPU has gone
-- idle, and its wakeup is its first pinned timer, or what its walk has found by what it looked at,
-- if that is sooner
pub record IsUntil (o : World) (t : ℕ) (old new : HeldPass) : Type 0 where
  pub renews : Renews (resting_pass t) old new
  pub later : o.clock + 1 < first_event (known_bases new)
  pub looked : List Look
  pub found : ℕ
  pub finds : FindsFirst (group_at_of o.tree old.cpu 0) o old.cpu kinds.Deactivate
      (events_of (known_bases new)).next looked found
  pub wakeup : t ≡ min (events_of (known_bases new)).pin found

-- THE ANSWER to a CPU that is to go idle: it has to stay, or may rest until then
abbrev pub IsIdleAnswer : World → IdleAnswer → (old new : HeldPass) → Type 0
IsIdleAnswer o (answers.Stay t) old new = IsStay o t old new
IsIdleAnswer o (answers.Until t) old new = IsUntil o t old new

-- the same by the box of the CPU, with a pass that knows its journal (no public clause cites it)
abbrev pub IsBoxAnswer : BoxView → IdleAnswer → (old new : HeldPass) → Type 0
IsBoxAnswer b (answers.Stay t) old new =
    (new ≡ old) × (t ≡ first_event b.own.bases) × (t ≤ b.opening.clock + 1)
IsBoxAnswer b (answers.Until t) old new =
    (new ≡ with_pass (λ p. knowing b.own.bases.journal (resting_pass t p)) old)
    × (b.opening.clock + 1 < first_event b.own.bases)
    × (looked : List Look) × (found : ℕ)
    × FindsFirst (box_leaf_of b) b.opening b.cpu kinds.Deactivate (next_of b) looked found
    × (t ≡ wakeup_of found b.own)
