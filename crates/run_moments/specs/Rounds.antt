-- what a run asks of whatever makes its rounds
use Rattle.std.specs.Borrow.{Bor}
use Rattle.std.specs.declared.alloc.Global.{Global}
use Rattle.std.specs.Prelude.{IfOk, List, Result, Vec}
use Rattle.std.specs.FinSet.{FinSet}
use Rattle.std.specs.Ordering.{nat_cmp}
use Rattle.tm_base.specs.declared.faults.NoMemory.{NoMemory}
use Rattle.tm_script.specs.declared.syntax.Op.{Op}
use Rattle.tm_report.specs.declared.lines.Line.{Line}
use Rattle.play_rules.specs.Interrupts.{Replies}
use Rattle.core_world.specs.World.{World}
use Rattle.run_plain.specs.run_story.Asked.{AsksRound}
use Rattle.run_plain.specs.run_story.Rounds.{IsRound}

-- WHAT MAKES ROUNDS: a call, of a core, of the CPUs that are due an interrupt and of operations,
-- which may be made wherever a round may be asked for; what comes of it is a round: the core after,
-- and the lines by ascending CPU
pub record MakesRounds (jobs : Replies)
    (pre : World → Bor (FinSet nat_cmp) → Bor (List Op) → Type 0)
    (post : World → Bor (FinSet nat_cmp) → Bor (List Op)
    → Result (World × Vec Line Global) NoMemory → Type 0) : Type 0 where
  pub may : (core : World) (due : Bor (FinSet nat_cmp)) (ops : Bor (List Op)) →
      AsksRound core due.now ops.now → pre core due ops
  pub makes : (core : World) (due : Bor (FinSet nat_cmp)) (ops : Bor (List Op)) →
      (made : Result (World × Vec Line Global) NoMemory) → AsksRound core due.now ops.now →
      post core due ops made →
      IfOk made (λ m. IsRound jobs core due.now ops.now m.0 m.1.items)
