-- what the pass of a CPU knows, and what it leaves of the CPU's share of a moment
use Rattle.std.specs.Prelude.{◌≡◌, ℕ, ◌<◌, ◌≤◌, Bool, false, List, ◌++◌, Some, length, map}
use Rattle.std.specs.Prelude.{Contains}
use Rattle.atomic_table.specs.Seated.{TableId}
use Rattle.tm_script.specs.declared.syntax.Op.{Op}
use Rattle.tm_report.specs.declared.lines.Line.{Line}
use Rattle.core_world.specs.Enabled.{first_event}
use Rattle.core_world.specs.World.{World, cpu_of}
use Rattle.shared_words.specs.declared.spot.Spot.{Spot}
use Rattle.shared_words.specs.Words.{spot_of}
use Rattle.idle_wakeup.specs.shared_rule.declared.parts.Did.{Did}
use Rattle.idle_wakeup.specs.shared_rule.declared.parts.Deed.TheVariants as deeds
use Rattle.idle_wakeup.specs.shared_rule.declared.parts.PassView.{PassView}
use Rattle.idle_wakeup.specs.shared_rule.declared.parts.Receipt.{Receipt}
use Rattle.idle_wakeup.specs.shared_rule.Passes.{HeldPass, IsPassIn}
use Rattle.shared_acts.specs.shared_timers.Exchanging.{timer_word}
use Rattle.play_rules.specs.Interrupts.{Replies}
use Rattle.run_story.specs.Written.{WrittenEntry, bases_after}
use Rattle.run_story.specs.Rounds.{standing_at}
use Rattle.run_story.specs.Shares.{Known, Standing, TellsShare}
use Rattle.run_story.specs.Stories.{is_hotplug}
use Rattle.run_story.specs.Asked.{IsTimerThere}

-- what a receipt says was written
abbrev pub written_of : Receipt → WrittenEntry
written_of r = record { home = r.cpu.0; place = r.place; entry = r.entry }

-- a load of a timer's word, or a try to exchange it, found that a CPU has it
pub record SawQueued (o : World) (did : List Did) (timer cpu : ℕ) : Type 0 where
  pub there : timer < o.timers
  pub seen : Did
  pub found : ℕ
  pub spot : Spot
  pub has : Contains did seen
  pub deed : seen.deed ≡ deeds.Saw (timer_word o timer) found
  pub spelled : spot_of found ≡ Some spot
  pub named : spot.cpu.0 ≡ cpu

-- a load of a timer's word found that no CPU has it, when the pass had all these receipts, which
-- are its first ones
pub record SawNowhere (o : World) (p : PassView) (timer : ℕ) (earlier : List WrittenEntry) : Type 0
  where
    pub there : timer < o.timers
    pub seen : Did
    pub has : Contains p.did seen
    pub deed : seen.deed ≡ deeds.Saw (timer_word o timer) 0
    pub held : length earlier ≤ seen.held
    pub rest : List WrittenEntry
    pub front : map written_of p.receipts ≡ earlier ++ rest

-- the first event of the pass's CPU, behind so many entries of the journal that the pass knows
pub record KnewFirst (p : PassView) (cpu since first : ℕ) : Type 0 where
  pub own : cpu ≡ p.cpu
  pub count : ℕ
  pub since_then : since ≤ count
  pub within : count ≤ length p.journal
  pub first_is : first ≡ first_event (bases_after p.journal count)

-- WHAT IS KNOWN by a pass, by what it saw and did
abbrev pub by_pass : (o : World) → PassView → Known
by_pass o p = record {
  queues = SawQueued o p.did;
  nowhere = SawNowhere o p;
  first = KnewFirst p;
}

-- DONE: the share of a CPU, as its pass tells it: its lines tell the receipts of the pass, and the
-- pass says how the CPU stands behind them (no public clause cites it)
pub record HasDone (table : TableId) (o : World) (jobs : Replies) (due : Bool) (ops : List Op)
    (cpu : ℕ) (held : HeldPass) (told : List Line) : Type 0 where
  pub pass : PassView
  pub seated : IsPassIn table held pass
  pub cpu_is : pass.cpu ≡ cpu
  pub opening : pass.opening ≡ o
  pub outside : pass.inside ≡ false
  pub last : Standing
  pub tells : TellsShare (by_pass o pass) o.clock cpu jobs due (cpu_of o cpu).online ops
      (standing_at o cpu) last told
  pub wrote : last.wrote ≡ map written_of pass.receipts
  pub idle : pass.idle ≡ last.idle
  pub wakeup : pass.wakeup ≡ last.wakeup

-- an operation of a CPU that may be part of a round: its timer is there, and it takes no CPU
-- offline or online
pub record IsShareOp (cpu timers : ℕ) (op : Op) : Type 0 where
  pub own : op.cpu.0 ≡ cpu
  pub timer : IsTimerThere timers op.what
  pub stays : is_hotplug op.what ≡ false
