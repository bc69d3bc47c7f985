-- what arming and cancelling make of the part of a CPU and of the pass that is brought
use Rattle.std.specs.Prelude.{◌≡◌, ◌<◌, ℕ, Some, [], ◌∷◌, length}
use Rattle.atomic_table.specs.Seated.{TableId}
use Rattle.tm_base.specs.declared.faults.OpFault.{OpFault}
use Rattle.tm_base.specs.declared.faults.OpFault.TheVariants as faults
use Rattle.tm_base.specs.declared.names.Class.{Class}
use Rattle.tm_base.specs.declared.names.TimerId.{TimerId}
use Rattle.cpu_bases.specs.CpuBases.{base_of, item_queued}
use Rattle.cpu_bases.specs.Laws.{CallKeeps}
use Rattle.core_world.specs.World.{World}
use Rattle.shared_words.specs.declared.spot.Spot.{Spot}
use Rattle.shared_words.specs.Words.{spot_of}
use Rattle.shared_rule.specs.declared.parts.PassView.{PassView}
use Rattle.shared_rule.specs.Plays.{head_pass, seen_pass}
use Rattle.shared_rule.specs.Timers.{armed_box, armed_pass, cancelled_box, cancelled_pass}
use Rattle.shared_rule.specs.TimerLaws.{MayExchangeArm, MayExchangeCancel}
use Rattle.shared_rule.specs.Parts.{HeldPart, pass_parted, with_guest, without_guest}
use Rattle.shared_rule.specs.Passes.{HeldPass}
use Rattle.shared_timers.specs.declared.arming.Arming.{Arming}
use Rattle.shared_timers.specs.Entries.{HasEntryRoom, on_both_of}
use Rattle.shared_timers.specs.Exchanging.{timer_word}

-- ARM: what has to be known of a part as its CPU tries to arm a timer: the CPU's own pass alone is
-- brought, and there is room for the timer, the entry and the receipt
pub record MayArm (o : World) (part : HeldPart) (a : Arming) : Type 0 where
  pub pass : PassView
  pub brought : part.brought ≡ pass ∷ []
  pub may : MayExchangeArm o part.box a.class a.timer a.expires pass
  pub room : length (base_of a.class part.box.own.bases).items < part.room.timers
  pub entry : HasEntryRoom part pass

-- the timer is queued in the part, and the pass has the receipt
abbrev pub armed_part : Arming → HeldPart → HeldPart
armed_part a part =
    on_both_of (armed_box a.class a.timer.0 a.expires a.job a.arg a.line)
    (armed_pass a.class a.timer.0 a.expires a.job a.arg a.line) part

-- the timer's word, as this step found it, names a CPU of the run, and the pass remembers it
pub record FoundQueued (o : World) (timer : ℕ) (old new : HeldPart) (fault : OpFault) : Type 0
  where
    pub found : ℕ
    pub spot : Spot
    pub names : spot_of found ≡ Some spot
    pub of_run : spot.cpu.0 < length o.cpus
    pub is : fault ≡ faults.Queued spot.cpu
    pub remembered :
        new ≡ record old { brought = head_pass (seen_pass (timer_word o timer) found) old.brought }

-- CANCEL: what has to be known of a part as a timer that is queued in it is cancelled, by the CPU
-- of the pass that is brought: there is room for the entry and the receipt
pub record MayCancel (o : World) (part : HeldPart) (timer : TimerId) : Type 0 where
  pub pass : PassView
  pub class : Class
  pub brought : part.brought ≡ pass ∷ []
  pub may : MayExchangeCancel o part.box class timer
  pub entry : HasEntryRoom part pass

-- the timer is gone, and the pass has the receipt
abbrev pub cancelled_part : (timer line : ℕ) → HeldPart → HeldPart
cancelled_part timer line part =
    on_both_of (cancelled_box timer line) (cancelled_pass timer line) part

-- BROUGHT FOR ONE STEP: the CPU's own pass was brought into its part, armed a timer there, and went
-- off again
pub record ArmedWith (table : TableId) (now : ℕ) (a : Arming) (part : HeldPart) (held : HeldPass)
    (new : HeldPart) (after : HeldPass) (wheel : ℕ) : Type 0 where
  pub wheel_is :
      wheel ≡ (item_queued now a.class a.timer.0 a.expires a.job a.arg part.box.own.bases).wheel
  pub part_is : new ≡ without_guest (armed_part a (with_guest part held))
  pub pass_is : after ≡ pass_parted table held.cpu (armed_part a (with_guest part held))
  pub keeps : CallKeeps now part.box.own.bases new.box.own.bases

-- or it found there where the timer was queued
pub record FoundWith (table : TableId) (o : World) (timer : ℕ) (part : HeldPart)
    (held : HeldPass) (new : HeldPart) (after : HeldPass) (fault : OpFault) : Type 0 where
  pub mid : HeldPart
  pub found : FoundQueued o timer (with_guest part held) mid fault
  pub part_is : new ≡ without_guest mid
  pub pass_is : after ≡ pass_parted table held.cpu mid
