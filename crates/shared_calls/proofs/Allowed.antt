-- who may arm, and who is refused
use Rattle.std.proofs.Common.{◌≡◌, ◌<◌, ◌⊎◌, inl, inr, ℕ, Option, Some, None, Result, Ok, Err, Bool}
use Rattle.std.proofs.Common.{true, false, refl, sym, ap, ◌∙◌, subst, length}
use Rattle.std.specs.Prelude.{◌&&◌, not, MatchResult}
use Rattle.std.proofs.lemmas.Option.{none-some, same_Some}
use Rattle.atomic_table.specs.Seated.{TableId}
use Rattle.tm_base.specs.declared.faults.OpFault.{OpFault}
use Rattle.tm_base.specs.declared.faults.OpFault.TheVariants as faults
use Rattle.cpu_word.specs.declared.state.CpuState.{CpuState}
use Rattle.core_world.specs.World.{World, cpu_of}
use Rattle.shared_table.specs.core_state.Shown.{shown_cpu}
use Rattle.shared_table.specs.shared_rule.declared.parts.BoxView.{BoxView}
use Rattle.shared_table.specs.shared_rule.declared.parts.PassView.{PassView}
use Rattle.shared_table.specs.shared_rule.Plays.{Agree, PartFits}
use Rattle.shared_table.specs.shared_rule.TimerLaws.{MayExchangeArm}
use Rattle.shared_table.specs.shared_rule.Parts.{HeldPart, without_guest}
use Rattle.shared_table.specs.shared_rule.Passes.{HeldPass, IsPassIn, knowing}
use Rattle.shared_table.specs.Begun.{IsFree}
use Rattle.shared_timers.specs.declared.arming.Arming.{Arming}
use Rattle.shared_calls.specs.Arms.{HasArmed, HasFailed, HasRefusedArm, IsArmable, IsArmed, IsArmRefused}
use Rattle.shared_calls.specs.Arms.{MayArmInPart, NotArmed, arm_fault_of, arm_fault_by, met}
use Rattle.shared_table.proofs.shared_rule.Visits.{knows}

-- a CPU that isn't refused is online, and active or inside
bits : (online idle inside : Bool) → None ≡ arm_fault_of online idle inside
    → (online ≡ true) × (((online && not idle) ≡ true) ⊎ (inside ≡ true))
bits false idle inside is = absurd (none-some faults.Offline is)
bits true true false is = absurd (none-some faults.NotActive is)
bits true true true is = (refl, inr refl)
bits true false inside is = (refl, inl refl)

-- and one that is, is offline or idle
which : (online idle inside : Bool) (fault : OpFault)
    → Some fault ≡ arm_fault_of online idle inside
    → (fault ≡ faults.Offline) ⊎ (fault ≡ faults.NotActive)
which false idle inside fault is = inl (same_Some fault faults.Offline is)
which true true false fault is = inr (same_Some fault faults.NotActive is)
which true true true fault is = absurd (none-some fault (sym is))
which true false inside fault is = absurd (none-some fault (sym is))

-- the state of a part after the meeting is what the pass knows
pub by_pass : (part new : HeldPart) (state : CpuState) (p : PassView)
    → state ≡ shown_cpu new.box.own → new ≡ without_guest part → PartFits part.box
    → Agree part.box p → p.cpu ≡ part.box.cpu
    → arm_fault_of state.online state.idle state.inside ≡ arm_fault_by p
by_pass part new state p is there fits agree own =
    let shown : state ≡ shown_cpu part.box.own =
    is ∙ ap (λ (z : HeldPart). shown_cpu z.box.own) there in
    let online : part.box.own.online ≡ (cpu_of p.opening p.cpu).online =
    fits.online ∙ (λ i. (cpu_of (sym agree.opening i) (sym own i)).online) in
    ap (λ (s : CpuState). arm_fault_of s.online s.idle s.inside) shown
    ∙ (λ i. arm_fault_of (online i) (sym (agree.idle own) i) (sym (agree.inside own) i))

refused_as : (expected : Option OpFault) (fault : OpFault) → expected ≡ Some fault
    → (fault ≡ faults.Offline) ⊎ (fault ≡ faults.NotActive) → IsArmRefused expected fault
refused_as expected fault same (inl is) = subst (IsArmRefused expected) (sym is) (same ∙ ap Some is)
refused_as expected fault same (inr is) = subst (IsArmRefused expected) (sym is) (same ∙ ap Some is)

left_as : (table : TableId) (o : World) (timer : ℕ) (part : HeldPart) (held after : HeldPass)
    (fault : OpFault) → after ≡ held
    → (fault ≡ faults.Offline) ⊎ (fault ≡ faults.NotActive)
    → HasRefusedArm table o timer part held after fault
left_as table o timer part held after fault same (inl is) =
    subst (HasRefusedArm table o timer part held after) (sym is) same
left_as table o timer part held after fault same (inr is) =
    subst (HasRefusedArm table o timer part held after) (sym is) same

-- a refusal by the CPU
pub not_armed : (table : TableId) (o : World) (timer : ℕ) (part : HeldPart)
    (held after : HeldPass) (fault : OpFault) (state : CpuState)
    → Some fault ≡ arm_fault_of state.online state.idle state.inside
    → ((q : PassView) → IsPassIn table held q
    → arm_fault_of state.online state.idle state.inside ≡ arm_fault_by q)
    → after ≡ met part held → NotArmed table o timer part held after fault
not_armed table o timer part held after fault state is by same =
    let one = which state.online state.idle state.inside fault is in
    record {
      refused = λ q there. refused_as (arm_fault_by q) fault (sym (by q there) ∙ sym is) one;
      left = left_as table o timer part (met part held) after fault same one;
    }

-- a refusal by the timer's word, or for want of memory
by_word : (table : TableId) (o : World) (timer : ℕ) (part : HeldPart) (held after : HeldPass)
    (expected : Option OpFault) (fault : OpFault) → expected ≡ None
    → HasFailed table o timer part held after fault
    → IsArmRefused expected fault × HasRefusedArm table o timer part held after fault
by_word table o timer part held after expected (faults.Queued cpu) none failed = (none, failed)
by_word table o timer part held after expected faults.NoMemory none failed = (none, failed)
by_word table o timer part held after expected faults.NotActive none failed = absurd failed
by_word table o timer part held after expected faults.NotIdle none failed = absurd failed
by_word table o timer part held after expected faults.Offline none failed = absurd failed
by_word table o timer part held after expected faults.AlreadyOnline none failed = absurd failed
by_word table o timer part held after expected faults.LastOnline none failed = absurd failed
by_word table o timer part held after expected (faults.Spent made) none failed = absurd failed

-- where the CPU may arm
pub finish : (table : TableId) (o : World) (now : ℕ) (a : Arming) (part : HeldPart)
    (held after : HeldPass) (result : Result ℕ OpFault)
    → ((q : PassView) → IsPassIn table held q → arm_fault_by q ≡ None)
    → (p : PassView) → IsPassIn table held p
    → MatchResult result (IsArmed table now a part (met part held) after)
    (HasFailed table o a.timer.0 part (met part held) after)
    → MatchResult result (HasArmed table now a part held after)
    (NotArmed table o a.timer.0 part held after)
finish table o now a part held after (Ok wheel) allowed p is armed =
    record { allowed = allowed; armed = armed }
finish table o now a part held after (Err fault) allowed p is failed = record {
  refused = λ q there.
      (by_word table o a.timer.0 part (met part held) after (arm_fault_by q) fault (allowed q there)
      failed).0;
  left =
      (by_word table o a.timer.0 part (met part held) after (arm_fault_by p) fault (allowed p is)
      failed).1;
}

-- it may arm in its part
pub may_arm_in : (table : TableId) (o : World) (part new : HeldPart) (held after : HeldPass)
    (p : PassView) (a : Arming) (state : CpuState) → IsPassIn table held p
    → state ≡ shown_cpu new.box.own → new ≡ without_guest part → after ≡ met part held
    → part.box.opening ≡ o → PartFits part.box → p.cpu ≡ part.box.cpu → IsFree part
    → IsArmable o a → None ≡ arm_fault_of state.online state.idle state.inside
    → MayArmInPart table o new after a
may_arm_in table o part new held after p a state is told there same opening fits own free armable
    none =
    let shown : state ≡ shown_cpu part.box.own =
    told ∙ ap (λ (z : HeldPart). shown_cpu z.box.own) there in
    let may = bits part.box.own.online part.box.own.idle part.box.own.inside
    (none ∙ ap (λ (s : CpuState). arm_fault_of s.online s.idle s.inside) shown) in
    let q : PassView = knowing part.box.own.bases.journal p in
    record {
      pass = q;
      seated =
          ap (λ (z : HeldPass). z.seated) same
          ∙ knows part held table p is part.box.own.bases.journal;
      may =
          subst (λ (b : BoxView). MayExchangeArm o b a.class a.timer a.expires q)
          (sym (ap (λ (z : HeldPart). z.box) there))
          (record {
            cpu = subst (λ (w : World). part.box.cpu < length w.cpus) opening fits.cpu;
            own = own;
            known = armable.known;
            free = free.walkless;
            online = may.0;
            may_run = may.1;
            to_come = armable.to_come;
            in_time = armable.in_time;
            none_behind = free.whole a.class;
          });
    }
