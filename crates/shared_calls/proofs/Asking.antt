-- who may cancel, and who is refused
use Rattle.std.proofs.Common.{◌≡◌, ◌⊎◌, inl, inr, ℕ, Option, Some, None, Result, Ok, Err, Bool}
use Rattle.std.proofs.Common.{true, false, sym, ap, ◌∙◌, subst}
use Rattle.std.specs.Prelude.{MatchResult}
use Rattle.std.proofs.lemmas.Option.{none-some, same_Some}
use Rattle.atomic_table.specs.Seated.{TableId}
use Rattle.tm_base.specs.declared.faults.OpFault.{OpFault}
use Rattle.tm_base.specs.declared.faults.OpFault.TheVariants as faults
use Rattle.tm_base.specs.declared.names.CpuId.{CpuId}
use Rattle.cpu_word.specs.declared.state.CpuState.{CpuState}
use Rattle.core_world.specs.World.{World, cpu_of}
use Rattle.shared_table.specs.core_state.Shown.{shown_cpu}
use Rattle.shared_table.specs.shared_rule.declared.parts.PassView.{PassView}
use Rattle.shared_table.specs.shared_rule.Plays.{Agree, PartFits}
use Rattle.shared_table.specs.shared_rule.Parts.{HeldPart, without_guest}
use Rattle.shared_table.specs.shared_rule.Passes.{HeldPass, IsPassIn, knowing}
use Rattle.shared_table.proofs.shared_rule.Visits.{knows}
use Rattle.shared_calls.specs.Arms.{IsArmRefused, met}
use Rattle.shared_calls.specs.Cancels.{CameTo, HasCancelled, HasFallenShort, HasStayed, IsCancelAsked}
use Rattle.shared_calls.specs.Cancels.{NotCancelled, cancel_fault_by, cancel_fault_of}

-- the state of a part after the visit is what the pass knows
by_pass : (part new : HeldPart) (state : CpuState) (p : PassView)
    → state ≡ shown_cpu new.box.own → new ≡ without_guest part → PartFits part.box
    → Agree part.box p → p.cpu ≡ part.box.cpu
    → cancel_fault_of state.online state.idle ≡ cancel_fault_by p
by_pass part new state p is there fits agree own =
    let shown : state ≡ shown_cpu part.box.own =
    is ∙ ap (λ (z : HeldPart). shown_cpu z.box.own) there in
    let online : part.box.own.online ≡ (cpu_of p.opening p.cpu).online =
    fits.online ∙ (λ i. (cpu_of (sym agree.opening i) (sym own i)).online) in
    ap (λ (s : CpuState). cancel_fault_of s.online s.idle) shown
    ∙ (λ i. cancel_fault_of (online i) (sym (agree.idle own) i))

-- what the part answers
pub asked : (table : TableId) (o : World) (part new : HeldPart) (held after : HeldPass)
    (p : PassView) (state : CpuState) (answer : Option OpFault) → IsPassIn table held p
    → held.cpu ≡ part.box.cpu → state ≡ shown_cpu new.box.own
    → answer ≡ cancel_fault_of state.online state.idle → new ≡ without_guest part
    → after ≡ met part held → part.box.opening ≡ o
    → ((q : PassView) → IsPassIn table held q → q.cpu ≡ part.box.cpu) → PartFits part.box
    → ((q : PassView) → IsPassIn table held q → Agree part.box q)
    → IsCancelAsked table o (without_guest part) held after answer
asked table o part new held after p state answer is cpu shown answers there same opening own fits
    agree =
    let journal = part.box.own.bases.journal in
    record {
      by = record { own = sym cpu; fits = fits; agree = agree };
      of_run = record {
        pass = knowing journal p;
        seated = knows part held table p is journal;
        opening = (agree p is).opening ∙ opening;
      };
      pass_is = same;
      fault = λ q at.
          answers ∙ by_pass part new state q shown there fits (agree q at) (own q at);
    }

-- a CPU that is refused is offline or idle
which : (online idle : Bool) (fault : OpFault) → Some fault ≡ cancel_fault_of online idle
    → (fault ≡ faults.Offline) ⊎ (fault ≡ faults.NotActive)
which false idle fault is = inl (same_Some fault faults.Offline is)
which true true fault is = inr (same_Some fault faults.NotActive is)
which true false fault is = absurd (none-some fault (sym is))

refused_as : (expected : Option OpFault) (fault : OpFault) → expected ≡ Some fault
    → (fault ≡ faults.Offline) ⊎ (fault ≡ faults.NotActive) → IsArmRefused expected fault
refused_as expected fault same (inl is) = subst (IsArmRefused expected) (sym is) (same ∙ ap Some is)
refused_as expected fault same (inr is) = subst (IsArmRefused expected) (sym is) (same ∙ ap Some is)

stayed_as : (o : World) (timer : ℕ) (held after : HeldPass) (fault : OpFault) → after ≡ held
    → (fault ≡ faults.Offline) ⊎ (fault ≡ faults.NotActive) → HasStayed o timer held after fault
stayed_as o timer held after fault same (inl is) =
    subst (HasStayed o timer held after) (sym is) same
stayed_as o timer held after fault same (inr is) =
    subst (HasStayed o timer held after) (sym is) same

-- a refusal by the CPU
pub refused : (table : TableId) (o : World) (timer : ℕ) (part : HeldPart) (held after : HeldPass)
    (p : PassView) (fault : OpFault) → IsPassIn table held p
    → IsCancelAsked table o part held after (Some fault) → NotCancelled table o timer part held after fault
refused table o timer part held after p fault is asked =
    let one : (fault ≡ faults.Offline) ⊎ (fault ≡ faults.NotActive) =
    which (cpu_of p.opening p.cpu).online p.idle fault (asked.fault p is) in
    record {
      refused = λ q at. refused_as (cancel_fault_by q) fault (sym (asked.fault q at)) one;
      stayed = stayed_as o timer (met part held) after fault asked.pass_is one;
    }

-- want of memory
short_of : (o : World) (timer : ℕ) (held after : HeldPass) (expected : Option OpFault)
    (fault : OpFault) → expected ≡ None → HasFallenShort o timer held after fault
    → IsArmRefused expected fault × HasStayed o timer held after fault
short_of o timer held after expected fault none short =
    subst (λ f. IsArmRefused expected f × HasStayed o timer held after f) (sym short.0)
    (none, short.1)

-- where the CPU may cancel
pub finish : (table : TableId) (o : World) (timer line : ℕ) (part : HeldPart)
    (held mid after : HeldPass) (p : PassView) (result : Result (Option CpuId) OpFault)
    → IsPassIn table held p → IsCancelAsked table o part held mid None
    → MatchResult result (CameTo table o timer line mid after) (HasFallenShort o timer mid after)
    → MatchResult result (HasCancelled table o timer line part held after)
    (NotCancelled table o timer part held after)
finish table o timer line part held mid after p (Ok answer) is asked came = record {
  allowed = λ q at. sym (asked.fault q at);
  came = subst (λ h. CameTo table o timer line h after answer) asked.pass_is came;
}
finish table o timer line part held mid after p (Err fault) is asked short =
    let left = subst (λ h. HasFallenShort o timer h after fault) asked.pass_is short in
    record {
      refused = λ q at.
          (short_of o timer (met part held) after (cancel_fault_by q) fault
          (sym (asked.fault q at)) left).0;
      stayed =
          (short_of o timer (met part held) after (cancel_fault_by p) fault
          (sym (asked.fault p is)) left).1;
    }
