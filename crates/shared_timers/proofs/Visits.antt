-- a pass that is brought into a part for one step on a timer
use Rattle.std.proofs.Common.{◌≡◌, ℕ, [], ◌∷◌, Option, Some, None, Result, Ok, Err, refl, sym}
use Rattle.std.proofs.Common.{ap, ◌∙◌, subst}
use Rattle.std.specs.Prelude.{IfErr, IfOk, MatchResult, OnOk}
use Rattle.atomic_table.specs.Seated.{TableId}
use Rattle.tm_base.specs.declared.faults.OpFault.{OpFault}
use Rattle.tm_base.specs.declared.names.Class.{Class}
use Rattle.wheel_core.specs.declared.item.Item.{Item}
use Rattle.wheel_core.specs.PlainBase.{next_out}
use Rattle.cpu_bases.specs.CpuBases.{base_of, found_in, item_queued}
use Rattle.cpu_bases.specs.Laws.{CallKeeps}
use Rattle.core_world.specs.World.{World}
use Rattle.shared_rule.specs.declared.parts.BoxView.{BoxView}
use Rattle.shared_rule.specs.declared.parts.PassView.{PassView}
use Rattle.shared_rule.specs.Plays.{head_pass, seen_pass}
use Rattle.shared_rule.specs.Timers.{armed_box, armed_pass, cancel_noted, cancelled_box}
use Rattle.shared_rule.specs.Timers.{cancelled_pass, handed_box}
use Rattle.shared_rule.specs.Parts.{HasGuest, HeldPart, pass_parted, with_guest, without_guest}
use Rattle.shared_rule.specs.Passes.{HeldPass, IsPassIn, passes_of}
use Rattle.shared_timers.specs.declared.arming.Arming.{Arming}
use Rattle.shared_timers.specs.Draining.{drained_part, drained_pass}
use Rattle.shared_timers.specs.Entries.{on_both_of, pair_changed}
use Rattle.shared_timers.specs.Exchanging.{timer_word}
use Rattle.shared_timers.specs.Queueing.{ArmedWith, FoundQueued, FoundWith, armed_part}
use Rattle.shared_timers.specs.Queueing.{cancelled_part}
use Rattle.shared_timers.proofs.Outgoing.{same_cpu}

-- a pass that a step changes is still brought
pub changed_guest : (f : BoxView → PassView → BoxView) (h : BoxView → PassView → PassView)
    (part : HeldPart) (p : PassView) (cpu : ℕ) → part.brought ≡ p ∷ []
    → (h part.box p).cpu ≡ cpu → HasGuest cpu (on_both_of f h part)
changed_guest f h part p cpu is own =
    (h part.box p, ap (λ ps. (pair_changed f h ps part).brought) is, own)

-- a pass of the run, in a part
module _ (table : TableId) (part : HeldPart) (held : HeldPass) (p : PassView)
    (is : IsPassIn table held p) (own : p.cpu ≡ held.cpu) (b : HeldPart)
    (there : b ≡ with_guest part held) where
  brought : b.brought ≡ p ∷ []
  brought = ap (λ (z : HeldPart). z.brought) there ∙ ap passes_of is

  -- it is there after an arming
  pub armed_guest : (o : World) (a : Arming) (result : Result ℕ OpFault) (mid : HeldPart)
      → OnOk result (mid ≡ armed_part a b) → IfErr result (FoundQueued o a.timer.0 b mid)
      → HasGuest held.cpu mid
  armed_guest o a (Ok wheel) mid armed queued =
      subst (HasGuest held.cpu) (sym armed)
      (changed_guest (armed_box a.class a.timer.0 a.expires a.job a.arg a.line)
      (armed_pass a.class a.timer.0 a.expires a.job a.arg a.line) b p held.cpu brought own)
  armed_guest o a (Err fault) mid armed queued = (
    seen_pass (timer_word o a.timer.0) queued.found p,
    ap (λ (z : HeldPart). z.brought) queued.remembered
        ∙ ap (head_pass (seen_pass (timer_word o a.timer.0) queued.found)) brought,
    own,
  )

  -- and after a cancelling
  pub cancelled_guest : (timer line : ℕ) (mid : HeldPart) → mid ≡ cancelled_part timer line b
      → HasGuest held.cpu mid
  cancelled_guest timer line mid gone =
      subst (HasGuest held.cpu) (sym gone)
      (changed_guest (cancelled_box timer line) (cancelled_pass timer line) b p held.cpu brought
      (same_cpu (found_in timer b.box.own.bases) ∙ own))
    where
      same_cpu : (found : Option (Class × Item)) → (cancel_noted line found b.box p).cpu ≡ p.cpu
      same_cpu None = refl
      same_cpu (Some found) = refl

  -- and after a drain
  pub drained_guest : (class : Class) (mid : HeldPart) → mid ≡ drained_part class b
      → HasGuest held.cpu mid
  drained_guest class mid gone =
      subst (HasGuest held.cpu) (sym gone)
      (changed_guest (handed_box class) (drained_pass class) b p held.cpu brought
      (same_cpu class (next_out b.box.opening.clock (base_of class b.box.own.bases)) b.box p
      ∙ own))

-- what an arming is, once the pass has gone off
pub went_off : (table : TableId) (part : HeldPart) (held : HeldPass) (b : HeldPart)
    (there : b ≡ with_guest part held) (o : World) (now : ℕ) (a : Arming)
    (result : Result ℕ OpFault) (mid new : HeldPart) (after : HeldPass)
    → IfOk result (λ wheel. wheel
    ≡ (item_queued now a.class a.timer.0 a.expires a.job a.arg b.box.own.bases).wheel)
    → OnOk result (mid ≡ armed_part a b)
    → OnOk result (CallKeeps now b.box.own.bases mid.box.own.bases)
    → IfErr result (FoundQueued o a.timer.0 b mid)
    → new ≡ without_guest mid → after ≡ pass_parted table held.cpu mid
    → MatchResult result (ArmedWith table now a part held new after)
    (FoundWith table o a.timer.0 part held new after)
went_off table part held b there o now a (Ok wheel) mid new after time armed keeps queued off gone =
    record {
      wheel_is =
          time
          ∙ ap (λ (z : HeldPart).
          (item_queued now a.class a.timer.0 a.expires a.job a.arg z.box.own.bases).wheel) there;
      part_is = off ∙ ap without_guest (armed ∙ ap (armed_part a) there);
      pass_is = gone ∙ ap (pass_parted table held.cpu) (armed ∙ ap (armed_part a) there);
      keeps =
          subst (λ (z : HeldPart). CallKeeps now part.box.own.bases z.box.own.bases) (sym off)
          (subst (λ (z : HeldPart). CallKeeps now z.box.own.bases mid.box.own.bases) there keeps);
    }
went_off table part held b there o now a (Err fault) mid new after time armed keeps queued off gone =
    record {
      mid = mid;
      found = subst (λ (z : HeldPart). FoundQueued o a.timer.0 z mid fault) there queued;
      part_is = off;
      pass_is = gone;
    }
