-- arming in a part that lies behind its CPU's lock
use Rattle.std.proofs.Common.{◌≡◌, ◌+◌, ◌<◌, ◌≤◌, ℕ, List, [], ◌∷◌}
use Rattle.std.proofs.Common.{Result, Ok, Err, sym, ap, ◌∙◌, subst}
use Rattle.std.proofs.Common.{arith, length}
use Rattle.std.specs.Prelude.{MatchResult, max}
use Rattle.std.proofs.Math.Nat.{le-max_left, le-max_right}
use Rattle.atomic_table.specs.Seated.{TableId}
use Rattle.tm_base.specs.declared.faults.OpFault.{OpFault}
use Rattle.tm_base.specs.declared.names.Class.{Class}
use Rattle.tm_base.specs.declared.names.Class.TheVariants.{Pinned, Global, Deferrable}
use Rattle.wheel_core.specs.PlainBase.{NoneBehind, PlainBase}
use Rattle.cpu_bases.specs.ByClass.{ByClass, of_class}
use Rattle.cpu_bases.specs.CpuBases.{base_of, most_queued}
use Rattle.core_world.specs.World.{World}
use Rattle.shared_table.specs.shared_rule.declared.parts.BoxView.{BoxView}
use Rattle.shared_table.specs.shared_rule.declared.parts.PassView.{PassView}
use Rattle.shared_table.specs.shared_rule.Timers.{armed_box, armed_pass}
use Rattle.shared_table.specs.shared_rule.Parts.{HeldPart, with_guest, without_guest}
use Rattle.shared_table.specs.shared_rule.Passes.{HeldPass, passes_of, receipts_of}
use Rattle.shared_table.specs.shared_rule.Passes.{with_receipts_room}
use Rattle.shared_table.specs.Begun.{IsFree}
use Rattle.shared_timers.specs.declared.arming.Arming.{Arming}
use Rattle.shared_timers.specs.Entries.{pair_changed}
use Rattle.shared_timers.specs.Queueing.{ArmedWith, FoundQueued, FoundWith, MayArm}
use Rattle.shared_calls.specs.Arms.{HasFailed, IsArmed, MayArmInPart, roomy, with_entry_room}

-- a base has no more timers than the base that has most
few : (class : Class) (bases : ByClass PlainBase)
    → length (of_class class bases).items ≤ most_queued bases
few Pinned bases = le-max_left _ _
few Global bases =
    let below = le-max_left (length bases.global.items) (length bases.deferrable.items) in
    let above = le-max_right (length bases.pinned.items)
    (max (length bases.global.items) (length bases.deferrable.items)) in
    omega (arith, below, above)
few Deferrable bases =
    let below = le-max_right (length bases.global.items) (length bases.deferrable.items) in
    let above = le-max_right (length bases.pinned.items)
    (max (length bases.global.items) (length bases.deferrable.items)) in
    omega (arith, below, above)

-- what is one more than a number is within a larger room
pub within : (n m room : ℕ) → n ≤ m → n < max room (m + 1)
within n m room low =
    let above = le-max_right room (m + 1) in
    omega (arith, low, above)

-- with room the part may be asked to arm
pub may_arm : (table : TableId) (o : World) (part : HeldPart) (held : HeldPass) (a : Arming)
    → MayArmInPart table o part held a → MayArm o (roomy part held) a
may_arm table o part held a may = record {
  pass = may.pass;
  brought = ap passes_of may.seated;
  may = may.may;
  room =
      within (length (base_of a.class part.box.own.bases).items)
      (most_queued part.box.own.bases.bases) part.room.timers
      (few a.class part.box.own.bases.bases);
  entry =
      record {
        entry =
            within (length part.box.own.bases.journal) (length part.box.own.bases.journal)
            part.room.entries (omega arith);
        receipt =
            subst (λ n. length may.pass.receipts < max held.room (n + 1))
            (ap (λ s. length (receipts_of s)) (sym may.seated))
            (within (length may.pass.receipts) (length may.pass.receipts) held.room (omega arith));
      };
}

-- a part whose box is free is free
pub free_as : (old new : HeldPart) → new.box ≡ old.box → new.brought ≡ [] → IsFree old → IsFree new
free_as old new same alone free = record {
  walkless = ap (λ (b : BoxView). b.own.walk) same ∙ free.walkless;
  alone = alone;
  whole = λ class. subst (λ (b : BoxView). NoneBehind (base_of class b.own.bases)) (sym same) (free.whole class);
}

-- after an arming it is free
pub free_armed : (table : TableId) (now : ℕ) (a : Arming) (part : HeldPart) (held : HeldPass)
    (p : PassView) (new : HeldPart) (after : HeldPass) (wheel : ℕ) → passes_of held.seated ≡ p ∷ []
    → IsFree part → ArmedWith table now a (with_entry_room part) held new after wheel → IsFree new
free_armed table now a part held p new after wheel one free armed =
    let mid : List PassView → HeldPart =
    λ ps. pair_changed (armed_box a.class a.timer.0 a.expires a.job a.arg a.line)
    (armed_pass a.class a.timer.0 a.expires a.job a.arg a.line) ps
    (with_guest (with_entry_room part) held) in
    let is : new ≡ without_guest (mid (p ∷ [])) =
    armed.part_is ∙ ap (λ ps. without_guest (mid ps)) one in
    record {
      walkless = ap (λ (z : HeldPart). z.box.own.walk) is ∙ free.walkless;
      alone = ap (λ (z : HeldPart). z.brought) is;
      whole = λ class. armed.keeps.none_behind class (free.whole class);
    }

-- and where the timer was found queued
pub free_found : (table : TableId) (o : World) (timer : ℕ) (part : HeldPart) (held : HeldPass)
    (new : HeldPart) (after : HeldPass) (fault : OpFault) → IsFree part
    → FoundWith table o timer (with_entry_room part) held new after fault → IsFree new
free_found table o timer part held new after fault free found =
    let same : new.box ≡ part.box =
    ap (λ (z : HeldPart). z.box) (found.part_is ∙ ap without_guest found.found.remembered) in
    free_as part new same (ap (λ (z : HeldPart). z.brought) found.part_is) free

-- either way
pub free_after : (table : TableId) (o : World) (now : ℕ) (a : Arming) (part : HeldPart)
    (held : HeldPass) (p : PassView) (new : HeldPart) (after : HeldPass)
    (result : Result ℕ OpFault) → passes_of held.seated ≡ p ∷ [] → IsFree part
    → MatchResult result (ArmedWith table now a (with_entry_room part) held new after)
    (FoundWith table o a.timer.0 (with_entry_room part) held new after) → IsFree new
free_after table o now a part held p new after (Ok wheel) one free armed =
    free_armed table now a part held p new after wheel one free armed
free_after table o now a part held p new after (Err fault) one free found =
    free_found table o a.timer.0 part held new after fault free found

-- what was found there, told for the call
failed_with : (table : TableId) (o : World) (timer : ℕ) (part : HeldPart) (held : HeldPass)
    (new : HeldPart) (after : HeldPass) (fault : OpFault)
    → FoundWith table o timer (with_entry_room part) (with_receipts_room 1 held) new after fault
    → HasFailed table o timer part held after fault
failed_with table o timer part held new after fault found =
    subst (HasFailed table o timer part held after) (sym found.found.is)
    (record {
      mid = found.mid;
      found =
          subst (FoundQueued o timer (roomy part held) found.mid) found.found.is found.found;
      pass_is = found.pass_is;
    })

pub done_after : (table : TableId) (o : World) (now : ℕ) (a : Arming) (part : HeldPart)
    (held : HeldPass) (new : HeldPart) (after : HeldPass) (result : Result ℕ OpFault)
    → MatchResult result
    (ArmedWith table now a (with_entry_room part) (with_receipts_room 1 held) new after)
    (FoundWith table o a.timer.0 (with_entry_room part) (with_receipts_room 1 held) new after)
    → MatchResult result (IsArmed table now a part held after)
    (HasFailed table o a.timer.0 part held after)
done_after table o now a part held new after (Ok wheel) armed = record {
  wheel_is = armed.wheel_is;
  pass_is = armed.pass_is;
}
done_after table o now a part held new after (Err fault) found =
    failed_with table o a.timer.0 part held new after fault found
