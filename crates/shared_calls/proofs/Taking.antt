-- a timer that is taken out of a part that lies behind its CPU's lock
use Rattle.std.proofs.Common.{◌≡◌, ◌+◌, ◌<◌, ℕ, List, [], ◌∷◌, Option, Some, None, refl, sym, ap}
use Rattle.std.proofs.Common.{◌∙◌, subst, arith, length, true≢false}
use Rattle.std.specs.Prelude.{is_some, max, true, false}
use Rattle.atomic_table.specs.Seated.{TableId}
use Rattle.tm_base.specs.declared.names.Class.{Class}
use Rattle.tm_base.specs.declared.names.TimerId.{TimerId}
use Rattle.cpu_bases.specs.CpuBases.{class_in}
use Rattle.cpu_bases.specs.Laws.{CallKeeps}
use Rattle.core_world.specs.World.{World}
use Rattle.shared_table.specs.shared_rule.declared.parts.PassView.{PassView}
use Rattle.shared_table.specs.shared_rule.Plays.{Agree, PartFits}
use Rattle.shared_table.specs.shared_rule.Timers.{cancelled_box, cancelled_pass}
use Rattle.shared_table.specs.shared_rule.Parts.{HeldPart, pass_parted, with_guest, without_guest}
use Rattle.shared_table.specs.shared_rule.Passes.{HeldPass, IsPassIn, passes_of, receipts_of}
use Rattle.shared_table.specs.shared_rule.Passes.{with_receipts_room}
use Rattle.shared_table.specs.Begun.{IsFree}
use Rattle.shared_timers.specs.Entries.{pair_changed}
use Rattle.shared_timers.specs.Queueing.{MayCancel, cancelled_part}
use Rattle.shared_looks.specs.Rooms.{with_more_room}
use Rattle.shared_calls.specs.Cancels.{IsTakenOut}
use Rattle.shared_calls.proofs.Free.{within}

-- a timer that isn't there
pub class_gone : (m : Option Class) → is_some m ≡ false → m ≡ None
class_gone None is = refl
class_gone (Some class) is = absurd (true≢false is)

-- where a class was found, it is that of the timer
pub class_found : (m : Option Class) → is_some m ≡ true → (class : Class) × (m ≡ Some class)
class_found None is = cc
class_found (Some class) is = (class, refl)

-- with room the part may be asked to cancel it
pub may_cancel : (table : TableId) (o : World) (part : HeldPart) (held : HeldPass) (p : PassView)
    (timer : TimerId) (class : Class) → IsPassIn table held p → part.box.opening ≡ o
    → PartFits part.box → IsFree part → timer.0 < o.timers
    → class_in timer.0 part.box.own.bases ≡ Some class
    → MayCancel o (with_guest (with_more_room 0 1 part) (with_receipts_room 1 held)) timer
may_cancel table o part held p timer class is opening fits free known queued = record {
  pass = p;
  class = class;
  brought = ap passes_of is;
  may = record {
    cpu = subst (λ (w : World). part.box.cpu < length w.cpus) opening fits.cpu;
    known = known;
    free = free.walkless;
    queued = queued;
  };
  entry = record {
    entry =
        within (length part.box.own.bases.journal) (length part.box.own.bases.journal)
        part.room.entries (omega arith);
    receipt =
        subst (λ n. length p.receipts < max held.room (n + 1))
        (ap (λ s. length (receipts_of s)) (sym is))
        (within (length p.receipts) (length p.receipts) held.room (omega arith));
  };
}

-- and it is taken out there
pub taken_out : (table : TableId) (timer line : ℕ) (part mid : HeldPart)
    (held roomy after : HeldPass) (class : Class) → class_in timer part.box.own.bases ≡ Some class
    → mid ≡ with_more_room 0 1 part → roomy ≡ with_receipts_room 1 held
    → ((p : PassView) → IsPassIn table roomy p → Agree mid.box p)
    → after ≡ pass_parted table roomy.cpu (cancelled_part timer line (with_guest mid roomy))
    → IsTakenOut table timer line part held after
taken_out table timer line part mid held roomy after class queued more room agree is = record {
  class = class;
  queued = queued;
  agree = λ p seated. subst (λ (z : HeldPart). Agree z.box p) more
      (agree p (ap (λ (z : HeldPass). z.seated) room ∙ seated));
  pass_is =
      is
      ∙ ap (λ (z : HeldPass). pass_parted table z.cpu
      (cancelled_part timer line (with_guest mid z))) room
      ∙ ap (λ (z : HeldPart). pass_parted table held.cpu
      (cancelled_part timer line (with_guest z (with_receipts_room 1 held)))) more;
}

-- afterwards it is free
pub free_after : (now : ℕ) (timer line : ℕ) (part : HeldPart) (held : HeldPass) (p : PassView)
    (new : HeldPart) → passes_of held.seated ≡ p ∷ [] → IsFree part
    → new ≡ without_guest (cancelled_part timer line (with_guest (with_more_room 0 1 part) held))
    → CallKeeps now part.box.own.bases new.box.own.bases → IsFree new
free_after now timer line part held p new one free is keeps =
    let mid : List PassView → HeldPart =
    λ ps. pair_changed (cancelled_box timer line) (cancelled_pass timer line) ps
    (with_guest (with_more_room 0 1 part) held) in
    let so : new ≡ without_guest (mid (p ∷ [])) = is ∙ ap (λ ps. without_guest (mid ps)) one in
    record {
      walkless = ap (λ (z : HeldPart). z.box.own.walk) so ∙ free.walkless;
      alone = ap (λ (z : HeldPart). z.brought) so;
      whole = λ class. keeps.none_behind class (free.whole class);
    }
