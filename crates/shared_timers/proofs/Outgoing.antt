-- the next due timer of a class in the part of a CPU, as it goes out, or as its base counts as
-- drained
use Rattle.std.proofs.Common.{◌≡◌, ℕ, ◌<◌, ◌^◌, [], ◌∷◌, ◌++◌, length, Option, Some, None, refl, ap}
use Rattle.std.proofs.Common.{◌∙◌, arith, subst}
use Rattle.std.specs.Prelude.{option_map}
use Rattle.tm_base.specs.declared.names.Class.{Class}
use Rattle.tm_base.specs.declared.names.CpuId.{CpuId}
use Rattle.tm_base.specs.declared.names.TimerId.{TimerId}
use Rattle.wheel_core.specs.declared.item.Item.{Item}
use Rattle.wheel_core.specs.PlainBase.{item_of, next_out}
use Rattle.cpu_bases.specs.declared.entry.Act.TheVariants as acts
use Rattle.cpu_bases.specs.declared.entry.Entry.{Entry}
use Rattle.cpu_bases.specs.CpuBases.{CpuBases, after_hand_out, base_of, entry_of}
use Rattle.cpu_bases.specs.CpuBases.{handed_out, ticked_entry}
use Rattle.cpu_bases.proofs.Queued.{queued_once}
use Rattle.core_world.specs.World.{World}
use Rattle.shared_rule.specs.declared.parts.BoxView.{BoxView}
use Rattle.shared_rule.specs.declared.parts.PassView.{PassView}
use Rattle.shared_rule.specs.Rule.{Me, seat_of}
use Rattle.shared_rule.specs.Plays.{PartFits}
use Rattle.shared_rule.specs.Timers.{noted_at}
use Rattle.shared_rule.specs.Parts.{HeldPart}
use Rattle.shared_timers.specs.Draining.{MayDrain, drained_pass, out_noted}
use Rattle.shared_timers.specs.Exchanging.{IsNext, MayTryDrain}

-- an item that is queued in a part is one of the run's timers
pub known : (b : BoxView) (class : Class) (item : Item) → PartFits b
    → item_of item.id (base_of class b.own.bases).items ≡ Some item → item.id < b.opening.timers
known b class item fits queued =
    fits.timers item.id class
    (ap (option_map (λ (found : Class × Item). found.0))
    (queued_once b.own.bases item.id class item fits.consistent queued))

-- and so it fits a timer's number
pub fits_timer : (b : BoxView) (class : Class) (item : Item) → PartFits b
    → item_of item.id (base_of class b.own.bases).items ≡ Some item → item.id < 2 ^ 16
fits_timer b class item fits queued =
    let low = known b class item fits queued in
    omega (arith, low, fits.opening.few)

-- the seat of a part may go on with a drain
pub may_drain : (o : World) (part : HeldPart) (me : Me) (class : Class) (next : Option TimerId)
    → MayDrain part class → me ≡ seat_of (part.box ∷ []) part.brought → part.box.opening ≡ o
    → PartFits part.box → IsNext o part.box class next → MayTryDrain o me part.box.cpu class next
may_drain o part me class None may seat opening fits is = record {
  box = part.box;
  pass = may.pass;
  seat = seat ∙ ap (seat_of (part.box ∷ [])) may.brought;
  opening = opening;
  cpu_is = refl;
  fits = record {
    cpu = subst (λ (w : World). part.box.cpu < length w.cpus) opening fits.cpu;
    free = may.free;
    none_due = is;
    may_run = may.may_run;
  };
}
may_drain o part me class (Some timer) may seat opening fits is = record {
  box = part.box;
  pass = may.pass;
  seat = seat ∙ ap (seat_of (part.box ∷ [])) may.brought;
  opening = opening;
  cpu_is = refl;
  fits = (
    is.0,
    is.1,
    record {
      cpu = subst (λ (w : World). part.box.cpu < length w.cpus) opening fits.cpu;
      known = is.2;
      free = may.free;
      due = is.3;
      may_run = may.may_run;
    },
  );
}

-- what is written as a timer goes out, or as a base counts as drained
abbrev pub out_entry_of : Option Item → (now : ℕ) → Class → CpuId → Entry
out_entry_of None now class by = ticked_entry now class by
out_entry_of (Some item) now class by = entry_of acts.Handed 0 now class item by

abbrev pub out_entry : (now : ℕ) → Class → CpuId → CpuBases → Entry
out_entry now class by bases = out_entry_of (next_out now (base_of class bases)) now class by

pub journal_is : (now : ℕ) (class : Class) (by : CpuId) (bases : CpuBases)
    → (handed_out now class by bases).journal
    ≡ bases.journal ++ out_entry now class by bases ∷ []
journal_is now class by bases = of (next_out now (base_of class bases))
  where
    of : (next : Option Item) → (after_hand_out next now class by bases).journal
        ≡ bases.journal ++ out_entry_of next now class by ∷ []
    of None = refl
    of (Some item) = refl

-- the pass has its receipt
pub pass_is : (class : Class) (b : BoxView) (p : PassView)
    → drained_pass class b p
    ≡ noted_at b (out_entry b.opening.clock class (record { 0 = p.cpu }) b.own.bases) p
pass_is class b p = of (next_out b.opening.clock (base_of class b.own.bases))
  where
    of : (next : Option Item) → out_noted class next b p
        ≡ noted_at b (out_entry_of next b.opening.clock class (record { 0 = p.cpu })) p
    of None = refl
    of (Some item) = refl

-- it is still brought
pub same_cpu : (class : Class) (next : Option Item) (b : BoxView) (p : PassView)
    → (out_noted class next b p).cpu ≡ p.cpu
same_cpu class None b p = refl
same_cpu class (Some item) b p = refl
