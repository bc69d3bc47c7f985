-- a timer that is queued in the part of a CPU, as it is cancelled
use Rattle.std.proofs.Common.{◌≡◌, ℕ, [], ◌∷◌, ◌++◌, Option, Some, None, refl, sym, ap}
use Rattle.std.proofs.Common.{◌∙◌, subst}
use Rattle.std.specs.Prelude.{option_map}
use Rattle.std.proofs.lemmas.Option.{none-some, same_Some}
use Rattle.tm_base.specs.declared.names.Class.{Class}
use Rattle.tm_base.specs.declared.names.CpuId.{CpuId}
use Rattle.tm_base.specs.declared.names.TimerId.{TimerId}
use Rattle.wheel_core.specs.declared.item.Item.{Item}
use Rattle.cpu_bases.specs.declared.entry.Act.TheVariants as acts
use Rattle.cpu_bases.specs.declared.entry.Entry.{Entry}
use Rattle.cpu_bases.specs.CpuBases.{CpuBases, after_cancel, cancelled, class_in, entry_of, found_in}
use Rattle.core_world.specs.World.{World}
use Rattle.shared_rule.specs.declared.parts.BoxView.{BoxView}
use Rattle.shared_rule.specs.declared.parts.PassView.{PassView}
use Rattle.shared_rule.specs.Rule.{Me, seat_of}
use Rattle.shared_rule.specs.TimerLaws.{MayExchangeCancel}
use Rattle.shared_rule.specs.Timers.{cancel_noted, cancelled_pass, noted_at}
use Rattle.shared_rule.specs.Parts.{HeldPart}
use Rattle.shared_timers.specs.Exchanging.{MayTakeOut}
use Rattle.shared_timers.specs.Queueing.{MayCancel}

-- the seat of such a part may cancel it
pub may_take_out : (o : World) (part : HeldPart) (me : Me) (timer : TimerId) (class : Class)
    → MayCancel o part timer → me ≡ seat_of (part.box ∷ []) part.brought → part.box.opening ≡ o
    → Some class ≡ class_in timer.0 part.box.own.bases
    → MayTakeOut o me part.box.cpu class timer
may_take_out o part me timer class may seat opening is = record {
  box = part.box;
  pass = may.pass;
  seat = seat ∙ ap (seat_of (part.box ∷ [])) may.brought;
  opening = opening;
  cpu_is = refl;
  fits =
      subst (λ k. MayExchangeCancel o part.box k timer)
      (sym (same_Some class may.class (is ∙ may.may.queued))) may.may;
}

-- a timer whose class is found has an item
with_item : (found : Option (Class × Item)) (class : Class)
    → option_map (λ (z : Class × Item). z.0) found ≡ Some class
    → (item : Item) × (found ≡ Some (class, item))
with_item None class is = absurd (none-some class is)
with_item (Some found) class is =
    (found.1, λ i. Some (same_Some found.0 class is i, found.1))

-- what is written of a timer that is queued
module _ (now timer line : ℕ) (by : CpuId) (class : Class) (bases : CpuBases)
    (queued : class_in timer bases ≡ Some class) where
  pub item_of_it : (item : Item) × (found_in timer bases ≡ Some (class, item))
  item_of_it = with_item (found_in timer bases) class queued

  pub entry : Entry
  entry = entry_of acts.Cancelled line now class item_of_it.0 by

  pub journal_is : (cancelled now timer line by bases).journal ≡ bases.journal ++ entry ∷ []
  unfolding entry
  journal_is =
      ap (λ z. (after_cancel z now line by bases).journal) item_of_it.1

-- the pass has its receipt
pub pass_is : (timer line : ℕ) (b : BoxView) (p : PassView) (class : Class)
    (queued : class_in timer b.own.bases ≡ Some class)
    → cancelled_pass timer line b p
    ≡ noted_at b
    (entry b.opening.clock timer line (record { 0 = p.cpu }) class b.own.bases queued) p
unfolding entry
pass_is timer line b p class queued =
    ap (λ z. cancel_noted line z b p)
    (item_of_it b.opening.clock timer line (record { 0 = p.cpu }) class b.own.bases queued).1
