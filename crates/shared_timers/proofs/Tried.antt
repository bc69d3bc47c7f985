-- a part whose CPU tries to arm a timer
use Rattle.std.proofs.Common.{◌≡◌, ◌≢◌, ℕ, zero, suc, List, [], ◌∷◌, Option, Some, None, refl}
use Rattle.std.proofs.Common.{sym, ap, ◌∙◌, arith, ne_eqb, ◌-◌, ◌/◌, ◌%◌, ◌^◌}
use Rattle.std.specs.Prelude.{if◌then◌else◌}
use Rattle.std.proofs.lemmas.Option.{none-some}
use Rattle.cpu_bases.specs.declared.entry.Act.TheVariants as acts
use Rattle.cpu_bases.specs.declared.entry.Entry.{Entry}
use Rattle.cpu_bases.specs.CpuBases.{CpuBases, entry_of, item_queued}
use Rattle.tm_base.specs.declared.names.CpuId.{CpuId}
use Rattle.core_world.specs.World.{World}
use Rattle.shared_words.specs.declared.spot.Spot.{Spot}
use Rattle.shared_words.specs.declared.spot.TheConstants.{CLASSES}
use Rattle.shared_words.specs.Words.{class_of, spot_of}
use Rattle.shared_rule.specs.declared.parts.PassView.{PassView}
use Rattle.shared_rule.specs.Plays.{seen_pass}
use Rattle.shared_rule.specs.Rule.{Me, seat_of}
use Rattle.shared_rule.specs.declared.box_part.Guest.{Guest}
use Rattle.shared_rule.specs.Parts.{HeldPart, Hosts}
use Rattle.shared_timers.specs.declared.arming.Arming.{Arming}
use Rattle.shared_timers.specs.Exchanging.{MayTryArm}
use Rattle.shared_timers.specs.Queueing.{MayArm}
use Rattle.shared_timers.proofs.Kept.{guest_of}

-- its seat may try to
pub may_try_arm : (o : World) (part : HeldPart) (me : Me) (a : Arming) → MayArm o part a
    → me ≡ seat_of (part.box ∷ []) part.brought → part.box.opening ≡ o
    → MayTryArm o me part.box.cpu a
may_try_arm o part me a may seat opening = record {
  box = part.box;
  pass = may.pass;
  seat = seat ∙ ap (seat_of (part.box ∷ [])) may.brought;
  opening = opening;
  cpu_is = refl;
  fits = may.may;
}

-- the word of a timer that is queued isn't 0
pub not_zero : (word : ℕ) (spot : Spot) → Some spot ≡ spot_of word → word ≢ 0
not_zero word spot is zero_is = none-some spot (sym (is ∙ ap spot_of zero_is))

-- and that of one that isn't is
pub is_zero : (word : ℕ) → None ≡ spot_of word → word ≡ 0
is_zero zero is = refl
is_zero (suc n) is =
    let spot : Spot = record {
      cpu = record { 0 = (suc n - 1) / CLASSES % 2 ^ 16 };
      class = class_of ((suc n - 1) % CLASSES);
    } in
    let some : spot_of (suc n) ≡ Some spot =
    ap (λ z. if z then None else Some spot) (ne_eqb (suc n) 0 (λ z. omega (arith, z))) in
    absurd (none-some spot (is ∙ some))

-- the pass that remembers the word is hosted as before
pub seen_hosts : (guest : Option Guest) (ps : List PassView) (p : PassView) (word found : ℕ)
    → ps ≡ p ∷ [] → Hosts guest ps → Hosts guest (seen_pass word found p ∷ [])
seen_hosts None ps p word found one hosts = absurd (empty (sym hosts ∙ one))
  where
    empty : [] ≡ p ∷ [] → ⊥
    empty is = cc
seen_hosts (Some guest) ps p word found one hosts =
    let is = guest_of guest ps p hosts one in (
      seen_pass word found p,
      refl,
      record { cpu = is.cpu; walks = is.walks; receipts = is.receipts },
    )

-- what is written of a timer that is armed
abbrev pub arm_entry : (now : ℕ) → Arming → (by : CpuId) → CpuBases → Entry
arm_entry now a by bases =
    entry_of acts.Armed a.line now a.class
    (item_queued now a.class a.timer.0 a.expires a.job a.arg bases) by
