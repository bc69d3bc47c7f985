-- for crates above: where a CPU may mark, let go, enter and end, and what its pass has gained as it
-- left
use Rattle.std.proofs.Common.{◌≡◌, ◌⊎◌, suc, ◌+◌, ◌^◌, ◌<◌, true, false, [], ◌∷◌, Some, None}
use Rattle.std.proofs.Common.{Contains, refl, sym, ap, ◌∙◌, subst, arith}
use Rattle.std.proofs.lemmas.List.Elements.{Contains-push}
use Rattle.atomic_table.specs.Seated.{TableId}
use Rattle.tree_plan.specs.Paths.{is_placed_in}
use Rattle.core_world.specs.World.{World, cpu_of}
use Rattle.shared_timers.specs.shared_rule.declared.parts.BoxView.{BoxView}
use Rattle.shared_timers.specs.shared_rule.declared.parts.PassView.{PassView}
use Rattle.shared_timers.specs.shared_rule.Rule.{Each, with_journal}
use Rattle.shared_timers.specs.shared_rule.Plays.{Agree, PartFits, head_pass}
use Rattle.shared_timers.specs.shared_rule.Parts.{HasGuest, HeldPart, pass_parted, with_guest}
use Rattle.shared_timers.specs.shared_rule.Parts.{without_guest}
use Rattle.shared_timers.specs.shared_rule.Passes.{HeldPass, IsPassIn, away, passes_of}
use Rattle.shared_timers.specs.shared_rule.Turns.{outside_box, outside_pass}
use Rattle.shared_timers.proofs.shared_rule.Visits as visits
use Rattle.shared_looks.specs.shared_cpus.Conditions.{CanCarry, CanEnter, CanLeave, CanRelease}
use Rattle.shared_looks.specs.shared_cpus.Conditions.{CanRetell}
use Rattle.shared_looks.specs.shared_cpus.Conditions.{CanTake, IsTurn}
use Rattle.shared_looks.specs.shared_cpus.Pairs.{box_by, by_pair, of_box}
use Rattle.shared_timers.specs.shared_rule.Free.{HasNoneBehind, IsFree}
use Rattle.shared_looks.specs.Marks.{IsTakable}
use Rattle.shared_acts.specs.Interrupts.{own_walk}
use Rattle.shared_acts.specs.Pieces.{IsInside}
use Rattle.shared_acts.specs.Tries.{HasClosed}
use Rattle.shared_acts.proofs.Trials.{goes_on, known_by, place_in}

-- A PASS of the run in the part of a CPU, with which it agrees
module _ (table : TableId) (part : HeldPart) (held : HeldPass) (p : PassView)
    (is : IsPassIn table held p) (agree : Agree part.box p) (free : IsFree part) where
  abbrev both : HeldPart
  both = with_guest part held

  brought : both.brought ≡ p ∷ []
  brought = ap passes_of is

  pub has_guest : p.cpu ≡ held.cpu → HasGuest held.cpu both
  has_guest own = (p, brought, own)

  -- its own CPU's turn
  turn : p.cpu ≡ part.box.cpu → part.box.own.online ≡ true → IsTurn both p
  turn own online =
      record { brought = brought; own = own; free = free.walkless; online = online }

  pub can_enter : p.cpu ≡ part.box.cpu → part.box.own.online ≡ true → p.inside ≡ false
      → CanEnter both
  can_enter own online outside = record {
    pass = p;
    turn = turn own online;
    outside = sym (agree.inside own) ∙ outside;
  }

  pub can_leave : p.cpu ≡ part.box.cpu → part.box.own.online ≡ true → p.inside ≡ true
      → part.box.own.idle ≡ false → p.marks ≡ [] → CanLeave both
  can_leave own online inside awake none = record {
    pass = p;
    turn = turn own online;
    inside = sym (agree.inside own) ∙ inside;
    awake = awake;
    marks_nobody = none;
  }

  pub can_retell : p.cpu ≡ part.box.cpu → part.box.own.online ≡ true → p.inside ≡ true
      → part.box.own.idle ≡ true → p.marks ≡ [] → suc p.walks < 2 ^ 32 → CanRetell both
  can_retell own online inside idle none left = record {
    pass = p;
    turn = turn own online;
    idle = idle;
    inside = sym (agree.inside own) ∙ inside;
    marks_nobody = none;
    left = left;
  }

  -- MARKED by the CPU of the pass alone
  module _ (one : p.marks ≡ part.box.cpu ∷ []) where
    pub has_mark : part.box.own.mark ≡ Some p.cpu
    has_mark =
        agree.marks.1
        (subst (λ l. Contains l part.box.cpu) (sym one) (Contains-push [] part.box.cpu))

    pub can_release : (part.box.own.online ≡ false) ⊎ (part.box.own.idle ≡ false)
        → CanRelease both
    can_release awake = record {
      pass = p;
      brought = brought;
      free = free.walkless;
      marked = has_mark;
      awake = awake;
    }

    pub can_carry : part.box.own.online ≡ true → part.box.own.idle ≡ true
        → suc p.walks < 2 ^ 32 → CanCarry both
    can_carry online idle left = record {
      pass = p;
      brought = brought;
      free = free.walkless;
      marked = has_mark;
      online = online;
      idle = idle;
      left = left;
    }

  pub can_take : p.opening ≡ part.box.opening → is_placed_in p.opening.tree p.cpu ≡ true
      → p.inside ≡ true → p.reeval ≡ false → IsTakable part.box → CanTake both p
  can_take opening placed inside on takable = record {
    brought = brought;
    placed = ap (λ (w : World). is_placed_in w.tree p.cpu) (sym opening) ∙ placed;
    inside = inside;
    goes_on = on;
    free = free.walkless;
    online = takable.online;
    idle = takable.idle;
    unmarked = takable.unmarked;
    due = takable.due;
  }

  -- LEFT
  pub left : (after : HeldPass) → p.reeval ≡ false → p.idle ≡ false
      → after ≡ pass_parted table held.cpu (by_pair (of_box outside_box) outside_pass both)
      → HasClosed table held after
  left after on awake same =
      let c = part.box.cpu in
      let journal = part.box.own.bases.journal in
      record {
        before = p;
        later = with_journal (outside_box part.box) (outside_pass part.box p);
        had = is;
        has =
            ap (λ (z : HeldPass). z.seated) same
            ∙ ap (λ s. (pass_parted table held.cpu (by_pair (of_box outside_box) outside_pass
            (with_guest part (record held { seated = s })))).seated) is;
        cpu = ap (λ (z : HeldPass). z.cpu) same;
        opening = refl;
        same_cpu = refl;
        walks_are = subst (λ b. p.walks ≡ p.walks + own_walk b) (sym awake) (omega arith);
        receipts_are = refl;
        did_are = refl;
        idle = refl;
        inside = refl;
        reeval = on;
        marks = refl;
        journal = goes_on p c journal agree.journal;
        known = λ known i r at own.
            place_in (known_by p c journal agree.journal) p.journal r.place
            (goes_on p c journal agree.journal) (known i r at own);
      }

-- THE CALLS that bring a pass, make a step with it and let it go again
pub agree_of : (table : TableId) (part brought_part : HeldPart) (held : HeldPass) (p : PassView)
    → IsPassIn table held p → brought_part ≡ with_guest part held
    → Each (Agree brought_part.box) brought_part.brought → Agree part.box p
agree_of table part brought_part held p is same each =
    visits.agrees part held table p is
    (subst (λ (z : HeldPart). Each (Agree z.box) z.brought) same each)

pub parted_by : (table : TableId) (f : HeldPart → HeldPart) (part brought_part stepped : HeldPart)
    (held gone after : HeldPass) → gone ≡ away held → brought_part ≡ with_guest part held
    → stepped ≡ f brought_part → after ≡ pass_parted table gone.cpu stepped
    → after ≡ pass_parted table held.cpu (f (with_guest part held))
parted_by table f part brought_part stepped held gone after went same step off =
    off ∙ (ap (λ n. pass_parted table n stepped) (ap (λ (z : HeldPass). z.cpu) went)
    ∙ ap (pass_parted table held.cpu) (step ∙ ap f same))

module _ (F : BoxView → PassView → BoxView) (H : BoxView → PassView → PassView)
    (table : TableId) (part : HeldPart) (held : HeldPass) (p : PassView)
    (is : IsPassIn table held p) where
  -- the pass is still brought after the step
  pub guest_by : (brought_part stepped : HeldPart) (gone : HeldPass) → gone ≡ away held
      → brought_part ≡ with_guest part held → stepped ≡ by_pair F H brought_part
      → (H part.box p).cpu ≡ p.cpu → p.cpu ≡ held.cpu → HasGuest gone.cpu stepped
  guest_by brought_part stepped gone went same step kept own =
      let path : stepped ≡ by_pair F H (with_guest part held) = step ∙ ap (by_pair F H) same in
      let one : stepped.brought ≡ H part.box p ∷ [] =
      ap (λ (z : HeldPart). z.brought) path
      ∙ ap (λ s. head_pass (H part.box) (passes_of s)) is in (
        H part.box p,
        one,
        kept ∙ (own ∙ sym (ap (λ (z : HeldPass). z.cpu) went)),
      )

  -- the box after it
  pub box_by_step : (brought_part stepped new : HeldPart) → brought_part ≡ with_guest part held
      → stepped ≡ by_pair F H brought_part → new ≡ without_guest stepped
      → new.box ≡ F part.box p
  box_by_step brought_part stepped new same step off =
      ap (λ (z : HeldPart). z.box) (off ∙ ap without_guest (step ∙ ap (by_pair F H) same))
      ∙ ap (λ s. box_by F part.box (passes_of s)) is

-- a part with such a box is free
pub free_with : (new : HeldPart) (b : BoxView) → new.box ≡ b → new.brought ≡ []
    → b.own.walk ≡ None → HasNoneBehind b.own.bases → IsFree new
free_with new b same alone walkless whole = record {
  walkless = ap (λ (x : BoxView). x.own.walk) same ∙ walkless;
  alone = alone;
  whole = subst (λ (x : BoxView). HasNoneBehind x.own.bases) (sym same) whole;
}

-- a CPU is online as it was when the run began
pub online_by : (part : HeldPart) (p : PassView) → PartFits part.box
    → part.box.opening ≡ p.opening → p.cpu ≡ part.box.cpu
    → part.box.own.online ≡ (cpu_of p.opening p.cpu).online
online_by part p fits opening own =
    fits.online ∙ (λ i. (cpu_of (opening i) (sym own i)).online)

-- a CPU that is inside its interrupt is online
pub online_in : (part : HeldPart) (p : PassView) (o : World) → PartFits part.box
    → part.box.opening ≡ o → IsInside o p → p.cpu ≡ part.box.cpu
    → part.box.own.online ≡ true
online_in part p o fits opening inside own =
    online_by part p fits (opening ∙ sym inside.opening) own
    ∙ (ap (λ (w : World). (cpu_of w p.cpu).online) inside.opening ∙ inside.online)
