-- what a pass has gained as its CPU carried the next event of another one upwards
use Rattle.std.proofs.Common.{◌≡◌, ℕ, suc, [], ◌∷◌, ◌++◌, length, refl, sym, ap, ◌∙◌, subst}
use Rattle.std.proofs.Common.{arith}
use Rattle.atomic_table.specs.Seated.{TableId}
use Rattle.walk_inactive.specs.shared_rule.declared.parts.BoxView.{BoxView}
use Rattle.walk_inactive.specs.shared_rule.declared.parts.Deed.TheVariants as deeds
use Rattle.walk_inactive.specs.shared_rule.declared.parts.PassView.{PassView}
use Rattle.walk_inactive.specs.shared_rule.Rule.{renewed, with_journal}
use Rattle.walk_inactive.specs.shared_rule.Shows.{BeginsWith}
use Rattle.walk_inactive.specs.shared_rule.Plays.{Agree, head_pass}
use Rattle.walk_inactive.specs.shared_rule.Parts.{HeldPart, pass_parted, with_guest}
use Rattle.walk_inactive.specs.shared_rule.Passes.{HeldPass, IsPassIn, passes_of, seated_of}
use Rattle.walk_inactive.specs.shared_rule.Turns.{marks_without}
use Rattle.walk_inactive.specs.Ends.{HasCarried, has_carried, next_of}
use Rattle.shared_acts.specs.Tries.{HasUnmarked}
use Rattle.shared_acts.proofs.Trials.{none_left, off_gains}

-- A PASS of the run in the part of a CPU, with which it agrees
module _ (table : TableId) (part : HeldPart) (held after : HeldPass) (p : PassView)
    (is : IsPassIn table held p) (agree : Agree part.box p) where
  -- LET GO, by carrying
  pub carried : (new : HeldPart) → p.marks ≡ part.box.cpu ∷ []
      → HasCarried (with_guest part held) new → after ≡ pass_parted table held.cpu new
      → (next : ℕ) × HasUnmarked table (deeds.Carried part.box.cpu next) held after
  carried new one carries same =
      let h = carries p (ap passes_of is) in
      let cpu : new.box.cpu ≡ part.box.cpu = ap (λ (b : BoxView). b.cpu) h.told.box in
      let journal : new.box.own.bases.journal ≡ part.box.own.bases.journal =
      ap (λ (b : BoxView). b.own.bases.journal) h.told.box in
      let did = record {
        held = length p.receipts;
        deed = deeds.Carried new.box.cpu (next_of new.box);
      } ∷ [] in (
        next_of new.box,
        record {
          before = p;
          later = with_journal new.box (has_carried new.box p);
          had = is;
          has =
              ap (λ (z : HeldPass). z.seated) same
              ∙ ap (λ ps. seated_of table (renewed (new.box ∷ []) ps))
              (ap (λ (z : HeldPart). z.brought) h.rest
              ∙ ap (λ s. head_pass (has_carried new.box) (passes_of s)) is);
          cpu = ap (λ (z : HeldPass). z.cpu) same;
          did = did;
          walks = 1;
          few = omega arith;
          gains =
              off_gains p new.box.cpu new.box.own.bases.journal
              (λ own. subst (λ j. BeginsWith j p.journal) (sym journal) (agree.journal (own ∙ cpu)))
              did (p.did ++ did) (marks_without new.box.cpu p.marks) [] (suc p.walks) 1 refl
              (none_left new.box.cpu part.box.cpu p.marks one cpu) (omega arith) refl;
          just = ap (λ n. deeds.Carried n (next_of new.box) ∷ []) cpu;
        },
      )
