-- where a CPU re-evaluates or carries, and what its pass has gained as it entered or ended
use Rattle.std.proofs.Common.{◌≡◌, inl, inr, ℕ, suc, ◌+◌, eq-eqb, ne_eqb, true, false, [], ◌∷◌}
use Rattle.std.proofs.Common.{Option, Some, None, refl, sym, ap, ◌∙◌, subst, arith}
use Rattle.std.specs.Prelude.{◌&&◌, not}
use Rattle.std.proofs.lemmas.Bool.{cases_eq}
use Rattle.std.proofs.lemmas.List.{append-nil}
use Rattle.atomic_table.specs.Seated.{TableId}
use Rattle.walk_rules.specs.declared.walk.WalkKind.TheVariants as kinds
use Rattle.cpu_word.specs.declared.state.CpuState.{CpuState}
use Rattle.core_world.specs.World.{World}
use Rattle.walk_inactive.specs.core_state.Shown.{shown_cpu}
use Rattle.walk_inactive.specs.shared_rule.declared.parts.BoxView.{BoxView}
use Rattle.walk_inactive.specs.shared_rule.declared.parts.PassView.{PassView}
use Rattle.walk_inactive.specs.shared_rule.Rule.{renewed, with_journal}
use Rattle.walk_inactive.specs.shared_rule.Shows.{BeginsWith}
use Rattle.walk_inactive.specs.shared_rule.Plays.{Agree, PartFits, head_pass}
use Rattle.walk_inactive.specs.shared_rule.Parts.{HeldPart, pass_parted, with_guest}
use Rattle.walk_inactive.specs.shared_rule.Passes.{HeldPass, IsPassIn, passes_of, seated_of}
use Rattle.walk_inactive.specs.shared_rule.Passes.{walks_of}
use Rattle.walk_inactive.specs.shared_rule.Turns.{entered_box, entered_pass}
use Rattle.walk_inactive.specs.shared_cpus.Pairs.{by_pair, of_box}
use Rattle.walk_inactive.specs.shared_rule.Free.{IsFree}
use Rattle.walk_inactive.specs.Ends.{HasWalked, is_mark_of, cpu_reevaluated, retells_with, pass_retold}
use Rattle.shared_acts.specs.Interrupts.{own_walk}
use Rattle.shared_acts.specs.Tries.{HasClosed}
use Rattle.shared_acts.proofs.Trials.{goes_on, known_by, no_mark, off_gains, place_in}
use Rattle.shared_acts.proofs.Closing.{has_mark, online_by}
use Rattle.remote_expiry.specs.Interrupts.{interrupt_fault, interrupt_fault_of}
use Rattle.remote_expiry.specs.Trying.{HasEntered}

not_marked : (m : Option ℕ) (cpu : ℕ) → (m ≡ Some cpu → ⊥) → is_mark_of m cpu ≡ false
not_marked None cpu free = refl
not_marked (Some c) cpu free = ne_eqb c cpu (λ is. free (ap (λ n. Some n) is))

-- A PASS of the run in the part of a CPU, with which it agrees
module _ (table : TableId) (part : HeldPart) (held : HeldPass) (p : PassView)
    (is : IsPassIn table held p) (agree : Agree part.box p) (free : IsFree part) where
  abbrev both : HeldPart
  both = with_guest part held

  brought : both.brought ≡ p ∷ []
  brought = ap passes_of is

  -- it re-evaluates, since it hasn't marked itself
  pub retells : p.cpu ≡ part.box.cpu → p.marks ≡ [] → retells_with both.box both.brought ≡ true
  retells own none =
      let free_of : part.box.own.mark ≡ Some part.box.cpu → ⊥ =
      λ marked. no_mark part.box.cpu p.marks none
      (agree.marks.0 (marked ∙ ap (λ n. Some n) (sym own))) in
      ap (retells_with both.box) brought
      ∙ ((λ i. eq-eqb p.cpu part.box.cpu own i
      && not (is_mark_of part.box.own.mark part.box.cpu))
      ∙ ap not (not_marked part.box.own.mark part.box.cpu free_of))

  -- MARKED by the CPU of the pass alone
  module _ (one : p.marks ≡ part.box.cpu ∷ []) where
    marked : part.box.own.mark ≡ Some p.cpu
    marked = has_mark table part held p is agree free one

    -- it carries, since even its own CPU is marked
    pub carries : retells_with both.box both.brought ≡ false
    carries =
        ap (retells_with both.box) brought
        ∙ elim (cases_eq p.cpu part.box.cpu) [
          | inl own ↦
              (λ i. eq-eqb p.cpu part.box.cpu own i
              && not (is_mark_of (marked i) part.box.cpu))
              ∙ ap not (eq-eqb p.cpu part.box.cpu own)
          | inr ne ↦
              (λ i. ne_eqb p.cpu part.box.cpu ne i
              && not (is_mark_of part.box.own.mark part.box.cpu))
        ]

  -- ENTERED
  pub entered : (o : World) (after : HeldPass) → interrupt_fault p ≡ None
      → after ≡ pass_parted table held.cpu (by_pair (of_box entered_box) entered_pass both)
      → HasEntered table o held after
  entered o after none same = record {
    before = p;
    later = with_journal (entered_box part.box) (entered_pass part.box p);
    had = is;
    has =
        ap (λ (z : HeldPass). z.seated) same
        ∙ ap (λ s. (pass_parted table held.cpu (by_pair (of_box entered_box) entered_pass
        (with_guest part (record held { seated = s })))).seated) is;
    cpu = ap (λ (z : HeldPass). z.cpu) same;
    free = none;
    gains =
        off_gains (record p { inside = true }) part.box.cpu part.box.own.bases.journal agree.journal
        [] p.did p.marks p.marks p.walks 0 (sym (append-nil p.did)) refl (omega arith) refl;
  }

  -- or RE-EVALUATED
  pub told_anew : (new : HeldPart) (after : HeldPass) → p.idle ≡ true
      → HasWalked kinds.Reeval cpu_reevaluated pass_retold both new
      → after ≡ pass_parted table held.cpu new → HasClosed table held after
  told_anew new after idle h same =
      let c = new.box.cpu in
      let journal = new.box.own.bases.journal in
      let cpu : new.box.cpu ≡ part.box.cpu = ap (λ (b : BoxView). b.cpu) h.told.box in
      let journal_is : new.box.own.bases.journal ≡ part.box.own.bases.journal =
      ap (λ (b : BoxView). b.own.bases.journal) h.told.box in
      let begins : p.cpu ≡ c → BeginsWith journal p.journal =
      λ own. subst (λ j. BeginsWith j p.journal) (sym journal_is) (agree.journal (own ∙ cpu)) in
      record {
        before = p;
        later = with_journal new.box (pass_retold new.box p);
        had = is;
        has =
            ap (λ (z : HeldPass). z.seated) same
            ∙ ap (λ ps. seated_of table (renewed (new.box ∷ []) ps))
            (ap (λ (z : HeldPart). z.brought) h.rest
            ∙ ap (λ s. head_pass (pass_retold new.box) (passes_of s)) is);
        cpu = ap (λ (z : HeldPass). z.cpu) same;
        opening = refl;
        same_cpu = refl;
        walks_are = subst (λ b. suc p.walks ≡ p.walks + own_walk b) (sym idle) (omega arith);
        receipts_are = refl;
        did_are = refl;
        idle = refl;
        inside = refl;
        reeval = refl;
        marks = refl;
        journal = goes_on p c journal begins;
        known = λ known i r at own.
            place_in (known_by p c journal begins) p.journal r.place (goes_on p c journal begins)
            (known i r at own);
      }

-- WHAT REFUSES an interrupt by the part is what refuses it by the pass
pub fault_by : (table : TableId) (part : HeldPart) (held : HeldPass) (p : PassView)
    → IsPassIn table held p → PartFits part.box → part.box.opening ≡ p.opening
    → p.cpu ≡ part.box.cpu → (shown : CpuState) → shown ≡ shown_cpu part.box.own → (walks : ℕ)
    → walks ≡ walks_of held.seated
    → interrupt_fault_of shown.online walks ≡ interrupt_fault p
fault_by table part held p is fits opening own shown shown_is walks walks_are =
    let online = ap (λ (s : CpuState). s.online) shown_is ∙ online_by part p fits opening own in
    let count : walks ≡ p.walks = walks_are ∙ ap walks_of is in
    λ i. interrupt_fault_of (online i) (count i)
