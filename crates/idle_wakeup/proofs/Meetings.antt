-- what a pass knows once it has met its CPU's box
use Rattle.std.proofs.Common.{◌≡◌, ℕ, suc, ◌^◌, ◌<◌, Option, Some, None, Bool, true, false}
use Rattle.std.proofs.Common.{refl, sym, ap, ◌∙◌, subst, arith}
use Rattle.std.specs.Prelude.{if◌then◌else◌, option_map, nat_le}
use Rattle.std.proofs.lemmas.Bool.Decides.{nat_tests}
use Rattle.std.proofs.lemmas.Option.{none-some, same_Some}
use Rattle.std.proofs.Common.{List}
use Rattle.cpu_bases.specs.declared.entry.Entry.{Entry}
use Rattle.atomic_table.specs.Seated.{TableId}
use Rattle.tm_base.specs.declared.faults.OpFault.TheVariants as faults
use Rattle.core_world.specs.World.{cpu_of}
use Rattle.cpu_word.specs.declared.state.CpuState.{CpuState}
use Rattle.walk_active.specs.core_state.Shown.{shown_cpu}
use Rattle.walk_active.specs.shared_rule.declared.parts.PassView.{PassView}
use Rattle.walk_active.specs.shared_rule.Plays.{Agree, PartFits}
use Rattle.walk_active.specs.shared_rule.Shows.{BeginsWith}
use Rattle.walk_active.specs.shared_rule.Parts.{HeldPart, without_guest}
use Rattle.walk_active.specs.shared_rule.Passes.{HeldPass, IsOfRun, IsPassIn, Seated}
use Rattle.walk_active.specs.shared_rule.Passes.{knowing, walks_of, with_pass}
use Rattle.walk_active.specs.shared_table.declared.ready.TheConstants.{MOST_MADE}
use Rattle.walk_active.specs.Activated.{IsOwnPass, activated_pass}
use Rattle.tm_base.specs.declared.faults.OpFault.{OpFault}
use Rattle.idle_wakeup.specs.Calls.{Renews, awake, idle_fault_of, known_journal, refusal}
use Rattle.idle_wakeup.specs.Calls.{spent, wake_fault_of}

-- A PASS of the run in the box of its CPU
module _ (part : HeldPart) (held : HeldPass) (table : TableId) (p : PassView)
    (is : IsPassIn table held p) where
  -- it is still the CPU's own
  pub still_own : (journal : List Entry) → IsOwnPass table part.box.cpu held
      → IsOwnPass table part.box.cpu (with_pass (knowing journal) held)
  still_own journal own =
      let seated : option_map (λ (x : Seated). record x { pass = knowing journal x.pass })
      held.seated ≡ Some (record { table = table; pass = knowing journal p }) =
      ap (option_map (λ (x : Seated). record x { pass = knowing journal x.pass })) is in
      record {
        of_run = (knowing journal p, seated);
        cpu_is = own.cpu_is;
        own = λ q there.
            let one = same_Some (record { table = table; pass = knowing journal p })
            (record { table = table; pass = q }) (sym seated ∙ there) in
            sym (ap (λ (x : Seated). x.pass.cpu) one) ∙ own.own p is;
      }

  -- as many walks were begun with it
  pub same_walks : (journal : List Entry)
      → walks_of (with_pass (knowing journal) held).seated ≡ walks_of held.seated
  same_walks journal =
      subst (λ s. walks_of (option_map (λ (x : Seated). record x { pass = knowing journal x.pass })
      s) ≡ walks_of s) (sym is) refl

  -- what is refused by the box is refused by the pass
  pub same_fault : (f : (online idle : Bool) → (walks : ℕ) → Option OpFault) → PartFits part.box
      → Agree part.box p → p.cpu ≡ part.box.cpu
      → f part.box.own.online part.box.own.idle (walks_of held.seated) ≡ refusal f held.seated
  same_fault f fits agree own =
      let online : part.box.own.online ≡ (cpu_of p.opening p.cpu).online =
      fits.online ∙ (λ i. (cpu_of (sym agree.opening i) (sym own i)).online) in
      let by_pass : f part.box.own.online part.box.own.idle p.walks
      ≡ f (cpu_of p.opening p.cpu).online p.idle p.walks =
      λ i. f (online i) (sym (agree.idle own) i) p.walks in
      subst (λ s. f part.box.own.online part.box.own.idle (walks_of s) ≡ refusal f s) (sym is)
      by_pass

  -- and so what is refused by what the box shows, once they have met
  pub fault_is : (f : (online idle : Bool) → (walks : ℕ) → Option OpFault)
      (result : Option OpFault) (shown : CpuState) (walks : ℕ) (met : HeldPart)
      (renewed_pass : HeldPass) → PartFits part.box → Agree part.box p → p.cpu ≡ part.box.cpu
      → met ≡ without_guest part
      → renewed_pass ≡ with_pass (knowing part.box.own.bases.journal) held
      → shown ≡ shown_cpu met.box.own → walks ≡ walks_of renewed_pass.seated
      → result ≡ f shown.online shown.idle walks → result ≡ refusal f held.seated
  fault_is f result shown walks met after fits agree own met_is after_is shown_is walks_are is_f =
      let shows : shown ≡ shown_cpu part.box.own =
      shown_is ∙ ap (λ (z : HeldPart). shown_cpu z.box.own) met_is in
      let count : walks ≡ walks_of held.seated =
      walks_are ∙ ap (λ (z : HeldPass). walks_of z.seated) after_is
      ∙ same_walks part.box.own.bases.journal in
      let by_box : f shown.online shown.idle walks
      ≡ f part.box.own.online part.box.own.idle (walks_of held.seated) =
      λ i. f (shows i).online (shows i).idle (count i) in
      is_f ∙ by_box ∙ same_fault f fits agree own

  -- the journal that it knew is a front of the box's
  pub begins : Agree part.box p → p.cpu ≡ part.box.cpu
      → BeginsWith part.box.own.bases.journal (known_journal held.seated)
  begins agree own =
      subst (λ s. BeginsWith part.box.own.bases.journal (known_journal s)) (sym is)
      (agree.journal own)

  -- so it knows it as it is by now, once it has met the box
  pub renews : Agree part.box p → p.cpu ≡ part.box.cpu
      → Renews (λ q. q) held (with_pass (knowing part.box.own.bases.journal) held)
  renews agree own = (part.box.own.bases.journal, begins agree own, refl)

  -- and once the CPU has woken then
  pub renews_awake : Agree part.box p → p.cpu ≡ part.box.cpu
      → Renews awake held (with_pass (activated_pass part.box)
      (with_pass (knowing part.box.own.bases.journal) held))
  renews_awake agree own = (
    part.box.own.bases.journal,
    begins agree own,
    subst (λ s. with_pass (activated_pass part.box)
        (with_pass (knowing part.box.own.bases.journal) (record held { seated = s }))
        ≡ with_pass (λ q. knowing part.box.own.bases.journal (awake q)) (record held { seated = s }))
        (sym is) refl,
  )

-- a pass with which not too many walks were begun has one more
not_spent : (walks : ℕ) → spent walks ≡ None → suc walks < 2 ^ 32
not_spent walks e = by_test (nat_le MOST_MADE walks) refl
  where
    by_test : (t : Bool) → nat_le MOST_MADE walks ≡ t → suc walks < 2 ^ 32
    by_test true is =
        absurd (none-some _ (sym e ∙ ap (λ t. if t then Some (faults.Spent walks) else None) is))
    by_test false is = grind (arith, nat_tests)

-- who isn't refused may wake
pub may_wake : (online idle : Bool) (walks : ℕ) → wake_fault_of online idle walks ≡ None
    → (online ≡ true) × (idle ≡ true) × (suc walks < 2 ^ 32)
may_wake false idle walks e = absurd (none-some _ (sym e))
may_wake true false walks e = absurd (none-some _ (sym e))
may_wake true true walks e = (refl, refl, not_spent walks e)

-- who isn't refused may go idle
pub may_idle : (online idle : Bool) (walks : ℕ) → idle_fault_of online idle walks ≡ None
    → (online ≡ true) × (idle ≡ false) × (suc walks < 2 ^ 32)
may_idle false idle walks e = absurd (none-some _ (sym e))
may_idle true true walks e = absurd (none-some _ (sym e))
may_idle true false walks e = (refl, refl, not_spent walks e)

-- a pass of the run whose CPU is this one is that CPU's own
pub own_pass : (table : TableId) (cpu : ℕ) (held : HeldPass) → held.cpu ≡ cpu
    → IsOfRun table held → ((p : PassView) → IsPassIn table held p → p.cpu ≡ held.cpu)
    → IsOwnPass table cpu held
own_pass table cpu held is of_run own = record {
  of_run = of_run;
  cpu_is = is;
  own = λ p there. own p there ∙ is;
}
