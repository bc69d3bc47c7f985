-- what a CPU is answered by its box, said of its pass
use Rattle.std.proofs.Common.{◌≡◌, ℕ, ◌<◌, List, refl, sym, ap, ◌∙◌, subst}
use Rattle.std.specs.Prelude.{◌≤◌, ◌+◌, option_map, min}
use Rattle.atomic_table.specs.Seated.{TableId}
use Rattle.cpu_bases.specs.declared.entry.Entry.{Entry}
use Rattle.cpu_bases.specs.CpuBases.{CpuBases, events_of}
use Rattle.tree_plan.specs.Paths.{group_at_of}
use Rattle.walk_rules.specs.declared.walk.WalkKind.TheVariants as kinds
use Rattle.core_world.specs.Enabled.{first_event}
use Rattle.core_world.specs.World.{World}
use Rattle.walk_active.specs.shared_rule.declared.parts.PassView.{PassView}
use Rattle.walk_active.specs.shared_rule.Plays.{Agree, PartFits}
use Rattle.walk_active.specs.shared_rule.Parts.{HeldPart}
use Rattle.walk_active.specs.shared_rule.Passes.{HeldPass, IsPassIn, Seated, knowing, with_pass}
use Rattle.walk_inactive.specs.Looks.{FindsFirst}
use Rattle.idle_wakeup.specs.declared.idling.IdleAnswer.{IdleAnswer}
use Rattle.idle_wakeup.specs.declared.idling.IdleAnswer.TheVariants as answers
use Rattle.idle_wakeup.specs.Calls.{known_journal}
use Rattle.idle_wakeup.specs.Resting.{IsIdleAnswer, IsBoxAnswer, known_bases, made_by}
use Rattle.idle_wakeup.specs.Resting.{resting_pass}
use Rattle.idle_wakeup.proofs.Meetings as meetings

-- A PASS of the run in the box of its CPU, with which it agrees
module _ (part : HeldPart) (held : HeldPass) (table : TableId) (p : PassView)
    (is : IsPassIn table held p) (o : World) (opening : part.box.opening ≡ o)
    (fits : PartFits part.box) (agree : Agree part.box p) (own : p.cpu ≡ part.box.cpu)
    (cpu : part.box.cpu ≡ held.cpu) where
  -- the journal of the box
  abbrev journal : List Entry
  journal = part.box.own.bases.journal

  -- a pass that was renewed knows it
  knows : (f : PassView → PassView) (new : HeldPass)
      → new ≡ with_pass (λ q. knowing journal (f q)) held → known_journal new.seated ≡ journal
  knows f new to =
      ap (λ (z : HeldPass). known_journal z.seated) to
      ∙ subst (λ s. known_journal (option_map (λ (x : Seated). record x {
        pass = knowing journal (f x.pass);
      }) s) ≡ journal) (sym is) refl

  -- and so the bases of the box
  knows_bases : (f : PassView → PassView) (new : HeldPass)
      → new ≡ with_pass (λ q. knowing journal (f q)) held → part.box.own.bases ≡ known_bases new
  knows_bases f new to =
      let played : part.box.own.bases ≡ made_by journal =
      λ i. record { bases = fits.played.bases i; journal = journal } in
      played ∙ ap made_by (sym (knows f new to))

  -- a pass that was renewed twice was renewed once
  renewed_twice : (f : PassView → PassView) →
      with_pass (λ q. knowing journal (f q)) (with_pass (knowing journal) held)
      ≡ with_pass (λ q. knowing journal (f (knowing journal q))) held
  renewed_twice f = subst (λ s.
      with_pass (λ q. knowing journal (f q)) (with_pass (knowing journal) (record held { seated = s }))
      ≡ with_pass (λ q. knowing journal (f (knowing journal q))) (record held { seated = s }))
      (sym is) refl

  -- the walk has found the same by the pass
  same_finds : (looked : _) (found : ℕ) (bases : CpuBases) → part.box.own.bases ≡ bases
      → FindsFirst (group_at_of part.box.opening.tree part.box.cpu 0) part.box.opening part.box.cpu
      kinds.Deactivate (events_of part.box.own.bases).next looked found
      → FindsFirst (group_at_of o.tree held.cpu 0) o held.cpu kinds.Deactivate
      (events_of bases).next looked found
  same_finds looked found bases to finds =
      subst (λ (y : CpuBases). FindsFirst (group_at_of o.tree held.cpu 0) o held.cpu
      kinds.Deactivate (events_of y).next looked found) to
      (subst (λ c. FindsFirst (group_at_of o.tree c 0) o c kinds.Deactivate
      (events_of part.box.own.bases).next looked found) cpu
      (subst (λ (w : World). FindsFirst (group_at_of w.tree part.box.cpu 0) w part.box.cpu
      kinds.Deactivate (events_of part.box.own.bases).next looked found) opening finds))

  -- THE ANSWER by the box is that by the pass
  pub said : (answer : IdleAnswer) (new : HeldPass)
      → IsBoxAnswer part.box answer (with_pass (knowing journal) held) new
      → IsIdleAnswer o answer held new
  said (answers.Stay t) new (same, first, soon) =
      let bases = knows_bases (λ q. q) new same in
      record {
        renews = (journal, meetings.begins part held table p is agree own, same);
        first = first ∙ ap first_event bases;
        soon = subst (λ (w : World). t ≤ w.clock + 1) opening soon;
      }
  said (answers.Until t) new (to, later, looked, found, finds, wakeup) =
      let once = to ∙ renewed_twice (resting_pass t) in
      let bases = knows_bases (resting_pass t) new once in
      record {
        renews = (journal, meetings.begins part held table p is agree own, once);
        later = subst (λ (w : World). w.clock + 1 < first_event (known_bases new)) opening
            (subst (λ y. part.box.opening.clock + 1 < first_event y) bases later);
        looked = looked;
        found = found;
        finds = same_finds looked found (known_bases new) bases finds;
        wakeup = wakeup ∙ ap (λ y. min (events_of y).pin found) bases;
      }
