-- whatever a CPU's thread calls, its pass is that CPU's still, and quiet
use Rattle.std.proofs.Common.{◌≡◌, ℕ, List, [], ◌∷◌, Option, Some, None, Result, Ok, Err, refl, sym}
use Rattle.std.proofs.Common.{ap, ◌∙◌, subst}
use Rattle.std.specs.Prelude.{IfOk, MatchResult, OnErr, OnOk, option_map}
use Rattle.std.proofs.lemmas.Option.{same_Some}
use Rattle.atomic_table.specs.Seated.{TableId}
use Rattle.tm_base.specs.declared.faults.OpFault.{OpFault}
use Rattle.tm_base.specs.declared.faults.OpFault.TheVariants as faults
use Rattle.tm_base.specs.declared.names.Class.{Class}
use Rattle.tm_base.specs.declared.names.CpuId.{CpuId}
use Rattle.wheel_core.specs.declared.item.Item.{Item}
use Rattle.core_world.specs.World.{World}
use Rattle.job_table.specs.declared.jobs.JobCall.{JobCall}
use Rattle.job_table.specs.declared.jobs.JobReply.{JobReply}
use Rattle.cpu_bases.specs.CpuBases.{found_in}
use Rattle.idle_wakeup.specs.shared_rule.declared.parts.BoxView.{BoxView}
use Rattle.idle_wakeup.specs.shared_rule.declared.parts.Did.{Did}
use Rattle.idle_wakeup.specs.shared_rule.declared.parts.Look.{Look}
use Rattle.idle_wakeup.specs.shared_rule.declared.parts.PassView.{PassView}
use Rattle.idle_wakeup.specs.shared_rule.declared.parts.Receipt.{Receipt}
use Rattle.idle_wakeup.specs.shared_rule.Plays.{head_pass, seen_pass}
use Rattle.idle_wakeup.specs.shared_rule.Rule.{with_journal}
use Rattle.idle_wakeup.specs.shared_rule.Parts.{HeldPart, pass_parted, with_guest}
use Rattle.idle_wakeup.specs.shared_rule.Passes.{HeldPass, IsPassIn, Seated, knowing, with_pass}
use Rattle.idle_wakeup.specs.shared_rule.Passes.{with_receipts_room}
use Rattle.idle_wakeup.specs.shared_rule.Timers.{armed_box, armed_pass, cancel_noted, cancelled_box}
use Rattle.idle_wakeup.specs.shared_rule.Timers.{cancelled_pass}
use Rattle.remote_expiry.specs.shared_timers.declared.arming.Arming.{Arming}
use Rattle.remote_expiry.specs.shared_timers.Exchanging.{timer_word}
use Rattle.remote_expiry.specs.shared_timers.Queueing.{armed_part, cancelled_part}
use Rattle.remote_expiry.specs.shared_calls.Arms.{HasArmed, HasRefusedArm, IsArmed, IsQueued, NotArmed}
use Rattle.remote_expiry.specs.shared_calls.Arms.{met, roomy}
use Rattle.remote_expiry.specs.shared_calls.Cancels.{HasCancelled, HasCancelEnded, HasStayed, IsTakenOut}
use Rattle.remote_expiry.specs.shared_calls.Cancels.{NotCancelled}
use Rattle.remote_expiry.specs.shared_calls.Looks.{seen_all}
use Rattle.remote_expiry.specs.shared_calls.Rooms.{with_more_room}
use Rattle.idle_wakeup.specs.declared.idling.IdleAnswer.{IdleAnswer}
use Rattle.idle_wakeup.specs.declared.idling.IdleAnswer.TheVariants as answers
use Rattle.idle_wakeup.specs.Calls.{Renews, awake}
use Rattle.idle_wakeup.specs.Resting.{IsIdleAnswer, resting_pass}
use Rattle.remote_expiry.specs.Runs.{Ran}
use Rattle.remote_expiry.specs.Interrupts.{HasGained, IsPassAtRest, IsRefusedBy, NotInterrupted, Tells}
use Rattle.table_stress.specs.Quiet.{IsQuietAt, StaysQuiet}

-- a pass knows of its CPU and run what another one knows, and whether it is at rest
pub record Kept (p q : PassView) : Type 0 where
  pub opening : q.opening ≡ p.opening
  pub cpu : q.cpu ≡ p.cpu
  pub inside : q.inside ≡ p.inside
  pub reeval : q.reeval ≡ p.reeval
  pub marks : q.marks ≡ p.marks

module _ (table : TableId) (o : World) where
  -- with what it knows after a call it is quiet
  quiet_as : (k : ℕ) (old new : HeldPass) (at : IsQuietAt table o k old) (q : PassView)
      → IsPassIn table new q → q.cpu ≡ at.part.cpu → IsPassAtRest o q → IsQuietAt table o k new
  quiet_as k old new at q has cpu rest =
      record { part = q; seated = has; cpu = cpu ∙ at.cpu; rest = rest }

  rest_kept : (p q : PassView) → Kept p q → IsPassAtRest o p → IsPassAtRest o q
  rest_kept p q kept rest = record {
    opening = kept.opening ∙ rest.opening;
    outside = kept.inside ∙ rest.outside;
    goes_on = kept.reeval ∙ rest.goes_on;
    marks = kept.marks ∙ rest.marks;
  }

  -- it has changed so
  by_view : (f : PassView → PassView) → ((p : PassView) → (f p).cpu ≡ p.cpu)
      → ((p : PassView) → IsPassAtRest o p → IsPassAtRest o (f p)) → (old new : HeldPass)
      → new ≡ with_pass f old → StaysQuiet table o old new
  by_view f cpus rests old new is k at =
      quiet_as k old new at (f at.part)
      (ap (λ (held : HeldPass). held.seated) is
      ∙ ap (option_map (λ (s : Seated). record s { pass = f s.pass })) at.seated) (cpus at.part)
      (rests at.part at.rest)

  by_kept : (f : PassView → PassView) → ((p : PassView) → Kept p (f p)) → (old new : HeldPass)
      → new ≡ with_pass f old → StaysQuiet table o old new
  by_kept f keeps = by_view f (λ p. (keeps p).cpu) (λ p. rest_kept p (f p) (keeps p))

  same : (p : PassView) → Kept p p
  same p = record { opening = refl; cpu = refl; inside = refl; reeval = refl; marks = refl }

  stays_then : (a b c : HeldPass) → StaysQuiet table o a b → StaysQuiet table o b c
      → StaysQuiet table o a c
  stays_then a b c first next k at = next k (first k at)

  pub as_it_was : (held after : HeldPass) → after ≡ held → StaysQuiet table o held after
  as_it_was held after is k at = subst (IsQuietAt table o k) (sym is) at

  -- its CPU's part met it
  met_stays : (part : HeldPart) (held : HeldPass) → StaysQuiet table o held (met part held)
  met_stays part held =
      by_kept (knowing part.box.own.bases.journal)
      (λ p. record { opening = refl; cpu = refl; inside = refl; reeval = refl; marks = refl }) held
      (met part held) refl

  -- it loaded words
  seen_kept : (looks : List Look) (p : PassView) → Kept p (seen_all looks p)
  seen_kept [] p = same p
  seen_kept (x ∷ xs) p =
      let later = seen_kept xs (seen_pass x.word x.found p) in
      record {
        opening = later.opening;
        cpu = later.cpu;
        inside = later.inside;
        reeval = later.reeval;
        marks = later.marks;
      }

  seen_stays : (word found : ℕ) (held after : HeldPass)
      → after ≡ with_pass (seen_pass word found) held → StaysQuiet table o held after
  seen_stays word found =
      by_kept (seen_pass word found)
      (λ p. record { opening = refl; cpu = refl; inside = refl; reeval = refl; marks = refl })

  -- GO IDLE, WAKE
  renewed_stays : (held after : HeldPass) → Renews (λ p. p) held after
      → StaysQuiet table o held after
  renewed_stays held after r =
      by_kept (knowing r.0)
      (λ p. record { opening = refl; cpu = refl; inside = refl; reeval = refl; marks = refl }) held
      after r.2

  rests : (t : ℕ) (held after : HeldPass) → Renews (resting_pass t) held after
      → StaysQuiet table o held after
  rests t held after r =
      by_view (λ p. knowing r.0 (resting_pass t p)) (λ p. refl)
      (λ p rest. record {
        opening = rest.opening;
        outside = rest.outside;
        goes_on = refl;
        marks = rest.marks;
      }) held after r.2

  wakes : (held after : HeldPass) → Renews awake held after → StaysQuiet table o held after
  wakes held after r =
      by_view (λ p. knowing r.0 (awake p)) (λ p. refl)
      (λ p rest. record {
        opening = rest.opening;
        outside = rest.outside;
        goes_on = refl;
        marks = rest.marks;
      }) held after r.2

  pub rest_stays : (held after : HeldPass) (r : Result IdleAnswer OpFault)
      → IfOk r (λ answer. IsIdleAnswer o answer held after) → OnErr r (Renews (λ p. p) held after)
      → StaysQuiet table o held after
  rest_stays held after (Ok (answers.Until t)) ok err = rests t held after ok.renews
  rest_stays held after (Ok (answers.Stay t)) ok err = renewed_stays held after ok.renews
  rest_stays held after (Err fault) ok err = renewed_stays held after err

  pub wake_stays : {A : Type 0} (held after : HeldPass) (r : Result A OpFault)
      → OnOk r (Renews awake held after) → OnErr r (Renews (λ p. p) held after)
      → StaysQuiet table o held after
  wake_stays held after (Ok done) ok err = wakes held after ok
  wake_stays held after (Err fault) ok err = renewed_stays held after err

  -- ARM
  armed_stays : (now wheel : ℕ) (a : Arming) (part : HeldPart) (held after : HeldPass)
      → IsArmed table now a part held after wheel → StaysQuiet table o held after
  armed_stays now wheel a part held after is k at =
      quiet_as k held after at
      (with_journal
      (armed_box a.class a.timer.0 a.expires a.job a.arg a.line part.box at.part)
      (armed_pass a.class a.timer.0 a.expires a.job a.arg a.line part.box at.part))
      (ap (λ (z : HeldPass). z.seated) is.pass_is
      ∙ ap (λ (s : Option Seated).
      (pass_parted table held.cpu (armed_part a (roomy part (record held { seated = s })))).seated)
      at.seated) refl
      (record {
        opening = at.rest.opening;
        outside = at.rest.outside;
        goes_on = at.rest.goes_on;
        marks = at.rest.marks;
      })

  queued_stays : (timer : ℕ) (part : HeldPart) (held after : HeldPass) (fault : OpFault)
      → IsQueued table o timer part held after fault → StaysQuiet table o held after
  queued_stays timer part held after fault is k at =
      let f = seen_pass (timer_word o timer) is.found.found in
      quiet_as k held after at (with_journal part.box (f at.part))
      (ap (λ (z : HeldPass). z.seated) is.pass_is
      ∙ (ap (λ (z : HeldPart). (pass_parted table held.cpu z).seated) is.found.remembered
      ∙ ap (λ (s : Option Seated).
      (pass_parted table held.cpu
      (record (roomy part (record held { seated = s })) {
        brought = head_pass f (roomy part (record held { seated = s })).brought;
      })).seated) at.seated)) refl
      (record {
        opening = at.rest.opening;
        outside = at.rest.outside;
        goes_on = at.rest.goes_on;
        marks = at.rest.marks;
      })

  left_stays : (timer : ℕ) (part : HeldPart) (held after : HeldPass) (fault : OpFault)
      → HasRefusedArm table o timer part held after fault → StaysQuiet table o held after
  left_stays timer part held after (faults.Queued cpu) is =
      queued_stays timer part held after (faults.Queued cpu) is
  left_stays timer part held after faults.NoMemory is = as_it_was held after is
  left_stays timer part held after faults.NotActive is = as_it_was held after is
  left_stays timer part held after faults.NotIdle is = absurd is
  left_stays timer part held after faults.Offline is = as_it_was held after is
  left_stays timer part held after faults.AlreadyOnline is = absurd is
  left_stays timer part held after faults.LastOnline is = absurd is
  left_stays timer part held after (faults.Spent made) is = absurd is

  pub arm_stays : (now timer : ℕ) (a : Arming) (part : HeldPart) (held after : HeldPass)
      (r : Result ℕ OpFault)
      → MatchResult r (HasArmed table now a part held after) (NotArmed table o timer part held after)
      → StaysQuiet table o held after
  arm_stays now timer a part held after (Ok wheel) is =
      stays_then held (met part held) after (met_stays part held)
      (armed_stays now wheel a part (met part held) after is.armed)
  arm_stays now timer a part held after (Err fault) is =
      stays_then held (met part held) after (met_stays part held)
      (left_stays timer part (met part held) after fault is.left)

  -- CANCEL
  cancel_kept : (line : ℕ) (m : Option (Class × Item)) (b : BoxView) (p : PassView)
      → Kept p (cancel_noted line m b p)
  cancel_kept line None b p = same p
  cancel_kept line (Some (class, item)) b p =
      record { opening = refl; cpu = refl; inside = refl; reeval = refl; marks = refl }

  taken_stays : (timer line : ℕ) (part : HeldPart) (held after : HeldPass)
      → IsTakenOut table timer line part held after → StaysQuiet table o held after
  taken_stays timer line part held after is k at =
      let kept = cancel_kept line (found_in timer part.box.own.bases) part.box at.part in
      quiet_as k held after at
      (with_journal (cancelled_box timer line part.box at.part)
      (cancelled_pass timer line part.box at.part))
      (ap (λ (z : HeldPass). z.seated) is.pass_is
      ∙ ap (λ (s : Option Seated).
      (pass_parted table held.cpu
      (cancelled_part timer line
      (with_guest (with_more_room 0 1 part)
      (with_receipts_room 1 (record held { seated = s }))))).seated) at.seated) kept.cpu
      (record {
        opening = kept.opening ∙ at.rest.opening;
        outside = kept.inside ∙ at.rest.outside;
        goes_on = kept.reeval ∙ at.rest.goes_on;
        marks = kept.marks ∙ at.rest.marks;
      })

  ended_stays : (timer line : ℕ) (held after : HeldPass) (answer : Option CpuId)
      → HasCancelEnded table o timer line held after answer → StaysQuiet table o held after
  ended_stays timer line held after None is = seen_stays (timer_word o timer) 0 held after is
  ended_stays timer line held after (Some cpu) is =
      let mid = with_pass (seen_pass (timer_word o timer) is.found) held in
      stays_then held mid after (seen_stays (timer_word o timer) is.found held mid refl)
      (taken_stays timer line is.home mid after is.taken)

  looks_stay : (looks : List Look) (held after : HeldPass) → after ≡ with_pass (seen_all looks) held
      → StaysQuiet table o held after
  looks_stay looks = by_kept (seen_all looks) (seen_kept looks)

  stayed_stays : (timer : ℕ) (held after : HeldPass) (fault : OpFault)
      → HasStayed o timer held after fault → StaysQuiet table o held after
  stayed_stays timer held after (faults.Queued cpu) is = absurd is
  stayed_stays timer held after faults.NoMemory is = looks_stay is.looks held after is.pass_is
  stayed_stays timer held after faults.NotActive is = as_it_was held after is
  stayed_stays timer held after faults.NotIdle is = absurd is
  stayed_stays timer held after faults.Offline is = as_it_was held after is
  stayed_stays timer held after faults.AlreadyOnline is = absurd is
  stayed_stays timer held after faults.LastOnline is = absurd is
  stayed_stays timer held after (faults.Spent made) is = absurd is

  pub cancel_stays : (timer line : ℕ) (part : HeldPart) (held after : HeldPass)
      (r : Result (Option CpuId) OpFault)
      → MatchResult r (HasCancelled table o timer line part held after)
      (NotCancelled table o timer part held after) → StaysQuiet table o held after
  cancel_stays timer line part held after (Ok answer) is =
      let looks = is.came.looks in
      let mid = with_pass (seen_all looks) (met part held) in
      stays_then held (met part held) after (met_stays part held)
      (stays_then (met part held) mid after (looks_stay looks (met part held) mid refl)
      (ended_stays timer line mid after answer is.came.ends))
  cancel_stays timer line part held after (Err fault) is =
      stays_then held (met part held) after (met_stays part held)
      (stayed_stays timer (met part held) after fault is.stayed)

  -- INTERRUPT
  one_pass : (k : ℕ) (held : HeldPass) (p : PassView) → IsPassIn table held p
      → (at : IsQuietAt table o k held) → p ≡ at.part
  one_pass k held p had at =
      ap (λ (s : Seated). s.pass)
      (same_Some (record { table = table; pass = p }) (record { table = table; pass = at.part })
      (sym had ∙ at.seated))

  module _ (k : ℕ) (held after : HeldPass) (at : IsQuietAt table o k held) (p q : PassView)
      (had : IsPassIn table held p) (has : IsPassIn table after q) where
    is : p ≡ at.part
    is = one_pass k held p had at

    gained_stays : (receipts : List Receipt) (did : List Did) → HasGained p q receipts did
        → IsQuietAt table o k after
    gained_stays receipts did g = record {
      part = q;
      seated = has;
      cpu = g.cpu ∙ (ap (λ (x : PassView). x.cpu) is ∙ at.cpu);
      rest = record {
        opening = g.opening ∙ (ap (λ (x : PassView). x.opening) is ∙ at.rest.opening);
        outside = g.inside;
        goes_on = g.reeval;
        marks = g.marks;
      };
    }

    refused_stays : (before now : List Ran) (fault : OpFault) → IsRefusedBy p q before now fault
        → IsQuietAt table o k after
    refused_stays before now fault r = record {
      part = q;
      seated = has;
      cpu = ap (λ (x : PassView). x.cpu) r.pass_is ∙ (ap (λ (x : PassView). x.cpu) is ∙ at.cpu);
      rest = rest_kept p q (record {
        opening = ap (λ (x : PassView). x.opening) r.pass_is;
        cpu = ap (λ (x : PassView). x.cpu) r.pass_is;
        inside = ap (λ (x : PassView). x.inside) r.pass_is;
        reeval = ap (λ (x : PassView). x.reeval) r.pass_is;
        marks = ap (λ (x : PassView). x.marks) r.pass_is;
      }) (subst (IsPassAtRest o) (sym is) at.rest);
    }

    not_stays : (jobs : ℕ → JobCall → JobReply) (before now : List Ran) (fault : OpFault)
        → NotInterrupted o jobs p q before now fault → IsQuietAt table o k after
    not_stays jobs before now (faults.Queued cpu) r = absurd r
    not_stays jobs before now faults.NoMemory r = gained_stays r.1.receipts r.1.did r.1.gained
    not_stays jobs before now faults.NotActive r = absurd r
    not_stays jobs before now faults.NotIdle r = absurd r
    not_stays jobs before now faults.Offline r = refused_stays before now faults.Offline r
    not_stays jobs before now faults.AlreadyOnline r = absurd r
    not_stays jobs before now faults.LastOnline r = absurd r
    not_stays jobs before now (faults.Spent made) r = refused_stays before now (faults.Spent made) r

  pub interrupt_stays : (jobs : ℕ → JobCall → JobReply) (held after : HeldPass)
      (before now : List Ran) (r : Result (Unit {0}) OpFault)
      → Tells table o jobs held after before now r → StaysQuiet table o held after
  interrupt_stays jobs held after before now (Ok done) t k at =
      gained_stays k held after at t.old t.new t.had t.has t.told.1.receipts t.told.1.did
      t.told.1.gained
  interrupt_stays jobs held after before now (Err fault) t k at =
      not_stays k held after at t.old t.new t.had t.has jobs before now fault t.told

  -- what the calls ask of a pass that is quiet
  pub rests_first : (k : ℕ) (held : HeldPass) → IsQuietAt table o k held → (p : PassView)
      → IsPassIn table held p → IsPassAtRest o p
  rests_first k held at p had = subst (IsPassAtRest o) (sym (one_pass k held p had at)) at.rest
