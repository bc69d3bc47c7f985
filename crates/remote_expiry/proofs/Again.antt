-- a timer is armed again, on the CPU that ran its job
use Rattle.std.proofs.Common.{◌≡◌, ℕ, zero, suc, ◌+◌, ◌<◌, List, [], ◌∷◌, ◌++◌, Some, None, Bool}
use Rattle.std.proofs.Common.{true, false, Result, Ok, Err}
use Rattle.std.proofs.Common.{refl, sym, ap, ◌∙◌, subst, arith, append-nil, length, cond, eqb}
use Rattle.std.proofs.Common.{eq-eqb}
use Rattle.std.specs.Prelude.{MatchResult, slice_get}
use Rattle.std.proofs.lemmas.List.{length_push}
use Rattle.std.proofs.lemmas.List.Elements.{Contains-push}
use Rattle.std.proofs.lemmas.Option.{none-some, same_Some}
use Rattle.atomic_table.specs.Seated.{TableId}
use Rattle.tm_base.specs.declared.faults.NoMemory.{NoMemory}
use Rattle.tm_base.specs.declared.faults.OpFault.{OpFault}
use Rattle.tm_base.specs.declared.faults.OpFault.TheVariants as faults
use Rattle.tm_base.specs.declared.names.Class.{Class}
use Rattle.tm_base.specs.declared.names.CpuId.{CpuId}
use Rattle.wheel_core.specs.declared.item.Item.{Item}
use Rattle.cpu_bases.specs.declared.entry.Act.TheVariants as acts
use Rattle.cpu_bases.specs.declared.entry.Entry.{Entry}
use Rattle.cpu_bases.specs.CpuBases.{entry_of, item_queued}
use Rattle.core_world.specs.World.{World}
use Rattle.job_table.specs.declared.jobs.JobReply.{JobReply}
use Rattle.job_table.specs.declared.jobs.JobReply.TheVariants as replies
use Rattle.walk_inactive.specs.shared_rule.declared.parts.Did.{Did}
use Rattle.walk_inactive.specs.shared_rule.declared.parts.Deed.TheVariants as deeds
use Rattle.walk_inactive.specs.shared_rule.declared.parts.PassView.{PassView}
use Rattle.walk_inactive.specs.shared_rule.declared.parts.Receipt.{Receipt}
use Rattle.walk_inactive.specs.shared_rule.Parts.{HeldPart, pass_parted}
use Rattle.walk_inactive.specs.shared_rule.Passes.{HeldPass, IsPassIn, knowing, passes_of}
use Rattle.walk_inactive.specs.shared_rule.Plays.{head_pass, seen_pass}
use Rattle.walk_inactive.specs.shared_rule.Shows.{BeginsWith, receipt_of}
use Rattle.walk_inactive.specs.shared_rule.Timers.{armed_box, armed_pass}
use Rattle.walk_inactive.proofs.shared_rule.Visits.{knows}
use Rattle.shared_acts.specs.shared_timers.declared.arming.Arming.{Arming}
use Rattle.shared_acts.specs.shared_timers.Entries.{pair_changed}
use Rattle.shared_acts.specs.shared_timers.Exchanging.{timer_word}
use Rattle.shared_calls.specs.Arms.{HasArmed, IsQueued, MetBy, NotArmed, timer_arming_of, met}
use Rattle.shared_calls.specs.Arms.{roomy}
use Rattle.shared_acts.specs.declared.runs.RanReply.{RanReply}
use Rattle.shared_acts.specs.declared.runs.RanReply.TheVariants as ran
use Rattle.shared_acts.specs.Pieces.{PassGains, HeldInside, Piece}
use Rattle.shared_acts.proofs.Gaining.{begins_then, known_more, no_piece, none_gained, piece_of}
use Rattle.remote_expiry.specs.Running.{HasAnsweredJob, holder_told}
use Rattle.remote_expiry.specs.Stopping.{AsksAgain}

-- a pass inside its interrupt, and the part of its CPU as it met it
module _ (table : TableId) (o : World) (now : ℕ) (now_is : now ≡ o.clock) (held : HeldPass)
    (inside : HeldInside table o held)
    (law : (p : PassView) → IsPassIn table held p → p.cpu ≡ held.cpu) (part : HeldPart)
    (by : MetBy table part held) where
  abbrev p : PassView
  p = inside.pass

  abbrev journal : List Entry
  journal = part.box.own.bases.journal

  -- the pass as it has met the part
  abbrev kept : PassView
  kept = knowing journal p

  own : p.cpu ≡ part.box.cpu
  own = law p inside.seated ∙ sym by.own

  begun : BeginsWith journal p.journal
  begun = (by.agree p inside.seated).journal own

  clock : now ≡ part.box.opening.clock
  clock =
      now_is
      ∙ ap (λ (w : World). w.clock) (sym inside.is.opening ∙ (by.agree p inside.seated).opening)

  there : IsPassIn table (met part held) kept
  there = knows part held table p inside.seated journal

  -- WANT OF MEMORY: the pass knows its journal further
  pub stayed : (after : HeldPass) → after ≡ met part held → Piece table held after [] [] 0
  stayed after is =
      piece_of table held after p kept [] [] 0 inside.seated
      (ap (λ (z : HeldPass). z.seated) is ∙ there) (ap (λ (z : HeldPass). z.cpu) is)
      (none_gained p journal begun)

  pub failed : (timer : ℕ) (after : HeldPass) (fault : OpFault) → None ≡ holder_told fault
      → NotArmed table o timer part held after fault → Piece table held after [] [] 0
  failed timer after (faults.Queued cpu) none not = absurd (none-some cpu none)
  failed timer after faults.NoMemory none not = stayed after not.left
  failed timer after faults.NotActive none not = stayed after not.left
  failed timer after faults.NotIdle none not = absurd not.left
  failed timer after faults.Offline none not = stayed after not.left
  failed timer after faults.AlreadyOnline none not = absurd not.left
  failed timer after faults.LastOnline none not = absurd not.left
  failed timer after (faults.Spent made) none not = absurd not.left

  module _ (i : Item) (class : Class) (delay : ℕ) (after : HeldPass) where
    -- ARMED
    abbrev arming : Arming
    arming = timer_arming_of (record { 0 = i.id }) class (now + delay) i.job i.arg 0

    abbrev entry : Entry
    entry =
        entry_of acts.Armed 0 part.box.opening.clock class
        (item_queued part.box.opening.clock class i.id (now + delay) i.job i.arg part.box.own.bases)
        (record { 0 = p.cpu })

    abbrev receipt : Receipt
    receipt = receipt_of part.box.cpu (length journal) entry

    -- the part with the pass in it, after the arming
    abbrev parted : List PassView → HeldPass
    parted ps =
        pass_parted table held.cpu
        (pair_changed (armed_box class i.id (now + delay) i.job i.arg 0)
        (armed_pass class i.id (now + delay) i.job i.arg 0) ps (roomy part (met part held)))

    abbrev armed : Bool → PassView
    armed t = record p {
      receipts = p.receipts ++ receipt ∷ [];
      journal = cond t (journal ++ entry ∷ []) journal;
    }

    one_place : (k : ℕ) (r : Receipt) → slice_get (receipt ∷ []) k ≡ Some r → r.cpu.0 ≡ p.cpu
        → r.place < length (journal ++ entry ∷ [])
    one_place zero r at mine =
        let long = length_push journal entry in
        subst (λ (x : Receipt). x.place < length (journal ++ entry ∷ [])) (same_Some receipt r at)
        (omega (arith, long))
    one_place (suc k) r at mine = absurd (none-some r at)

    armed_gains : PassGains p (armed true) (receipt ∷ []) [] 0
    armed_gains =
        let begins = begins_then (journal ++ entry ∷ []) journal p.journal begun
        (entry ∷ [], refl) in
        record {
          opening = refl;
          cpu = refl;
          walks_are = omega arith;
          ended = refl;
          receipts_are = refl;
          did_are = sym (append-nil p.did);
          idle = refl;
          inside = refl;
          reeval = refl;
          wakeup = refl;
          marks = refl;
          journal = begins;
          known = known_more p (receipt ∷ []) (journal ++ entry ∷ []) begins one_place;
        }

    pub armed_again : (wheel : ℕ) → HasArmed table now arming part held after wheel
        → HasAnsweredJob table o i (replies.Again class delay) held after (ran.Again class wheel)
    armed_again wheel a =
        let is : after ≡ parted (kept ∷ []) = a.armed.pass_is ∙ ap parted (ap passes_of there) in
        let seated : IsPassIn table after (armed (eqb p.cpu part.box.cpu)) =
        ap (λ (z : HeldPass). z.seated) is in
        record {
          receipts = receipt ∷ [];
          did = [];
          piece = piece_of table held after p (armed true) (receipt ∷ []) [] 0 inside.seated
              (subst (λ t. IsPassIn table after (armed t)) (eq-eqb p.cpu part.box.cpu own) seated)
              (ap (λ (z : HeldPass). z.cpu) is) armed_gains;
          told = λ place low. refl;
          arms = (
            receipt,
            refl,
            record {
              act = refl;
              cpu = by.own;
              line = refl;
              timer = refl;
              expires = ap (λ t. t + delay) now_is;
              of_class = refl;
              told =
                  sym (a.armed.wheel_is
                  ∙ ap (λ t. (item_queued t class i.id (now + delay) i.job i.arg
                  part.box.own.bases).wheel) clock);
              job = refl;
              arg = refl;
            },
          );
        }

    -- QUEUED by then
    abbrev seen : (found : ℕ) → PassView
    seen found = seen_pass (timer_word o i.id) found kept

    abbrev look : (found : ℕ) → Did
    look found = record { held = length p.receipts; deed = deeds.Saw (timer_word o i.id) found }

    seen_gains : (found : ℕ) → PassGains p (seen found) [] (look found ∷ []) 0
    seen_gains found = record {
      opening = refl;
      cpu = refl;
      walks_are = omega arith;
      ended = refl;
      receipts_are = sym (append-nil p.receipts);
      did_are = refl;
      idle = refl;
      inside = refl;
      reeval = refl;
      wakeup = refl;
      marks = refl;
      journal = begun;
      known = (none_gained p journal begun).known;
    }

    same_journal : (t : Bool) (found : ℕ)
        → record (seen found) { journal = cond t journal journal } ≡ seen found
    same_journal true found = refl
    same_journal false found = refl

    pub skipped : i.id < o.timers → (cpu : CpuId)
        → NotArmed table o i.id part held after (faults.Queued cpu)
        → HasAnsweredJob table o i (replies.Again class delay) held after (ran.Skip cpu)
    skipped known cpu not =
        let q : IsQueued table o i.id part (met part held) after (faults.Queued cpu) = not.left in
        let f = q.found in
        let is : after ≡ pass_parted table held.cpu (record (roomy part (met part held)) {
          brought = seen f.found ∷ [];
        }) =
        q.pass_is
        ∙ ap (pass_parted table held.cpu) f.remembered
        ∙ ap (λ ps. pass_parted table held.cpu (record (roomy part (met part held)) {
          brought = head_pass (seen_pass (timer_word o i.id) f.found) ps;
        })) (ap passes_of there) in
        let seated : IsPassIn table after
        (record (seen f.found) { journal = cond (eqb p.cpu part.box.cpu) journal journal }) =
        ap (λ (z : HeldPass). z.seated) is in
        record {
          receipts = [];
          did = look f.found ∷ [];
          piece = piece_of table held after p (seen f.found) [] (look f.found ∷ []) 0 inside.seated
              (subst (IsPassIn table after) (same_journal (eqb p.cpu part.box.cpu) f.found) seated)
              (ap (λ (z : HeldPass). z.cpu) is) (seen_gains f.found);
          told = λ place low. record {
            there = known;
            look = look f.found;
            has = Contains-push [] (look f.found);
            found = f.found;
            saw = refl;
            since = low;
            spot = f.spot;
            spelled = f.names;
            named = ap (λ (c : CpuId). c.0) (same_Some f.spot.cpu cpu (ap holder_told (sym f.is)));
          };
          arms = refl;
        }

    -- the CPU that the refusal names
    pub skipped_at : i.id < o.timers → (fault : OpFault) (cpu : CpuId) → Some cpu ≡ holder_told fault
        → NotArmed table o i.id part held after fault
        → HasAnsweredJob table o i (replies.Again class delay) held after (ran.Skip cpu)
    skipped_at known (faults.Queued c) cpu is not =
        subst (λ d. HasAnsweredJob table o i (replies.Again class delay) held after (ran.Skip d))
        (sym (same_Some cpu c is)) (skipped known c not)
    skipped_at known faults.NoMemory cpu is not = absurd (none-some cpu (sym is))
    skipped_at known faults.NotActive cpu is not = absurd (none-some cpu (sym is))
    skipped_at known faults.NotIdle cpu is not = absurd (none-some cpu (sym is))
    skipped_at known faults.Offline cpu is not = absurd (none-some cpu (sym is))
    skipped_at known faults.AlreadyOnline cpu is not = absurd (none-some cpu (sym is))
    skipped_at known faults.LastOnline cpu is not = absurd (none-some cpu (sym is))
    skipped_at known (faults.Spent made) cpu is not = absurd (none-some cpu (sym is))

-- a job that asks for nothing
module _ (table : TableId) (o : World) (i : Item) (held : HeldPass)
    (inside : HeldInside table o held) where
  pub done : HasAnsweredJob table o i replies.Done held held ran.Done
  done = record {
    receipts = [];
    did = [];
    piece = no_piece table held inside.pass inside.seated;
    told = λ place low. refl;
    arms = refl;
  }

  pub marked : (m : ℕ) → HasAnsweredJob table o i (replies.Mark m) held held (ran.Mark m)
  marked m = record {
    receipts = [];
    did = [];
    piece = no_piece table held inside.pass inside.seated;
    told = λ place low. refl;
    arms = refl;
  }

-- a job that asks for its timer to be armed again, whatever came of it
pub asked_again : (table : TableId) (o : World) (i : Item) (held after : HeldPass)
    (reply : JobReply) (class : Class) (delay : ℕ) (result : Result RanReply NoMemory)
    → reply ≡ replies.Again class delay
    → MatchResult result (HasAnsweredJob table o i (replies.Again class delay) held after)
    (λ e. Piece table held after [] [] 0)
    → MatchResult result (HasAnsweredJob table o i reply held after)
    (λ e. Piece table held after [] [] 0 × AsksAgain reply)
asked_again table o i held after reply class delay (Ok told) is answered =
    subst (λ (r : JobReply). HasAnsweredJob table o i r held after told) (sym is) answered
asked_again table o i held after reply class delay (Err e) is piece =
    (piece, subst AsksAgain (sym is) tt)
