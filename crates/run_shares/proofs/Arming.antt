-- the line of an arming
use Rattle.std.proofs.Common.{◌≡◌, ◌≢◌, ℕ, ◌+◌, ◌<◌, List, [], ◌∷◌, ◌++◌, Some, None, Option}
use Rattle.std.proofs.Common.{Bool, true, false, refl, sym, ap, ◌∙◌, subst, arith, length, cond}
use Rattle.std.proofs.Common.{inl, inr, append-nil, length-append, eq-eqb}
use Rattle.std.proofs.lemmas.List.Elements.{Contains-push}
use Rattle.atomic_table.specs.Seated.{TableId}
use Rattle.tm_base.specs.declared.faults.OpFault.{OpFault}
use Rattle.tm_base.specs.declared.faults.OpFault.TheVariants as faults
use Rattle.tm_base.specs.declared.names.Class.{Class}
use Rattle.tm_base.specs.declared.names.CpuId.{CpuId}
use Rattle.tm_base.specs.declared.names.TimerId.{TimerId}
use Rattle.tm_script.specs.declared.syntax.What.TheVariants as whats
use Rattle.tm_report.specs.declared.lines.Line.TheVariants as lines
use Rattle.cpu_bases.specs.declared.entry.Act.TheVariants as acts
use Rattle.cpu_bases.specs.declared.entry.Entry.{Entry}
use Rattle.cpu_bases.specs.CpuBases.{entry_of, item_queued}
use Rattle.core_world.specs.World.{World, cpu_of}
use Rattle.idle_wakeup.specs.shared_rule.declared.parts.Deed.TheVariants as deeds
use Rattle.idle_wakeup.specs.shared_rule.declared.parts.Did.{Did}
use Rattle.idle_wakeup.specs.shared_rule.declared.parts.PassView.{PassView}
use Rattle.idle_wakeup.specs.shared_rule.declared.parts.Receipt.{Receipt}
use Rattle.idle_wakeup.specs.shared_rule.Plays.{Agree, head_pass, seen_pass}
use Rattle.idle_wakeup.specs.shared_rule.Rule.{with_journal}
use Rattle.idle_wakeup.specs.shared_rule.Parts.{HeldPart, pass_parted}
use Rattle.idle_wakeup.specs.shared_rule.Passes.{HeldPass, Seated, knowing}
use Rattle.idle_wakeup.specs.shared_rule.Shows.{BeginsWith, receipt_of}
use Rattle.idle_wakeup.specs.shared_rule.Timers.{armed_box, armed_pass}
use Rattle.idle_wakeup.proofs.shared_rule.Visits.{knows}
use Rattle.shared_acts.specs.shared_timers.Exchanging.{timer_word}
use Rattle.shared_acts.specs.shared_timers.Queueing.{armed_part}
use Rattle.shared_calls.specs.Arms.{HasArmed, IsQueued, MetBy, NotArmed}
use Rattle.shared_calls.specs.Arms.{arm_fault_of, timer_arming_of, arm_fault_by, met, roomy}
use Rattle.shared_acts.proofs.Gaining.{begins_then}
use Rattle.play_rules.specs.Interrupts.{cpu_id}
use Rattle.play_rules.specs.Operations.{refused_line}
use Rattle.run_story.specs.Shares.{fault_of, with_written}
use Rattle.run_shares.specs.Doing.{written_of}
use Rattle.run_shares.specs.Standing.{PassGrows, HasAnswered}
use Rattle.run_shares.proofs.Answered.{IsBefore, answered, refused}
use Rattle.run_shares.proofs.Stands.{knows_one_more, stands_as, stands_more}

-- who can't arm outside an interrupt
fault_same : (timer : TimerId) (class : Class) (delay job arg : ℕ) (online idle : Bool)
    → arm_fault_of online idle false ≡ fault_of (whats.Arm timer class delay job arg) online idle
fault_same timer class delay job arg false idle = refl
fault_same timer class delay job arg true true = refl
fault_same timer class delay job arg true false = refl

module _ (table : TableId) (o : World) (now line : ℕ) (timer : TimerId) (class : Class)
    (delay job arg : ℕ) (held after : HeldPass) (p : PassView) (part : HeldPart)
    (before : IsBefore table o held p) (outside : p.inside ≡ false) (is_now : now ≡ o.clock)
    (by : MetBy table part held) where
  abbrev journal : List Entry
  journal = part.box.own.bases.journal

  abbrev met_pass : PassView
  met_pass = knowing journal p

  agree : Agree part.box p
  agree = by.agree p before.had

  own : p.cpu ≡ part.box.cpu
  own = before.own ∙ sym by.own

  begins : BeginsWith journal p.journal
  begins = agree.journal own

  fault_is : arm_fault_by p
      ≡ fault_of (whats.Arm timer class delay job arg) (cpu_of o held.cpu).online p.idle
  fault_is =
      (λ i. arm_fault_of (cpu_of (before.opening i) (before.own i)).online p.idle (outside i))
      ∙ fault_same timer class delay job arg (cpu_of o held.cpu).online p.idle

  -- ARMED
  abbrev entry : Entry
  entry =
      entry_of acts.Armed line part.box.opening.clock class
      (item_queued part.box.opening.clock class timer.0 (now + delay) job arg part.box.own.bases)
      (record { 0 = p.cpu })

  abbrev receipt : Receipt
  receipt = receipt_of part.box.cpu (length journal) entry

  abbrev armed : PassView
  armed =
      with_journal
      (armed_box class timer.0 (now + delay) job arg line part.box met_pass)
      (armed_pass class timer.0 (now + delay) job arg line part.box met_pass)

  abbrev seat_armed : Option Seated → Option Seated
  seat_armed s =
      (pass_parted table held.cpu
      (armed_part (timer_arming_of timer class (now + delay) job arg line)
      (roomy part (met part (record held { seated = s }))))).seated

  armed_journal : armed.journal ≡ journal ++ entry ∷ []
  armed_journal =
      ap (λ (b : Bool). cond b (journal ++ entry ∷ []) journal) (eq-eqb p.cpu part.box.cpu own)

  armed_begins : BeginsWith armed.journal p.journal
  armed_begins =
      begins_then armed.journal journal p.journal begins (entry ∷ [], armed_journal)

  armed_grows : PassGrows 1 p armed
  armed_grows = record {
    opening = refl;
    cpu = refl;
    inside = refl;
    receipts = receipt ∷ [];
    receipts_are = refl;
    did = [];
    did_are = sym (append-nil p.did);
    journal = armed_begins;
    few = omega arith;
  }

  below : length journal < length armed.journal
  below =
      let long = ap length armed_journal ∙ length-append journal (entry ∷ []) in
      omega (arith, long)

  same_wheel : (wheel : ℕ)
      → wheel ≡ (item_queued now class timer.0 (now + delay) job arg part.box.own.bases).wheel
      → wheel ≡ entry.wheel
  same_wheel wheel is =
      is
      ∙ ap (λ n. (item_queued n class timer.0 (now + delay) job arg part.box.own.bases).wheel)
      (is_now ∙ ap (λ (w : World). w.clock) (sym before.opening ∙ agree.opening))

  pub arm_told : (wheel : ℕ) (id : CpuId) → id.0 ≡ held.cpu
      → HasArmed table now (timer_arming_of timer class (now + delay) job arg line) part held after wheel
      → HasAnswered table o now (whats.Arm timer class delay job arg) line held after
      (lines.Arm now id timer class wheel)
  arm_told wheel id same is =
      answered table o now line (whats.Arm timer class delay job arg) held after p armed before
      (record {
        has = ap (λ (z : HeldPass). z.seated) is.armed.pass_is ∙ ap seat_armed before.had;
        same_cpu = ap (λ (z : HeldPass). z.cpu) is.armed.pass_is;
      }) (lines.Arm now id timer class wheel) (sym fault_is ∙ is.allowed p before.had) armed_grows
      (λ s stood. (
        record (with_written p.cpu (written_of receipt ∷ []) s) {
          idle = p.idle;
          wakeup = p.wakeup;
        },
        stands_more p armed s (receipt ∷ []) armed_begins refl refl
            (knows_one_more p armed receipt armed_begins refl refl (λ _. below) stood.known) stood,
        inl (record {
          entry = written_of receipt;
          arming = record {
            act = refl;
            home = by.own;
            line_is = refl;
            timer_is = refl;
            class_is = refl;
            expires = refl;
            job_is = refl;
            arg_is = refl;
          };
          line_is = λ i. lines.Arm now (cpu_id (same i)) timer class
              (same_wheel wheel is.armed.wheel_is i);
          new_is = λ i. record (with_written (before.own i) (written_of receipt ∷ []) s) {
            idle = stood.idle i;
            wakeup = stood.wakeup i;
          };
        }),
      ))

  -- or FOUND QUEUED
  abbrev found_pass : (found : ℕ) → PassView
  found_pass found = with_journal part.box (seen_pass (timer_word o timer.0) found met_pass)

  found_journal : (found : ℕ) → (found_pass found).journal ≡ journal
  found_journal found =
      ap (λ (b : Bool). cond b journal journal) (eq-eqb p.cpu part.box.cpu own)

  found_begins : (found : ℕ) → BeginsWith (found_pass found).journal p.journal
  found_begins found =
      subst (λ (j : List Entry). BeginsWith j p.journal) (sym (found_journal found)) begins

  abbrev seen : (found : ℕ) → Did
  seen found =
      record { held = length p.receipts; deed = deeds.Saw (timer_word o timer.0) found }

  found_grows : (found : ℕ) → PassGrows 1 p (found_pass found)
  found_grows found = record {
    opening = refl;
    cpu = refl;
    inside = refl;
    receipts = [];
    receipts_are = sym (append-nil p.receipts);
    did = seen found ∷ [];
    did_are = refl;
    journal = found_begins found;
    few = omega arith;
  }

  abbrev seat_found : (found : ℕ) → Option Seated → Option Seated
  seat_found found s =
      (pass_parted table held.cpu
      (record (roomy part (met part (record held { seated = s }))) {
        brought =
            head_pass (seen_pass (timer_word o timer.0) found)
            (roomy part (met part (record held { seated = s }))).brought;
      })).seated

  queued_told : timer.0 < o.timers → (fault : OpFault)
      → arm_fault_by p ≡ None → IsQueued table o timer.0 part (met part held) after fault
      → HasAnswered table o now (whats.Arm timer class delay job arg) line held after
      (refused_line fault now line (cpu_id held.cpu))
  queued_told there fault none is =
      let found = is.found.found in
      answered table o now line (whats.Arm timer class delay job arg) held after p
      (found_pass found) before
      (record {
        has =
            ap (λ (z : HeldPass). z.seated) is.pass_is
            ∙ (ap (λ (z : HeldPart). (pass_parted table held.cpu z).seated) is.found.remembered
            ∙ ap (seat_found found) before.had);
        same_cpu = ap (λ (z : HeldPass). z.cpu) is.pass_is;
      }) (refused_line fault now line (cpu_id held.cpu)) (sym fault_is ∙ none) (found_grows found)
      (λ s stood. (
        record s { idle = p.idle; wakeup = p.wakeup },
        stands_as p (found_pass found) s (found_begins found) refl refl stood,
        inr (record {
          holder = is.found.spot.cpu;
          queued = record {
            there = there;
            seen = seen found;
            found = found;
            spot = is.found.spot;
            has = Contains-push p.did (seen found);
            deed = refl;
            spelled = is.found.names;
            named = refl;
          };
          line_is = ap (λ f. refused_line f now line (cpu_id held.cpu)) is.found.is;
          new_is = λ i. record s { idle = stood.idle i; wakeup = stood.wakeup i };
        }),
      ))

  -- or REFUSED by the CPU
  cpu_told : (fault : OpFault) → arm_fault_by p ≡ Some fault → after ≡ met part held
      → HasAnswered table o now (whats.Arm timer class delay job arg) line held after
      (refused_line fault now line (cpu_id held.cpu))
  cpu_told fault refuses is =
      refused table o now line (whats.Arm timer class delay job arg) held after p journal before
      (record {
        has =
            ap (λ (z : HeldPass). z.seated) is
            ∙ knows part held table p before.had journal;
        same_cpu = ap (λ (z : HeldPass). z.cpu) is;
      }) begins fault (sym fault_is ∙ refuses)

  pub not_armed_told : timer.0 < o.timers → (fault : OpFault) → fault ≢ faults.NoMemory
      → NotArmed table o timer.0 part held after fault
      → HasAnswered table o now (whats.Arm timer class delay job arg) line held after
      (refused_line fault now line (cpu_id held.cpu))
  not_armed_told there (faults.Queued cpu) enough is =
      queued_told there (faults.Queued cpu) (is.refused p before.had) is.left
  not_armed_told there faults.NoMemory enough is = absurd (enough refl)
  not_armed_told there faults.NotActive enough is =
      cpu_told faults.NotActive (is.refused p before.had) is.left
  not_armed_told there faults.NotIdle enough is = absurd is.left
  not_armed_told there faults.Offline enough is =
      cpu_told faults.Offline (is.refused p before.had) is.left
  not_armed_told there faults.AlreadyOnline enough is = absurd is.left
  not_armed_told there faults.LastOnline enough is = absurd is.left
  not_armed_told there (faults.Spent made) enough is = absurd is.left
