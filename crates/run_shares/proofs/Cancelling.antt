-- the line of a cancelling
use Rattle.std.proofs.Common.{◌≡◌, ◌≢◌, ℕ, ◌<◌, List, [], ◌∷◌, ◌++◌, Some, None, Option}
use Rattle.std.proofs.Common.{Bool, true, false, refl, sym, ap, ◌∙◌, arith, length, cond, eqb}
use Rattle.std.proofs.Common.{inl, inr, append-nil, append_assoc, length-append, eq-eqb, eqb-true}
use Rattle.std.proofs.lemmas.List.{length-map}
use Rattle.std.proofs.lemmas.List.Elements.{Contains-push}
use Rattle.std.proofs.lemmas.Option.{none-some, same_Some}
use Rattle.std.specs.Prelude.{option_map}
use Rattle.atomic_table.specs.Seated.{TableId}
use Rattle.tm_base.specs.declared.faults.OpFault.{OpFault}
use Rattle.tm_base.specs.declared.faults.OpFault.TheVariants as faults
use Rattle.tm_base.specs.declared.names.Class.{Class}
use Rattle.tm_base.specs.declared.names.CpuId.{CpuId}
use Rattle.tm_base.specs.declared.names.TimerId.{TimerId}
use Rattle.tm_script.specs.declared.syntax.What.TheVariants as whats
use Rattle.tm_report.specs.declared.lines.Line.TheVariants as lines
use Rattle.wheel_core.specs.declared.item.Item.{Item}
use Rattle.cpu_bases.specs.declared.entry.Act.TheVariants as acts
use Rattle.cpu_bases.specs.declared.entry.Entry.{Entry}
use Rattle.cpu_bases.specs.CpuBases.{after_cancel, entry_of, found_in}
use Rattle.cpu_bases.proofs.Keeping.{found_at}
use Rattle.core_world.specs.World.{World, cpu_of}
use Rattle.idle_wakeup.specs.shared_rule.declared.parts.BoxView.{BoxView}
use Rattle.idle_wakeup.specs.shared_rule.declared.parts.Deed.TheVariants as deeds
use Rattle.idle_wakeup.specs.shared_rule.declared.parts.Did.{Did}
use Rattle.idle_wakeup.specs.shared_rule.declared.parts.Look.{Look}
use Rattle.idle_wakeup.specs.shared_rule.declared.parts.PassView.{PassView}
use Rattle.idle_wakeup.specs.shared_rule.declared.parts.Receipt.{Receipt}
use Rattle.idle_wakeup.specs.shared_rule.Plays.{Agree, seen_pass}
use Rattle.idle_wakeup.specs.shared_rule.Rule.{with_journal}
use Rattle.idle_wakeup.specs.shared_rule.Parts.{HeldPart, pass_parted, with_guest}
use Rattle.idle_wakeup.specs.shared_rule.Passes.{HeldPass, IsPassIn, Seated, knowing, with_pass}
use Rattle.idle_wakeup.specs.shared_rule.Passes.{with_receipts_room}
use Rattle.idle_wakeup.specs.shared_rule.Shows.{BeginsWith, receipt_of}
use Rattle.idle_wakeup.specs.shared_rule.Timers.{cancel_noted, noted_at, with_box_bases}
use Rattle.idle_wakeup.proofs.shared_rule.Visits.{knows}
use Rattle.shared_acts.specs.shared_timers.Exchanging.{timer_word}
use Rattle.shared_acts.specs.shared_timers.Queueing.{cancelled_part}
use Rattle.shared_calls.specs.Arms.{MetBy, met}
use Rattle.shared_calls.specs.Cancels.{HasCancelled, HasCancelEnded, IsCancelled, IsNowhere}
use Rattle.shared_calls.specs.Cancels.{NotCancelled}
use Rattle.shared_calls.specs.Cancels.{cancel_fault_by, cancel_fault_of}
use Rattle.shared_calls.specs.Looks.{seen_all}
use Rattle.shared_calls.specs.Rooms.{with_more_room}
use Rattle.shared_acts.proofs.Gaining.{begins_then}
use Rattle.play_rules.specs.Interrupts.{cpu_id, timer_id}
use Rattle.play_rules.specs.Operations.{refused_line}
use Rattle.run_story.specs.Shares.{fault_of, with_written}
use Rattle.run_shares.specs.Doing.{written_of}
use Rattle.run_shares.specs.Lines.{cancel_line}
use Rattle.run_shares.specs.Standing.{PassGrows, HasAnswered}
use Rattle.run_shares.proofs.Answered.{IsAfter, IsBefore, answered, refused}
use Rattle.run_shares.proofs.Stands.{knows_one_more, stands_as, stands_more}

-- who can't cancel
fault_same : (timer : TimerId) (online idle : Bool)
    → cancel_fault_of online idle ≡ fault_of (whats.Cancel timer) online idle
fault_same timer false idle = refl
fault_same timer true idle = refl

-- a pass after loads remembers them behind what it did
all_seen : (looks : List Look) (p : PassView)
    → (did : List Did) × (seen_all looks p ≡ record p { did = p.did ++ did })
all_seen [] p = ([], λ i. record p { did = sym (append-nil p.did) i })
all_seen (x ∷ xs) p =
    let one : Did = record { held = length p.receipts; deed = deeds.Saw x.word x.found } in
    let next = all_seen xs (seen_pass x.word x.found p) in (
      one ∷ next.0,
      next.1 ∙ (λ i. record p { did = append_assoc p.did (one ∷ []) next.0 i }),
    )

-- a timer that is queued has an item
found_of : (m : Option (Class × Item)) (class : Class)
    → option_map (λ (f : Class × Item). f.0) m ≡ Some class
    → (item : Item) × (m ≡ Some (class, item))
found_of None class is = absurd (none-some class is)
found_of (Some f) class is =
    (f.1, ap (λ (k : Class). Some (k, f.1)) (same_Some f.0 class is))

module _ (table : TableId) (o : World) (now line : ℕ) (timer : TimerId) (held after : HeldPass)
    (p : PassView) (part : HeldPart) (before : IsBefore table o held p)
    (by : MetBy table part held) where
  abbrev journal : List Entry
  journal = part.box.own.bases.journal

  begins : BeginsWith journal p.journal
  begins = (by.agree p before.had).journal (before.own ∙ sym by.own)

  fault_is : cancel_fault_by p
      ≡ fault_of (whats.Cancel timer) (cpu_of o held.cpu).online p.idle
  fault_is =
      (λ i. cancel_fault_of (cpu_of (before.opening i) (before.own i)).online p.idle)
      ∙ fault_same timer (cpu_of o held.cpu).online p.idle

  -- after the loads before the last one, and after that one
  abbrev seen : (found : ℕ) → Did
  seen found =
      record { held = length p.receipts; deed = deeds.Saw (timer_word o timer.0) found }

  abbrev loaded : (dids : List Did) (found : ℕ) → PassView
  loaded dids found = record p {
    journal = journal;
    did = p.did ++ dids ++ seen found ∷ [];
  }

  abbrev seat_loaded : (looks : List Look) (found : ℕ) → Option Seated → Option Seated
  seat_loaded looks found s =
      (with_pass (seen_pass (timer_word o timer.0) found)
      (with_pass (seen_all looks) (met part (record held { seated = s })))).seated

  has_loaded : (looks : List Look) (found : ℕ)
      → IsPassIn table
      (with_pass (seen_pass (timer_word o timer.0) found)
      (with_pass (seen_all looks) (met part held)))
      (loaded (all_seen looks (knowing journal p)).0 found)
  has_loaded looks found =
      ap (seat_loaded looks found) before.had
      ∙ ap (λ (q : PassView). Some (record {
        table = table;
        pass = seen_pass (timer_word o timer.0) found q;
      })) (all_seen looks (knowing journal p)).1

  -- NOWHERE
  nowhere_grows : (dids : List Did) → PassGrows 1 p (loaded dids 0)
  nowhere_grows dids = record {
    opening = refl;
    cpu = refl;
    inside = refl;
    receipts = [];
    receipts_are = sym (append-nil p.receipts);
    did = dids ++ seen 0 ∷ [];
    did_are = append_assoc p.did dids (seen 0 ∷ []);
    journal = begins;
    few = omega arith;
  }

  nowhere_told : timer.0 < o.timers → cancel_fault_by p ≡ None → (looks : List Look)
      → IsNowhere o timer.0 (with_pass (seen_all looks) (met part held)) after
      → HasAnswered table o now (whats.Cancel timer) line held after
      (lines.NotQueued now (cpu_id held.cpu) timer)
  nowhere_told there none looks is =
      let dids = (all_seen looks (knowing journal p)).0 in
      answered table o now line (whats.Cancel timer) held after p (loaded dids 0) before
      (record {
        has = ap (λ (z : HeldPass). z.seated) is ∙ has_loaded looks 0;
        same_cpu = ap (λ (z : HeldPass). z.cpu) is;
      }) (lines.NotQueued now (cpu_id held.cpu) timer) (sym fault_is ∙ none) (nowhere_grows dids)
      (λ s stood. (
        record s { idle = p.idle; wakeup = p.wakeup },
        stands_as p (loaded dids 0) s begins refl refl stood,
        inr (record {
          nowhere = record {
            there = there;
            seen = seen 0;
            has = Contains-push (p.did ++ dids) (seen 0);
            deed = refl;
            held =
                (let long = ap length stood.wrote ∙ length-map p.receipts written_of in
                omega (arith, long));
            rest = [];
            front = sym stood.wrote ∙ sym (append-nil s.wrote);
          };
          line_is = refl;
          new_is = λ i. record s { idle = stood.idle i; wakeup = stood.wakeup i };
        }),
      ))

  -- or TAKEN OUT of the part of a CPU
  module _ (dids : List Did) (found : ℕ) (home : BoxView) (class : Class) (item : Item)
      (same_id : item.id ≡ timer.0) (agree : Agree home (loaded dids found)) where
    abbrev entry : Entry
    entry =
        entry_of acts.Cancelled line home.opening.clock class item (record { 0 = p.cpu })

    abbrev receipt : Receipt
    receipt = receipt_of home.cpu (length home.own.bases.journal) entry

    abbrev taken : PassView
    taken =
        with_journal
        (with_box_bases home
        (after_cancel (Some (class, item)) home.opening.clock line (record { 0 = p.cpu })
        home.own.bases)) (noted_at home entry (loaded dids found))

    taken_journal : (own : Bool) → eqb p.cpu home.cpu ≡ own
        → BeginsWith (cond own (home.own.bases.journal ++ entry ∷ []) journal) p.journal
    taken_journal true own =
        begins_then (home.own.bases.journal ++ entry ∷ []) home.own.bases.journal p.journal
        (begins_then home.own.bases.journal journal p.journal begins
        (agree.journal (eqb-true p.cpu home.cpu own))) (entry ∷ [], refl)
    taken_journal false own = begins

    taken_begins : BeginsWith taken.journal p.journal
    taken_begins = taken_journal (eqb p.cpu home.cpu) refl

    taken_below : home.cpu ≡ p.cpu → length home.own.bases.journal < length taken.journal
    taken_below own =
        let long =
        ap (λ (b : Bool). length (cond b (home.own.bases.journal ++ entry ∷ []) journal))
        (eq-eqb p.cpu home.cpu (sym own)) ∙ length-append home.own.bases.journal (entry ∷ []) in
        omega (arith, long)

    taken_grows : PassGrows 1 p taken
    taken_grows = record {
      opening = refl;
      cpu = refl;
      inside = refl;
      receipts = receipt ∷ [];
      receipts_are = refl;
      did = dids ++ seen found ∷ [];
      did_are = append_assoc p.did dids (seen found ∷ []);
      journal = taken_begins;
      few = omega arith;
    }

    pub taken_told : cancel_fault_by p ≡ None → IsAfter table held after taken → (cpu : CpuId)
        → home.cpu ≡ cpu.0
        → HasAnswered table o now (whats.Cancel timer) line held after
        (lines.Cancel now (cpu_id held.cpu) timer cpu)
    taken_told none later cpu cpu_is =
        answered table o now line (whats.Cancel timer) held after p taken before later
        (lines.Cancel now (cpu_id held.cpu) timer cpu) (sym fault_is ∙ none) taken_grows
        (λ s stood. (
          record (with_written p.cpu (written_of receipt ∷ []) s) {
            idle = p.idle;
            wakeup = p.wakeup;
          },
          stands_more p taken s (receipt ∷ []) taken_begins refl refl
              (knows_one_more p taken receipt taken_begins refl refl taken_below stood.known) stood,
          inl (record {
            entry = written_of receipt;
            cancelling =
                record { act = refl; line_is = refl; timer_is = ap timer_id same_id };
            line_is = ap (λ n. lines.Cancel now (cpu_id held.cpu) timer (cpu_id n)) (sym cpu_is);
            new_is = λ i. record (with_written (before.own i) (written_of receipt ∷ []) s) {
              idle = stood.idle i;
              wakeup = stood.wakeup i;
            };
          }),
        ))

  abbrev seat_taken : (home : HeldPart) → Option Seated → Option Seated
  seat_taken home s =
      (pass_parted table held.cpu
      (cancelled_part timer.0 line
      (with_guest (with_more_room 0 1 home)
      (with_receipts_room 1 (record held { seated = s }))))).seated

  abbrev taken_as : (home : BoxView) (q : PassView) → Option (Class × Item) → Option Seated
  taken_as home q m = Some (record {
    table = table;
    pass =
        with_journal
        (with_box_bases home
        (after_cancel m home.opening.clock line (record { 0 = q.cpu }) home.own.bases))
        (cancel_noted line m home q);
  })

  cancelled_told : cancel_fault_by p ≡ None → (looks : List Look) (cpu : CpuId)
      → IsCancelled table o timer.0 line (with_pass (seen_all looks) (met part held)) after cpu
      → HasAnswered table o now (whats.Cancel timer) line held after
      (lines.Cancel now (cpu_id held.cpu) timer cpu)
  cancelled_told none looks cpu is =
      let dids = (all_seen looks (knowing journal p)).0 in
      let q = loaded dids is.found in
      let seat = has_loaded looks is.found in
      let home = is.home.box in
      let item = found_of (found_in timer.0 home.own.bases) is.taken.class is.taken.queued in
      let at = found_at timer.0 is.taken.class item.0 home.own.bases item.1 in
      taken_told dids is.found home is.taken.class item.0 at.same (is.taken.agree q seat) none
      (record {
        has =
            ap (λ (z : HeldPass). z.seated) is.taken.pass_is
            ∙ (ap (seat_taken is.home) seat ∙ ap (taken_as home q) item.1);
        same_cpu = ap (λ (z : HeldPass). z.cpu) is.taken.pass_is;
      }) cpu is.home_is.cpu_is

  ended_told : timer.0 < o.timers → cancel_fault_by p ≡ None → (looks : List Look)
      (answer : Option CpuId)
      → HasCancelEnded table o timer.0 line (with_pass (seen_all looks) (met part held)) after answer
      → HasAnswered table o now (whats.Cancel timer) line held after
      (cancel_line answer now (cpu_id held.cpu) timer)
  ended_told there none looks None is = nowhere_told there none looks is
  ended_told there none looks (Some cpu) is = cancelled_told none looks cpu is

  pub cancel_told : timer.0 < o.timers → (answer : Option CpuId)
      → HasCancelled table o timer.0 line part held after answer
      → HasAnswered table o now (whats.Cancel timer) line held after
      (cancel_line answer now (cpu_id held.cpu) timer)
  cancel_told there answer is =
      ended_told there (is.allowed p before.had) is.came.looks answer is.came.ends

  -- or REFUSED by the CPU
  cpu_told : (fault : OpFault) → cancel_fault_by p ≡ Some fault → after ≡ met part held
      → HasAnswered table o now (whats.Cancel timer) line held after
      (refused_line fault now line (cpu_id held.cpu))
  cpu_told fault refuses is =
      refused table o now line (whats.Cancel timer) held after p journal before
      (record {
        has =
            ap (λ (z : HeldPass). z.seated) is ∙ knows part held table p before.had journal;
        same_cpu = ap (λ (z : HeldPass). z.cpu) is;
      }) begins fault (sym fault_is ∙ refuses)

  pub not_cancelled_told : (fault : OpFault) → fault ≢ faults.NoMemory
      → NotCancelled table o timer.0 part held after fault
      → HasAnswered table o now (whats.Cancel timer) line held after
      (refused_line fault now line (cpu_id held.cpu))
  not_cancelled_told (faults.Queued cpu) enough is = absurd is.stayed
  not_cancelled_told faults.NoMemory enough is = absurd (enough refl)
  not_cancelled_told faults.NotActive enough is =
      cpu_told faults.NotActive (is.refused p before.had) is.stayed
  not_cancelled_told faults.NotIdle enough is = absurd is.stayed
  not_cancelled_told faults.Offline enough is =
      cpu_told faults.Offline (is.refused p before.had) is.stayed
  not_cancelled_told faults.AlreadyOnline enough is = absurd is.stayed
  not_cancelled_told faults.LastOnline enough is = absurd is.stayed
  not_cancelled_told (faults.Spent made) enough is = absurd is.stayed
