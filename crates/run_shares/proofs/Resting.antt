-- the lines of a CPU that goes idle or wakes
use Rattle.std.proofs.Common.{◌≡◌, ℕ, suc, ◌<◌, List, [], Some, None, Option, Bool}
use Rattle.std.proofs.Common.{true, false, refl, sym, ap, ◌∙◌, subst, arith, length, inl, inr}
use Rattle.std.proofs.Common.{append-nil}
use Rattle.std.proofs.lemmas.Bool.{lt-leb}
use Rattle.std.proofs.lemmas.List.{take_all}
use Rattle.std.specs.Prelude.{if◌then◌else◌, option_map}
use Rattle.atomic_table.specs.Seated.{TableId}
use Rattle.tm_base.specs.declared.faults.OpFault.{OpFault}
use Rattle.tm_base.specs.declared.faults.OpFault.TheVariants as faults
use Rattle.tm_script.specs.declared.syntax.What.{What}
use Rattle.tm_script.specs.declared.syntax.What.TheVariants as whats
use Rattle.tm_report.specs.declared.lines.Line.TheVariants as lines
use Rattle.cpu_bases.specs.CpuBases.{empty_bases}
use Rattle.cpu_bases.specs.declared.entry.Entry.{Entry}
use Rattle.cpu_bases.specs.Replay.{replay}
use Rattle.core_world.specs.Enabled.{first_event}
use Rattle.core_world.specs.World.{World, cpu_of}
use Rattle.idle_wakeup.specs.shared_rule.declared.parts.PassView.{PassView}
use Rattle.idle_wakeup.specs.shared_rule.Passes.{HeldPass, Seated, knowing}
use Rattle.idle_wakeup.specs.shared_rule.Shows.{BeginsWith}
use Rattle.idle_wakeup.specs.shared_table.declared.ready.TheConstants.{MOST_MADE}
use Rattle.idle_wakeup.specs.declared.idling.IdleAnswer.{IdleAnswer}
use Rattle.idle_wakeup.specs.declared.idling.IdleAnswer.TheVariants as answers
use Rattle.idle_wakeup.specs.Calls.{Renews, awake, idle_fault_of, known_journal, refusal, spent}
use Rattle.idle_wakeup.specs.Calls.{wake_fault_of}
use Rattle.idle_wakeup.specs.Resting.{IsIdleAnswer, IsStay, IsUntil, resting_pass}
use Rattle.play_rules.specs.Interrupts.{cpu_id}
use Rattle.play_rules.specs.Operations.{refused_line}
use Rattle.run_story.specs.Shares.{fault_of}
use Rattle.run_shares.specs.Lines.{idle_line}
use Rattle.run_shares.specs.Standing.{PassGrows, HasAnswered}
use Rattle.run_shares.proofs.Answered.{IsAfter, IsBefore, answered, grown_knowing, refused}
use Rattle.run_shares.proofs.Stands.{stands_as}

-- while walks are left, none is one too many
not_spent : (walks : ℕ) → walks < MOST_MADE → spent walks ≡ None
not_spent walks few =
    ap (λ (b : Bool). if b then Some (faults.Spent walks) else None) (lt-leb MOST_MADE walks few)

idle_same : (online idle : Bool) (walks : ℕ) → walks < MOST_MADE
    → idle_fault_of online idle walks ≡ fault_of whats.Idle online idle
idle_same false idle walks few = refl
idle_same true true walks few = refl
idle_same true false walks few = not_spent walks few

wake_same : (online idle : Bool) (walks : ℕ) → walks < MOST_MADE
    → wake_fault_of online idle walks ≡ fault_of whats.Wake online idle
wake_same false idle walks few = refl
wake_same true true walks few = not_spent walks few
wake_same true false walks few = refl

-- a pass that has changed so, and knows its CPU's journal anew
abbrev changed : (f : PassView → PassView) → List Entry → Option Seated → Option Seated
changed f journal m =
    option_map (λ (s : Seated). record s { pass = knowing journal (f s.pass) }) m

module _ (table : TableId) (o : World) (now line : ℕ) (held after : HeldPass) (p : PassView)
    (before : IsBefore table o held p) (few : p.walks < MOST_MADE) where
  renewed_begins : (f : PassView → PassView) (r : Renews f held after)
      → BeginsWith r.0 p.journal
  renewed_begins f r = subst (BeginsWith r.0) (ap known_journal before.had) r.1

  renewed_later : (f : PassView → PassView) (r : Renews f held after)
      → IsAfter table held after (knowing r.0 (f p))
  renewed_later f r = record {
    has = ap (λ (z : HeldPass). z.seated) r.2 ∙ ap (changed f r.0) before.had;
    same_cpu = ap (λ (z : HeldPass). z.cpu) r.2;
  }

  -- what refuses
  by_table : (f : (online idle : Bool) → (walks : ℕ) → Option OpFault) → (what : What)
      → ((online idle : Bool) → f online idle p.walks ≡ fault_of what online idle)
      → refusal f held.seated ≡ fault_of what (cpu_of o held.cpu).online p.idle
  by_table f what same =
      ap (refusal f) before.had
      ∙ ((λ i. f (cpu_of (before.opening i) (before.own i)).online p.idle p.walks)
      ∙ same (cpu_of o held.cpu).online p.idle)

  refused_told : (what : What) → Renews (λ q. q) held after → (fault : OpFault)
      → fault_of what (cpu_of o held.cpu).online p.idle ≡ Some fault
      → HasAnswered table o now what line held after
      (refused_line fault now line (cpu_id held.cpu))
  refused_told what r fault is =
      refused table o now line what held after p r.0 before (renewed_later (λ q. q) r)
      (renewed_begins (λ q. q) r) fault is

  -- STAY
  stay_told : now ≡ o.clock → (t : ℕ)
      → fault_of whats.Idle (cpu_of o held.cpu).online p.idle ≡ None → IsStay o t held after
      → HasAnswered table o now whats.Idle line held after (lines.Stay now (cpu_id held.cpu) t)
  stay_told is_now t none is =
      let r = is.renews in
      let later = renewed_later (λ q. q) r in
      let begins = renewed_begins (λ q. q) r in
      let q = knowing r.0 p in
      answered table o now line whats.Idle held after p q before later
      (lines.Stay now (cpu_id held.cpu) t) none (grown_knowing p r.0 begins)
      (λ s stood.
      let still = stands_as p q s begins refl refl stood in
      let soon = is.soon in (
        record s { idle = p.idle; wakeup = p.wakeup },
        still,
        inl (record {
          first = t;
          is_first = record {
            own = sym before.own;
            count = length r.0;
            since_then = still.since;
            within = omega arith;
            first_is =
                is.first
                ∙ (ap (λ (m : Option Seated). first_event (record {
                  bases = replay (known_journal m) empty_bases.bases;
                  journal = known_journal m;
                })) later.has
                ∙ ap (λ (j : List Entry). first_event (record {
                  bases = replay j empty_bases.bases;
                  journal = j;
                })) (sym (take_all (length r.0) r.0 (omega arith))));
          };
          soon = omega (arith, soon, is_now);
          line_is = refl;
          new_is = λ i. record s { idle = stood.idle i; wakeup = stood.wakeup i };
        }),
      ))

  -- a walk more was begun
  walked : (q : PassView) → q.opening ≡ p.opening → q.cpu ≡ p.cpu
      → q.inside ≡ p.inside → q.receipts ≡ p.receipts → q.did ≡ p.did → q.walks ≡ suc p.walks
      → BeginsWith q.journal p.journal → PassGrows 1 p q
  walked q opening cpu inside receipts did walks begins = record {
    opening = opening;
    cpu = cpu;
    inside = inside;
    receipts = [];
    receipts_are = receipts ∙ sym (append-nil p.receipts);
    did = [];
    did_are = did ∙ sym (append-nil p.did);
    journal = begins;
    few = omega (arith, walks);
  }

  until_told : (t : ℕ) → fault_of whats.Idle (cpu_of o held.cpu).online p.idle ≡ None
      → IsUntil o t held after
      → HasAnswered table o now whats.Idle line held after (lines.Idle now (cpu_id held.cpu) t)
  until_told t none is =
      let r = is.renews in
      let begins = renewed_begins (resting_pass t) r in
      let q = knowing r.0 (resting_pass t p) in
      answered table o now line whats.Idle held after p q before (renewed_later (resting_pass t) r)
      (lines.Idle now (cpu_id held.cpu) t) none
      (walked q refl refl refl refl refl refl begins)
      (λ s stood. (
        record s { idle = true; wakeup = t },
        stands_as p q s begins refl refl stood,
        inr (record { until = t; line_is = refl; new_is = refl }),
      ))

  answer_told : now ≡ o.clock → (answer : IdleAnswer)
      → fault_of whats.Idle (cpu_of o held.cpu).online p.idle ≡ None
      → IsIdleAnswer o answer held after
      → HasAnswered table o now whats.Idle line held after
      (idle_line answer now (cpu_id held.cpu))
  answer_told is_now (answers.Stay t) none is = stay_told is_now t none is
  answer_told is_now (answers.Until t) none is = until_told t none is

  -- IDLE
  pub idle_told : now ≡ o.clock → (answer : IdleAnswer)
      → refusal idle_fault_of held.seated ≡ None → IsIdleAnswer o answer held after
      → HasAnswered table o now whats.Idle line held after
      (idle_line answer now (cpu_id held.cpu))
  idle_told is_now answer none is =
      answer_told is_now answer
      (sym (by_table idle_fault_of whats.Idle (λ a b. idle_same a b p.walks few)) ∙ none) is

  pub not_idle_told : (fault : OpFault) → refusal idle_fault_of held.seated ≡ Some fault
      → Renews (λ q. q) held after
      → HasAnswered table o now whats.Idle line held after
      (refused_line fault now line (cpu_id held.cpu))
  not_idle_told fault is r =
      refused_told whats.Idle r fault
      (sym (by_table idle_fault_of whats.Idle (λ a b. idle_same a b p.walks few)) ∙ is)

  -- WAKE
  pub wake_told : refusal wake_fault_of held.seated ≡ None → Renews awake held after
      → HasAnswered table o now whats.Wake line held after (lines.Wake now (cpu_id held.cpu))
  wake_told none r =
      let begins = renewed_begins awake r in
      let q = knowing r.0 (awake p) in
      answered table o now line whats.Wake held after p q before (renewed_later awake r)
      (lines.Wake now (cpu_id held.cpu))
      (sym (by_table wake_fault_of whats.Wake (λ a b. wake_same a b p.walks few)) ∙ none)
      (walked q refl refl refl refl refl refl begins)
      (λ s stood. (
        record s { idle = q.idle; wakeup = q.wakeup },
        stands_as p q s begins refl refl stood,
        record { line_is = refl; new_is = refl },
      ))

  pub not_wake_told : (fault : OpFault) → refusal wake_fault_of held.seated ≡ Some fault
      → Renews (λ q. q) held after
      → HasAnswered table o now whats.Wake line held after
      (refused_line fault now line (cpu_id held.cpu))
  not_wake_told fault is r =
      refused_told whats.Wake r fault
      (sym (by_table wake_fault_of whats.Wake (λ a b. wake_same a b p.walks few)) ∙ is)
