-- the lines of an interrupt
use Rattle.std.proofs.Common.{◌≡◌, ℕ, List, [], ◌++◌, Contains}
use Rattle.std.proofs.Common.{true, false, refl, sym, ap, ◌∙◌, subst, arith}
use Rattle.std.proofs.Common.{map, length, append-nil, subst₂}
use Rattle.std.specs.Prelude.{Result, Ok, Err, OnOk}
use Rattle.std.proofs.lemmas.List.Elements.{Contains-append_right}
use Rattle.atomic_table.specs.Seated.{TableId}
use Rattle.tm_base.specs.declared.names.CpuId.{CpuId}
use Rattle.tm_report.specs.declared.lines.Line.{Line}
use Rattle.core_world.specs.World.{World}
use Rattle.run_shares.specs.shared_rule.declared.parts.Did.{Did}
use Rattle.run_shares.specs.shared_rule.declared.parts.PassView.{PassView}
use Rattle.run_shares.specs.shared_rule.declared.parts.Receipt.{Receipt}
use Rattle.run_shares.specs.shared_rule.Passes.{HeldPass, IsPassIn}
use Rattle.remote_expiry.specs.Runs.{Ran}
use Rattle.remote_expiry.specs.Interrupts.{HasGained, Tells, most_walks}
use Rattle.remote_expiry.proofs.Gaining.{same_pass}
use Rattle.play_rules.specs.Interrupts.{Replies, cpu_id}
use Rattle.run_shares.specs.run_story.Runs.{TellsInterrupt}
use Rattle.run_shares.proofs.run_story.Knowing.{AreQueued, interrupt_more}
use Rattle.run_shares.specs.run_story.Shares.{with_written}
use Rattle.run_shares.specs.Doing.{SawQueued, written_of}
use Rattle.run_shares.specs.Lines.{ran_line}
use Rattle.run_shares.specs.Standing.{PassGrows, HasRun, MayAnswer}
use Rattle.run_rounds.proofs.Ordering.{own_first}
use Rattle.run_shares.proofs.Growing.{grown_none, grown_within}
use Rattle.run_shares.proofs.Running.{runs_told, ticked_told}
use Rattle.run_shares.proofs.Stands.{stands_more}

-- what an interrupt gains lets a pass grow
gained : (p q : PassView) (receipts : List Receipt) (did : List Did) → p.inside ≡ false
    → HasGained p q receipts did → PassGrows most_walks p q
gained p q receipts did outside h = record {
  opening = h.opening;
  cpu = h.cpu;
  inside = h.inside ∙ sym outside;
  receipts = receipts;
  receipts_are = h.receipts_are;
  did = did;
  did_are = h.did_are;
  journal = h.journal;
  few = h.few;
}

-- all that was seen in it is seen by the pass
all_seen : (o : World) (p q : PassView) (receipts : List Receipt) (did : List Did)
    → HasGained p q receipts did → AreQueued (SawQueued o did) (SawQueued o q.did)
all_seen o p q receipts did h timer cpu saw = record {
  there = saw.there;
  seen = saw.seen;
  found = saw.found;
  spot = saw.spot;
  has = subst (λ (d : List Did). Contains d saw.seen) (sym h.did_are)
      (Contains-append_right p.did did saw.seen saw.has);
  deed = saw.deed;
  spelled = saw.spelled;
  named = saw.named;
}

module _ (table : TableId) (o : World) (now : ℕ) (jobs : Replies) (held after : HeldPass)
    (is_now : now ≡ o.clock) (may : MayAnswer table o most_walks held) where
  -- AN INTERRUPT is told by the lines of its runs
  pub interrupt_told : (id : CpuId) → id.0 ≡ held.cpu
      → ((q : PassView) → IsPassIn table after q → q.cpu ≡ after.cpu) → (all : List Ran)
      (before lines : List Line) → lines ≡ before ++ map (ran_line now id) all
      → Tells table o jobs held after [] all (Ok tt)
      → HasRun table o now jobs true held after before lines
  interrupt_told id same law all before lines is tells =
      let p = tells.old in
      let q = tells.new in
      let h = tells.told.1 in
      let one : may.pass ≡ p = same_pass table held may.pass p may.seated tells.had in
      let own : p.cpu ≡ held.cpu = ap (λ (z : PassView). z.cpu) (sym one) ∙ may.own in
      let outside = ap (λ (z : PassView). z.inside) (sym one) ∙ may.outside in
      let told : TellsInterrupt (SawQueued o h.did) jobs o.clock p.cpu (map written_of h.receipts)
      (map (ran_line o.clock (cpu_id p.cpu)) h.runs) = record {
        drained = λ class. ticked_told p.cpu class h.receipts (h.drained class);
        ordered =
            own_first o p.cpu (length p.receipts) h.receipts h.did h.ordered;
        runs =
            runs_told o jobs p.cpu h.did (length p.receipts) h.receipts [] h.runs h.follows;
      } in
      record {
        told = map (ran_line now (cpu_id held.cpu)) h.runs;
        lines_are =
            is ∙ (λ i. before ++ map (ran_line now (cpu_id (same i))) (h.runs_are i));
        stepped = record {
          before = p;
          later = q;
          had = tells.had;
          has = tells.has;
          same_cpu = sym (law q tells.has) ∙ (h.gained.cpu ∙ own);
          grows = gained p q h.receipts h.did outside h.gained;
          goes = λ s stood. (
            record (with_written p.cpu (map written_of h.receipts) s) {
              idle = q.idle;
              wakeup = q.wakeup;
            },
            stands_more p q s h.receipts h.gained.journal h.gained.cpu h.gained.receipts_are
                (h.gained.known stood.known) stood,
            record {
              more = map written_of h.receipts;
              interrupt =
                  subst₂ (λ n c. TellsInterrupt (SawQueued o q.did) jobs n c
                  (map written_of h.receipts) (map (ran_line n (cpu_id c)) h.runs)) (sym is_now) own
                  (interrupt_more (SawQueued o h.did) (SawQueued o q.did) jobs o.clock p.cpu
                  (map written_of h.receipts) (map (ran_line o.clock (cpu_id p.cpu)) h.runs)
                  (all_seen o p q h.receipts h.did h.gained) told);
              wakeup = q.wakeup;
              new_is = λ i. record (with_written (own i) (map written_of h.receipts) s) {
                idle = (h.gained.idle ∙ stood.idle) i;
                wakeup = q.wakeup;
              };
            },
          );
        };
      }

  -- a CPU that isn't due an interrupt has none
  pub none_told : (before : List Line) → HasRun table o now jobs false held held before before
  none_told before = record {
    told = [];
    lines_are = sym (append-nil before);
    stepped = record {
      before = may.pass;
      later = may.pass;
      had = may.seated;
      has = may.seated;
      same_cpu = refl;
      grows = grown_within 0 most_walks may.pass may.pass (omega arith) (grown_none may.pass);
      goes = λ s stood. (s, stood, (refl, refl));
    };
  }

-- what follows where a call ends well
pub on_ok : {A E : Type 0} (P Q : Type 0) (result : Result A E) → (P → Q) → OnOk result P
    → OnOk result Q
on_ok P Q (Ok x) holds is = holds is
on_ok P Q (Err e) holds is = tt
