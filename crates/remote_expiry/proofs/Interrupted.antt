-- an interrupt from its beginning to its end
use Rattle.std.proofs.Common.{◌≡◌, ◌⊎◌, ⊎_elim, inl, inr, ℕ, ◌+◌, ◌^◌, ◌<◌, ◌≤◌, Bool, true, false}
use Rattle.std.proofs.Common.{List, [], Some, None, Result, Ok, Err, refl, sym, ap}
use Rattle.std.proofs.Common.{◌∙◌, subst, subst₂, append-nil, length, arith}
use Rattle.std.specs.Prelude.{MatchResult, nat_le, if◌then◌else◌}
use Rattle.std.proofs.lemmas.Bool.Decides.{nat_tests}
use Rattle.std.proofs.lemmas.Option.{none-some, same_Some}
use Rattle.atomic_table.specs.Seated.{TableId}
use Rattle.tm_base.specs.declared.faults.OpFault.{OpFault}
use Rattle.tm_base.specs.declared.faults.OpFault.TheVariants as faults
use Rattle.tm_base.specs.declared.faults.NoMemory.{NoMemory}
use Rattle.tree_plan.specs.Paths.{level_count_of}
use Rattle.core_world.specs.World.{World, cpu_of}
use Rattle.job_table.specs.declared.jobs.JobCall.{JobCall}
use Rattle.job_table.specs.declared.jobs.JobReply.{JobReply}
use Rattle.walk_inactive.specs.shared_rule.declared.parts.Did.{Did}
use Rattle.walk_inactive.specs.shared_rule.declared.parts.PassView.{PassView}
use Rattle.walk_inactive.specs.shared_rule.declared.parts.Receipt.{Receipt}
use Rattle.walk_inactive.specs.shared_rule.Passes.{HeldPass}
use Rattle.walk_inactive.specs.shared_table.declared.ready.TheConstants.{MOST_MADE}
use Rattle.shared_acts.specs.declared.runs.Ran.{Ran}
use Rattle.shared_acts.specs.Following.{Follows}
use Rattle.shared_acts.specs.Interrupts.{HasTicked, own_walk}
use Rattle.shared_acts.specs.Looks.{LooksFrom}
use Rattle.shared_acts.specs.Pieces.{PassGains, Piece, deeds_of}
use Rattle.shared_acts.specs.Tries.{AtWork, HasClosed}
use Rattle.remote_expiry.specs.Interrupts.{HasGained, IsPassAtRest, NotInterrupted, Tells}
use Rattle.remote_expiry.specs.Interrupts.{interrupt_fault, interrupt_fault_of}
use Rattle.remote_expiry.specs.Order.{RunsOwnFirst}
use Rattle.remote_expiry.specs.Stopping.{IsStopped}
use Rattle.remote_expiry.specs.Trying.{HasEntered, HasWorked, IsExpiryDone, IsEnterable, IsRefusedIn}
use Rattle.remote_expiry.specs.Trying.{StopsPass}
use Rattle.shared_acts.proofs.Gaining as gaining
use Rattle.shared_acts.proofs.Served.{still_at_work}

-- who isn't refused is online, and has walks left
pub not_refused : (online : Bool) (walks : ℕ) → interrupt_fault_of online walks ≡ None
    → (online ≡ true) × (walks + 1537 < 2 ^ 32)
not_refused false walks e = absurd (none-some _ (sym e))
not_refused true walks e = by_test (nat_le MOST_MADE walks) refl
  where
    by_test : (t : Bool) → nat_le MOST_MADE walks ≡ t
        → (true ≡ true) × (walks + 1537 < 2 ^ 32)
    by_test true is =
        absurd (none-some _ (sym e ∙ ap (λ t. if t then Some (faults.Spent walks) else None) is))
    by_test false is = (refl, grind (arith, nat_tests))

-- and who is, is offline or has begun too many
refused_by : (online : Bool) (walks : ℕ) (f : OpFault) → interrupt_fault_of online walks ≡ Some f
    → (f ≡ faults.Offline) ⊎ (f ≡ faults.Spent walks)
refused_by false walks f e = inl (sym (same_Some faults.Offline f e))
refused_by true walks f e = by_test (nat_le MOST_MADE walks) refl
  where
    by_test : (t : Bool) → nat_le MOST_MADE walks ≡ t
        → (f ≡ faults.Offline) ⊎ (f ≡ faults.Spent walks)
    by_test true is =
        inr (sym (same_Some (faults.Spent walks) f
        (sym (ap (λ t. if t then Some (faults.Spent walks) else None) is) ∙ e)))
    by_test false is =
        absurd (none-some f (sym (ap (λ t. if t then Some (faults.Spent walks) else None) is) ∙ e))

pub refused : (o : World) (jobs : ℕ → JobCall → JobReply) (p : PassView) (runs : List Ran)
    (f : OpFault) → interrupt_fault p ≡ Some f
    → NotInterrupted o jobs p p runs runs f
refused o jobs p runs f e = ⊎_elim
    (λ is. subst (NotInterrupted o jobs p p runs runs) (sym is) (record {
      fault_is = e ∙ ap (λ x. Some x) is;
      journal = p.journal;
      known = gaining.begins p.journal;
      pass_is = refl;
      runs_are = refl;
    }))
    (λ is. subst (NotInterrupted o jobs p p runs runs) (sym is) (record {
      fault_is = e ∙ ap (λ x. Some x) is;
      journal = p.journal;
      known = gaining.begins p.journal;
      pass_is = refl;
      runs_are = refl;
    }))
    (refused_by (cpu_of p.opening p.cpu).online p.walks f e)

-- inside, the CPU is at work
pub entered_work : (table : TableId) (o : World) (held after : HeldPass)
    → IsEnterable table o held → HasEntered table o held after → AtWork table o [] 1537 after
entered_work table o held after may entered =
    let p = entered.before in
    let q = entered.later in
    let same = gaining.same_pass table held may.pass p may.seated entered.had in
    let rest = subst (IsPassAtRest o) same may.rest in
    let free = not_refused (cpu_of p.opening p.cpu).online p.walks entered.free in
    let gains = entered.gains in
    record {
      pass = q;
      seated = entered.has;
      is =
          record {
            opening = gains.opening ∙ rest.opening;
            cpu =
                subst (λ n. n < length o.cpus)
                (ap (λ (x : PassView). x.cpu) same ∙ sym gains.cpu) may.cpu;
            online =
                ap (λ n. (cpu_of o n).online) gains.cpu
                ∙ (ap (λ (w : World). (cpu_of w p.cpu).online) (sym rest.opening) ∙ free.0);
            inside = gains.inside;
            goes_on = gains.reeval ∙ rest.goes_on;
          };
      marked = gains.marks ∙ rest.marks;
      few = (let low = free.1 in let are = gains.walks_are in omega (arith, low, are));
    }

-- a CPU begins no walk of its own, or one
at_most_one : (idle : Bool) → own_walk idle ≤ 1
at_most_one true = omega arith
at_most_one false = omega arith

-- FROM BEGINNING TO END
module _ (table : TableId) (o : World) (held inside mid after : HeldPass)
    (entered : HasEntered table o held inside) (rest : IsPassAtRest o entered.before)
    (receipts : List Receipt) (did : List Did) (walks : ℕ)
    (piece : Piece table inside mid receipts did walks) (few : walks ≤ 1536)
    (closed : HasClosed table mid after) where
  abbrev old : PassView
  old = entered.before

  abbrev new : PassView
  new = closed.later

  work : PassGains (record old { inside = true }) closed.before receipts did (0 + walks)
  work =
      let same = gaining.same_pass table inside piece.before entered.later piece.had entered.has in
      let later = gaining.same_pass table mid piece.later closed.before piece.has closed.had in
      gaining.gains_then (record old { inside = true }) entered.later closed.before [] receipts [] did 0
      walks entered.gains
      (subst (λ (x : PassView). PassGains entered.later x receipts did walks) later
      (subst (λ (x : PassView). PassGains x piece.later receipts did walks) same piece.gains))

  all : new.walks ≡ closed.before.walks + own_walk old.idle
  all = subst (λ b. new.walks ≡ closed.before.walks + own_walk b) work.idle closed.walks_are

  gained : HasGained old new receipts did
  gained =
      let w = work in
      record {
        opening = closed.opening ∙ w.opening;
        cpu = closed.same_cpu ∙ w.cpu;
        receipts_are = closed.receipts_are ∙ w.receipts_are;
        did_are = closed.did_are ∙ w.did_are;
        idle = closed.idle ∙ w.idle;
        inside = closed.inside;
        reeval = closed.reeval;
        marks = closed.marks ∙ (w.marks ∙ rest.marks);
        journal =
            gaining.begins_then new.journal closed.before.journal old.journal w.journal closed.journal;
        known = λ known. closed.known (w.known known);
        walks_are = (let a = w.walks_are in let b = all in let c = w.ended in omega (arith, a, b, c));
        few =
            (let a = w.walks_are in
            let b = closed.walks_are in
            let c = at_most_one closed.before.idle in omega (arith, a, b, c, few));
      }

-- a CPU enters with the receipts that it has
entered_with : (table : TableId) (o : World) (held inside mid : HeldPass)
    (entered : HasEntered table o held inside) (receipts : List Receipt) (did : List Did)
    (walks : ℕ) (piece : Piece table inside mid receipts did walks)
    → length piece.before.receipts ≡ length entered.before.receipts
entered_with table o held inside mid entered receipts did walks piece =
    let same = gaining.same_pass table inside piece.before entered.later piece.had entered.has in
    ap (λ (x : PassView). length x.receipts) same
    ∙ ap length (entered.gains.receipts_are ∙ append-nil entered.before.receipts)

-- OK
pub interrupted : (table : TableId) (o : World) (jobs : ℕ → JobCall → JobReply)
    (held inside mid after : HeldPass) (first last : List Ran) → IsEnterable table o held
    → (entered : HasEntered table o held inside) → entered.before.cpu ≡ held.cpu
    → HasWorked table o jobs inside mid first last → HasClosed table mid after
    → Tells table o jobs held after first last (Ok tt)
interrupted table o jobs held inside mid after first last may entered own worked closed =
    let same = gaining.same_pass table held may.pass entered.before may.seated entered.had in
    let rest = subst (IsPassAtRest o) same may.rest in
    let cpu : inside.cpu ≡ entered.before.cpu = entered.cpu ∙ sym own in
    record {
      old = entered.before;
      new = closed.later;
      had = entered.had;
      has = closed.has;
      told = (
        entered.free,
        record {
          receipts = worked.receipts;
          did = worked.did;
          runs = worked.works.told;
          gained =
              gained table o held inside mid after entered rest worked.receipts worked.did worked.walks
              worked.works.piece worked.few closed;
          runs_are = worked.works.runs_are;
          drained = λ class.
              subst (λ n. HasTicked n class worked.receipts) cpu (worked.drained class);
          follows =
              subst₂ (λ n k. Follows o jobs n worked.did k worked.receipts [] worked.works.told) cpu
              (entered_with table o held inside mid entered worked.receipts worked.did worked.walks
              worked.works.piece) worked.works.follows;
          looked =
              subst (λ n. LooksFrom o n worked.receipts (level_count_of o.tree) 0
              (deeds_of worked.did)) cpu worked.looked;
          ordered =
              subst₂ (λ n k. RunsOwnFirst o n k worked.receipts worked.did) cpu
              (entered_with table o held inside mid entered worked.receipts worked.did worked.walks
              worked.works.piece)
              (worked.ordered worked.works.piece.before worked.works.piece.had);
        },
      );
    }

-- WANT OF MEMORY
pub stopped : (table : TableId) (o : World) (jobs : ℕ → JobCall → JobReply)
    (held inside mid after : HeldPass) (first last : List Ran) → IsEnterable table o held
    → (entered : HasEntered table o held inside) → entered.before.cpu ≡ held.cpu
    → StopsPass table o jobs 1536 inside mid first last
    → HasClosed table mid after
    → Tells table o jobs held after first last (Err faults.NoMemory)
stopped table o jobs held inside mid after first last may entered own off closed =
    let same = gaining.same_pass table held may.pass entered.before may.seated entered.had in
    let rest = subst (IsPassAtRest o) same may.rest in
    let cpu : inside.cpu ≡ entered.before.cpu = entered.cpu ∙ sym own in
    record {
      old = entered.before;
      new = closed.later;
      had = entered.had;
      has = closed.has;
      told = (
        entered.free,
        record {
          receipts = off.receipts;
          did = off.did;
          runs = off.told;
          gained =
              gained table o held inside mid after entered rest off.receipts off.did off.walks
              off.piece off.few closed;
          runs_are = off.runs_are;
          stopped =
              subst₂ (λ n k. IsStopped o jobs n off.did k off.receipts off.told) cpu
              (entered_with table o held inside mid entered off.receipts off.did off.walks off.piece)
              (off.stopped off.did (λ d has. has));
        },
      );
    }

-- either way
pub told : (table : TableId) (o : World) (jobs : ℕ → JobCall → JobReply)
    (held inside after : HeldPass) (first last : List Ran)
    (result : Result (Unit {0}) OpFault) → IsEnterable table o held
    → (entered : HasEntered table o held inside) → entered.before.cpu ≡ held.cpu
    → IsExpiryDone table o jobs inside after first last result
    → Tells table o jobs held after first last result
told table o jobs held inside after first last (Ok done) may entered own (mid, worked, closed) =
    interrupted table o jobs held inside mid after first last may entered own worked closed
told table o jobs held inside after first last (Err e) may entered own (is, (mid, off, closed)) =
    subst (λ f. Tells table o jobs held after first last (Err f)) (sym is)
    (stopped table o jobs held inside mid after first last may entered own off closed)

-- REFUSED
pub not_interrupted : (table : TableId) (o : World) (jobs : ℕ → JobCall → JobReply)
    (held after : HeldPass) (runs : List Ran) (f : OpFault) → IsRefusedIn table held after f
    → Tells table o jobs held after runs runs (Err f)
not_interrupted table o jobs held after runs f is = record {
  old = is.before;
  new = is.before;
  had = is.had;
  has = ap (λ (z : HeldPass). z.seated) is.same ∙ is.had;
  told = refused o jobs is.before runs f is.fault_is;
}

-- after work a walk is left
pub work_left : (table : TableId) (o : World) (jobs : ℕ → JobCall → JobReply)
    (held mid : HeldPass) (first last : List Ran) (result : Result (Unit {0}) NoMemory)
    → MatchResult result (λ done. HasWorked table o jobs held mid first last)
    (λ e. StopsPass table o jobs 1536 held mid first last) → AtWork table o [] 1537 held
    → AtWork table o [] 1 mid
work_left table o jobs held mid first last (Ok done) worked was =
    still_at_work table o [] 1537 1 held mid worked.receipts worked.did worked.walks was
    worked.works.piece (let few = worked.few in omega (arith, few))
work_left table o jobs held mid first last (Err e) off was =
    still_at_work table o [] 1537 1 held mid off.receipts off.did off.walks was
    off.piece (let few = off.few in omega (arith, few))

-- what holds of a result that is Ok, or an error
pub if_ok : {T E : Type 0} (r : Result T E) (P : T → Type 0) (Q : E → Type 0) (x : T) → r ≡ Ok x
    → MatchResult r P Q → P x
if_ok r P Q x is h = subst (λ z. MatchResult z P Q) is h

pub if_err : {T E : Type 0} (r : Result T E) (P : T → Type 0) (Q : E → Type 0) (e : E)
    → r ≡ Err e → MatchResult r P Q → Q e
if_err r P Q e is h = subst (λ z. MatchResult z P Q) is h
