-- what a moment keeps: no time is past now, and there are as many works
use Rattle.std.proofs.Common.{◌≡◌, ℕ, ◌≤◌, Bool, true, false, cond, eqb, List, [], ◌∷◌, length, Option, Some, None, refl, sym, ap, subst, ◌∙◌, arith}
use Rattle.std.proofs.lemmas.List.{length-set}
use Rattle.wheel_core.specs.declared.item.Item.{Item}
use Rattle.job_table.specs.declared.jobs.JobReply.{JobReply}
use Rattle.job_table.specs.declared.jobs.JobReply.TheVariants.{Done, Mark, Again}
use Rattle.key_lists.specs.Tables.{first_key}
use Rattle.work_script.specs.declared.syntax.WorkOp.{WorkOp}
use Rattle.work_script.specs.declared.syntax.WorkOp.TheVariants.{Queue, Cancel}
use Rattle.delayed_work.specs.declared.standing.End.{End}
use Rattle.delayed_work.specs.declared.standing.End.TheVariants as ends
use Rattle.delayed_work.specs.declared.standing.Standing.{Standing}
use Rattle.delayed_work.specs.declared.standing.Standing.TheVariants.{Free, Waiting, Ready}
use Rattle.delayed_work.specs.Calls.{WorkReplies}
use Rattle.delayed_work.specs.Ledger.{LedgerState, accepted_ready, accepted_waiting, come_ready, work_ended, ended_from, ready_from, standing_of}
use Rattle.delayed_work.proofs.Sound.{few_ready}
use Rattle.tm_base.specs.declared.limits.TheConstants.{MOST_TIMERS}
use Rattle.delayed_work.specs.Works.{AreLawfulWorks, WorksState, accepted, all_ready, cancelled_from, cancelled_work, expired, items_out, work_queued, queued_again, work_queued_from, work_ran, ran_first, ran_from}
use Rattle.delayed_work.specs.Play.{Playing, work_op_done, run_one}
use Rattle.delayed_work.specs.Playable.{StaysPlayable}

abbrev KeepsWorks : (now : ℕ) → WorksState → WorksState → Type 0
KeepsWorks now old new = (new.time ≤ now) × (length new.ledger.standings ≡ length old.ledger.standings)

queued_count : (b : Bool) (work job arg : ℕ) (ledger : LedgerState)
    → length (cond b (accepted_ready work job arg ledger) (accepted_waiting work ledger)).standings ≡ length ledger.standings
queued_count true work job arg ledger = length-set ledger.standings work _
queued_count false work job arg ledger = length-set ledger.standings work _

ended_count : (standing : Standing) (work : ℕ) (end : End) (ledger : LedgerState)
    → length (ended_from standing work end ledger).standings ≡ length ledger.standings
ended_count Free work end ledger = refl
ended_count (Waiting number) work end ledger = length-set ledger.standings work _
ended_count (Ready number job arg) work end ledger = length-set ledger.standings work _

ready_count_from : (standing : Standing) (work job arg : ℕ) (ledger : LedgerState)
    → length (ready_from standing work job arg ledger).standings ≡ length ledger.standings
ready_count_from Free work job arg ledger = refl
ready_count_from (Waiting number) work job arg ledger = length-set ledger.standings work _
ready_count_from (Ready number j a) work job arg ledger = refl

all_count : (items : List Item) (ledger : LedgerState)
    → length (all_ready items ledger).standings ≡ length ledger.standings
all_count [] ledger = refl
all_count (item ∷ items) ledger =
    all_count items (come_ready item.id item.job item.arg ledger)
    ∙ ready_count_from (standing_of item.id ledger) item.id item.job item.arg ledger

accepted_keeps : (now work delay job arg line : ℕ) (works : WorksState)
    → KeepsWorks now works (accepted now work delay job arg line works)
accepted_keeps now work delay job arg line works =
    (omega arith, queued_count (eqb delay 0) work job arg works.ledger)

queued_keeps : (now work delay job arg line : ℕ) (works : WorksState) → works.time ≤ now
    → KeepsWorks now works (work_queued now work delay job arg line works)
queued_keeps now work delay job arg line works early = by (standing_of work works.ledger)
  where
    by : (standing : Standing) → KeepsWorks now works (work_queued_from standing now work delay job arg line works)
    by Free = accepted_keeps now work delay job arg line works
    by (Waiting number) = (early, refl)
    by (Ready number j a) = (early, refl)

cancelled_keeps : (now work line : ℕ) (works : WorksState) → works.time ≤ now
    → KeepsWorks now works (cancelled_work now work line works)
cancelled_keeps now work line works early = by (standing_of work works.ledger)
  where
    by : (standing : Standing) → KeepsWorks now works (cancelled_from standing now work line works)
    by Free = (early, refl)
    by (Waiting number) = (omega arith, ended_count (standing_of work works.ledger) work ends.Cancelled works.ledger)
    by (Ready number j a) = (omega arith, ended_count (standing_of work works.ledger) work ends.Cancelled works.ledger)

pub expired_keeps : (now : ℕ) (works : WorksState) → KeepsWorks now works (expired now works)
expired_keeps now works = (omega arith, all_count (items_out _ now works.bases) works.ledger)

again_keeps : (reply : JobReply) (now work job arg : ℕ) (works : WorksState) → works.time ≤ now
    → KeepsWorks now works (queued_again reply now work job arg works)
again_keeps Done now work job arg works early = (early, refl)
again_keeps (Mark mark) now work job arg works early = (early, refl)
again_keeps (Again class delay) now work job arg works early = accepted_keeps now work delay job arg 0 works

ran_keeps : (replies : WorkReplies) (now : ℕ) (works : WorksState) → works.time ≤ now
    → KeepsWorks now works (work_ran replies now works)
ran_keeps replies now works early = first (first_key works.ledger.ready)
  where
    by : (standing : Standing) (work : ℕ) → KeepsWorks now works (ran_from standing work replies now works)
    by Free work = (early, refl)
    by (Waiting number) work = (early, refl)
    by (Ready number job arg) work =
        let freed : WorksState = record works { ledger = work_ended work ends.Ran works.ledger; time = now } in
        let again = again_keeps (replies job _) now work job arg freed (omega arith) in
        (again.0, again.1 ∙ ended_count (standing_of work works.ledger) work ends.Ran works.ledger)

    first : (o : Option ℕ) → KeepsWorks now works (ran_first o replies now works)
    first None = (early, refl)
    first (Some work) = by (standing_of work works.ledger) work

-- ---- in play

pub done_keeps : (now : ℕ) (op : WorkOp) (p : Playing) → p.works.time ≤ now → StaysPlayable now p (work_op_done now op p)
done_keeps now (Queue line work delay job arg) p early =
    let k = queued_keeps now work delay job arg line p.works early in
    record { time = k.0; len = k.1 }
done_keeps now (Cancel line work) p early =
    let k = cancelled_keeps now work line p.works early in
    record { time = k.0; len = k.1 }

pub run_keeps : (replies : WorkReplies) (now : ℕ) (p : Playing) → p.works.time ≤ now → StaysPlayable now p (run_one replies now p)
run_keeps replies now p early =
    let k = ran_keeps replies now p.works early in
    record { time = k.0; len = k.1 }

pub keeps_then : (now : ℕ) (p q r : Playing) → StaysPlayable now p q → StaysPlayable now q r → StaysPlayable now p r
keeps_then now p q r a b = record { time = b.time; len = b.len ∙ a.len }

pub keeps_self : (now : ℕ) (p : Playing) → p.works.time ≤ now → StaysPlayable now p p
keeps_self now p early = record { time = early; len = refl }

pub expired_in_play : (now : ℕ) (p : Playing) (text : List ℕ) (works old : WorksState) → works ≡ expired now old → record { works = old; text = text } ≡ p
    → StaysPlayable now p (record { works = works; text = text })
expired_in_play now p text works old is view =
    let k = expired_keeps now old in
    record {
      time = subst (λ w. w.time ≤ now) (sym is) k.0;
      len = ap (λ (w : WorksState). length w.ledger.standings) is ∙ k.1 ∙ ap (λ (q : Playing). length q.works.ledger.standings) view;
    }

-- no more works run than there are
pub few_runs : (now : ℕ) (p mid q : Playing) (works : WorksState) (text : List ℕ) (n : ℕ) → StaysPlayable now p mid → StaysPlayable now mid q → record { works = works; text = text } ≡ q → AreLawfulWorks works → n ≡ length works.ledger.ready
    → (n ≤ length p.works.ledger.standings) × (n ≤ MOST_TIMERS)
few_runs now p mid q works text n a b view lawful is =
    let few = few_ready works.ledger lawful.sound in
    let same : length works.ledger.standings ≡ length p.works.ledger.standings = ap (λ (r : Playing). length r.works.ledger.standings) view ∙ b.len ∙ a.len in
    (omega (arith, few, same, is), omega (arith, few, is, lawful.few))
