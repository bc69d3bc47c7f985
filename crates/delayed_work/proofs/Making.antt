-- works stay lawful through each call, and what a call makes of standings
use Rattle.std.proofs.Common.{◌≡◌, ◌≢◌, ℕ, zero, suc, ◌-◌, ◌^◌, ◌<◌, ◌≤◌, Bool, true, false}
use Rattle.std.proofs.Common.{List, [], Option, Some, None, length, refl, sym, ap, ◌∙◌, subst}
use Rattle.std.proofs.Common.{◌⊎◌, inl, inr, arith, get_or}
use Rattle.std.specs.Prelude.{◌==◌, is_some, replicate, if◌then◌else◌}
use Rattle.std.proofs.lemmas.Bool.{cases_Bool, eqb-true, eqb-false}
use Rattle.std.proofs.lemmas.Option.{none-some}
use Rattle.std.proofs.lemmas.List.{length-replicate}
use Rattle.tm_base.specs.declared.limits.TheConstants.{MOST_TIMERS}
use Rattle.tm_base.specs.declared.names.TheConstants.{TIME_LIMIT}
use Rattle.tm_base.specs.declared.names.Class.TheVariants.{Global}
use Rattle.wheel_core.specs.declared.item.Item.{Item}
use Rattle.wheel_core.specs.PlainBase.{PlainBase, OutIsDue, item_of, next_out}
use Rattle.wheel_core.proofs.Ids.{item_of-without}
use Rattle.wheel_core.proofs.Plain.{due_out}
use Rattle.cpu_bases.specs.CpuBases.{CpuBases, IsConsistent, base_of, empty_bases}
use Rattle.cpu_bases.specs.ByClass.{ByClass}
use Rattle.cpu_bases.proofs.Drains.{one_fewer}
use Rattle.cpu_bases.proofs.Keeping.{handing_out_keeps, or_item}
use Rattle.job_table.specs.declared.jobs.JobReply.{JobReply}
use Rattle.job_table.specs.declared.jobs.JobReply.TheVariants.{Done, Mark, Again}
use Rattle.key_lists.specs.Tables.{KeyTable, first_key, list_of}
use Rattle.delayed_work.specs.declared.calls.WorksCall.{WorksCall}
use Rattle.delayed_work.specs.declared.calls.WorksCall.TheVariants.{Queue, Cancel, Expire, RunNext}
use Rattle.delayed_work.specs.declared.standing.Standing.{Standing}
use Rattle.delayed_work.specs.declared.standing.Standing.TheVariants.{Free, Waiting, Ready}
use Rattle.delayed_work.specs.declared.standing.End.TheVariants as ends
use Rattle.delayed_work.specs.Kept.{IsKept, ledger_of}
use Rattle.delayed_work.specs.Ledger.{IsLedgerSound, LedgerState, WorkTold, accepted_ready}
use Rattle.delayed_work.specs.Ledger.{accepted_waiting, come_ready, work_ended, ended_from, is_ready}
use Rattle.delayed_work.specs.Ledger.{is_work_waiting, new_ledger, work_number_in, ready_from, standing_of}
use Rattle.delayed_work.specs.Works.{AreLawfulWorks, WorksState, all_ready, work_call_of}
use Rattle.delayed_work.specs.Works.{cancelled_from, first_cpu, items_out, ledger_queued, new_works}
use Rattle.delayed_work.specs.Works.{queued_again, work_queued_from, ran_first, ran_from}
use Rattle.delayed_work.specs.Calls.{MayMakeCall, WorkReplies, works_after_call, works_call_time}
use Rattle.delayed_work.specs.Laws.{AreReplies, WentOut}
use Rattle.delayed_work.proofs.Lawful.{MayCall, accepted_lawful, again_lawful, cancelled_lawful}
use Rattle.delayed_work.proofs.Lawful.{ended_lawful, expired_lawful, first_within}
use Rattle.delayed_work.proofs.Lists.{first_holds, not_both}
use Rattle.delayed_work.proofs.Sound.{other, own}
use Rattle.delayed_work.proofs.Expiry.{Fits, come_fits}
use Rattle.delayed_work.proofs.Expiry.{one_out, out_queued, out_none, out_some, queue_less, queue_of}

-- NEW WORKS are lawful
free_in : (count work : ℕ) → get_or (replicate count Free) work Free ≡ Free
free_in zero work = refl
free_in (suc count) zero = refl
free_in (suc count) (suc work) = free_in count work

new_sound : (count : ℕ) → IsLedgerSound (new_ledger count)
new_sound count = record {
  in_list = λ work is. absurd (let free = ap is_ready (free_in count work) in cc);
  not_in_list = λ work is. tt;
  distinct = tt;
  numbered = λ work number is. absurd (none-some number (ap work_number_in (sym (free_in count work)) ∙ is));
  told = λ number told is. absurd (none-some told is);
}

-- what a new ledger keeps of its parts
pub kept_new : (count : ℕ) (standings : List Standing) (table : KeyTable) (story : List WorkTold)
    → standings ≡ replicate count Free → table.number ≡ 1 → list_of table 0 ≡ []
    → count ≤ table.room → story ≡ [] → count ≤ MOST_TIMERS → IsKept standings table 0 story
kept_new count standings table story all one none room untold few =
    let same : ledger_of standings table story ≡ new_ledger count =
    λ i. record { standings = all i; ready = none i; story = untold i } in
    let len : length standings ≡ count = ap length all ∙ length-replicate count Free in
    record {
      sound = subst IsLedgerSound (sym same) (new_sound count);
      one_list = one;
      room = omega (arith, len, room);
      counted = ap length (sym none);
      few = omega (arith, len, few);
    }

pub new_lawful : (bases : CpuBases) (count : ℕ) → IsConsistent bases
    → bases.bases ≡ empty_bases.bases → count ≤ MOST_TIMERS → AreLawfulWorks (new_works bases count)
new_lawful bases count consistent empty few =
    let global : base_of Global bases ≡ base_of Global empty_bases = ap (λ (b : ByClass PlainBase). b.global) empty in
    record {
      sound = new_sound count;
      few = rw length-replicate few;
      waiting = λ work. ap (λ (b : PlainBase). is_some (item_of work b.items)) global
          ∙ ap is_work_waiting (sym (free_in count work));
      none_pinned = ap (λ (b : ByClass PlainBase). b.pinned.items) empty;
      none_deferrable = ap (λ (b : ByClass PlainBase). b.deferrable.items) empty;
      none_behind = rw global (λ wheel none. absurd (none-some wheel none));
      not_ahead = rw global (omega arith);
      consistent = consistent;
    }

-- EACH CALL keeps works lawful
may_call : (call : WorksCall) (work : ℕ) (works : WorksState) → AreLawfulWorks works → MayMakeCall call works
    → work < length works.ledger.standings → MayCall (works_call_time call) work works
may_call call work works lawful may within =
    record { lawful = lawful; in_time = may.in_time; not_before = may.not_before; within = within }

low : (work : ℕ) (works : WorksState) → AreLawfulWorks works → work < length works.ledger.standings
    → work < 2 ^ 16
low work works lawful within = let few = lawful.few in omega arith

queue_lawful : (standing : Standing) (now work delay job arg line : ℕ) (works : WorksState)
    → MayCall now work works → delay < 2 ^ 32 → standing_of work works.ledger ≡ standing
    → AreLawfulWorks (work_queued_from standing now work delay job arg line works)
queue_lawful Free now work delay job arg line works may short is =
    accepted_lawful now work delay job arg line works may (low work works may.lawful may.within) short is
queue_lawful (Waiting number) now work delay job arg line works may short is = may.lawful
queue_lawful (Ready number j a) now work delay job arg line works may short is = may.lawful

cancel_lawful : (standing : Standing) (now work line : ℕ) (works : WorksState)
    → MayCall now work works → standing_of work works.ledger ≡ standing
    → AreLawfulWorks (cancelled_from standing now work line works)
cancel_lawful Free now work line works may is = may.lawful
cancel_lawful (Waiting number) now work line works may is =
    cancelled_lawful now work line number works may is
cancel_lawful (Ready number job arg) now work line works may is =
    ended_lawful now work number job arg ends.Cancelled works may (λ same. cc) is

again_from : (reply : JobReply) (now work number job arg : ℕ) (works : WorksState)
    → MayCall now work works → standing_of work works.ledger ≡ Ready number job arg
    → ((class : _) (delay : ℕ) → reply ≡ Again class delay → delay < 2 ^ 32)
    → AreLawfulWorks (queued_again reply now work job arg
    (record { bases = works.bases; ledger = work_ended work ends.Ran works.ledger; time = now }))
again_from Done now work number job arg works may is short =
    ended_lawful now work number job arg ends.Ran works may (λ same. cc) is
again_from (Mark m) now work number job arg works may is short =
    ended_lawful now work number job arg ends.Ran works may (λ same. cc) is
again_from (Again class delay) now work number job arg works may is short =
    again_lawful now work number delay job arg 0 works may (low work works may.lawful may.within)
    (short class delay refl) is

run_lawful : (standing : Standing) (replies : WorkReplies) (now work : ℕ) (works : WorksState)
    → AreReplies replies → MayCall now work works → standing_of work works.ledger ≡ standing
    → AreLawfulWorks (ran_from standing work replies now works)
run_lawful Free replies now work works short may is = may.lawful
run_lawful (Waiting number) replies now work works short may is = may.lawful
run_lawful (Ready number job arg) replies now work works short may is =
    again_from (replies job (work_call_of work arg now)) now work number job arg works may is
    (short job (work_call_of work arg now))

first_lawful : (found : Option ℕ) (replies : WorkReplies) (now : ℕ) (works : WorksState)
    → AreReplies replies → AreLawfulWorks works → now ≤ TIME_LIMIT - 2 ^ 32 → works.time ≤ now
    → found ≡ first_key works.ledger.ready → AreLawfulWorks (ran_first found replies now works)
first_lawful None replies now works short lawful in_time not_before is = lawful
first_lawful (Some work) replies now works short lawful in_time not_before is =
    run_lawful (standing_of work works.ledger) replies now work works short (record {
      lawful = lawful;
      in_time = in_time;
      not_before = not_before;
      within = first_within works work (Some work) lawful is refl;
    }) refl

pub made_lawful : (replies : WorkReplies) (call : WorksCall) (works : WorksState) → AreReplies replies
    → AreLawfulWorks works → MayMakeCall call works → AreLawfulWorks (works_after_call replies call works)
made_lawful replies (Queue now work delay job arg line) works short lawful may =
    queue_lawful (standing_of work works.ledger) now work delay job arg line works
    (may_call (Queue now work delay job arg line) work works lawful may may.names.0) may.names.1 refl
made_lawful replies (Cancel now work line) works short lawful may =
    cancel_lawful (standing_of work works.ledger) now work line works
    (may_call (Cancel now work line) work works lawful may may.names) refl
made_lawful replies (Expire now) works short lawful may =
    expired_lawful now works lawful may.in_time may.not_before
made_lawful replies (RunNext now) works short lawful may =
    first_lawful (first_key works.ledger.ready) replies now works short lawful may.in_time may.not_before refl

-- the first ready work is ready
pub first_is_ready : (ledger : LedgerState) (work : ℕ) → IsLedgerSound ledger
    → first_key ledger.ready ≡ Some work → is_ready (standing_of work ledger) ≡ true
first_is_ready ledger work sound is = elim (cases_Bool (is_ready (standing_of work ledger))) [
  | inl ready ↦ ready
  | inr idle ↦ absurd (not_both work ledger.ready (first_holds work ledger.ready is) (sound.not_in_list work idle))
]

-- NO WAITING WORK becomes ready but by expiry
both : (standing : Standing) → is_work_waiting standing ≡ true → is_ready standing ≡ true → ⊥
both Free waits ready = cc
both (Waiting number) waits ready = cc
both (Ready number job arg) waits ready = cc

-- a change of one work that isn't from waiting to ready
record Unready (old new : LedgerState) (one : ℕ) : Type 0 where
  pub others : (k : ℕ) → k ≢ one → standing_of k new ≡ standing_of k old
  pub one_idle : (is_work_waiting (standing_of one old) ≡ false) ⊎ (is_ready (standing_of one new) ≡ false)

unready : (old new : LedgerState) (one work : ℕ) → Unready old new one
    → is_work_waiting (standing_of work old) ≡ true → is_ready (standing_of work new) ≡ true → ⊥
unready old new one work change waits ready = elim (cases_Bool (work == one)) [
  | inl here ↦
      let same = eqb-true work one here in
      let waits_one : is_work_waiting (standing_of one old) ≡ true = ap (λ w. is_work_waiting (standing_of w old)) (sym same) ∙ waits in
      let ready_one : is_ready (standing_of one new) ≡ true = ap (λ w. is_ready (standing_of w new)) (sym same) ∙ ready in
      elim change.one_idle [ inl idle ↦ cc | inr idle ↦ cc ]
  | inr there ↦
      both (standing_of work old) waits
      (ap is_ready (sym (change.others work (eqb-false work one there))) ∙ ready)
]

queued_others : (work delay job arg : ℕ) (ledger : LedgerState) (k : ℕ) → k ≢ work
    → standing_of k (ledger_queued work delay job arg ledger) ≡ standing_of k ledger
queued_others work delay job arg ledger k apart =
    let by : Bool → LedgerState = λ b. if b then accepted_ready work job arg ledger else accepted_waiting work ledger in
    elim (cases_Bool (delay == 0)) [
      | inl is ↦ subst (λ b. standing_of k (by b) ≡ standing_of k ledger) (sym is)
          (let new = accepted_ready work job arg ledger in other ledger work (Ready (length ledger.story) job arg) new.ready new.story k apart)
      | inr is ↦ subst (λ b. standing_of k (by b) ≡ standing_of k ledger) (sym is)
          (let new = accepted_waiting work ledger in other ledger work (Waiting (length ledger.story)) new.ready new.story k apart)
    ]

ended_others : (standing : Standing) (work : ℕ) (end : _) (ledger : LedgerState) (k : ℕ) → k ≢ work
    → standing_of k (ended_from standing work end ledger) ≡ standing_of k ledger
ended_others Free work end ledger k apart = refl
ended_others (Waiting number) work end ledger k apart =
    let new = ended_from (Waiting number) work end ledger in other ledger work Free new.ready new.story k apart
ended_others (Ready number job arg) work end ledger k apart =
    let new = ended_from (Ready number job arg) work end ledger in other ledger work Free new.ready new.story k apart

come_others : (standing : Standing) (work job arg : ℕ) (ledger : LedgerState) (k : ℕ) → k ≢ work
    → standing_of k (ready_from standing work job arg ledger) ≡ standing_of k ledger
come_others Free work job arg ledger k apart = refl
come_others (Waiting number) work job arg ledger k apart =
    let new = ready_from (Waiting number) work job arg ledger in
    other ledger work (Ready number job arg) new.ready new.story k apart
come_others (Ready number j a) work job arg ledger k apart = refl

-- a queued timer of a work is due
abbrev pub IsOut : (now work : ℕ) → CpuBases → Type 0
IsOut now work bases =
    (item : Item) × (item_of work (queue_of bases) ≡ Some item) × (item.wheel ≤ now)

came_out : (most now : ℕ) (bases : CpuBases) (ledger : LedgerState) (work count : ℕ)
    → now < TIME_LIMIT - 1 → IsConsistent bases → length (queue_of bases) ≤ most
    → Fits (queue_of bases) ledger count → is_work_waiting (standing_of work ledger) ≡ true
    → is_ready (standing_of work (all_ready (items_out most now bases) ledger)) ≡ true
    → IsOut now work bases
came_out zero now bases ledger work count in_time consistent few fits waits ready =
    absurd (both (standing_of work ledger) waits ready)
came_out (suc most) now bases ledger work count in_time consistent few fits waits ready =
    elim (or_item (next_out now (base_of Global bases))) [
      | inl none ↦ absurd (both (standing_of work ledger) waits
          (ap (λ items. is_ready (standing_of work (all_ready items ledger))) (sym (out_none (suc most) now bases none)) ∙ ready))
      | inr there ↦
          let item = there.0 in
          let queued = out_queued now bases item consistent there.1 in
          let due = (subst (OutIsDue now (queue_of bases)) there.1
          (due_out now (base_of Global bases) (consistent.fits Global).sound)).due in
          elim (cases_Bool (work == item.id)) [
            | inl here ↦
                let same = eqb-true work item.id here in
                (item, ap (λ w. item_of w (queue_of bases)) same ∙ queued, due)
            | inr away ↦
                let apart = eqb-false work item.id away in
                let next = come_ready item.id item.job item.arg ledger in
                let still : standing_of work next ≡ standing_of work ledger =
                come_others (standing_of item.id ledger) item.id item.job item.arg ledger work apart in
                let fewer = one_fewer now Global first_cpu bases item consistent there.1 in
                let moved = subst (λ items. Fits items next count) (sym (queue_less now bases item there.1))
                (come_fits bases ledger item count consistent fits queued) in
                let (found, is, late) = came_out most now (one_out now bases) next work count in_time
                (handing_out_keeps now Global first_cpu bases in_time consistent).0 (omega arith) moved
                (ap is_work_waiting still ∙ waits)
                (ap (λ items. is_ready (standing_of work (all_ready items ledger))) (sym (out_some most now bases item there.1)) ∙ ready) in (
                  found,
                  sym (item_of-without work item.id (queue_of bases) apart)
                      ∙ ap (item_of work) (sym (queue_less now bases item there.1)) ∙ is,
                  late,
                )
          ]
    ]

again_others : (reply : JobReply) (now work job arg : ℕ) (works : WorksState) (k : ℕ) → k ≢ work
    → standing_of k (queued_again reply now work job arg works).ledger ≡ standing_of k works.ledger
again_others Done now work job arg works k apart = refl
again_others (Mark m) now work job arg works k apart = refl
again_others (Again class delay) now work job arg works k apart =
    queued_others work delay job arg works.ledger k apart

queue_unready : (standing : Standing) (now work delay job arg line k : ℕ) (works : WorksState)
    → standing_of work works.ledger ≡ standing
    → is_work_waiting (standing_of k works.ledger) ≡ true
    → is_ready (standing_of k (work_queued_from standing now work delay job arg line works).ledger) ≡ true → ⊥
queue_unready Free now work delay job arg line k works is waits ready =
    unready works.ledger (ledger_queued work delay job arg works.ledger) work k (record {
      others = queued_others work delay job arg works.ledger;
      one_idle = inl (ap is_work_waiting is);
    }) waits ready
queue_unready (Waiting number) now work delay job arg line k works is waits ready =
    both (standing_of k works.ledger) waits ready
queue_unready (Ready number j a) now work delay job arg line k works is waits ready =
    both (standing_of k works.ledger) waits ready

cancel_unready : (standing : Standing) (now work line k : ℕ) (works : WorksState)
    → work < length works.ledger.standings → standing_of work works.ledger ≡ standing
    → is_work_waiting (standing_of k works.ledger) ≡ true
    → is_ready (standing_of k (cancelled_from standing now work line works).ledger) ≡ true → ⊥
cancel_unready Free now work line k works within is waits ready =
    both (standing_of k works.ledger) waits ready
cancel_unready (Waiting number) now work line k works within is waits ready =
    let new = ended_from (Waiting number) work ends.Cancelled works.ledger in
    let as_new : is_ready (standing_of k new) ≡ true = subst (λ s. is_ready (standing_of k (ended_from s work ends.Cancelled works.ledger)) ≡ true) is ready in
    unready works.ledger new work k (record {
      others = ended_others (Waiting number) work ends.Cancelled works.ledger;
      one_idle = inr (ap is_ready (own works.ledger work Free new.ready new.story within));
    }) waits as_new
cancel_unready (Ready number job arg) now work line k works within is waits ready =
    let new = ended_from (Ready number job arg) work ends.Cancelled works.ledger in
    let as_new : is_ready (standing_of k new) ≡ true = subst (λ s. is_ready (standing_of k (ended_from s work ends.Cancelled works.ledger)) ≡ true) is ready in
    unready works.ledger new work k (record {
      others = ended_others (Ready number job arg) work ends.Cancelled works.ledger;
      one_idle = inl (ap is_work_waiting is);
    }) waits as_new

run_unready : (standing : Standing) (replies : WorkReplies) (now work k : ℕ) (works : WorksState)
    → standing_of work works.ledger ≡ standing
    → is_work_waiting (standing_of k works.ledger) ≡ true
    → is_ready (standing_of k (ran_from standing work replies now works).ledger) ≡ true → ⊥
run_unready Free replies now work k works is waits ready = both (standing_of k works.ledger) waits ready
run_unready (Waiting number) replies now work k works is waits ready =
    both (standing_of k works.ledger) waits ready
run_unready (Ready number job arg) replies now work k works is waits ready =
    let reply = replies job (work_call_of work arg now) in
    let over : WorksState = record { bases = works.bases; ledger = work_ended work ends.Ran works.ledger; time = now } in
    unready works.ledger (queued_again reply now work job arg over).ledger work k (record {
      others = λ j apart. again_others reply now work job arg over j apart
          ∙ ended_others (standing_of work works.ledger) work ends.Ran works.ledger j apart;
      one_idle = inl (ap is_work_waiting is);
    }) waits ready

first_unready : (found : Option ℕ) (replies : WorkReplies) (now k : ℕ) (works : WorksState)
    → is_work_waiting (standing_of k works.ledger) ≡ true
    → is_ready (standing_of k (ran_first found replies now works).ledger) ≡ true → ⊥
first_unready None replies now k works waits ready = both (standing_of k works.ledger) waits ready
first_unready (Some work) replies now k works waits ready =
    run_unready (standing_of work works.ledger) replies now work k works refl waits ready

pub made_not_early : (replies : WorkReplies) (call : WorksCall) (works : WorksState) (work : ℕ)
    → AreLawfulWorks works → MayMakeCall call works → is_work_waiting (standing_of work works.ledger) ≡ true
    → is_ready (standing_of work (works_after_call replies call works).ledger) ≡ true → WentOut call works work
made_not_early replies (Queue now one delay job arg line) works work lawful may waits ready =
    absurd (queue_unready (standing_of one works.ledger) now one delay job arg line work works refl waits ready)
made_not_early replies (Cancel now one line) works work lawful may waits ready =
    absurd (cancel_unready (standing_of one works.ledger) now one line work works may.names refl waits ready)
made_not_early replies (Expire now) works work lawful may waits ready =
    let in_time = may.in_time in
    let early : now < TIME_LIMIT - 1 = omega arith in
    let (item, queued, due) = came_out (length (queue_of works.bases)) now works.bases works.ledger work
    (length works.ledger.standings) early lawful.consistent (omega arith)
    (record { sound = lawful.sound; waits = lawful.waiting; count_is = refl }) waits ready in
    record { now = now; expires = refl; item = item; queued = queued; due = due }
made_not_early replies (RunNext now) works work lawful may waits ready =
    absurd (first_unready (first_key works.ledger.ready) replies now work works waits ready)
