-- what each call writes into the story
use Rattle.std.proofs.Common.{◌≡◌, ◌≢◌, ℕ, ◌+◌, Bool, true, List, []}
use Rattle.std.proofs.Common.{◌∷◌, ◌++◌, Option, Some, None, length, refl, sym, ap, ◌∙◌, subst}
use Rattle.std.proofs.Common.{◌⊎◌, inl, inr, arith, length-append}
use Rattle.std.specs.Prelude.{◌==◌, slice_set, option_map, if◌then◌else◌}
use Rattle.std.specs.List.{slice_get}
use Rattle.std.proofs.lemmas.Bool.{cases_Bool}
use Rattle.std.proofs.lemmas.List.{length-set}
use Rattle.std.proofs.lemmas.Option.{none-some, same_Some, slice_get_within}
use Rattle.wheel_core.specs.declared.item.Item.{Item}
use Rattle.job_table.specs.declared.jobs.JobReply.{JobReply}
use Rattle.job_table.specs.declared.jobs.JobReply.TheVariants.{Done, Mark, Again}
use Rattle.key_lists.specs.Tables.{first_key}
use Rattle.delayed_work.specs.declared.calls.WorksCall.{WorksCall}
use Rattle.delayed_work.specs.declared.calls.WorksCall.TheVariants.{Queue, Cancel, Expire, RunNext}
use Rattle.delayed_work.specs.declared.standing.Standing.{Standing}
use Rattle.delayed_work.specs.declared.standing.Standing.TheVariants.{Free, Waiting, Ready}
use Rattle.delayed_work.specs.declared.standing.End.{End}
use Rattle.delayed_work.specs.declared.standing.End.TheVariants.{Pending, Cancelled, Ran}
use Rattle.delayed_work.specs.declared.standing.Placed.TheVariants as placing
use Rattle.delayed_work.specs.Ledger.{IsLedgerSound, LedgerState, WorkTold, accepted_ready, accepted_waiting}
use Rattle.delayed_work.specs.Ledger.{come_ready, work_ended, ended_from, is_ready, work_number_in, ready_from}
use Rattle.delayed_work.specs.Ledger.{standing_of}
use Rattle.delayed_work.specs.Works.{Run, WorksState, all_ready, work_call_of, cancelled_from}
use Rattle.delayed_work.specs.Works.{items_out, ledger_queued, queue_answer_again, queue_answer_free}
use Rattle.delayed_work.specs.Works.{queue_answer_from, queued_again, work_queued_from, ran_first, ran_from}
use Rattle.delayed_work.specs.Works.{told_first, told_from, told_run}
use Rattle.delayed_work.specs.Calls.{WorkReplies, accepts, works_after_call, first_run, numbered_run, one_if_accepted}
use Rattle.delayed_work.specs.Calls.{one_if_again, one_if_run, runs}
use Rattle.cpu_bases.specs.CpuBases.{CpuBases, item_queued}
use Rattle.tm_base.specs.declared.names.Class.TheVariants.{Global}
use Rattle.delayed_work.proofs.Places.{get_push_is, get_push_old, get_set_is, get_set_other}
use Rattle.delayed_work.proofs.Places.{get_set_same}
use Rattle.delayed_work.proofs.Making.{first_is_ready}

-- what a call makes of the story: ends stay, only what it runs comes to have run, and so many
-- entries are new
pub record Tells (old new : List WorkTold) (run : Option (ℕ × ℕ)) (more : ℕ) : Type 0 where
  pub keeps : (n : ℕ) (told : WorkTold) → slice_get old n ≡ Some told → told.2 ≢ Pending
      → slice_get new n ≡ Some told
  pub ran_is : (n : ℕ) (told : WorkTold) → slice_get new n ≡ Some told → told.2 ≡ Ran
      → (slice_get old n ≡ Some told) ⊎ (run ≡ Some (n, told.1))
  pub runs_it : (n work : ℕ) → run ≡ Some (n, work) → slice_get new n ≡ Some (n, work, Ran)
  pub counts : length new ≡ length old + more

tells_same : (story : List WorkTold) → Tells story story None 0
tells_same story = record {
  keeps = λ n told is _. is;
  ran_is = λ n told is _. inl is;
  runs_it = λ n work is. absurd (none-some (n, work) is);
  counts = omega arith;
}

tells_accept : (story : List WorkTold) (entry : WorkTold) → entry.2 ≡ Pending
    → Tells story (story ++ entry ∷ []) None 1
tells_accept story entry pending_is = record {
  keeps = λ n told is _. get_push_old story n entry told is;
  ran_is = λ n told is ran. elim (get_push_is story n entry told is) [
    | inl old ↦ inl old
    | inr new ↦ absurd (let same = ap (λ (t : WorkTold). t.2) new.1 in cc)
  ];
  runs_it = λ n work is. absurd (none-some (n, work) is);
  counts = length-append story (entry ∷ []);
}

-- the entry of a queueing that was pending gets its end
abbrev run_by : End → (number work : ℕ) → Option (ℕ × ℕ)
run_by Ran number work = Some (number, work)
run_by Cancelled number work = None
run_by Pending number work = None

tells_cancel : (story : List WorkTold) (number work : ℕ)
    → slice_get story number ≡ Some (number, work, Pending)
    → Tells story (slice_set story number (number, work, Cancelled)) None 0
tells_cancel story number work pending_is = record {
  keeps = λ n told is over.
      let apart : n ≢ number = λ same. over (ap (λ (t : WorkTold). t.2)
      (same_Some told (number, work, Pending) (sym is ∙ ap (λ m. slice_get story m) same ∙ pending_is))) in
      get_set_other story number n (number, work, Cancelled) apart ∙ is;
  ran_is = λ n told is ran. elim (get_set_is story number n (number, work, Cancelled) told is) [
    | inl old ↦ inl old.1
    | inr new ↦ absurd (let same = ap (λ (t : WorkTold). t.2) new.1 in cc)
  ];
  runs_it = λ n w is. absurd (none-some (n, w) is);
  counts = length-set story number (number, work, Cancelled) ∙ omega arith;
}

tells_run : (story : List WorkTold) (number work : ℕ)
    → slice_get story number ≡ Some (number, work, Pending)
    → Tells story (slice_set story number (number, work, Ran)) (Some (number, work)) 0
tells_run story number work pending_is = record {
  keeps = λ n told is over.
      let apart : n ≢ number = λ same. over (ap (λ (t : WorkTold). t.2)
      (same_Some told (number, work, Pending) (sym is ∙ ap (λ m. slice_get story m) same ∙ pending_is))) in
      get_set_other story number n (number, work, Ran) apart ∙ is;
  ran_is = λ n told is ran. elim (get_set_is story number n (number, work, Ran) told is) [
    | inl old ↦ inl old.1
    | inr new ↦ inr (ap Some (λ i. (sym new.0 i, (sym new.1 i).1)))
  ];
  runs_it = λ n w is.
      let same = same_Some (number, work) (n, w) is in
      subst (λ (p : ℕ × ℕ). slice_get (slice_set story number (number, work, Ran)) p.0 ≡ Some (p.0, p.1, Ran)) same
      (get_set_same story number (number, work, Ran) (slice_get_within story number _ pending_is));
  counts = length-set story number (number, work, Ran) ∙ omega arith;
}

tells_then : (old next new : List WorkTold) (run : Option (ℕ × ℕ)) (more last : ℕ)
    → Tells old next run more → Tells next new None last → Tells old new run (more + last)
tells_then old next new run more last one two = record {
  keeps = λ n told is over. two.keeps n told (one.keeps n told is over) over;
  ran_is = λ n told is ran. elim (two.ran_is n told is ran) [
    | inl there ↦ one.ran_is n told there ran
    | inr none ↦ absurd (none-some (n, told.1) none)
  ];
  runs_it = λ n work is. two.keeps n (n, work, Ran) (one.runs_it n work is) (λ same. cc);
  counts = let a = one.counts in let b = two.counts in omega arith;
}

-- accepting a queueing
queued_story : (work delay job arg : ℕ) (ledger : LedgerState)
    → (ledger_queued work delay job arg ledger).story
    ≡ ledger.story ++ (length ledger.story, work, Pending) ∷ []
queued_story work delay job arg ledger =
    let by : Bool → LedgerState = λ b. if b then accepted_ready work job arg ledger else accepted_waiting work ledger in
    let P : Bool → Type 0 = λ b. (by b).story ≡ ledger.story ++ (length ledger.story, work, Pending) ∷ [] in
    elim (cases_Bool (delay == 0)) [ inl is ↦ subst P (sym is) refl | inr is ↦ subst P (sym is) refl ]

free_counts : (now work delay job arg : ℕ) (bases : CpuBases)
    → one_if_accepted (queue_answer_free now work delay job arg bases) ≡ 1
free_counts now work delay job arg bases =
    let P : Bool → Type 0 = λ b. one_if_accepted (if b then placing.Ready
    else placing.Waiting (item_queued now Global work (now + delay) job arg bases).wheel) ≡ 1 in
    elim (cases_Bool (delay == 0)) [ inl is ↦ subst P (sym is) refl | inr is ↦ subst P (sym is) refl ]

tells_queued : (now work delay job arg : ℕ) (ledger : LedgerState) (bases : CpuBases)
    → Tells ledger.story (ledger_queued work delay job arg ledger).story None
    (one_if_accepted (queue_answer_free now work delay job arg bases))
tells_queued now work delay job arg ledger bases =
    rw (queued_story work delay job arg ledger, free_counts now work delay job arg bases)
    (tells_accept ledger.story (length ledger.story, work, Pending) refl)

queue_tells : (standing : Standing) (now work delay job arg line : ℕ) (works : WorksState)
    → Tells works.ledger.story (work_queued_from standing now work delay job arg line works).ledger.story None
    (one_if_accepted (queue_answer_from standing now work delay job arg works.bases))
queue_tells Free now work delay job arg line works =
    tells_queued now work delay job arg works.ledger works.bases
queue_tells (Waiting number) now work delay job arg line works = tells_same works.ledger.story
queue_tells (Ready number j a) now work delay job arg line works = tells_same works.ledger.story

-- cancelling
cancel_tells : (standing : Standing) (now work line : ℕ) (works : WorksState) → IsLedgerSound works.ledger
    → standing_of work works.ledger ≡ standing
    → Tells works.ledger.story (cancelled_from standing now work line works).ledger.story None 0
cancel_tells Free now work line works sound is = tells_same works.ledger.story
cancel_tells (Waiting number) now work line works sound is =
    subst (λ s. Tells works.ledger.story (ended_from s work Cancelled works.ledger).story None 0) (sym is)
    (tells_cancel works.ledger.story number work (sound.numbered work number (ap work_number_in is)))
cancel_tells (Ready number job arg) now work line works sound is =
    subst (λ s. Tells works.ledger.story (ended_from s work Cancelled works.ledger).story None 0) (sym is)
    (tells_cancel works.ledger.story number work (sound.numbered work number (ap work_number_in is)))

-- expiry tells nothing
come_story : (standing : Standing) (work job arg : ℕ) (ledger : LedgerState)
    → (ready_from standing work job arg ledger).story ≡ ledger.story
come_story Free work job arg ledger = refl
come_story (Waiting number) work job arg ledger = refl
come_story (Ready number j a) work job arg ledger = refl

ready_story : (items : List Item) (ledger : LedgerState) → (all_ready items ledger).story ≡ ledger.story
ready_story [] ledger = refl
ready_story (item ∷ items) ledger =
    ready_story items (come_ready item.id item.job item.arg ledger)
    ∙ come_story (standing_of item.id ledger) item.id item.job item.arg ledger

-- running
again_tells : (reply : JobReply) (now work job arg : ℕ) (over : WorksState) (bases : CpuBases)
    → Tells over.ledger.story (queued_again reply now work job arg over).ledger.story None
    (one_if_again (queue_answer_again reply now work job arg bases))
again_tells Done now work job arg over bases = tells_same over.ledger.story
again_tells (Mark m) now work job arg over bases = tells_same over.ledger.story
again_tells (Again class delay) now work job arg over bases =
    tells_queued now work delay job arg over.ledger bases

run_tells : (standing : Standing) (replies : WorkReplies) (now work : ℕ) (works : WorksState)
    → IsLedgerSound works.ledger → standing_of work works.ledger ≡ standing → is_ready standing ≡ true
    → Tells works.ledger.story (ran_from standing work replies now works).ledger.story
    (numbered_run work (work_number_in standing)) (one_if_run (told_from standing work replies now works))
run_tells Free replies now work works sound is ready = absurd cc
run_tells (Waiting number) replies now work works sound is ready = absurd cc
run_tells (Ready number job arg) replies now work works sound is ready =
    let reply = replies job (work_call_of work arg now) in
    let over : WorksState = record { bases = works.bases; ledger = work_ended work Ran works.ledger; time = now } in
    let one : Tells works.ledger.story over.ledger.story (Some (number, work)) 0 =
    subst (λ s. Tells works.ledger.story (ended_from s work Ran works.ledger).story (Some (number, work)) 0) (sym is)
    (tells_run works.ledger.story number work (sound.numbered work number (ap work_number_in is))) in
    let two = again_tells reply now work job arg over works.bases in
    let k = one_if_again (queue_answer_again reply now work job arg works.bases) in
    let none : 0 + k ≡ k = omega arith in
    subst (λ m. Tells works.ledger.story (queued_again reply now work job arg over).ledger.story (Some (number, work)) m)
    none (tells_then works.ledger.story over.ledger.story _ (Some (number, work)) 0 k one two)

first_tells : (found : Option ℕ) (replies : WorkReplies) (now : ℕ) (works : WorksState)
    → IsLedgerSound works.ledger → first_key works.ledger.ready ≡ found
    → Tells works.ledger.story (ran_first found replies now works).ledger.story
    (first_run found works.ledger) (one_if_run (told_first found replies now works))
first_tells None replies now works sound is = tells_same works.ledger.story
first_tells (Some work) replies now works sound is =
    run_tells (standing_of work works.ledger) replies now work works sound refl
    (first_is_ready works.ledger work sound is)

pub made_tells : (replies : WorkReplies) (call : WorksCall) (works : WorksState) → IsLedgerSound works.ledger
    → Tells works.ledger.story (works_after_call replies call works).ledger.story (runs call works.ledger)
    (accepts replies call works)
made_tells replies (Queue now work delay job arg line) works sound =
    queue_tells (standing_of work works.ledger) now work delay job arg line works
made_tells replies (Cancel now work line) works sound =
    cancel_tells (standing_of work works.ledger) now work line works sound refl
made_tells replies (Expire now) works sound =
    rw (ready_story (items_out _ now works.bases) works.ledger) (tells_same works.ledger.story)
made_tells replies (RunNext now) works sound =
    first_tells (first_key works.ledger.ready) replies now works sound refl

-- what a call of `run_next` runs is what it answers
run_answers : (standing : Standing) (replies : WorkReplies) (now work : ℕ) (works : WorksState)
    → is_ready standing ≡ true
    → option_map (λ (run : Run). run.0) (told_from standing work replies now works)
    ≡ option_map (λ (run : ℕ × ℕ). run.1) (numbered_run work (work_number_in standing))
run_answers Free replies now work works ready = absurd cc
run_answers (Waiting number) replies now work works ready = absurd cc
run_answers (Ready number job arg) replies now work works ready = refl

first_answers : (found : Option ℕ) (replies : WorkReplies) (now : ℕ) (works : WorksState)
    → IsLedgerSound works.ledger → first_key works.ledger.ready ≡ found
    → option_map (λ (run : Run). run.0) (told_first found replies now works)
    ≡ option_map (λ (run : ℕ × ℕ). run.1) (first_run found works.ledger)
first_answers None replies now works sound is = refl
first_answers (Some work) replies now works sound is =
    run_answers (standing_of work works.ledger) replies now work works
    (first_is_ready works.ledger work sound is)

pub made_answers : (replies : WorkReplies) (now : ℕ) (works : WorksState) → IsLedgerSound works.ledger
    → option_map (λ (run : Run). run.0) (told_run replies now works)
    ≡ option_map (λ (run : ℕ × ℕ). run.1) (runs (RunNext now) works.ledger)
made_answers replies now works sound =
    first_answers (first_key works.ledger.ready) replies now works sound refl

-- what is run is pending
numbered_is : (work : ℕ) (number : Option ℕ) (n w : ℕ) → numbered_run work number ≡ Some (n, w)
    → (number ≡ Some n) × (work ≡ w)
numbered_is work None n w is = absurd (none-some (n, w) is)
numbered_is work (Some number) n w is =
    let same = same_Some (number, work) (n, w) is in
    (ap (λ (p : ℕ × ℕ). Some p.0) same, ap (λ (p : ℕ × ℕ). p.1) same)

first_pending : (found : Option ℕ) (ledger : LedgerState) (n work : ℕ)
    → first_run found ledger ≡ Some (n, work) → work_number_in (standing_of work ledger) ≡ Some n
first_pending None ledger n work is = absurd (none-some (n, work) is)
first_pending (Some first) ledger n work is =
    let (number, same) = numbered_is first (work_number_in (standing_of first ledger)) n work is in
    subst (λ w. work_number_in (standing_of w ledger) ≡ Some n) same number

pub runs_pending : (call : WorksCall) (ledger : LedgerState) (n work : ℕ)
    → runs call ledger ≡ Some (n, work) → work_number_in (standing_of work ledger) ≡ Some n
runs_pending (Queue now w delay job arg line) ledger n work is = absurd (none-some (n, work) is)
runs_pending (Cancel now w line) ledger n work is = absurd (none-some (n, work) is)
runs_pending (Expire now) ledger n work is = absurd (none-some (n, work) is)
runs_pending (RunNext now) ledger n work is = first_pending (first_key ledger.ready) ledger n work is
