-- works stay lawful through each call
use Rattle.std.proofs.Common.{◌≡◌, ◌≢◌, ℕ, ◌+◌, ◌-◌, ◌^◌, ◌<◌, ◌≤◌, Bool, false, []}
use Rattle.std.proofs.Common.{Option, Some, None, length, refl, sym, ap, ◌∙◌, subst, inl, inr}
use Rattle.std.proofs.Common.{arith, get_or}
use Rattle.std.specs.Prelude.{◌==◌, All, is_some, option_map, if◌then◌else◌}
use Rattle.std.proofs.lemmas.Bool.{cases_Bool}
use Rattle.std.proofs.lemmas.List.{length-set}
use Rattle.std.proofs.lemmas.Option.{slice_get-get_or}
use Rattle.tm_base.specs.declared.limits.TheConstants.{MOST_TIMERS}
use Rattle.tm_base.specs.declared.names.TheConstants.{TIME_LIMIT}
use Rattle.tm_base.specs.declared.names.Class.{Class}
use Rattle.tm_base.specs.declared.names.Class.TheVariants.{Pinned, Global, Deferrable}
use Rattle.wheel_core.specs.declared.item.Item.{Item}
use Rattle.wheel_core.specs.PlainBase.{NoneDue, item_of, without}
use Rattle.wheel_core.proofs.Ids.{item_there}
use Rattle.wheel_core.proofs.Rooms.{no_more}
use Rattle.key_lists.specs.Tables.{first_key}
use Rattle.cpu_bases.specs.CpuBases.{CpuBases, after_cancel, armed, base_of, cancelled}
use Rattle.cpu_bases.specs.CpuBases.{class_in, found_in, found_or, item_queued}
use Rattle.cpu_bases.proofs.Drains.{drain_is_whole}
use Rattle.cpu_bases.proofs.Keeping.{arming_keeps, cancelling_keeps}
use Rattle.cpu_bases.proofs.Keyed.{found_key}
use Rattle.cpu_bases.proofs.Queued.{queued_once}
use Rattle.delayed_work.specs.declared.standing.Standing.{Standing}
use Rattle.delayed_work.specs.declared.standing.Standing.TheVariants.{Free, Waiting, Ready}
use Rattle.delayed_work.specs.declared.standing.End.{End}
use Rattle.delayed_work.specs.declared.standing.End.TheVariants.{Pending, Cancelled, Ran}
use Rattle.delayed_work.specs.Ledger.{LedgerState, accepted_ready, accepted_waiting, work_ended}
use Rattle.delayed_work.specs.Ledger.{ended_from, is_work_waiting, standing_of}
use Rattle.delayed_work.specs.Works.{AreLawfulWorks, WorksState, accepted, expired, first_cpu}
use Rattle.delayed_work.proofs.Sound.{accepted_ready_sound, accepted_waiting_sound, ended_sound}
use Rattle.delayed_work.proofs.Sound.{ready_within}
use Rattle.delayed_work.proofs.Lists.{first_holds}
use Rattle.delayed_work.proofs.Waits.{changes_at, none_of, some_of, waits_kept, waits_pushed}
use Rattle.delayed_work.proofs.Waits.{waits_taken, waits_within}
use Rattle.delayed_work.proofs.Expiry.{drain_fits, queue_of}

-- the premises of a call at a time
pub record MayCall (now work : ℕ) (works : WorksState) : Type 0 where
  pub lawful : AreLawfulWorks works
  pub in_time : now ≤ TIME_LIMIT - 2 ^ 32
  pub not_before : works.time ≤ now
  pub within : work < length works.ledger.standings

-- no timer is queued for a work that doesn't wait
pub not_queued : (works : WorksState) (work : ℕ) → AreLawfulWorks works
    → is_work_waiting (standing_of work works.ledger) ≡ false → class_in work works.bases ≡ None
not_queued works work lawful idle =
    let p : item_of work (base_of Pinned works.bases).items ≡ None = ap (item_of work) lawful.none_pinned in
    let g = none_of (item_of work (queue_of works.bases)) (lawful.waiting work ∙ idle) in
    let d : item_of work (base_of Deferrable works.bases).items ≡ None = ap (item_of work) lawful.none_deferrable in
    λ i. option_map (λ found. found.0) (found_or Pinned (p i) (found_or Global (g i) (found_or Deferrable (d i) None)))

-- a free work becomes ready at once
pub ready_lawful : (now work job arg : ℕ) (works : WorksState) → MayCall now work works
    → standing_of work works.ledger ≡ Free
    → AreLawfulWorks (record { bases = works.bases; ledger = accepted_ready work job arg works.ledger; time = now })
ready_lawful now work job arg works may free =
    let old = may.lawful in
    let not_before = may.not_before in
    let ahead = old.not_ahead in
    let new = accepted_ready work job arg works.ledger in
    record {
      sound = accepted_ready_sound works.ledger work job arg may.within free old.sound;
      few = rw length-set old.few;
      waiting = waits_kept (queue_of works.bases) works.ledger new work (Ready (length works.ledger.story) job arg)
          old.waiting (ap is_work_waiting free)
          (changes_at works.ledger work (Ready (length works.ledger.story) job arg) new.ready new.story may.within);
      none_pinned = old.none_pinned;
      none_deferrable = old.none_deferrable;
      none_behind = old.none_behind;
      not_ahead = omega arith;
      consistent = old.consistent;
    }

-- or it waits
pub waiting_lawful : (now work delay job arg line : ℕ) (works : WorksState) → MayCall now work works
    → work < 2 ^ 16 → delay < 2 ^ 32 → standing_of work works.ledger ≡ Free
    → AreLawfulWorks (record {
      bases = armed now Global work (now + delay) job arg line first_cpu works.bases;
      ledger = accepted_waiting work works.ledger;
      time = now;
    })
waiting_lawful now work delay job arg line works may fits short free =
    let old = may.lawful in
    let in_time = may.in_time in
    let not_before = may.not_before in
    let ahead = old.not_ahead in
    let (consistent, keeps) = arming_keeps now Global work (now + delay) job arg line first_cpu works.bases old.consistent (record {
      now_in_time = omega arith;
      expires_in_time = omega arith;
      timer_fits = fits;
      not_queued = not_queued works work old (ap is_work_waiting free);
      none_behind = old.none_behind;
    }) in
    let item = item_queued now Global work (now + delay) job arg works.bases in
    let new = accepted_waiting work works.ledger in
    record {
      sound = accepted_waiting_sound works.ledger work may.within free old.sound;
      few = rw length-set old.few;
      waiting = waits_pushed (queue_of works.bases) works.ledger new item (length works.ledger.story)
          old.waiting (ap is_work_waiting free)
          (changes_at works.ledger work (Waiting (length works.ledger.story)) new.ready new.story may.within);
      none_pinned = old.none_pinned;
      none_deferrable = old.none_deferrable;
      none_behind = keeps.none_behind Global old.none_behind;
      not_ahead = keeps.not_ahead Global (omega arith);
      consistent = consistent;
    }

pub accepted_lawful : (now work delay job arg line : ℕ) (works : WorksState) → MayCall now work works
    → work < 2 ^ 16 → delay < 2 ^ 32 → standing_of work works.ledger ≡ Free
    → AreLawfulWorks (accepted now work delay job arg line works)
accepted_lawful now work delay job arg line works may fits short free =
    let by : Bool → WorksState = λ now_ready. record {
      bases = if now_ready then works.bases else armed now Global work (now + delay) job arg line first_cpu works.bases;
      ledger = if now_ready then accepted_ready work job arg works.ledger else accepted_waiting work works.ledger;
      time = now;
    } in
    elim (cases_Bool (delay == 0)) [
      | inl is ↦ subst (λ b. AreLawfulWorks (by b)) (sym is) (ready_lawful now work job arg works may free)
      | inr is ↦ subst (λ b. AreLawfulWorks (by b)) (sym is) (waiting_lawful now work delay job arg line works may fits short free)
    ]

-- a ready work ends
pub ended_lawful : (now work number job arg : ℕ) (end : End) (works : WorksState) → MayCall now work works
    → end ≢ Pending → standing_of work works.ledger ≡ Ready number job arg
    → AreLawfulWorks (record { bases = works.bases; ledger = work_ended work end works.ledger; time = now })
ended_lawful now work number job arg end works may over is =
    let old = may.lawful in
    let not_before = may.not_before in
    let ahead = old.not_ahead in
    let new = ended_from (Ready number job arg) work end works.ledger in
    let whole : AreLawfulWorks (record { bases = works.bases; ledger = new; time = now }) = record {
      sound = ended_sound works.ledger work end (Ready number job arg) may.within over is old.sound;
      few = rw length-set old.few;
      waiting = waits_kept (queue_of works.bases) works.ledger new work Free old.waiting (ap is_work_waiting is)
          (changes_at works.ledger work Free new.ready new.story may.within);
      none_pinned = old.none_pinned;
      none_deferrable = old.none_deferrable;
      none_behind = old.none_behind;
      not_ahead = omega arith;
      consistent = old.consistent;
    } in
    subst (λ standing. AreLawfulWorks (record { bases = works.bases; ledger = ended_from standing work end works.ledger; time = now }))
    (sym is) whole

-- the timer of a waiting work is in the global base alone
pub found_waiting : (works : WorksState) (work number : ℕ) → AreLawfulWorks works
    → standing_of work works.ledger ≡ Waiting number
    → (item : Item) × (found_in work works.bases ≡ Some (Global, item)) × (item.id ≡ work)
found_waiting works work number lawful is =
    let (item, there) = some_of (item_of work (queue_of works.bases)) (lawful.waiting work ∙ ap is_work_waiting is) in (
      item,
      queued_once works.bases work Global item lawful.consistent there,
      found_key (λ (i : Item). i.id) work (queue_of works.bases) item there,
    )

-- a waiting work is cancelled
pub cancelled_lawful : (now work line number : ℕ) (works : WorksState) → MayCall now work works
    → standing_of work works.ledger ≡ Waiting number
    → AreLawfulWorks (record {
      bases = cancelled now work line first_cpu works.bases;
      ledger = work_ended work Cancelled works.ledger;
      time = now;
    })
cancelled_lawful now work line number works may is =
    let old = may.lawful in
    let not_before = may.not_before in
    let ahead = old.not_ahead in
    let (consistent, keeps) = cancelling_keeps now work line first_cpu works.bases old.consistent in
    let (item, found, same) = found_waiting works work number old is in
    let after : Option (Class × Item) → CpuBases = λ o. after_cancel o now line first_cpu works.bases in
    let pinned : (base_of Pinned (cancelled now work line first_cpu works.bases)).items ≡ [] =
    ap (λ o. (base_of Pinned (after o)).items) found ∙ old.none_pinned in
    let deferrable : (base_of Deferrable (cancelled now work line first_cpu works.bases)).items ≡ [] =
    ap (λ o. (base_of Deferrable (after o)).items) found ∙ old.none_deferrable in
    let queue : queue_of (cancelled now work line first_cpu works.bases) ≡ without work (queue_of works.bases) =
    ap (λ o. queue_of (after o)) found ∙ ap (λ id. without id (queue_of works.bases)) same in
    let new = ended_from (Waiting number) work Cancelled works.ledger in
    let whole : AreLawfulWorks (record { bases = cancelled now work line first_cpu works.bases; ledger = new; time = now }) = record {
      sound = ended_sound works.ledger work Cancelled (Waiting number) may.within (λ same. cc) is old.sound;
      few = rw length-set old.few;
      waiting = rw queue (waits_taken (queue_of works.bases) works.ledger new work Free
          (old.consistent.fits Global).sound.distinct old.waiting refl
          (changes_at works.ledger work Free new.ready new.story may.within));
      none_pinned = pinned;
      none_deferrable = deferrable;
      none_behind = keeps.none_behind Global old.none_behind;
      not_ahead = keeps.not_ahead Global (omega arith);
      consistent = consistent;
    } in
    subst (λ standing. AreLawfulWorks (record {
      bases = cancelled now work line first_cpu works.bases;
      ledger = ended_from standing work Cancelled works.ledger;
      time = now;
    })) (sym is) whole

-- expiry
pub expired_lawful : (now : ℕ) (works : WorksState) → AreLawfulWorks works → now ≤ TIME_LIMIT - 2 ^ 32
    → works.time ≤ now → AreLawfulWorks (expired now works)
expired_lawful now works old in_time not_before =
    let ahead = old.not_ahead in
    let most = length (queue_of works.bases) in
    let early : now < TIME_LIMIT - 1 = omega arith in
    let drains = drain_is_whole most now Global first_cpu works.bases early old.consistent (omega arith) in
    let near : (base_of Global works.bases).clock ≤ now + 1 = omega arith in
    let fits = drain_fits most now works.bases works.ledger (length works.ledger.standings) early old.consistent
    (omega arith) (record { sound = old.sound; waits = old.waiting; count_is = refl }) in
    record {
      sound = fits.sound;
      few = rw fits.count_is old.few;
      waiting = fits.waits;
      none_pinned = ap (λ base. base.items) (drains.hands_out.others Pinned refl) ∙ old.none_pinned;
      none_deferrable = ap (λ base. base.items) (drains.hands_out.others Deferrable refl) ∙ old.none_deferrable;
      none_behind = drains.none_behind near;
      not_ahead = drains.hands_out.not_ahead Global near;
      consistent = drains.consistent;
    }

pub expired_none_due : (now : ℕ) (works : WorksState) → AreLawfulWorks works → now ≤ TIME_LIMIT - 2 ^ 32
    → NoneDue now (queue_of (expired now works).bases)
expired_none_due now works old in_time =
    (drain_is_whole (length (queue_of works.bases)) now Global first_cpu works.bases (omega arith) old.consistent
    (omega arith)).none_due

-- works that are as lawful ones are lawful
pub lawful_as : (bases : CpuBases) (ledger : LedgerState) (works : WorksState) (time : ℕ)
    → AreLawfulWorks works → bases ≡ works.bases → ledger ≡ works.ledger → time ≡ works.time
    → AreLawfulWorks (record { bases = bases; ledger = ledger; time = time })
lawful_as bases ledger works time lawful is_bases is_ledger is_time =
    rw (is_bases, is_ledger, is_time) lawful

-- the items of the works are of works that there are
pub items_within : (works : WorksState) → AreLawfulWorks works
    → All (λ item. item.id < length works.ledger.standings) (queue_of works.bases)
items_within works lawful k d low =
    let items = queue_of works.bases in
    let item = get_or items k d in
    let there = item_there items k item (lawful.consistent.fits Global).sound.distinct
    (slice_get-get_or items k d low) in
    waits_within works.ledger item.id (sym (lawful.waiting item.id) ∙ ap is_some there)

-- and there are at most as many as there are works
pub few_items : (works : WorksState) → AreLawfulWorks works → length (queue_of works.bases) ≤ MOST_TIMERS
few_items works lawful =
    let bound = no_more (length works.ledger.standings) (queue_of works.bases)
    (lawful.consistent.fits Global).sound.distinct (items_within works lawful) in
    let few = lawful.few in
    omega arith

-- the first ready work is one of the works
pub first_within : (works : WorksState) (work : ℕ) (found : Option ℕ) → AreLawfulWorks works
    → found ≡ first_key works.ledger.ready → found ≡ Some work
    → work < length works.ledger.standings
first_within works work found lawful is some =
    ready_within works.ledger work lawful.sound (first_holds work works.ledger.ready (sym is ∙ some))

-- a ready work that ended is free
pub ended_free : (ledger : LedgerState) (work number job arg : ℕ) (end : End)
    → work < length ledger.standings → standing_of work ledger ≡ Ready number job arg
    → (standing_of work (work_ended work end ledger) ≡ Free)
    × (length (work_ended work end ledger).standings ≡ length ledger.standings)
ended_free ledger work number job arg end within is =
    let new = ended_from (Ready number job arg) work end ledger in
    let P : Standing → Type 0 = λ standing. (standing_of work (ended_from standing work end ledger) ≡ Free)
    × (length (ended_from standing work end ledger).standings ≡ length ledger.standings) in
    subst P (sym is)
    ((changes_at ledger work Free new.ready new.story within).own_is, length-set ledger.standings work Free)

-- a ready work ends and is accepted again
pub again_lawful : (now work number delay job arg line : ℕ) (works : WorksState) → MayCall now work works
    → work < 2 ^ 16 → delay < 2 ^ 32 → standing_of work works.ledger ≡ Ready number job arg
    → AreLawfulWorks (accepted now work delay job arg line
    (record { bases = works.bases; ledger = work_ended work Ran works.ledger; time = now }))
again_lawful now work number delay job arg line works may fits short is =
    let after = ended_free works.ledger work number job arg Ran may.within is in
    let in_time = may.in_time in let within = may.within in
    accepted_lawful now work delay job arg line
    (record { bases = works.bases; ledger = work_ended work Ran works.ledger; time = now })
    (record {
      lawful = ended_lawful now work number job arg Ran works may (λ same. cc) is;
      in_time = in_time;
      not_before = omega arith;
      within = rw after.1 within;
    }) fits short after.0
