-- for crates above: what each call keeps, of bases as plain data
use Rattle.std.proofs.Common.{◌≡◌, ℕ, ◌+◌, ◌-◌, ◌<◌, ◌≤◌, List, [], ◌∷◌}
use Rattle.std.proofs.Common.{◌++◌, Option, Some, None, refl, ap, subst, sym, ◌∙◌, arith}
use Rattle.std.proofs.Common.{◌⊎◌, inl, inr}
use Rattle.std.specs.Prelude.{◌==◌, IsSomeAnd, option_map}
use Rattle.std.proofs.lemmas.Bool.{cond-true, eq-eqb}
use Rattle.std.proofs.lemmas.Option.{none-some, same_Some, some_pair_parts}
use Rattle.tm_base.specs.declared.names.Class.{Class}
use Rattle.tm_base.specs.declared.names.Class.TheVariants.{Pinned, Global, Deferrable}
use Rattle.tm_base.specs.declared.names.CpuId.{CpuId}
use Rattle.tm_base.specs.declared.names.TheConstants.{TIME_LIMIT}
use Rattle.wheel_core.specs.declared.item.Item.{Item}
use Rattle.wheel_core.specs.PlainBase.{NoneBehind, OutIsDue}
use Rattle.wheel_core.specs.PlainBase.{added, after_out, forwarded, item_of, next_out, removed}
use Rattle.wheel_core.specs.PlainBase.{taken}
use Rattle.wheel_core.proofs.Plain.{clock-forwarded_le, clock-taken_le, due_out, none_behind_added}
use Rattle.wheel_core.proofs.Plain.{none_behind_forwarded, none_behind_none_due}
use Rattle.wheel_core.proofs.Plain.{none_behind_removed}
use Rattle.cpu_bases.specs.declared.entry.Act.{Act}
use Rattle.cpu_bases.specs.declared.entry.Act.TheVariants.{Armed, Handed, Cancelled, MovedOut}
use Rattle.cpu_bases.specs.declared.entry.Act.TheVariants.{MovedIn}
use Rattle.cpu_bases.specs.declared.entry.Entry.{Entry}
use Rattle.cpu_bases.specs.Journals.{EndsOne, HandedByRight, MayFollow}
use Rattle.cpu_bases.specs.Journals.{arming_of, ended, queued_after, queued_by}
use Rattle.cpu_bases.specs.Journals.{told_by_item}
use Rattle.cpu_bases.specs.CpuBases.{CpuBases, IsConsistent, NotAhead, after_cancel, after_hand_out}
use Rattle.cpu_bases.specs.CpuBases.{after_move_out, base_of, cancelled, changed, class_in}
use Rattle.cpu_bases.specs.CpuBases.{entry_of}
use Rattle.cpu_bases.specs.CpuBases.{found_in, found_or, handed_out, oldest_in, queued}
use Rattle.cpu_bases.specs.CpuBases.{ticked_entry, written}
use Rattle.cpu_bases.specs.Laws.{ArmingKeeps, CancellingKeeps}
use Rattle.cpu_bases.specs.Laws.{HandingOutKeeps}
use Rattle.cpu_bases.specs.Laws.{HandsOut, CallKeeps, MayQueue, MovingInKeeps, MovingOutKeeps}
use Rattle.cpu_bases.specs.Replay.{AddsReplay}
use Rattle.cpu_bases.proofs.Classes.{each_with, of_class-other, with_itself}
use Rattle.cpu_bases.proofs.Consistent.{keeps_gone, keeps_queued, keeps_ticked, queued_item}
use Rattle.cpu_bases.proofs.Keyed.{found_key, none_dropped}
use Rattle.cpu_bases.proofs.Legal.{distinct_from, ended_is, legal_push, queued_push}
use Rattle.cpu_bases.proofs.Replays.{adds_none}

-- QUEUEING, by an act that is an arming
queueing_keeps : (act : Act) (line at time : ℕ) (class : Class) (timer expires job arg : ℕ)
    (by : CpuId) (cpu : CpuBases)
    → ((queued : List Entry) (entry : Entry) → arming_of entry.timer.0 queued ≡ None
    → MayFollow act queued entry)
    → ((queued : List Entry) (entry : Entry)
    → queued_after act queued entry ≡ queued ++ entry ∷ [])
    → ((number : ℕ) (entry : Entry) → HandedByRight number act entry)
    → AddsReplay cpu (queued act line at time class timer expires job arg by cpu)
    → IsConsistent cpu → MayQueue at class timer expires cpu → time ≤ at + 1
    → let new = queued act line at time class timer expires job arg by cpu in
    IsConsistent new × CallKeeps at cpu new
queueing_keeps act line at time class timer expires job arg by cpu follows longer right replay
    consistent may near =
    let base = base_of class cpu in
    let new = queued act line at time class timer expires job arg by cpu in
    let in_time = may.now_in_time in
    let expires_fits = may.expires_in_time in
    let soon = clock-forwarded_le time base in
    let clock_fits = (consistent.fits class).clock in
    let clock : (forwarded time base).clock < TIME_LIMIT = omega arith in
    let kept : IsConsistent new =
    keeps_queued act line at time class timer expires job arg by cpu follows longer consistent
    may.not_queued may.timer_fits expires_fits (omega arith) in (
      kept,
      record {
        legal = λ number upto.
            legal_push number at cpu.journal _ kept.each_may_follow refl (right number _) upto;
        replay = replay;
        not_ahead =
            each_with (λ k b. NotAhead at (base_of k cpu) → NotAhead at b) class
            (added timer expires job arg (forwarded time base)) cpu.bases
            (λ (ahead : base.clock ≤ at + 1). omega arith) (λ k other ahead. ahead);
        none_behind =
            each_with (λ k b. NoneBehind (base_of k cpu) → NoneBehind b) class
            (added timer expires job arg (forwarded time base)) cpu.bases
            (λ ahead.
            none_behind_added timer expires job arg (forwarded time base) expires_fits clock
            (none_behind_forwarded time base ahead)) (λ k other ahead. ahead);
      },
    )

pub arming_keeps : ArmingKeeps
arming_keeps now class timer expires job arg line by cpu consistent may =
    queueing_keeps Armed line now now class timer expires job arg by cpu (λ _ _ none. none)
    (λ _ _. refl) (λ _ _. tt)
    (record { more = _ ∷ []; grows = refl; bases = refl; says = (refl, tt) }) consistent may
    (omega arith)

pub moving_in_keeps : MovingInKeeps
moving_in_keeps now class timer expires job arg by cpu consistent may =
    queueing_keeps MovedIn 0 now (now + 1) class timer expires job arg by cpu (λ _ _ none. none)
    (λ _ _. refl) (λ _ _. tt)
    (record { more = _ ∷ []; grows = refl; bases = refl; says = (refl, tt) }) consistent may
    (omega arith)

-- GOING, by an act that is an end and takes an item out
going_keeps : (act : Act) (line at : ℕ) (class : Class) (item : Item) (by : CpuId) (cpu : CpuBases)
    → let new = changed class (removed item.id (base_of class cpu))
    (entry_of act line at class item by) cpu in
    ((queued : List Entry) (entry : Entry) → EndsOne queued entry → MayFollow act queued entry)
    → ((queued : List Entry) (entry : Entry)
    → queued_after act queued entry ≡ ended entry.timer.0 queued)
    → ((number : ℕ) (entry : Entry) → HandedByRight number act entry)
    → AddsReplay cpu new → IsConsistent cpu
    → item_of item.id (base_of class cpu).items ≡ Some item → IsConsistent new × CallKeeps at cpu new
going_keeps act line at class item by cpu follows shorter right replay consistent found =
    let base = base_of class cpu in
    let entry = entry_of act line at class item by in
    let kept : IsConsistent (changed class (removed item.id base) entry cpu) =
    keeps_gone act line at class item by (removed item.id base) cpu
    (λ queued e ends _ _. follows queued e ends) shorter consistent found refl
    (consistent.fits class).clock in (
      kept,
      record {
        legal = λ number upto.
            legal_push number at cpu.journal entry kept.each_may_follow refl (right number entry)
            upto;
        replay = replay;
        not_ahead =
            each_with (λ k b. NotAhead at (base_of k cpu) → NotAhead at b) class
            (removed item.id base) cpu.bases (λ ahead. ahead) (λ k other ahead. ahead);
        none_behind =
            each_with (λ k b. NoneBehind (base_of k cpu) → NoneBehind b) class
            (removed item.id base) cpu.bases (none_behind_removed item.id base)
            (λ k other ahead. ahead);
      },
    )

keeps_all : (now : ℕ) (cpu : CpuBases) → IsConsistent cpu → IsConsistent cpu × CallKeeps now cpu cpu
keeps_all now cpu consistent = (
  consistent,
  record {
    legal = λ number upto. upto;
    replay = adds_none cpu;
    not_ahead = λ class ahead. ahead;
    none_behind = λ class ahead. ahead;
  },
)

-- what is found by its number
or_some : (k : Class) (here : Option Item) (others : Option (Class × Item)) (class : Class)
    (item : Item) → found_or k here others ≡ Some (class, item)
    → ((k ≡ class) × (here ≡ Some item)) ⊎ (others ≡ Some (class, item))
or_some k None others class item is = inr is
or_some k (Some one) others class item is =
    let parts = some_pair_parts k class one item is in inl (parts.0, ap Some parts.1)

pub record FoundAt (timer : ℕ) (class : Class) (item : Item) (cpu : CpuBases) : Type 0 where
  pub same : item.id ≡ timer
  pub found : item_of timer (base_of class cpu).items ≡ Some item
  pub itself : item_of item.id (base_of class cpu).items ≡ Some item

base_some : (timer : ℕ) (class : Class) (item : Item) (cpu : CpuBases)
    → found_in timer cpu ≡ Some (class, item) → item_of timer (base_of class cpu).items ≡ Some item
base_some timer class item cpu is =
    elim (or_some Pinned (item_of timer cpu.bases.pinned.items) _ class item is) [
      | inl here ↦ subst (λ k. item_of timer (base_of k cpu).items ≡ Some item) here.0 here.1
      | inr other ↦
          elim (or_some Global (item_of timer cpu.bases.global.items) _ class item other) [
            | inl here ↦ subst (λ k. item_of timer (base_of k cpu).items ≡ Some item) here.0 here.1
            | inr last ↦
                elim (or_some Deferrable (item_of timer cpu.bases.deferrable.items) None class item
                last) [
                  | inl here ↦
                      subst (λ k. item_of timer (base_of k cpu).items ≡ Some item) here.0 here.1
                  | inr no_more ↦ absurd (none-some (class, item) no_more)
                ]
          ]
    ]

pub found_at : (timer : ℕ) (class : Class) (item : Item) (cpu : CpuBases)
    → found_in timer cpu ≡ Some (class, item) → FoundAt timer class item cpu
found_at timer class item cpu is =
    let found = base_some timer class item cpu is in
    let same = found_key (λ i. i.id) timer (base_of class cpu).items item found in
    record {
      same = same;
      found = found;
      itself =
          subst (λ id. item_of id (base_of class cpu).items ≡ Some item) (sym same) found;
    }

-- CANCELLING
cancel_keeps : (now timer line : ℕ) (by : CpuId) (cpu : CpuBases) (found : Option (Class × Item))
    → found_in timer cpu ≡ found → IsConsistent cpu
    → let new = after_cancel found now line by cpu in IsConsistent new × CallKeeps now cpu new
cancel_keeps now timer line by cpu None is consistent = keeps_all now cpu consistent
cancel_keeps now timer line by cpu (Some (class, item)) is consistent =
    let at = found_at timer class item cpu is in
    let says : IsSomeAnd (item_of item.id (base_of class cpu).items)
    (λ i. told_by_item i ≡ told_by_item item) =
    subst (λ o. IsSomeAnd o (λ i. told_by_item i ≡ told_by_item item)) (sym at.itself) refl in
    going_keeps Cancelled line now class item by cpu (λ _ _ ends. ends) (λ _ _. refl)
    (λ _ _. tt) (record { more = _ ∷ []; grows = refl; bases = refl; says = (says, tt) })
    consistent at.itself

pub cancelling_keeps : CancellingKeeps
cancelling_keeps now timer line by cpu consistent =
    cancel_keeps now timer line by cpu (found_in timer cpu) refl consistent

-- MOVING OUT
pub oldest_found : (items : List Item) (item : Item) → oldest_in items ≡ Some item
    → item_of item.id items ≡ Some item
oldest_found [] item is = absurd (none-some item is)
oldest_found (first ∷ items) item is =
    subst (λ i. item_of i.id (first ∷ items) ≡ Some i) (same_Some first item is)
    (cond-true (first.id == first.id) (Some first) (item_of first.id items)
    (eq-eqb first.id first.id refl))

move_out_keeps : (now : ℕ) (class : Class) (by : CpuId) (cpu : CpuBases) (out : Option Item)
    → oldest_in (base_of class cpu).items ≡ out → IsConsistent cpu
    → let new = after_move_out out now class by cpu in IsConsistent new × CallKeeps now cpu new
move_out_keeps now class by cpu None is consistent = keeps_all now cpu consistent
move_out_keeps now class by cpu (Some item) is consistent =
    let says : IsSomeAnd (oldest_in (base_of class cpu).items)
    (λ i. told_by_item i ≡ told_by_item item) =
    subst (λ o. IsSomeAnd o (λ i. told_by_item i ≡ told_by_item item)) (sym is) refl in
    going_keeps MovedOut 0 now class item by cpu (λ _ _ ends. ends) (λ _ _. refl) (λ _ _. tt)
    (record { more = _ ∷ []; grows = refl; bases = refl; says = (says, tt) }) consistent
    (oldest_found (base_of class cpu).items item is)

pub moving_out_keeps : MovingOutKeeps
moving_out_keeps now class by cpu consistent =
    move_out_keeps now class by cpu (oldest_in (base_of class cpu).items) refl consistent

-- HANDING OUT
hand_out_keeps : (now : ℕ) (class : Class) (by : CpuId) (cpu : CpuBases) (out : Option Item)
    → next_out now (base_of class cpu) ≡ out → now < TIME_LIMIT - 1 → IsConsistent cpu
    → let new = after_hand_out out now class by cpu in
    IsConsistent new × HandsOut now class by.0 cpu new
hand_out_keeps now class by cpu None is in_time consistent =
    let base = base_of class cpu in
    let none_due = subst (OutIsDue now base.items) is (due_out now base
    (consistent.fits class).sound) in
    let kept : IsConsistent (written (ticked_entry now class by) cpu) =
    keeps_ticked now class by cpu consistent none_due (omega arith) in (
      kept,
      record {
        legal = λ number may upto.
            legal_push number now cpu.journal (ticked_entry now class by) kept.each_may_follow refl
            tt upto;
        replay = record {
          more = ticked_entry now class by ∷ [];
          grows = refl;
          bases = sym (with_itself class cpu.bases);
          says = (is, tt);
        };
        not_ahead = λ any ahead. ahead;
        others = λ other apart. refl;
      },
    )
hand_out_keeps now class by cpu (Some item) is in_time consistent =
    let base = base_of class cpu in
    let entry = entry_of Handed 0 now class item by in
    let sound = (consistent.fits class).sound in
    let due = subst (OutIsDue now base.items) is (due_out now base sound) in
    let on_time = due.due in
    let soon = clock-taken_le now base sound in
    let clock_fits = (consistent.fits class).clock in
    let says : IsSomeAnd (next_out now base) (λ i. told_by_item i ≡ told_by_item item) =
    subst (λ o. IsSomeAnd o (λ i. told_by_item i ≡ told_by_item item)) (sym is) refl in
    let kept : IsConsistent (changed class (taken now base) entry cpu) =
    keeps_gone Handed 0 now class item by (taken now base) cpu
    (λ queued e ends at wheel. (ends, omega arith)) (λ _ _. refl) consistent due.queued
    (ap (λ o. (after_out base o).items) is) (omega arith) in (
      kept,
      record {
        legal = λ number may upto.
            legal_push number now cpu.journal entry kept.each_may_follow refl may upto;
        replay = record { more = entry ∷ []; grows = refl; bases = refl; says = (says, tt) };
        not_ahead =
            each_with (λ k b. NotAhead now (base_of k cpu) → NotAhead now b) class (taken now base)
            cpu.bases (λ (ahead : base.clock ≤ now + 1). omega arith) (λ k other ahead. ahead);
        others = λ other apart. of_class-other class other (taken now base) cpu.bases apart;
      },
    )

pub handing_out_keeps : HandingOutKeeps
handing_out_keeps now class by cpu in_time consistent =
    hand_out_keeps now class by cpu (next_out now (base_of class cpu)) refl in_time consistent

-- NOTHING LEFT: after a drain nothing is behind the clock, and a cancelled timer is queued nowhere
pub behind_drained : (now : ℕ) (class : Class) (by : CpuId) (cpu : CpuBases) → IsConsistent cpu
    → next_out now (base_of class cpu) ≡ None → NotAhead now (base_of class cpu)
    → NoneBehind (base_of class (handed_out now class by cpu))
behind_drained now class by cpu consistent none near =
    let base = base_of class cpu in
    let none_due = subst (OutIsDue now base.items) none
    (due_out now base (consistent.fits class).sound) in
    subst (λ out. NoneBehind (base_of class (after_hand_out out now class by cpu))) (sym none)
    (none_behind_none_due now base none_due near)

pub or_item : (o : Option Item) → (o ≡ None) ⊎ ((item : Item) × (o ≡ Some item))
or_item None = inl refl
or_item (Some item) = inr (item, refl)

pub nowhere : (timer : ℕ) (cpu : CpuBases) → IsConsistent cpu
    → arming_of timer (queued_by cpu.journal) ≡ None → class_in timer cpu ≡ None
nowhere timer cpu consistent none =
    let each : (class : Class) → item_of timer (base_of class cpu).items ≡ None = λ class.
    elim (or_item (item_of timer (base_of class cpu).items)) [
      | inl is ↦ is
      | inr there ↦
          let same = found_key (λ i. i.id) timer (base_of class cpu).items there.0 there.1 in
          let queued =
          queued_item cpu class there.0 consistent
          (subst (λ id. item_of id (base_of class cpu).items ≡ Some there.0) (sym same) there.1) in
          absurd
          (none-some queued.arming
          (sym none ∙ subst (λ id. arming_of id (queued_by cpu.journal) ≡ Some queued.arming) same
          queued.found))
    ] in
    let p = each Pinned in
    let g = each Global in
    let d = each Deferrable in
    λ i. option_map (λ found. found.0) (found_or Pinned (p i)
    (found_or Global (g i) (found_or Deferrable (d i) None)))

gone_after : (now timer line : ℕ) (by : CpuId) (cpu : CpuBases) (found : Option (Class × Item))
    → found_in timer cpu ≡ found → IsConsistent cpu
    → IsConsistent (after_cancel found now line by cpu)
    → class_in timer (after_cancel found now line by cpu) ≡ None
gone_after now timer line by cpu None is consistent kept = ap (option_map (λ found. found.0)) is
gone_after now timer line by cpu (Some (class, item)) is consistent kept =
    let new = after_cancel (Some (class, item)) now line by cpu in
    let before = queued_by cpu.journal in
    let same = (found_at timer class item cpu is).same in
    let distinct = distinct_from [] cpu.journal tt consistent.each_may_follow in
    nowhere timer new kept
    (ap (arming_of timer) (queued_push [] cpu.journal (entry_of Cancelled line now class item by))
    ∙ (ap (λ id. arming_of timer (ended id before)) same
    ∙ (ap (arming_of timer) (ended_is timer before)
    ∙ none_dropped (λ e. e.timer.0) timer before distinct)))

pub cancelled_gone : (now timer line : ℕ) (by : CpuId) (cpu : CpuBases) → IsConsistent cpu
    → class_in timer (cancelled now timer line by cpu) ≡ None
cancelled_gone now timer line by cpu consistent =
    gone_after now timer line by cpu (found_in timer cpu) refl consistent
    (cancelling_keeps now timer line by cpu consistent).0
