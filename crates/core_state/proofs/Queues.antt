-- which timers are queued after each call on a CPU's bases
use Rattle.std.proofs.Common.{◌≡◌, ℕ, ◌-◌, ◌<◌, Bool, true, false, List, [], ◌∷◌, ◌++◌, Option}
use Rattle.std.proofs.Common.{Some, None, refl, ap, sym, ◌∙◌, ◌⊎◌, inl, inr}
use Rattle.std.specs.Prelude.{◌==◌, ◌&&◌, ◌||◌, not, is_some, find, option_map, if◌then◌else◌}
use Rattle.std.proofs.lemmas.Bool.{cases_Bool, cond-true, cond-false, eqb-true}
use Rattle.std.proofs.lemmas.Option.{none-some}
use Rattle.tm_base.specs.declared.names.Class.{Class}
use Rattle.tm_base.specs.declared.names.CpuId.{CpuId}
use Rattle.tm_base.specs.declared.names.TheConstants.{TIME_LIMIT}
use Rattle.wheel_core.specs.declared.item.Item.{Item}
use Rattle.wheel_core.specs.PlainBase.{next_out}
use Rattle.cpu_bases.specs.declared.entry.Act.TheVariants as acts
use Rattle.cpu_bases.specs.declared.entry.Entry.{Entry}
use Rattle.cpu_bases.specs.Journals.{arming_of, ended, queued_after, queued_by}
use Rattle.cpu_bases.specs.CpuBases.{CpuBases, IsConsistent, after_cancel, after_hand_out}
use Rattle.cpu_bases.specs.CpuBases.{after_move_out, armed, base_of, cancelled, class_in, entry_of}
use Rattle.cpu_bases.specs.CpuBases.{found_in, handed_out, moved_in, moved_out, oldest_in}
use Rattle.cpu_bases.specs.CpuBases.{ticked_entry}
use Rattle.cpu_bases.specs.Laws.{MayQueue}
use Rattle.cpu_bases.proofs.Consistent.{not_queued}
use Rattle.cpu_bases.proofs.Keeping.{arming_keeps, cancelling_keeps, found_at, handing_out_keeps}
use Rattle.cpu_bases.proofs.Keeping.{moving_in_keeps, moving_out_keeps, nowhere}
use Rattle.cpu_bases.proofs.Keyed.{none_dropped}
use Rattle.cpu_bases.proofs.Legal.{distinct_from, ended_is, queued_push}
use Rattle.core_state.specs.Kept.{but, is_queued}

pub some_or_none : {X : Type 0} (o : Option X) → (o ≡ None) ⊎ ((x : X) × (o ≡ Some x))
some_or_none None = inl refl
some_or_none (Some x) = inr (x, refl)

pub and_true : (b : Bool) → (b && true) ≡ b
and_true true = refl
and_true false = refl

pub and_false : (b : Bool) → (b && false) ≡ false
and_false true = refl
and_false false = refl

-- a timer is queued exactly where an arming of it hasn't ended
queued_armed : (t : ℕ) (cpu : CpuBases) → IsConsistent cpu
    → is_queued t cpu ≡ is_some (arming_of t (queued_by cpu.journal))
queued_armed t cpu consistent =
    elim (some_or_none (arming_of t (queued_by cpu.journal))) [
      | inl none ↦ ap is_some (nowhere t cpu consistent none) ∙ sym (ap is_some none)
      | inr there ↦
          elim (some_or_none (class_in t cpu)) [
            | inl none ↦
                absurd (none-some there.0 (sym (not_queued cpu t consistent none) ∙ there.1))
            | inr found ↦ ap is_some found.1 ∙ sym (ap is_some there.1)
          ]
    ]

pub find_push : {X : Type 0} (p : X → Bool) (xs : List X) (x : X)
    → is_some (find p (xs ++ x ∷ [])) ≡ (is_some (find p xs) || p x)
find_push p [] x =
    elim (cases_Bool (p x)) [
      | inl here ↦ rw here refl
      | inr other ↦ rw other refl
    ]
find_push p (y ∷ ys) x =
    elim (cases_Bool (p y)) [
      | inl here ↦ rw here refl
      | inr other ↦ rw other (find_push p ys x)
    ]

ended_other : (t id : ℕ) (queued : List Entry) → (id == t) ≡ false
    → arming_of t (ended id queued) ≡ arming_of t queued
ended_other t id [] other = refl
ended_other t id (entry ∷ queued) other =
    elim (cases_Bool (entry.timer.0 == id)) [
      | inl here ↦
          let apart : (entry.timer.0 == t) ≡ false =
          ap (λ k. k == t) (eqb-true entry.timer.0 id here) ∙ other in
          ap (arming_of t) (cond-true (entry.timer.0 == id) queued (entry ∷ ended id queued) here)
          ∙ sym (cond-false (entry.timer.0 == t) (Some entry) (arming_of t queued) apart)
      | inr there ↦
          ap (arming_of t) (cond-false (entry.timer.0 == id) queued (entry ∷ ended id queued) there)
          ∙ ap (λ rest. if entry.timer.0 == t then Some entry else rest)
          (ended_other t id queued other)
    ]

gone : (t id : ℕ) (cpu : CpuBases) → IsConsistent cpu
    → is_some (arming_of t (ended id (queued_by cpu.journal)))
    ≡ (is_some (arming_of t (queued_by cpu.journal)) && not (id == t))
gone t id cpu consistent =
    let queued = queued_by cpu.journal in
    elim (cases_Bool (id == t)) [
      | inl same ↦
          let distinct = distinct_from [] cpu.journal tt consistent.each_may_follow in
          let is = eqb-true id t same in
          ap (λ k. is_some (arming_of t (ended k queued))) is
          ∙ (ap (λ q. is_some (arming_of t q)) (ended_is t queued)
          ∙ (ap is_some (none_dropped (λ e. e.timer.0) t queued distinct)
          ∙ (sym (and_false (is_some (arming_of t queued)))
          ∙ ap (λ b. is_some (arming_of t queued) && not b) (sym same))))
      | inr other ↦
          ap is_some (ended_other t id queued other)
          ∙ (sym (and_true (is_some (arming_of t queued)))
          ∙ ap (λ b. is_some (arming_of t queued) && not b) (sym other))
    ]

-- after an entry that arms, and after one that ends
pushed : (t : ℕ) (e : Entry) (old new : CpuBases) → IsConsistent old → IsConsistent new
    → new.journal ≡ old.journal ++ e ∷ []
    → queued_after e.act (queued_by old.journal) e ≡ queued_by old.journal ++ e ∷ []
    → is_queued t new ≡ (is_queued t old || e.timer.0 == t)
pushed t e old new was stands is after =
    queued_armed t new stands
    ∙ (ap (λ j. is_some (arming_of t (queued_by j))) is
    ∙ (ap (λ q. is_some (arming_of t q)) (queued_push [] old.journal e ∙ after)
    ∙ (find_push (λ entry. entry.timer.0 == t) (queued_by old.journal) e
    ∙ ap (λ b. b || e.timer.0 == t) (sym (queued_armed t old was)))))

dropped : (t : ℕ) (e : Entry) (old new : CpuBases) → IsConsistent old → IsConsistent new
    → new.journal ≡ old.journal ++ e ∷ []
    → queued_after e.act (queued_by old.journal) e ≡ ended e.timer.0 (queued_by old.journal)
    → is_queued t new ≡ (is_queued t old && not (e.timer.0 == t))
dropped t e old new was stands is after =
    queued_armed t new stands
    ∙ (ap (λ j. is_some (arming_of t (queued_by j))) is
    ∙ (ap (λ q. is_some (arming_of t q)) (queued_push [] old.journal e ∙ after)
    ∙ (gone t e.timer.0 old was
    ∙ ap (λ b. b && not (e.timer.0 == t)) (sym (queued_armed t old was)))))

pub arming_queues : (now : ℕ) (class : Class) (timer expires job arg line : ℕ) (by : CpuId)
    (cpu : CpuBases)
    → IsConsistent cpu → MayQueue now class timer expires cpu → (t : ℕ)
    → is_queued t (armed now class timer expires job arg line by cpu)
    ≡ (is_queued t cpu || timer == t)
arming_queues now class timer expires job arg line by cpu consistent may t =
    pushed t _ cpu (armed now class timer expires job arg line by cpu) consistent
    (arming_keeps now class timer expires job arg line by cpu consistent may).0 refl refl

pub moving_in_queues : (now : ℕ) (class : Class) (timer expires job arg : ℕ) (by : CpuId)
    (cpu : CpuBases)
    → IsConsistent cpu → MayQueue now class timer expires cpu → (t : ℕ)
    → is_queued t (moved_in now class timer expires job arg by cpu)
    ≡ (is_queued t cpu || timer == t)
moving_in_queues now class timer expires job arg by cpu consistent may t =
    pushed t _ cpu (moved_in now class timer expires job arg by cpu) consistent
    (moving_in_keeps now class timer expires job arg by cpu consistent may).0 refl refl

not_there : (timer t : ℕ) (cpu : CpuBases) → found_in timer cpu ≡ None
    → is_queued t cpu ≡ (is_queued t cpu && not (timer == t))
not_there timer t cpu none =
    elim (cases_Bool (timer == t)) [
      | inl same ↦
          let is : is_queued t cpu ≡ false =
          ap (λ k. is_queued k cpu) (sym (eqb-true timer t same))
          ∙ ap (λ f. is_some (option_map (λ found. found.0) f)) none in
          is ∙ ap (λ b. b && not (timer == t)) (sym is)
      | inr other ↦ sym (and_true (is_queued t cpu))
          ∙ ap (λ b. is_queued t cpu && not b) (sym other)
    ]

cancelled_queues : (now timer line : ℕ) (by : CpuId) (cpu : CpuBases)
    (found : Option (Class × Item))
    → found_in timer cpu ≡ found → IsConsistent cpu
    → IsConsistent (after_cancel found now line by cpu) → (t : ℕ)
    → is_queued t (after_cancel found now line by cpu) ≡ (is_queued t cpu && not (timer == t))
cancelled_queues now timer line by cpu None is was stands t = not_there timer t cpu is
cancelled_queues now timer line by cpu (Some (class, item)) is was stands t =
    dropped t (entry_of acts.Cancelled line now class item by) cpu
    (after_cancel (Some (class, item)) now line by cpu) was stands refl refl
    ∙ ap (λ id. is_queued t cpu && not (id == t)) (found_at timer class item cpu is).same

pub cancelling_queues : (now timer line : ℕ) (by : CpuId) (cpu : CpuBases) → IsConsistent cpu
    → (t : ℕ)
    → is_queued t (cancelled now timer line by cpu) ≡ (is_queued t cpu && not (timer == t))
cancelling_queues now timer line by cpu consistent t =
    cancelled_queues now timer line by cpu (found_in timer cpu) refl consistent
    (cancelling_keeps now timer line by cpu consistent).0 t

out_queues : (now : ℕ) (class : Class) (by : CpuId) (cpu : CpuBases) (out : Option Item)
    → IsConsistent cpu → IsConsistent (after_move_out out now class by cpu) → (t : ℕ)
    → is_queued t (after_move_out out now class by cpu) ≡ but (is_queued t cpu) out t
out_queues now class by cpu None was stands t = refl
out_queues now class by cpu (Some item) was stands t =
    dropped t (entry_of acts.MovedOut 0 now class item by) cpu
    (after_move_out (Some item) now class by cpu) was stands refl refl

pub moving_out_queues : (now : ℕ) (class : Class) (by : CpuId) (cpu : CpuBases) → IsConsistent cpu
    → (t : ℕ)
    → is_queued t (moved_out now class by cpu) ≡ but (is_queued t cpu)
    (oldest_in (base_of class cpu).items) t
moving_out_queues now class by cpu consistent t =
    out_queues now class by cpu (oldest_in (base_of class cpu).items) consistent
    (moving_out_keeps now class by cpu consistent).0 t

handed_queues : (now : ℕ) (class : Class) (by : CpuId) (cpu : CpuBases) (out : Option Item)
    → IsConsistent cpu → IsConsistent (after_hand_out out now class by cpu) → (t : ℕ)
    → is_queued t (after_hand_out out now class by cpu) ≡ but (is_queued t cpu) out t
handed_queues now class by cpu None was stands t =
    queued_armed t (after_hand_out None now class by cpu) stands
    ∙ (ap (λ q. is_some (arming_of t q)) (queued_push [] cpu.journal (ticked_entry now class by))
    ∙ sym (queued_armed t cpu was))
handed_queues now class by cpu (Some item) was stands t =
    dropped t (entry_of acts.Handed 0 now class item by) cpu
    (after_hand_out (Some item) now class by cpu) was stands refl refl

pub handing_queues : (now : ℕ) (class : Class) (by : CpuId) (cpu : CpuBases) → now < TIME_LIMIT - 1
    → IsConsistent cpu → (t : ℕ)
    → is_queued t (handed_out now class by cpu) ≡ but (is_queued t cpu)
    (next_out now (base_of class cpu)) t
handing_queues now class by cpu in_time consistent t =
    handed_queues now class by cpu (next_out now (base_of class cpu)) consistent
    (handing_out_keeps now class by cpu in_time consistent).0 t
