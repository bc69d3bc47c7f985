-- what each call keeps of a CPU's bases and their journal in a play
use Rattle.std.proofs.Common.{◌≡◌, ℕ, zero, suc, ◌+◌, ◌-◌, ◌^◌, ◌<◌, ◌≤◌, List, [], ◌∷◌, Option}
use Rattle.std.proofs.Common.{Some, None, refl, sym, ◌∙◌, arith, get_or}
use Rattle.std.specs.Prelude.{All, if◌then◌else◌, is_some, ◌==◌}
use Rattle.std.proofs.lemmas.Bool.{cond-false, cond-true, cond_both, eq-eqb, ne_eqb}
use Rattle.std.proofs.lemmas.Option.{none-some}
use Rattle.std.proofs.lemmas.List.Elements.{All-cons, All-nil, All-push}
use Rattle.tm_base.specs.declared.names.TheConstants.{TIME_LIMIT}
use Rattle.tm_base.specs.declared.limits.TheConstants.{SCRIPT_TIME_LIMIT}
use Rattle.tm_base.specs.declared.names.Class.{Class}
use Rattle.tm_base.specs.declared.names.Class.TheVariants.{Pinned, Global, Deferrable}
use Rattle.tm_base.specs.declared.names.CpuId.{CpuId}
use Rattle.wheel_core.specs.declared.item.Item.{Item}
use Rattle.wheel_core.specs.PlainBase.{NoneBehind, OutIsDue, PlainBase, added, forwarded, item_of}
use Rattle.wheel_core.specs.PlainBase.{next_out, item_added}
use Rattle.wheel_core.proofs.Ids.{item_holds, item_of_rest}
use Rattle.wheel_core.proofs.Plain.{clock-forwarded_le, due_out}
use Rattle.cpu_bases.specs.declared.entry.Act.{Act}
use Rattle.cpu_bases.specs.declared.entry.Act.TheVariants as acts
use Rattle.cpu_bases.specs.CpuBases.{CpuBases, IsConsistent, NotAhead, after_cancel, after_hand_out}
use Rattle.cpu_bases.specs.CpuBases.{after_move_out, armed, base_of, cancelled, class_in, drained}
use Rattle.cpu_bases.specs.CpuBases.{entry_of, found_in, handed_out, item_queued, moved_in}
use Rattle.cpu_bases.specs.CpuBases.{moved_out, oldest_in, queued, ticked_entry}
use Rattle.cpu_bases.specs.Laws.{CallKeeps, MayQueue}
use Rattle.cpu_bases.proofs.Consistent.{base_none}
use Rattle.cpu_bases.proofs.Keeping.{arming_keeps, cancelling_keeps, handing_out_keeps}
use Rattle.cpu_bases.proofs.Keeping.{moving_in_keeps, moving_out_keeps}
use Rattle.play_laws.proofs.Answered.Bases.{IsBase, cancelled_kept, changed_kept, handed_kept}
use Rattle.play_laws.proofs.Answered.Bases.{moved_out_kept}
use Rattle.play_laws.specs.Jiffies.Jiffies.{HandedOnTime, IsOnTime, IsRecorded}

-- ITEMS of a CPU: the CPU owns their timer
abbrev pub IsItemOf : (owner : ℕ → ℕ) (c : ℕ) → Item → Type 0
IsItemOf owner c item = owner item.id ≡ c

-- the bases of CPU c and their journal
pub record IsCpu (now c : ℕ) (owner : ℕ → ℕ) (b : CpuBases) : Type 0 where
  pub told : IsRecorded now c b
  pub ahead : (k : Class) → NoneBehind (base_of k b)
  pub items : (k : Class) → IsBase (IsItemOf owner c) now (base_of k b)

-- a timer comes to be owned by a CPU
abbrev pub owning : (ℕ → ℕ) → (timer c : ℕ) → ℕ → ℕ
owning owner timer c i = if i == timer then c else owner i

none_apart : (timer : ℕ) (items : List Item) → item_of timer items ≡ None
    → All (λ item. item.id ≡ timer → ⊥) items
none_apart timer [] none = All-nil (λ (item : Item). item.id ≡ timer → ⊥)
none_apart timer (item ∷ items) none =
    All-cons (λ (i : Item). i.id ≡ timer → ⊥) item items
    (λ same. absurd
    (none-some item
    (sym none
    ∙ cond-true (item.id == timer) (Some item) (item_of timer items)
    (eq-eqb item.id timer same))))
    (none_apart timer items (item_of_rest timer item items none))

still_owned : (owner : ℕ → ℕ) (timer c d : ℕ) (item : Item) → (item.id ≡ timer → ⊥)
    → IsItemOf owner d item
    → IsItemOf (owning owner timer c) d item
still_owned owner timer c d item apart is =
    cond-false (item.id == timer) c (owner item.id) (ne_eqb item.id timer apart) ∙ is

-- the items of a CPU on which the timer isn't queued stay its own
items_owned : (now : ℕ) (owner : ℕ → ℕ) (timer c d : ℕ) (b : CpuBases) → class_in timer b ≡ None
    → (k : Class)
    → IsBase (IsItemOf owner d) now (base_of k b)
    → IsBase (IsItemOf (owning owner timer c) d) now (base_of k b)
items_owned now owner timer c d b none k holds = record {
  all = λ i e low.
      still_owned owner timer c d (get_or (base_of k b).items i e)
      (none_apart timer (base_of k b).items (base_none b timer none k) i e low) (holds.all i e low);
  near = holds.near;
}

pub cpu_owned : (now d : ℕ) (owner : ℕ → ℕ) (timer c : ℕ) (b : CpuBases) → class_in timer b ≡ None
    → IsCpu now d owner b → IsCpu now d (owning owner timer c) b
cpu_owned now d owner timer c b none is = record {
  told = is.told;
  ahead = is.ahead;
  items = λ k. items_owned now owner timer c d b none k (is.items k);
}

-- QUEUEING
module _ (now c : ℕ) (owner : ℕ → ℕ) (early : now < SCRIPT_TIME_LIMIT) where
  owned_here : (timer : ℕ) → owning owner timer c timer ≡ c
  owned_here timer = cond-true (timer == timer) c (owner timer) (eq-eqb timer timer refl)

  -- the base that gets the item
  added_base : (time timer expires job arg : ℕ) (base : PlainBase) → time ≤ now + 1
      → IsBase (IsItemOf (owning owner timer c) c) now base
      → IsBase (IsItemOf (owning owner timer c) c) now
      (added timer expires job arg (forwarded time base))
  added_base time timer expires job arg base soon holds =
      let Q = IsItemOf (owning owner timer c) c in
      let near = holds.near in
      let forward = clock-forwarded_le time base in
      record {
        all =
            All-push Q base.items (item_added (forwarded time base).clock timer expires job arg)
            holds.all
            (owned_here timer);
        near = omega (arith, near, forward, soon);
      }

  may_queue : (class : Class) (timer expires : ℕ) (b : CpuBases) → expires < TIME_LIMIT
      → timer < 2 ^ 16
      → class_in timer b ≡ None → NoneBehind (base_of class b) → MayQueue now class timer expires b
  may_queue class timer expires b in_time fits none ahead = record {
    now_in_time = omega (arith, early);
    expires_in_time = in_time;
    timer_fits = fits;
    not_queued = none;
    none_behind = ahead;
  }

  queued_cpu : (act : Act) (line time : ℕ) (class : Class) (timer expires job arg : ℕ) (by : CpuId)
      (b : CpuBases)
      → time ≤ now + 1 → class_in timer b ≡ None → IsCpu now c owner b
      → let new = queued act line now time class timer expires job arg by b in
      IsConsistent new × CallKeeps now b new
      → HandedOnTime act
      (entry_of act line now class (item_queued time class timer expires job arg b) by)
      → IsCpu now c (owning owner timer c) new
  queued_cpu act line time class timer expires job arg by b soon none is kept on_time =
      let entry = entry_of act line now class (item_queued time class timer expires job arg b) by in
      record {
        told = record {
          consistent = kept.0;
          legal = kept.1.legal c is.told.legal;
          on_time = All-push (λ e. HandedOnTime e.act e) b.journal entry is.told.on_time on_time;
        };
        ahead = λ k. kept.1.none_behind k (is.ahead k);
        items = λ k.
            changed_kept (IsBase (IsItemOf (owning owner timer c) c) now) k class
            (added timer expires job arg (forwarded time (base_of class b))) b
            (added_base time timer expires job arg (base_of class b) soon)
            (items_owned now owner timer c c b none k (is.items k));
      }

  pub armed_cpu : (class : Class) (timer expires job arg line : ℕ) (by : CpuId) (b : CpuBases)
      → expires < TIME_LIMIT
      → timer < 2 ^ 16 → class_in timer b ≡ None → IsCpu now c owner b
      → IsCpu now c (owning owner timer c) (armed now class timer expires job arg line by b)
  armed_cpu class timer expires job arg line by b in_time fits none is =
      queued_cpu acts.Armed line now class timer expires job arg by b (omega arith) none is
      (arming_keeps now class timer expires job arg line by b is.told.consistent
      (may_queue class timer expires b in_time fits none (is.ahead class))) tt

  pub moved_in_cpu : (class : Class) (timer expires job arg : ℕ) (by : CpuId) (b : CpuBases)
      → expires < TIME_LIMIT
      → timer < 2 ^ 16 → class_in timer b ≡ None → IsCpu now c owner b
      → IsCpu now c (owning owner timer c) (moved_in now class timer expires job arg by b)
  moved_in_cpu class timer expires job arg by b in_time fits none is =
      queued_cpu acts.MovedIn 0 (now + 1) class timer expires job arg by b
      (omega arith) none is
      (moving_in_keeps now class timer expires job arg by b is.told.consistent
      (may_queue class timer expires b in_time fits none (is.ahead class))) tt

-- GOING
module _ (now c : ℕ) (owner : ℕ → ℕ) where
  cancel_on_time : (o : Option (Class × Item)) (line : ℕ) (by : CpuId) (b : CpuBases)
      → All (λ e. HandedOnTime e.act e) b.journal
      → All (λ e. HandedOnTime e.act e) (after_cancel o now line by b).journal
  cancel_on_time None line by b holds = holds
  cancel_on_time (Some (class, item)) line by b holds =
      All-push (λ e. HandedOnTime e.act e) b.journal
      (entry_of acts.Cancelled line now class item by) holds tt

  pub cancelled_cpu : (timer line : ℕ) (by : CpuId) (b : CpuBases) → IsCpu now c owner b
      → IsCpu now c owner (cancelled now timer line by b)
  cancelled_cpu timer line by b is =
      let kept = cancelling_keeps now timer line by b is.told.consistent in
      record {
        told = record {
          consistent = kept.0;
          legal = kept.1.legal c is.told.legal;
          on_time = cancel_on_time (found_in timer b) line by b is.told.on_time;
        };
        ahead = λ k. kept.1.none_behind k (is.ahead k);
        items = λ k. cancelled_kept (IsItemOf owner c) now k by timer line b (is.items k);
      }

  move_on_time : (o : Option Item) (class : Class) (by : CpuId) (b : CpuBases)
      → All (λ e. HandedOnTime e.act e) b.journal
      → All (λ e. HandedOnTime e.act e) (after_move_out o now class by b).journal
  move_on_time None class by b holds = holds
  move_on_time (Some item) class by b holds =
      All-push (λ e. HandedOnTime e.act e) b.journal
      (entry_of acts.MovedOut 0 now class item by) holds tt

  pub moved_out_cpu : (class : Class) (by : CpuId) (b : CpuBases) → IsCpu now c owner b
      → IsCpu now c owner (moved_out now class by b)
  moved_out_cpu class by b is =
      let kept = moving_out_keeps now class by b is.told.consistent in
      record {
        told = record {
          consistent = kept.0;
          legal = kept.1.legal c is.told.legal;
          on_time = move_on_time (oldest_in (base_of class b).items) class by b is.told.on_time;
        };
        ahead = λ k. kept.1.none_behind k (is.ahead k);
        items = λ k. moved_out_kept (IsItemOf owner c) now k by class b (is.items k);
      }

  -- A DRAIN of a base of which nothing is late
  abbrev pub NoneLate : Class → List Item → Type 0
  NoneLate Pinned items = All (λ item. now ≤ item.wheel) items
  NoneLate Global items = All (λ item. now ≤ item.wheel) items
  NoneLate Deferrable items = Unit {0}

  item_on_time : (class : Class) (items : List Item) (item : Item) → OutIsDue now items (Some item)
      → NoneLate class items
      → IsOnTime class now item.wheel
  item_on_time Pinned items item due none =
      let low = item_holds (λ i. now ≤ i.wheel) item.id items item none due.queued in
      let high = due.due in omega (arith, low, high)
  item_on_time Global items item due none =
      let low = item_holds (λ i. now ≤ i.wheel) item.id items item none due.queued in
      let high = due.due in omega (arith, low, high)
  item_on_time Deferrable items item due none = due.due

  hand_on_time : (o : Option Item) (class : Class) (by : CpuId) (b : CpuBases)
      → OutIsDue now (base_of class b).items o
      → NoneLate class (base_of class b).items → All (λ e. HandedOnTime e.act e) b.journal
      → All (λ e. HandedOnTime e.act e) (after_hand_out o now class by b).journal
  hand_on_time None class by b due none holds =
      All-push (λ e. HandedOnTime e.act e) b.journal (ticked_entry now class by) holds tt
  hand_on_time (Some item) class by b due none holds =
      All-push (λ e. HandedOnTime e.act e) b.journal
      (entry_of acts.Handed 0 now class item by) holds
      (item_on_time class (base_of class b).items item due none)

  handed_late : (class : Class) (by : CpuId) (b : CpuBases) → NotAhead now (base_of class b)
      → NoneLate class (base_of class b).items
      → NoneLate class (base_of class (handed_out now class by b)).items
  handed_late Pinned by b near none =
      (handed_kept (λ i. now ≤ i.wheel) now Pinned by Pinned b
      (record { all = none; near = near })).all
  handed_late Global by b near none =
      (handed_kept (λ i. now ≤ i.wheel) now Global by Global b
      (record { all = none; near = near })).all
  handed_late Deferrable by b near none = tt

  pub drain_on_time : (most : ℕ) (class : Class) (by : CpuId) (b : CpuBases) → now < TIME_LIMIT - 1
      → IsConsistent b
      → NotAhead now (base_of class b)
      → NoneLate class (base_of class b).items → All (λ e. HandedOnTime e.act e) b.journal
      → All (λ e. HandedOnTime e.act e) (drained most now class by b).journal
  drain_on_time zero class by b in_time consistent near none holds =
      hand_on_time (next_out now (base_of class b)) class by b
      (due_out now (base_of class b) (consistent.fits class).sound)
      none holds
  drain_on_time (suc most) class by b in_time consistent near none holds =
      let after = handed_out now class by b in
      let first = hand_on_time (next_out now (base_of class b)) class by b
      (due_out now (base_of class b) (consistent.fits class).sound) none holds in
      let kept = handing_out_keeps now class by b in_time consistent in
      cond_both (is_some (next_out now (base_of class b))) (drained most now class by after) after
      (λ x. All (λ e. HandedOnTime e.act e) x.journal)
      (λ more. drain_on_time most class by after in_time kept.0 (kept.1.not_ahead class near)
      (handed_late class by b near none) first)
      (λ end. first)
