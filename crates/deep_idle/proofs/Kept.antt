-- a device's queue, as a CPU falls asleep, rises or is woken
use Rattle.std.proofs.Common.{◌≡◌, ◌≢◌, ℕ, zero, suc, ◌-◌, ◌<◌, ◌≤◌, min}
use Rattle.std.proofs.Common.{List, [], ◌∷◌, ◌++◌, Option, Some, None, length, refl, sym, ap, ◌∙◌}
use Rattle.std.proofs.Common.{subst, inl, inr, arith, get_or, take, drop, drop-cons}
use Rattle.std.specs.Prelude.{◌==◌, slice_set}
use Rattle.std.proofs.lemmas.Bool.{cases_Bool, cases_lt, eqb-true, eqb-false}
use Rattle.std.proofs.lemmas.List.{get_or-set_same, get_or-set_other, get_or_past, length-set}
use Rattle.std.proofs.lemmas.List.{take-append-drop}
use Rattle.std.proofs.lemmas.Option.{none-some, same_Some, slice_get-get_or}
use Rattle.tm_base.specs.declared.names.TheConstants.{NEVER}
use Rattle.deep_idle.specs.declared.order.Sleeper.{Sleeper}
use Rattle.deep_idle.specs.Device.{DeviceLaw, least_wakeup}
use Rattle.deep_idle.specs.Order.{After, AreDescending, EachSleeper, IsIn, IsOrderKept, IsQueueOf}
use Rattle.deep_idle.specs.Order.{NotAfter, NotBefore, Sleeps, first_wakeup, last_wakeup}
use Rattle.deep_idle.proofs.Queues.{descending_out, descending_put, distinct_out, distinct_put}
use Rattle.deep_idle.proofs.Queues.{each_is, each_out, each_put, each_sleeps, lacks_all, last_least}
use Rattle.deep_idle.proofs.Queues.{not_both, sleeps_here, sleeps_out, sleeps_put}
use Rattle.deep_idle.proofs.Rooms.{few}

-- only a CPU that there is sleeps
pub sleeps_within : (sleepers : List (Option ℕ)) (cpu wakeup : ℕ)
    → get_or sleepers cpu None ≡ Some wakeup → cpu < length sleepers
sleeps_within sleepers cpu wakeup is = elim (cases_lt cpu (length sleepers)) [
  | inl low ↦ low
  | inr past ↦ absurd (none-some wakeup (sym (get_or_past sleepers cpu None past) ∙ is))
]

pub slept_queue : (sleepers : List (Option ℕ)) (front back : List Sleeper) (s : Sleeper)
    → IsQueueOf sleepers (front ++ back) → After s.wakeup front → NotAfter s.wakeup back
    → get_or sleepers s.cpu.0 None ≡ None → s.cpu.0 < length sleepers → s.wakeup < NEVER
    → IsQueueOf (slice_set sleepers s.cpu.0 (Some s.wakeup)) (front ++ s ∷ back)
slept_queue sleepers front back s old before behind free within early = record {
  descending = descending_put front back s old.descending
      (each_is (λ t. s.wakeup < t.wakeup) (λ t. s.wakeup ≤ t.wakeup) front (λ t later. omega arith) before) behind;
  distinct = distinct_put front back s old.distinct
      (lacks_all s.cpu.0 (front ++ back) (λ wakeup there. none-some wakeup (sym free ∙ old.sleeps s.cpu.0 wakeup there)));
  queued = λ cpu wakeup is. elim (cases_Bool (cpu == s.cpu.0)) [
    | inl here ↦
        let same = eqb-true cpu s.cpu.0 here in
        let at : s.wakeup ≡ wakeup = same_Some s.wakeup wakeup
        (sym (get_or-set_same sleepers s.cpu.0 (Some s.wakeup) None within)
        ∙ ap (λ c. get_or (slice_set sleepers s.cpu.0 (Some s.wakeup)) c None) (sym same) ∙ is) in
        subst (λ c. Sleeps c wakeup (front ++ s ∷ back)) (sym same)
        (subst (λ w. Sleeps s.cpu.0 w (front ++ s ∷ back)) at (sleeps_here front back s))
    | inr there ↦
        let apart = eqb-false cpu s.cpu.0 there in
        sleeps_put cpu wakeup front back s (old.queued cpu wakeup
        (sym (get_or-set_other sleepers s.cpu.0 cpu (Some s.wakeup) None apart) ∙ is))
  ];
  sleeps = λ cpu wakeup there. elim (sleeps_out cpu wakeup front back s there) [
    | inl here ↦
        ap (λ c. get_or (slice_set sleepers s.cpu.0 (Some s.wakeup)) c None) (sym here.0)
        ∙ get_or-set_same sleepers s.cpu.0 (Some s.wakeup) None within ∙ ap Some here.1
    | inr rest ↦
        let is = old.sleeps cpu wakeup rest in
        let apart : cpu ≢ s.cpu.0 = λ same. none-some wakeup
        (sym free ∙ ap (λ c. get_or sleepers c None) (sym same) ∙ is) in
        get_or-set_other sleepers s.cpu.0 cpu (Some s.wakeup) None apart ∙ is
  ];
  early = each_put (λ t. t.wakeup < NEVER) front back s old.early early;
}

pub rose_queue : (sleepers : List (Option ℕ)) (front back : List Sleeper) (s : Sleeper)
    → IsQueueOf sleepers (front ++ s ∷ back)
    → IsQueueOf (slice_set sleepers s.cpu.0 None) (front ++ back)
rose_queue sleepers front back s old =
    let out = distinct_out front back s old.distinct in
    let within = sleeps_within sleepers s.cpu.0 s.wakeup (old.sleeps s.cpu.0 s.wakeup (sleeps_here front back s)) in
    record {
      descending = descending_out front back s old.descending;
      distinct = out.0;
      queued = λ cpu wakeup is. elim (cases_Bool (cpu == s.cpu.0)) [
        | inl here ↦
            let same = eqb-true cpu s.cpu.0 here in
            absurd (none-some wakeup (sym (get_or-set_same sleepers s.cpu.0 None None within)
            ∙ ap (λ c. get_or (slice_set sleepers s.cpu.0 None) c None) (sym same) ∙ is))
        | inr there ↦
            let apart = eqb-false cpu s.cpu.0 there in
            elim (sleeps_out cpu wakeup front back s (old.queued cpu wakeup
            (sym (get_or-set_other sleepers s.cpu.0 cpu None None apart) ∙ is))) [
              | inl here ↦ absurd (apart (sym here.0))
              | inr rest ↦ rest
            ]
      ];
      sleeps = λ cpu wakeup there.
          let apart : cpu ≢ s.cpu.0 = λ same. not_both s.cpu.0 wakeup (front ++ back) out.1
          (subst (λ c. Sleeps c wakeup (front ++ back)) same there) in
          get_or-set_other sleepers s.cpu.0 cpu None None apart
          ∙ old.sleeps cpu wakeup (sleeps_put cpu wakeup front back s there);
      early = (each_out (λ t. t.wakeup < NEVER) front back s old.early).0;
    }

-- the law
pub law_kept : (sleepers : List (Option ℕ)) (queue : List Sleeper) (time capacity : ℕ)
    → IsOrderKept sleepers queue time capacity → DeviceLaw (record { sleepers = sleepers; time = time })
law_kept sleepers queue time capacity kept cpu wakeup is =
    each_sleeps (λ w. time ≤ w) cpu wakeup queue kept.in_time (kept.queue_of.queued cpu wakeup is)

-- there is room for a CPU that doesn't sleep
all_within : (sleepers : List (Option ℕ)) (list : List Sleeper)
    → ((cpu wakeup : ℕ) → Sleeps cpu wakeup list → cpu < length sleepers)
    → EachSleeper (λ s. s.cpu.0 < length sleepers) list
all_within sleepers [] within = tt
all_within sleepers (s ∷ list) within =
    (within s.cpu.0 s.wakeup (inl (refl, refl)), all_within sleepers list (λ cpu wakeup there. within cpu wakeup (inr there)))

pub room_left : (sleepers : List (Option ℕ)) (queue : List Sleeper) (s : Sleeper)
    → IsQueueOf sleepers queue → get_or sleepers s.cpu.0 None ≡ None → s.cpu.0 < length sleepers
    → length queue < length sleepers
room_left sleepers queue s old free within =
    let each = all_within sleepers queue (λ cpu wakeup there. sleeps_within sleepers cpu wakeup (old.sleeps cpu wakeup there)) in
    let lacks = lacks_all s.cpu.0 queue (λ wakeup there. none-some wakeup (sym free ∙ old.sleeps s.cpu.0 wakeup there)) in
    let bound = few (length sleepers) (s ∷ queue) (lacks, old.distinct) (within, each) in
    omega (arith, bound)

pub kept_slept : (sleepers : List (Option ℕ)) (queue : List Sleeper) (time capacity now_capacity place : ℕ)
    (s : Sleeper) → IsOrderKept sleepers queue time capacity → After s.wakeup (take place queue)
    → NotAfter s.wakeup (drop place queue) → get_or sleepers s.cpu.0 None ≡ None
    → s.cpu.0 < length sleepers → s.wakeup < NEVER → capacity ≤ now_capacity
    → IsOrderKept (slice_set sleepers s.cpu.0 (Some s.wakeup)) (take place queue ++ s ∷ drop place queue)
    (min time s.wakeup) now_capacity
kept_slept sleepers queue time capacity now_capacity place s kept before behind free within early grows =
    let whole : take place queue ++ drop place queue ≡ queue = take-append-drop place queue in
    let room = kept.room in
    let less : min time s.wakeup ≤ s.wakeup = omega arith in
    record {
      queue_of = slept_queue sleepers (take place queue) (drop place queue) s
          (subst (λ q. IsQueueOf sleepers q) (sym whole) kept.queue_of) before behind free within early;
      in_time = each_put (λ t. min time s.wakeup ≤ t.wakeup) (take place queue) (drop place queue) s
          (subst (λ q. NotBefore (min time s.wakeup) q) (sym whole)
          (each_is (λ t. time ≤ t.wakeup) (λ t. min time s.wakeup ≤ t.wakeup) queue (λ t later. omega arith) kept.in_time))
          less;
      few = rw length-set kept.few;
      room = rw length-set (omega arith);
    }

-- a queue around one of its places
pub around : (queue : List Sleeper) (place : ℕ) (d : Sleeper) → place < length queue
    → take place queue ++ get_or queue place d ∷ drop (suc place) queue ≡ queue
around queue place d within =
    ap (λ back. take place queue ++ back) (sym (drop-cons queue place d within)) ∙ take-append-drop place queue

pub kept_rose : (sleepers : List (Option ℕ)) (queue : List Sleeper) (time capacity now_capacity place cpu : ℕ)
    (d : Sleeper) → IsOrderKept sleepers queue time capacity → place < length queue
    → (get_or queue place d).cpu.0 ≡ cpu → capacity ≤ now_capacity
    → IsOrderKept (slice_set sleepers cpu None) (take place queue ++ drop (suc place) queue) time now_capacity
kept_rose sleepers queue time capacity now_capacity place cpu d kept within is grows =
    let whole = around queue place d within in
    let s = get_or queue place d in
    let room = kept.room in
    record {
      queue_of = subst (λ c. IsQueueOf (slice_set sleepers c None) (take place queue ++ drop (suc place) queue)) is
          (rose_queue sleepers (take place queue) (drop (suc place) queue) s
          (subst (λ q. IsQueueOf sleepers q) (sym whole) kept.queue_of));
      in_time = (each_out (λ t. time ≤ t.wakeup) (take place queue) (drop (suc place) queue) s
          (subst (λ q. NotBefore time q) (sym whole) kept.in_time)).0;
      few = rw length-set kept.few;
      room = rw length-set (omega arith);
    }

-- a sleeper stands at a place
pub sleeps_at : (cpu wakeup : ℕ) (list : List Sleeper) → Sleeps cpu wakeup list → IsIn cpu list
sleeps_at cpu wakeup [] there = absurd there
sleeps_at cpu wakeup (s ∷ list) (inl is) = (0, omega arith, λ d. is.0)
sleeps_at cpu wakeup (s ∷ list) (inr later) =
    let (place, within, is) = sleeps_at cpu wakeup list later in (suc place, omega arith, is)

-- places in a queue
pub each_at : (P : Sleeper → Type 0) (list : List Sleeper) (place : ℕ) (d : Sleeper) → EachSleeper P list
    → place < length list → P (get_or list place d)
each_at P [] place d each within = absurd (omega arith)
each_at P (s ∷ list) zero d each within = each.0
each_at P (s ∷ list) (suc place) d each within = each_at P list place d each.1 (omega arith)

pub front_after : (time : ℕ) (list : List Sleeper) (place : ℕ) (d : Sleeper) → AreDescending list
    → place < length list → time < (get_or list place d).wakeup → After time (take (suc place) list)
front_after time [] place d order within later = absurd (omega arith)
front_after time (s ∷ list) zero d order within later = (later, tt)
front_after time (s ∷ list) (suc place) d order within later =
    let low = each_at (λ t. t.wakeup ≤ s.wakeup) list place d order.0 (omega arith) in
    (omega arith, front_after time list place d order.1 (omega arith) later)

pub behind_more : (time : ℕ) (list : List Sleeper) (place : ℕ) (d : Sleeper) → place < length list
    → (get_or list place d).wakeup ≤ time → NotAfter time (drop (suc place) list)
    → NotAfter time (drop place list)
behind_more time list place d within early behind =
    subst (λ back. NotAfter time back) (sym (drop-cons list place d within)) (early, behind)

-- the first wakeup is the least
least_low : (time : ℕ) (sleepers : List (Option ℕ)) → time ≤ NEVER
    → ((cpu wakeup : ℕ) → get_or sleepers cpu None ≡ Some wakeup → time ≤ wakeup)
    → time ≤ least_wakeup sleepers
least_low time [] low each = low
least_low time (None ∷ sleepers) low each = least_low time sleepers low (λ cpu. each (suc cpu))
least_low time (Some wakeup ∷ sleepers) low each =
    let rest = least_low time sleepers low (λ cpu. each (suc cpu)) in
    let here = each 0 wakeup refl in omega arith

least_never : (sleepers : List (Option ℕ)) → least_wakeup sleepers ≤ NEVER
least_never [] = omega arith
least_never (None ∷ sleepers) = least_never sleepers
least_never (Some wakeup ∷ sleepers) = let rest = least_never sleepers in omega arith

least_high : (sleepers : List (Option ℕ)) (cpu wakeup : ℕ) → get_or sleepers cpu None ≡ Some wakeup
    → least_wakeup sleepers ≤ wakeup
least_high [] cpu wakeup is = absurd (none-some wakeup is)
least_high (None ∷ sleepers) zero wakeup is = absurd (none-some wakeup is)
least_high (Some here ∷ sleepers) zero wakeup is = let same = same_Some here wakeup is in omega arith
least_high (None ∷ sleepers) (suc cpu) wakeup is = least_high sleepers cpu wakeup is
least_high (Some here ∷ sleepers) (suc cpu) wakeup is =
    let rest = least_high sleepers cpu wakeup is in omega arith

last_sleeps : (wakeup : ℕ) (s : Sleeper) (list : List Sleeper)
    → (cpu : ℕ) × Sleeps cpu (last_wakeup wakeup (s ∷ list)) (s ∷ list)
last_sleeps wakeup s [] = (s.cpu.0, inl (refl, refl))
last_sleeps wakeup s (t ∷ list) =
    let (cpu, there) = last_sleeps s.wakeup t list in (cpu, inr there)

first_high : (sleepers : List (Option ℕ)) (queue : List Sleeper) → IsQueueOf sleepers queue
    → least_wakeup sleepers ≤ first_wakeup queue
first_high sleepers [] old = least_never sleepers
first_high sleepers (s ∷ list) old =
    let (cpu, there) = last_sleeps NEVER s list in
    least_high sleepers cpu _ (old.sleeps cpu _ there)

pub first_bounds : (queue : List Sleeper) → AreDescending queue → EachSleeper (λ s. s.wakeup < NEVER) queue
    → NotBefore (first_wakeup queue) queue × (first_wakeup queue ≤ NEVER)
first_bounds queue order early =
    last_least NEVER queue (each_is (λ s. s.wakeup < NEVER) (λ s. s.wakeup ≤ NEVER) queue (λ s soon. omega arith) early) order

pub least_first : (sleepers : List (Option ℕ)) (queue : List Sleeper) → IsQueueOf sleepers queue
    → first_wakeup queue ≡ least_wakeup sleepers
least_first sleepers queue old =
    let bounds = first_bounds queue old.descending old.early in
    let low = least_low (first_wakeup queue) sleepers bounds.1
    (λ cpu wakeup is. each_sleeps (λ w. first_wakeup queue ≤ w) cpu wakeup queue bounds.0 (old.queued cpu wakeup is)) in
    let high = first_high sleepers queue old in
    omega arith

pub kept_fired : (sleepers : List (Option ℕ)) (queue : List Sleeper) (capacity : ℕ)
    → IsQueueOf sleepers queue → length sleepers ≤ 512 → length sleepers ≤ capacity
    → IsOrderKept sleepers queue (first_wakeup queue) capacity
kept_fired sleepers queue capacity old few room = record {
  queue_of = old;
  in_time = (first_bounds queue old.descending old.early).0;
  few = few;
  room = room;
}

-- the wakeup of the last place
pub last_at : (wakeup : ℕ) (list : List Sleeper) (d : Sleeper) → 0 < length list
    → (get_or list (length list - 1) d).wakeup ≡ last_wakeup wakeup list
last_at wakeup [] d some = absurd (omega arith)
last_at wakeup (s ∷ []) d some = refl
last_at wakeup (s ∷ t ∷ list) d some =
    let n : length (s ∷ t ∷ list) - 1 ≡ suc (length (t ∷ list) - 1) = omega arith in
    ap (λ k. (get_or (s ∷ t ∷ list) k d).wakeup) n ∙ last_at s.wakeup (t ∷ list) d (omega arith)

-- reads and equal parts
pub read_sleeper : (sleepers : List (Option ℕ)) (i cpu wakeup : ℕ) (found : Option ℕ)
    → cpu < length sleepers → i ≡ cpu → found ≡ get_or sleepers i found → found ≡ Some wakeup
    → get_or sleepers cpu None ≡ Some wakeup
read_sleeper sleepers i cpu wakeup found within is_i read is =
    same_Some _ _ (sym (slice_get-get_or sleepers cpu None within) ∙ slice_get-get_or sleepers cpu found within)
    ∙ ap (λ k. get_or sleepers k found) (sym is_i) ∙ sym read ∙ is

pub kept_as : (sleepers now : List (Option ℕ)) (queue now_queue : List Sleeper) (time now_time capacity : ℕ)
    → IsOrderKept sleepers queue time capacity → now ≡ sleepers → now_queue ≡ queue → now_time ≡ time
    → IsOrderKept now now_queue now_time capacity
kept_as sleepers now queue now_queue time now_time capacity kept s q t = rw (s, q, t) kept

-- the last of a queue is a CPU that there is
pub last_within : (sleepers : List (Option ℕ)) (queue front : List Sleeper) (s : Sleeper)
    → IsQueueOf sleepers queue → queue ≡ front ++ s ∷ [] → s.cpu.0 < length sleepers
last_within sleepers queue front s old is =
    sleeps_within sleepers s.cpu.0 s.wakeup (old.sleeps s.cpu.0 s.wakeup
    (subst (λ q. Sleeps s.cpu.0 s.wakeup q) (sym is) (sleeps_here front [] s)))
