-- waking the sleepers that are due, one a round
use Rattle.std.proofs.Common.{◌≡◌, ℕ, zero, suc, ◌<◌, ◌≤◌, Bool, true, false, List, [], ◌∷◌}
use Rattle.std.proofs.Common.{◌++◌, Option, Some, None, length, refl, sym, ap, ◌∙◌, subst, ◌⊎◌, inl}
use Rattle.std.proofs.Common.{inr, arith, get_or, rules}
use Rattle.std.specs.Prelude.{◌==◌, ◌||◌, map, nat_le, slice_set, if◌then◌else◌}
use Rattle.std.specs.FinSet.{contains, contains-empty, contains-insert, empty, insert}
use Rattle.std.specs.Ordering.{nat_cmp}
use Rattle.std.specs.Cmp.{nat_cmp_total, unsigned_tied}
use Rattle.std.proofs.lemmas.Bool.{cases_Bool, eqb-true, eqb-false}
use Rattle.std.proofs.lemmas.List.{append-nil, get_or-set_same, get_or-set_other, length-set}
use Rattle.tm_base.specs.CpuSet.{Cpus}
use Rattle.tm_base.specs.declared.limits.TheConstants.{CPU_SET_SIZE}
use Rattle.deep_idle.specs.declared.order.Sleeper.{Sleeper}
use Rattle.deep_idle.specs.Device.{asleep_still, is_wakeup_due}
use Rattle.deep_idle.specs.Order.{After, IsQueueOf, first_wakeup}
use Rattle.deep_idle.proofs.Kept.{first_bounds, rose_queue, sleeps_within}
use Rattle.deep_idle.proofs.Queues.{each_is, each_sleeps, sleeps_here}

-- a CPU was woken, or stands as at the start
abbrev pub IsWokenOr : (now : ℕ) → (start sleepers : List (Option ℕ)) → Cpus → (cpu : ℕ) → Type 0
IsWokenOr now start sleepers due cpu =
    ((contains due cpu ≡ true) × (is_wakeup_due now (get_or start cpu None) ≡ true)
    × (get_or sleepers cpu None ≡ None))
    ⊎ ((contains due cpu ≡ false) × (get_or sleepers cpu None ≡ get_or start cpu None))

pub record Woken (now : ℕ) (start sleepers : List (Option ℕ)) (queue : List Sleeper) (due : Cpus)
    (before capacity : ℕ) : Type 0 where
  pub queue_of : IsQueueOf sleepers queue
  pub rest : map (asleep_still now) sleepers ≡ map (asleep_still now) start
  pub each : (cpu : ℕ) → IsWokenOr now start sleepers due cpu
  pub few : length sleepers ≤ CPU_SET_SIZE
  pub capacity_is : capacity ≡ before

pub none_woken : (now : ℕ) (start : List (Option ℕ)) (queue : List Sleeper) (capacity : ℕ)
    → IsQueueOf start queue → length start ≤ CPU_SET_SIZE
    → Woken now start start queue empty capacity capacity
none_woken now start queue capacity old few = record {
  queue_of = old;
  rest = refl;
  each = λ cpu. inr (contains-empty nat_cmp cpu, refl);
  few = few;
  capacity_is = refl;
}

due_is : (now wakeup : ℕ) → wakeup ≤ now → nat_le wakeup now ≡ true
due_is now wakeup low = search rules

not_due : (now wakeup : ℕ) → now < wakeup → nat_le wakeup now ≡ false
not_due now wakeup high = search rules

map_cleared : (now : ℕ) (sleepers : List (Option ℕ)) (cpu : ℕ)
    → is_wakeup_due now (get_or sleepers cpu None) ≡ true
    → map (asleep_still now) (slice_set sleepers cpu None) ≡ map (asleep_still now) sleepers
map_cleared now [] cpu due = refl
map_cleared now (sleeper ∷ sleepers) zero due =
    ap (λ (s : Option ℕ). s ∷ map (asleep_still now) sleepers)
    (sym (ap (λ (b : Bool). if b then None else sleeper) due))
map_cleared now (sleeper ∷ sleepers) (suc cpu) due =
    ap (λ rest. asleep_still now sleeper ∷ rest) (map_cleared now sleepers cpu due)

-- the last of the queue is woken
pub woken_more : (now : ℕ) (start sleepers : List (Option ℕ)) (queue front : List Sleeper) (due : Cpus)
    (before capacity now_capacity : ℕ) (s : Sleeper)
    → Woken now start sleepers queue due before capacity → queue ≡ front ++ s ∷ [] → s.wakeup ≤ now
    → now_capacity ≡ capacity
    → Woken now start (slice_set sleepers s.cpu.0 None) front (insert due s.cpu.0) before now_capacity
woken_more now start sleepers queue front due before capacity now_capacity s old is low same_capacity =
    let queue_of : IsQueueOf sleepers (front ++ s ∷ []) = subst (λ q. IsQueueOf sleepers q) is old.queue_of in
    let sleeps : get_or sleepers s.cpu.0 None ≡ Some s.wakeup =
    queue_of.sleeps s.cpu.0 s.wakeup (sleeps_here front [] s) in
    let within = sleeps_within sleepers s.cpu.0 s.wakeup sleeps in
    let here_due : is_wakeup_due now (get_or sleepers s.cpu.0 None) ≡ true = ap (is_wakeup_due now) sleeps ∙ due_is now s.wakeup low in
    let has : (cpu : ℕ) → contains (insert due s.cpu.0) cpu ≡ ((cpu == s.cpu.0) || contains due cpu) =
    λ cpu. contains-insert nat_cmp_total due s.cpu.0 cpu ∙ ap (λ t. t || contains due cpu) (unsigned_tied cpu s.cpu.0) in
    record {
      queue_of = subst (λ q. IsQueueOf (slice_set sleepers s.cpu.0 None) q) (append-nil front)
          (rose_queue sleepers front [] s queue_of);
      rest = map_cleared now sleepers s.cpu.0 here_due ∙ old.rest;
      each = λ cpu. elim (cases_Bool (cpu == s.cpu.0)) [
        | inl here ↦
            let same = eqb-true cpu s.cpu.0 here in
            let at_start : is_wakeup_due now (get_or start s.cpu.0 None) ≡ true = elim (old.each s.cpu.0) [
              | inl woken ↦ woken.1
              | inr asleep ↦ ap (is_wakeup_due now) (sym asleep.1) ∙ here_due
            ] in
            inl (
              has cpu ∙ ap (λ t. t || contains due cpu) here,
              ap (λ c. is_wakeup_due now (get_or start c None)) same ∙ at_start,
              ap (λ c. get_or (slice_set sleepers s.cpu.0 None) c None) same
                  ∙ get_or-set_same sleepers s.cpu.0 None None within,
            )
        | inr there ↦
            let apart = eqb-false cpu s.cpu.0 there in
            let still = get_or-set_other sleepers s.cpu.0 cpu None None apart in
            let in_due : contains (insert due s.cpu.0) cpu ≡ contains due cpu =
            has cpu ∙ ap (λ t. t || contains due cpu) there in
            elim (old.each cpu) [
              | inl woken ↦ inl (in_due ∙ woken.0, woken.1, still ∙ woken.2)
              | inr asleep ↦ inr (in_due ∙ asleep.0, still ∙ asleep.1)
            ]
      ];
      few = rw length-set old.few;
      capacity_is = same_capacity ∙ old.capacity_is;
    }

-- none is left that is due
map_none : (now : ℕ) (sleepers : List (Option ℕ))
    → ((cpu : ℕ) → is_wakeup_due now (get_or sleepers cpu None) ≡ false)
    → map (asleep_still now) sleepers ≡ sleepers
map_none now [] none = refl
map_none now (sleeper ∷ sleepers) none = λ i.
    ap (λ (b : Bool). if b then None else sleeper) (none 0) i ∷ map_none now sleepers (λ cpu. none (suc cpu)) i

pub record AllWoken (now : ℕ) (start sleepers : List (Option ℕ)) (due : Cpus) : Type 0 where
  pub sleepers_are : sleepers ≡ map (asleep_still now) start
  pub due_are : (cpu : ℕ) → contains due cpu ≡ is_wakeup_due now (get_or start cpu None)

none_due : (now : ℕ) (found : Option ℕ) → ((wakeup : ℕ) → found ≡ Some wakeup → now < wakeup)
    → is_wakeup_due now found ≡ false
none_due now None later = refl
none_due now (Some wakeup) later = not_due now wakeup (later wakeup refl)

pub all_woken : (now : ℕ) (start sleepers : List (Option ℕ)) (queue : List Sleeper) (due : Cpus)
    (before capacity : ℕ) → Woken now start sleepers queue due before capacity → After now queue
    → AllWoken now start sleepers due
all_woken now start sleepers queue due before capacity old after =
    let none : (cpu : ℕ) → is_wakeup_due now (get_or sleepers cpu None) ≡ false = λ cpu.
    none_due now (get_or sleepers cpu None) (λ wakeup is.
    each_sleeps (λ w. now < w) cpu wakeup queue after (old.queue_of.queued cpu wakeup is)) in
    record {
      sleepers_are = sym (map_none now sleepers none) ∙ old.rest;
      due_are = λ cpu. elim (old.each cpu) [
        | inl woken ↦ woken.0 ∙ sym woken.1
        | inr asleep ↦ asleep.0 ∙ sym (none cpu) ∙ ap (is_wakeup_due now) asleep.1
      ];
    }

pub first_later : (now : ℕ) (sleepers : List (Option ℕ)) (queue : List Sleeper)
    → IsQueueOf sleepers queue → now < first_wakeup queue → After now queue
first_later now sleepers queue old later =
    each_is (λ s. first_wakeup queue ≤ s.wakeup) (λ s. now < s.wakeup) queue (λ s low. omega arith)
    (first_bounds queue old.descending old.early).0

pub empty_later : (now : ℕ) (queue : List Sleeper) → length queue ≡ 0 → After now queue
empty_later now [] none = tt
empty_later now (s ∷ queue) none = absurd (omega arith)
