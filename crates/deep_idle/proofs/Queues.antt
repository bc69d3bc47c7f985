-- queues of sleepers, as one comes or goes in the middle
use Rattle.std.proofs.Common.{◌≡◌, ℕ, ◌≤◌, List, [], ◌∷◌, ◌++◌}
use Rattle.std.proofs.Common.{refl, sym, subst, ◌⊎◌, inl, inr, arith}
use Rattle.deep_idle.specs.declared.order.Sleeper.{Sleeper}
use Rattle.deep_idle.specs.Order.{AreDescending, AreDistinctSleepers, EachSleeper, LacksSleeper, NotAfter}
use Rattle.deep_idle.specs.Order.{NotBefore, Sleeps, last_wakeup}

pub each_put : (P : Sleeper → Type 0) (front back : List Sleeper) (s : Sleeper)
    → EachSleeper P (front ++ back) → P s → EachSleeper P (front ++ s ∷ back)
each_put P [] back s each here = (here, each)
each_put P (t ∷ front) back s each here = (each.0, each_put P front back s each.1 here)

pub each_out : (P : Sleeper → Type 0) (front back : List Sleeper) (s : Sleeper)
    → EachSleeper P (front ++ s ∷ back) → EachSleeper P (front ++ back) × P s
each_out P [] back s each = (each.1, each.0)
each_out P (t ∷ front) back s each =
    let rest = each_out P front back s each.1 in ((each.0, rest.0), rest.1)

pub each_is : (P Q : Sleeper → Type 0) (list : List Sleeper) → ((s : Sleeper) → P s → Q s)
    → EachSleeper P list → EachSleeper Q list
each_is P Q [] gives each = tt
each_is P Q (s ∷ list) gives each = (gives s each.0, each_is P Q list gives each.1)

pub descending_put : (front back : List Sleeper) (s : Sleeper) → AreDescending (front ++ back)
    → NotBefore s.wakeup front → NotAfter s.wakeup back → AreDescending (front ++ s ∷ back)
descending_put [] back s order before behind = (behind, order)
descending_put (t ∷ front) back s order before behind = (
  each_put (λ u. u.wakeup ≤ t.wakeup) front back s order.0 before.0,
  descending_put front back s order.1 before.1 behind,
)

pub descending_out : (front back : List Sleeper) (s : Sleeper) → AreDescending (front ++ s ∷ back)
    → AreDescending (front ++ back)
descending_out [] back s order = order.1
descending_out (t ∷ front) back s order = (
  (each_out (λ u. u.wakeup ≤ t.wakeup) front back s order.0).0,
  descending_out front back s order.1,
)

pub lacks_put : (cpu : ℕ) (front back : List Sleeper) (s : Sleeper) → LacksSleeper cpu (front ++ back)
    → (s.cpu.0 ≡ cpu → ⊥) → LacksSleeper cpu (front ++ s ∷ back)
lacks_put cpu [] back s lacks away = (away, lacks)
lacks_put cpu (t ∷ front) back s lacks away = (lacks.0, lacks_put cpu front back s lacks.1 away)

pub lacks_out : (cpu : ℕ) (front back : List Sleeper) (s : Sleeper) → LacksSleeper cpu (front ++ s ∷ back)
    → LacksSleeper cpu (front ++ back) × (s.cpu.0 ≡ cpu → ⊥)
lacks_out cpu [] back s lacks = (lacks.1, lacks.0)
lacks_out cpu (t ∷ front) back s lacks =
    let rest = lacks_out cpu front back s lacks.1 in ((lacks.0, rest.0), rest.1)

pub distinct_put : (front back : List Sleeper) (s : Sleeper) → AreDistinctSleepers (front ++ back)
    → LacksSleeper s.cpu.0 (front ++ back) → AreDistinctSleepers (front ++ s ∷ back)
distinct_put [] back s distinct lacks = (lacks, distinct)
distinct_put (t ∷ front) back s distinct lacks = (
  lacks_put t.cpu.0 front back s distinct.0 (λ same. lacks.0 (sym same)),
  distinct_put front back s distinct.1 lacks.1,
)

pub distinct_out : (front back : List Sleeper) (s : Sleeper) → AreDistinctSleepers (front ++ s ∷ back)
    → AreDistinctSleepers (front ++ back) × LacksSleeper s.cpu.0 (front ++ back)
distinct_out [] back s distinct = (distinct.1, distinct.0)
distinct_out (t ∷ front) back s distinct =
    let rest = distinct_out front back s distinct.1 in
    let here = lacks_out t.cpu.0 front back s distinct.0 in
    ((here.0, rest.0), ((λ same. here.1 (sym same)), rest.1))

pub sleeps_put : (cpu wakeup : ℕ) (front back : List Sleeper) (s : Sleeper)
    → Sleeps cpu wakeup (front ++ back) → Sleeps cpu wakeup (front ++ s ∷ back)
sleeps_put cpu wakeup [] back s there = inr there
sleeps_put cpu wakeup (t ∷ front) back s (inl is) = inl is
sleeps_put cpu wakeup (t ∷ front) back s (inr later) = inr (sleeps_put cpu wakeup front back s later)

pub sleeps_here : (front back : List Sleeper) (s : Sleeper)
    → Sleeps s.cpu.0 s.wakeup (front ++ s ∷ back)
sleeps_here [] back s = inl (refl, refl)
sleeps_here (t ∷ front) back s = inr (sleeps_here front back s)

pub sleeps_out : (cpu wakeup : ℕ) (front back : List Sleeper) (s : Sleeper)
    → Sleeps cpu wakeup (front ++ s ∷ back)
    → ((s.cpu.0 ≡ cpu) × (s.wakeup ≡ wakeup)) ⊎ Sleeps cpu wakeup (front ++ back)
sleeps_out cpu wakeup [] back s there = there
sleeps_out cpu wakeup (t ∷ front) back s (inl is) = inr (inl is)
sleeps_out cpu wakeup (t ∷ front) back s (inr later) =
    elim (sleeps_out cpu wakeup front back s later) [ inl here ↦ inl here | inr rest ↦ inr (inr rest) ]

pub not_both : (cpu wakeup : ℕ) (list : List Sleeper) → LacksSleeper cpu list → Sleeps cpu wakeup list → ⊥
not_both cpu wakeup [] lacks there = there
not_both cpu wakeup (s ∷ list) lacks (inl is) = lacks.0 is.0
not_both cpu wakeup (s ∷ list) lacks (inr later) = not_both cpu wakeup list lacks.1 later

pub lacks_all : (cpu : ℕ) (list : List Sleeper) → ((wakeup : ℕ) → Sleeps cpu wakeup list → ⊥)
    → LacksSleeper cpu list
lacks_all cpu [] none = tt
lacks_all cpu (s ∷ list) none =
    ((λ same. none s.wakeup (inl (same, refl))), lacks_all cpu list (λ wakeup there. none wakeup (inr there)))

-- what holds of each holds of a sleeper's wakeup
pub each_sleeps : (P : ℕ → Type 0) (cpu wakeup : ℕ) (list : List Sleeper)
    → EachSleeper (λ s. P s.wakeup) list → Sleeps cpu wakeup list → P wakeup
each_sleeps P cpu wakeup [] each there = absurd there
each_sleeps P cpu wakeup (s ∷ list) each (inl is) = subst P is.1 each.0
each_sleeps P cpu wakeup (s ∷ list) each (inr later) = each_sleeps P cpu wakeup list each.1 later

-- the last wakes first
pub last_pushed : (wakeup : ℕ) (front : List Sleeper) (s : Sleeper)
    → last_wakeup wakeup (front ++ s ∷ []) ≡ s.wakeup
last_pushed wakeup [] s = refl
last_pushed wakeup (t ∷ front) s = last_pushed t.wakeup front s

pub last_least : (wakeup : ℕ) (list : List Sleeper) → NotAfter wakeup list → AreDescending list
    → NotBefore (last_wakeup wakeup list) list × (last_wakeup wakeup list ≤ wakeup)
last_least wakeup [] after order = (tt, omega arith)
last_least wakeup (s ∷ list) after order =
    let rest = last_least s.wakeup list order.0 order.1 in
    let here = after.0 in let low = rest.1 in
    ((low, rest.0), omega arith)
