-- for crates above: whom a look finds asleep, as the times that were told change
use Rattle.std.proofs.Common.{◌≡◌, ℕ, zero, suc, ◌+◌, ◌<◌, ◌≤◌, List, [], ◌∷◌, Bool, true, false}
use Rattle.std.proofs.Common.{Option, Some, None, refl, sym, ap, ◌∙◌, arith, inl, inr, length, min}
use Rattle.std.specs.Prelude.{◌⊎◌, ◌&&◌, ◌==◌, ◌||◌, not, filter, find, nat_le, option_and_then}
use Rattle.std.specs.Prelude.{slice_index_or}
use Rattle.std.specs.List.{list_any, range_with_len}
use Rattle.std.proofs.lemmas.Bool.{and_parts, both_ways, cases_Bool, cases_lt, eq-eqb, eqb-true}
use Rattle.std.proofs.lemmas.Bool.{false≢true, leb-true, or_cases, or_left, or_right}
use Rattle.std.proofs.lemmas.Option.{none-some}
use Rattle.tm_base.specs.declared.names.TheConstants.{NEVER}
use Rattle.tm_base.specs.declared.names.Child.{Child}
use Rattle.tree_plan.specs.Paths.{group_at_of, is_under}
use Rattle.play_rules.specs.State.{State, all_cpus, cpu_at, cpu_count}
use Rattle.play_rules.specs.Hierarchy.{due_sleeper, due_sleepers, inactive_child, is_due_sleeper}
use Rattle.play_rules.specs.Hierarchy.{least_told, looks_after, looks_after_where, looks_at, named}
use Rattle.play_rules.specs.Hierarchy.{towards}
use Rattle.play_laws.proofs.Answered.Ranges.{in_range, least_below, least_of, member_was, range_low}
use Rattle.play_laws.proofs.Answered.Settles.{found_member}
use Rattle.play_laws.proofs.Jiffies.Inside.{Frame}

-- WHAT A LOOK READS besides is the same in a frame
inactive_of : (from s : State) → Frame from s → (o : Option Child)
    → inactive_child s o ≡ inactive_child from o
inactive_of from s frame None = refl
inactive_of from s frame (Some m) =
    λ i. not
    (list_any (λ d. frame.active i d && is_under (frame.tree i) d m)
    (range_with_len 0 (frame.count i)))

pub inactive_same : (from s : State) → Frame from s → (d g : ℕ)
    → inactive_child s (towards s.tree d g) ≡ inactive_child from (towards from.tree d g)
inactive_same from s frame d g =
    inactive_of from s frame (towards s.tree d g)
    ∙ ap (λ t. inactive_child from (towards t d g)) frame.tree

looks_where : (from s : State) → Frame from s → (c : ℕ) (o : Option ℕ)
    → looks_after_where s c o ≡ looks_after_where from c o
looks_where from s frame c None = refl
looks_where from s frame c (Some g) =
    λ i. looks_at (frame.tree i) c g (slice_index_or (frame.migrators i) g None)

pub looks_same : (from s : State) → Frame from s → (c level : ℕ)
    → looks_after s c level ≡ looks_after from c level
looks_same from s frame c level =
    looks_where from s frame c (group_at_of s.tree c level)
    ∙ ap (λ t. looks_after_where from c (group_at_of t c level)) frame.tree

pub sleeper_same : (s t : State) → Frame s t → t.clock ≡ s.clock → (g d : ℕ)
    → (cpu_at t d).told ≡ (cpu_at s d).told
    → is_due_sleeper t g d ≡ is_due_sleeper s g d
sleeper_same s t frame clock g d told =
    λ i. nat_le (told i) (clock i) && inactive_same s t frame d g i

-- WHOM A LOOK NAMES
kept_passes : (p : ℕ → Bool) (xs : List ℕ) (d : ℕ) → list_any (λ x. x == d) (filter p xs) ≡ true
    → p d ≡ true
kept_passes p [] d is = absurd (false≢true is)
kept_passes p (x ∷ xs) d is =
    elim (cases_Bool (p x)) [
      | inl here ↦
          let at : ((x == d) || list_any (λ y. y == d) (filter p xs)) ≡ true = rw here at is in
          elim (or_cases (x == d) (list_any (λ y. y == d) (filter p xs)) at) [
            | inl same ↦ ap p (sym (eqb-true x d same)) ∙ here
            | inr later ↦ kept_passes p xs d later
          ]
      | inr out ↦ let at : list_any (λ y. y == d) (filter p xs) ≡ true =
          rw out at is in kept_passes p xs d at
    ]

pub record IsNamed (s : State) (c level d : ℕ) : Type 0 where
  pub group : ℕ
  pub at : group_at_of s.tree c level ≡ Some group
  pub low : d < cpu_count s
  pub sleeper : is_due_sleeper s group d ≡ true

named_by : (s : State) (c level d : ℕ) (o : Option ℕ) → group_at_of s.tree c level ≡ o
    → option_and_then (due_sleeper s) o ≡ Some d → IsNamed s c level d
named_by s c level d None at is = absurd (none-some d is)
named_by s c level d (Some g) at is =
    let sleepers = due_sleepers s g in
    let member = found_member (λ e. (cpu_at s e).told == least_told s sleepers) sleepers d is in
    record {
      group = g;
      at = at;
      low = range_low (cpu_count s) d (member_was (is_due_sleeper s g) (all_cpus s) d member);
      sleeper = kept_passes (is_due_sleeper s g) (all_cpus s) d member;
    }

pub named_is : (s : State) (c level d : ℕ) → named s c level ≡ Some d → IsNamed s c level d
named_is s c level d is = named_by s c level d (group_at_of s.tree c level) refl is

-- WHERE IT NAMES NONE there is none to name
least_there : (h : ℕ → ℕ) (z : ℕ) (xs : List ℕ) → (least_of h z xs ≡ z)
    ⊎ ((x : ℕ) × (list_any (λ y. y == x) xs ≡ true) × (h x ≡ least_of h z xs))
least_there h z [] = inl refl
least_there h z (x ∷ xs) =
    elim (least_there h (min z (h x)) xs) [
      | inr (y, there, is) ↦ inr (y, or_right (x == y) (list_any (λ w. w == y) xs) there, is)
      | inl is ↦
          elim (cases_lt z (h x)) [
            | inl below ↦ inl (omega (arith, is, below))
            | inr above ↦
                inr (
                  x,
                  or_left (x == x) (list_any (λ w. w == x) xs) (eq-eqb x x refl),
                  omega
                      (arith, is, above),
                )
          ]
    ]

find_none : (p : ℕ → Bool) (xs : List ℕ) (d : ℕ) → find p xs ≡ None
    → list_any (λ x. x == d) xs ≡ true → p d ≡ true → ⊥
find_none p [] d none is passes = both_ways false refl is
find_none p (x ∷ xs) d none is passes =
    elim (cases_Bool (p x)) [
      | inl here ↦ let at : Some x ≡ None = rw here at none in none-some x (sym at)
      | inr out ↦
          let rest : find p xs ≡ None = rw out at none in
          elim (or_cases (x == d) (list_any (λ y. y == d) xs) is) [
            | inl same ↦ both_ways (p x) out (ap p (eqb-true x d same) ∙ passes)
            | inr later ↦ find_none p xs d rest later passes
          ]
    ]

filter_in : (p : ℕ → Bool) (xs : List ℕ) (d : ℕ) → list_any (λ x. x == d) xs ≡ true → p d ≡ true
    → list_any (λ x. x == d) (filter p xs) ≡ true
filter_in p [] d is passes = absurd (false≢true is)
filter_in p (x ∷ xs) d is passes =
    elim (or_cases (x == d) (list_any (λ y. y == d) xs) is) [
      | inl here ↦
          let at : p x ≡ true = ap p (eqb-true x d here) ∙ passes in
          rw at (or_left (x == d) (list_any (λ y. y == d) (filter p xs)) here)
      | inr later ↦
          elim (cases_Bool (p x)) [
            | inl at ↦
                rw at
                (or_right (x == d) (list_any (λ y. y == d) (filter p xs))
                (filter_in p xs d later passes))
            | inr out ↦ rw out (filter_in p xs d later passes)
          ]
    ]

pub none_named : (s : State) (c level g d : ℕ) → s.clock < NEVER
    → group_at_of s.tree c level ≡ Some g
    → named s c level ≡ None → d < cpu_count s → is_due_sleeper s g d ≡ true → ⊥
none_named s c level g d early at none low is =
    let told = λ (e : ℕ). (cpu_at s e).told in
    let sleepers = due_sleepers s g in
    let gone : due_sleeper s g ≡ None = ap (option_and_then (due_sleeper s)) (sym at) ∙ none in
    let member = filter_in (is_due_sleeper s g) (all_cpus s) d (in_range (cpu_count s) d low) is in
    let least = least_below told NEVER sleepers d member in
    let due =
    leb-true (told d) s.clock
    (and_parts (nat_le (told d) s.clock) (inactive_child s (towards s.tree d g)) is).0 in
    elim (least_there told NEVER sleepers) [
      | inl never ↦ omega (arith, never, least, due, early)
      | inr (x, there, first) ↦
          find_none (λ e. told e == least_told s sleepers) sleepers x gone there
          (eq-eqb (told x) (least_told s sleepers) first)
    ]

-- HOW MANY there are
filter_short : (p : ℕ → Bool) (xs : List ℕ) → length (filter p xs) ≤ length xs
filter_short p [] = omega arith
filter_short p (x ∷ xs) =
    let rest = filter_short p xs in
    elim (cases_Bool (p x))
    [ inl here ↦ rw here (omega (arith, rest)) | inr out ↦ rw out (omega (arith, rest)) ]

range_long : (a n : ℕ) → length (range_with_len a n) ≡ n
range_long a zero = refl
range_long a (suc n) = ap suc (range_long (a + 1) n)

pub few_sleepers : (s : State) (g : ℕ) → length (due_sleepers s g) ≤ cpu_count s
few_sleepers s g =
    let short = filter_short (is_due_sleeper s g) (all_cpus s) in
    let long = range_long 0 (cpu_count s) in omega (arith, short, long)

-- where no fewer pass than there were, and one of them no longer does, there is one fewer
filter_no_more : (p q : ℕ → Bool) (xs : List ℕ) → ((x : ℕ) → q x ≡ true → p x ≡ true)
    → length (filter q xs) ≤ length (filter p xs)
filter_no_more p q [] less = omega arith
filter_no_more p q (x ∷ xs) less =
    let rest = filter_no_more p q xs less in
    elim (cases_Bool (q x)) [
      | inl on ↦ rw (on, less x on) (omega (arith, rest))
      | inr off ↦
          elim (cases_Bool (p x))
          [ inl is ↦ rw (off, is) (omega (arith, rest)) | inr out ↦ rw (off, out) rest ]
    ]

filter_fewer : (p q : ℕ → Bool) (xs : List ℕ) (d : ℕ) → ((x : ℕ) → q x ≡ true → p x ≡ true)
    → list_any (λ x. x == d) xs ≡ true
    → p d ≡ true → q d ≡ false → suc (length (filter q xs)) ≤ length (filter p xs)
filter_fewer p q [] d less is was gone = absurd (false≢true is)
filter_fewer p q (x ∷ xs) d less is was gone =
    elim (or_cases (x == d) (list_any (λ y. y == d) xs) is) [
      | inl here ↦
          let same = eqb-true x d here in
          let rest = filter_no_more p q xs less in
          rw (ap p same ∙ was, ap q same ∙ gone) (omega (arith, rest))
      | inr later ↦
          let rest = filter_fewer p q xs d less later was gone in
          elim (cases_Bool (q x)) [
            | inl on ↦ rw (on, less x on) (omega (arith, rest))
            | inr off ↦
                elim (cases_Bool (p x)) [
                  | inl on ↦ rw (off, on) (omega (arith, rest))
                  | inr out ↦ rw (off, out) rest
                ]
          ]
    ]

pub one_fewer : (p q : ℕ → Bool) (n d : ℕ) → ((x : ℕ) → q x ≡ true → p x ≡ true) → d < n
    → p d ≡ true → q d ≡ false
    → suc (length (filter q (range_with_len 0 n))) ≤ length (filter p (range_with_len 0 n))
one_fewer p q n d less low was gone =
    filter_fewer p q (range_with_len 0 n) d less (in_range n d low) was gone

pub none_passes : (p : ℕ → Bool) (n d : ℕ) → length (filter p (range_with_len 0 n)) ≤ 0 → d < n
    → p d ≡ true → ⊥
none_passes p n d none low is =
    let fewer =
    filter_fewer p (λ x. false) (range_with_len 0 n) d (λ x on. absurd (false≢true on))
    (in_range n d low) is refl in
    omega (arith, fewer, none)
