-- for crates above: looks are whole
use Rattle.std.proofs.Common.{◌≡◌, ℕ, zero, suc, ◌+◌, ◌<◌, ◌≤◌, List, [], ◌∷◌, Bool, true}
use Rattle.std.proofs.Common.{Option, Some, None, refl, sym, ◌∙◌, subst, arith, inl, inr, length}
use Rattle.std.proofs.Common.{take, zero-add}
use Rattle.std.specs.Prelude.{◌==◌, filter, nat_eq}
use Rattle.std.specs.List.{list_any, range_with_len}
use Rattle.std.specs.Ordering.{nat_cmp}
use Rattle.std.specs.FinSet as set
use Rattle.std.specs.FinSet.{contains-from_list_nat}
use Rattle.std.proofs.lemmas.Bool.{cases_Bool, cond-false, eq-eqb, or_left, or_right}
use Rattle.tree_plan.specs.Paths.{cpu_count_of, group_at_of, level_count_of}
use Rattle.play_rules.specs.Hierarchy.{due_sleepers, is_due_sleeper, looks_after, named}
use Rattle.play_rules.specs.Interrupts.{Replies, having_interrupt, interrupts, look, look_at}
use Rattle.play_rules.specs.Moments.{last_state}
use Rattle.play_rules.specs.State.{State, all_cpus, cpu_count, start}
use Rattle.play_rules.specs.Play.{at_clock, has_interrupt, plain_rules, play_start, play_turns}
use Rattle.play_laws.specs.Jiffies.Looks.{LooksAreWhole, LooksUpTo, after_look, looks_at_level}
use Rattle.play_laws.specs.Jiffies.Looks.{looks_from}
use Rattle.play_laws.proofs.Answered.Plays.{kept_after_each}
use Rattle.play_laws.proofs.Answered.Ranges.{member_was, range_low}
use Rattle.play_laws.proofs.Answered.Scripts.{moments_rise, tree_for}
use Rattle.play_laws.proofs.Jiffies.CourseInterrupts.{climbs_to, comes_to_look, first_kept}
use Rattle.play_laws.proofs.Jiffies.CourseInterrupts.{try_kept}
use Rattle.play_laws.proofs.Jiffies.CourseTurns.{each_begins}
use Rattle.play_laws.proofs.Jiffies.InterruptSteps.{Begun, Climbed, Looking, looks_there}
use Rattle.play_laws.proofs.Jiffies.Jiffies.{Keep, Known, comes_on, course, few_timers}
use Rattle.play_laws.proofs.Jiffies.Sleepers.{none_named}
use Rattle.play_laws.proofs.Jiffies.Starts.{first_begun}

none_of : (xs : List ℕ) → length xs ≤ 0 → xs ≡ []
none_of [] short = refl
none_of (x ∷ xs) short = absurd (omega (arith, short))

-- where no member passes, the filter leaves none
filter_none : (p : ℕ → Bool) (xs : List ℕ)
    → ((d : ℕ) → list_any (λ x. x == d) xs ≡ true → p d ≡ true → ⊥) → filter p xs ≡ []
filter_none p [] none = refl
filter_none p (x ∷ xs) none =
    elim (cases_Bool (p x)) [
      | inl is ↦
          absurd (none x (or_left (x == x) (list_any (λ y. y == x) xs) (eq-eqb x x refl)) is)
      | inr not ↦
          cond-false (p x) (x ∷ filter p xs) (filter p xs) not
          ∙ filter_none p xs
          (λ d there passes. none d (or_right (x == d) (list_any (λ y. y == d) xs) there) passes)
    ]

module _ (jobs : Replies) (cpus levels now : ℕ) (due : set.FinSet nat_cmp) (c : ℕ)
    (low : c < cpus) where
  abbrev NoneLeft : (level : ℕ) → State → Type 0
  NoneLeft level s = (g : ℕ) → group_at_of s.tree c level ≡ Some g → due_sleepers s g ≡ []

  -- A LOOK of at least as many tries as there are sleepers leaves none
  look_at_whole : (o : Option ℕ) (level n : ℕ) (tried : set.FinSet nat_cmp) (s : State)
      → named s c level ≡ o → Looking cpus levels now due c level (suc n) s
      → ((more : set.FinSet nat_cmp) (t : State) → Looking cpus levels now due c level n t
      → NoneLeft level (look jobs plain_rules n c level more t).state)
      → NoneLeft level
      (look_at jobs plain_rules o c (look jobs plain_rules n c level) tried s).state
  look_at_whole None level n tried s none looking rest = λ g at.
      let early = looking.climbed.inside.holds.early in
      filter_none (is_due_sleeper s g) (all_cpus s)
      (λ d there is.
      none_named s c level g d (omega (arith, early)) at none (range_low (cpu_count s) d there) is)
  look_at_whole (Some d) level n tried s is looking rest =
      rest (set.insert tried d) _
      (try_kept jobs cpus levels (Keep cpus levels) (course cpus levels) now due c low level n tried
      d s is looking)

  look_whole : (n level : ℕ) (tried : set.FinSet nat_cmp) (s : State)
      → Looking cpus levels now due c level n s
      → NoneLeft level (look jobs plain_rules n c level tried s).state
  unfolding look
  look_whole zero level tried s looking = λ g at. none_of (due_sleepers s g) (looking.few g at)
  look_whole (suc n) level tried s looking =
      look_at_whole (named s c level) level n tried s refl looking
      (λ more t at. look_whole n level more t at)

-- in a moment that begins so
module _ (jobs : Replies) (cpus levels now : ℕ) (s : State)
    (begins : Begun cpus levels now (having_interrupt plain_rules s) 0 s) (c : ℕ)
    (is_due : set.contains (having_interrupt plain_rules s) c ≡ true) where
  abbrev due : set.FinSet nat_cmp
  due = having_interrupt plain_rules s

  low : c < cpus
  low =
      let count = begins.holds.count in
      let xs = range_with_len 0 (cpu_count s) in
      let member : list_any (λ y. nat_eq y c) (filter (has_interrupt s) xs) ≡ true =
      sym (contains-from_list_nat (filter (has_interrupt s) xs) c) ∙ is_due in
      let below = range_low (cpu_count s) c (member_was (has_interrupt s) xs c member) in
      omega (arith, below, count)

  at_its_turn : Begun cpus levels now due c
      (interrupts jobs plain_rules c 0 (having_interrupt plain_rules s) s).state
  at_its_turn =
      let mine = low in
      subst
      (λ k. Begun cpus levels now due k (interrupts jobs plain_rules c 0 due s).state)
      (zero-add c)
      (first_kept jobs cpus levels (Keep cpus levels) (course cpus levels) now due c 0 s
      (omega (arith, mine)) begins)

  at_level : (level : ℕ) → level ≤ levels
      → ((l : ℕ) → l < level → LooksUpTo jobs s c l)
      → Climbed cpus levels now due c level (looks_at_level jobs s c level)
  at_level level within up =
      let own = looks_from jobs s c in
      let first =
      comes_to_look jobs cpus levels (Keep cpus levels) (course cpus levels) now due c low
      (interrupts jobs plain_rules c 0 due s).state is_due at_its_turn in
      subst (λ k. Climbed cpus levels now due c k (looks_at_level jobs s c level)) (zero-add level)
      (climbs_to jobs cpus levels (Keep cpus levels) (course cpus levels) now due c low level 0 own
      (omega (arith, within)) first
      (λ l below.
      subst (λ k. looks_after (looks_at_level jobs s c l) c k ≡ true) (sym (zero-add l))
      (up l below l (omega arith))))

  pub none_left : (level : ℕ) → level < levels → LooksUpTo jobs s c level → (g : ℕ)
      → group_at_of (after_look jobs s c level).tree c level ≡ Some g
      → due_sleepers (after_look jobs s c level) g ≡ []
  none_left level within up =
      let there = looks_at_level jobs s c level in
      look_whole jobs cpus levels now due c low (cpu_count there) level set.empty there
      (looks_there cpus levels now due c level there
      (at_level level (omega (arith, within))
      (λ l below k under. up k (omega (arith, below, under)))))

pub looks_are_whole : LooksAreWhole
looks_are_whole jobs script n t is there c level g is_due within up at =
    let tree = tree_for script in
    let cpus = cpu_count_of tree in
    let levels = level_count_of tree in
    let s = at_clock t.at (last_state (play_start script) (take n (play_turns jobs script))) in
    let begins =
    each_begins jobs cpus levels script.end script.version script.timers (few_timers jobs script is)
    (Keep cpus levels) (course cpus levels) (Known jobs script is) (comes_on jobs script is)
    (script.end + 1) 0 script.moments (start tree script.timers) is.moments
    (moments_rise script is) (omega arith) (first_begun script is) (kept_after_each jobs script is)
    n t there in
    let same = begins.levels_are in
    none_left jobs cpus levels t.at s begins c is_due level (omega (arith, within, same)) up g at
