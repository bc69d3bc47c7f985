-- each step of an interrupt keeps what holds inside the interrupts of a moment
use Rattle.std.proofs.Common.{◌≡◌, ℕ, zero, suc, ◌+◌, ◌<◌, ◌≤◌, true, false, Option, Some, None}
use Rattle.std.proofs.Common.{refl, sym, ap, ◌∙◌, subst, arith, inl, inr, length}
use Rattle.std.specs.Prelude.{◌⊎◌, All, nat_le}
use Rattle.std.specs.Ordering.{nat_cmp}
use Rattle.std.specs.FinSet as set
use Rattle.std.proofs.lemmas.Bool.{and_from, both_ways, cases_eq, cases_lt, le-leb}
use Rattle.std.proofs.lemmas.List.Elements.{All-cons, All-nil}
use Rattle.tm_base.specs.declared.names.Class.{Class}
use Rattle.tm_base.specs.declared.names.Class.TheVariants.{Pinned, Global, Deferrable}
use Rattle.wheel_core.specs.declared.item.Item.{Item}
use Rattle.wheel_core.specs.PlainBase.{IsSound, OutIsDue, PlainBase, next_out, taken}
use Rattle.wheel_core.proofs.Plain.{all_after_out, due_out, out_holds, sound_after_out}
use Rattle.tree_plan.specs.Paths.{group_at_of, level_count_of}
use Rattle.cpu_bases.specs.CpuBases.{base_of, class_in}
use Rattle.cpu_bases.specs.Journals.{MayHandOut}
use Rattle.play_rules.specs.declared.asks.Arming.{Arming}
use Rattle.play_rules.specs.State.{Cpu, State, cpu_at, cpu_count}
use Rattle.play_rules.specs.Hierarchy.{due_sleepers, inactive_child, is_due_sleeper, looks_after}
use Rattle.play_rules.specs.Hierarchy.{named, towards}
use Rattle.play_rules.specs.Timers.{armed_on, bases_at, drained_on, due_items, item_then, where_queued}
use Rattle.play_laws.proofs.Shape.Shape.{nth_class}
use Rattle.play_laws.proofs.Jiffies.Course.{IsArmingIn, IsItemIn}
use Rattle.play_laws.proofs.Jiffies.Inside.{Awaits, Covers, Inside, IsEmpty, SomeOnline, arm_inside}
use Rattle.play_laws.proofs.Jiffies.Inside.{drain_inside, inside_as, still_awaits}
use Rattle.play_laws.proofs.Jiffies.Machines.{Holds, queued_nowhere}
use Rattle.play_laws.proofs.Jiffies.Sleepers.{IsNamed, few_sleepers, inactive_same, looks_same}
use Rattle.play_laws.proofs.Jiffies.Sleepers.{none_named, none_passes}
use Rattle.play_laws.proofs.Jiffies.Waking.{Waking}

-- BETWEEN the parts of a moment that aren't interrupts: no timer that wakes an online CPU is due,
-- and nothing is queued on an offline one
pub record Rested (now d : ℕ) (x : Cpu) : Type 0 where
  pub waking : x.online ≡ true → Waking (now + 1) x.bases
  pub away : x.online ≡ false → IsEmpty x.bases

pub record Quiet (cpus levels now : ℕ) (F : (now : ℕ) → ℕ → Cpu → Type 0) (s : State) : Type 0 where
  pub at : s.clock ≡ now
  pub levels_are : level_count_of s.tree ≡ levels
  pub some_online : SomeOnline cpus s
  pub holds : Holds cpus (F s.clock) s

abbrev pub Between : (cpus levels now : ℕ) → State → Type 0
Between cpus levels now s = Quiet cpus levels now Rested s

-- WHO HAD ITS INTERRUPT, or so many drains of it, and who has looked where
abbrev pub HadBefore : set.FinSet nat_cmp → (c d : ℕ) → Type 0
HadBefore due c d = (set.contains due d ≡ true) × (d < c)

abbrev pub HadOwn : set.FinSet nat_cmp → (c drains asked d : ℕ) → Type 0
HadOwn due c drains asked d = HadBefore due c d ⊎ ((d ≡ c) × (asked ≤ drains))

abbrev pub SeenBefore : (c looker level : ℕ) → Type 0
SeenBefore c looker level = looker < c

abbrev pub SeenBelow : (c below looker level : ℕ) → Type 0
SeenBelow c below looker level = (looker < c) ⊎ ((looker ≡ c) × (level < below))

module _ (cpus levels now : ℕ) (due : set.FinSet nat_cmp) where
  abbrev pub Begun : (c : ℕ) → State → Type 0
  Begun c s = Inside cpus levels now due (HadBefore due c) (HadBefore due c) (SeenBefore c) s

  -- CPU c is in its interrupt
  pub record Own (c drains : ℕ) (s : State) : Type 0 where
    pub is_due : set.contains due c ≡ true
    pub inside : Inside cpus levels now due (HadOwn due c drains 1) (HadOwn due c drains 2)
        (SeenBefore c) s

  pub record Climbed (c level : ℕ) (s : State) : Type 0 where
    pub is_due : set.contains due c ≡ true
    pub inside : Inside cpus levels now due (HadOwn due c 3 1) (HadOwn due c 3 2)
        (SeenBelow c level) s

  -- at most so many sleepers are there at a level of its path
  abbrev pub Few : (c level n : ℕ) → State → Type 0
  Few c level n s = (g : ℕ) → group_at_of s.tree c level ≡ Some g → length (due_sleepers s g) ≤ n

  pub record Looking (c level n : ℕ) (s : State) : Type 0 where
    pub climbed : Climbed c level s
    pub few : Few c level n s

  pub record Taking (c level n d : ℕ) (s : State) : Type 0 where
    pub looking : Looking c level (suc n) s
    pub name : IsNamed s c level d

  pub record Running (c level n d : ℕ) (s : State) : Type 0 where
    pub is_due : set.contains due c ≡ true
    pub inside : Inside cpus levels now due (HadOwn due c 3 1) (λ e. HadOwn due c 3 2 e ⊎ (e ≡ d))
        (SeenBelow c level) s
    pub few : Few c level (suc n) s
    pub name : IsNamed s c level d

  abbrev pub Looked : (c : ℕ) → State → Type 0
  Looked c s =
      Inside cpus levels now due (HadOwn due c 3 1) (HadOwn due c 3 2) (SeenBefore (c + 1)) s

  -- INTERRUPTS come one after the other
  before_passed : (c d : ℕ) → set.contains due c ≡ false → HadBefore due (c + 1) d
      → HadBefore due c d
  before_passed c d out (is, low) =
      elim (cases_eq d c) [
        | inl same ↦
            absurd (both_ways (set.contains due c) out (ap (set.contains due) (sym same) ∙ is))
        | inr other ↦ (is, omega (arith, low, other))
      ]

  pub passed_on : (c : ℕ) (s : State) → set.contains due c ≡ false → Begun c s → Begun (c + 1) s
  passed_on c s out inside =
      inside_as cpus levels now due (HadBefore due c) (HadBefore due c) (HadBefore due (c + 1))
      (HadBefore due (c + 1))
      (SeenBefore c) (SeenBefore (c + 1)) s inside (λ d had. before_passed c d out had)
      (λ d had. before_passed c d out had)
      (λ d low awaits.
      inr (still_awaits cpus levels inside.from due (SeenBefore c) (SeenBefore (c + 1)) d
      (λ k level covers seen. (before_passed c k out (covers.is_due, seen)).1) awaits))

  none_own : (c asked d : ℕ) → 0 < asked → HadOwn due c 0 asked d → HadBefore due c d
  none_own c asked d some (inl had) = had
  none_own c asked d some (inr own) = absurd (let few = own.1 in omega (arith, few, some))

  pub entered_on : (c : ℕ) (s : State) → set.contains due c ≡ true → Begun c s → Own c 0 s
  entered_on c s is inside = record {
    is_due = is;
    inside =
        inside_as cpus levels now due (HadBefore due c) (HadBefore due c) (HadOwn due c 0 1)
        (HadOwn due c 0 2)
        (SeenBefore c) (SeenBefore c) s inside (λ d had. none_own c 1 d (omega arith) had)
        (λ d had. none_own c 2 d (omega arith) had)
        (λ d low awaits. inr awaits);
  }

  -- ITS OWN BASES
  own_may : (c : ℕ) (class : Class) → MayHandOut c class c
  own_may c Pinned = refl
  own_may c Global = tt
  own_may c Deferrable = refl

  one_drain : (c k asked d : ℕ) (class : Class) → (asked ≡ k + 1 → nth_class k ≡ class)
      → HadOwn due c (k + 1) asked d
      → HadOwn due c k asked d ⊎ ((d ≡ c) × (nth_class k ≡ class))
  one_drain c k asked d class is (inl had) = inl (inl had)
  one_drain c k asked d class is (inr own) =
      elim (cases_eq asked (k + 1)) [
        | inl same ↦ inr (own.0, is same)
        | inr other ↦ let few = own.1 in inl (inr (own.0, omega (arith, few, other)))
      ]

  first_class : (k : ℕ) → 1 ≡ k + 1 → nth_class k ≡ Pinned
  first_class zero same = refl
  first_class (suc k) same = absurd (omega (arith, same))

  second_class : (k : ℕ) → 2 ≡ k + 1 → nth_class k ≡ Global
  second_class zero same = absurd (omega (arith, same))
  second_class (suc zero) same = refl
  second_class (suc (suc k)) same = absurd (omega (arith, same))

  pub drained_own : (c k : ℕ) (s : State) → c < cpus → Own c k s
      → Own c (k + 1) (drained_on s c (nth_class k) c).state
  drained_own c k s low own = record {
    is_due = own.is_due;
    inside =
        drain_inside cpus levels now due (HadOwn due c k 1) (HadOwn due c k 2)
        (SeenBefore c) s own.inside c low (nth_class k) c
        (HadOwn due c (k + 1) 1) (HadOwn due c (k + 1) 2) (own_may c (nth_class k))
        (λ d had. one_drain c k 1 d Pinned (first_class k) had)
        (λ d had. one_drain c k 2 d Global (second_class k) had);
  }

  -- what a drain hands out are items of the base
  due_all : (Q : Item → Type 0) (n at : ℕ) (base : PlainBase) → IsSound base.items
      → All Q base.items
      → All Q (due_items n at base)
  unfolding due_items
  due_all Q zero at base sound all = All-nil Q
  due_all Q (suc n) at base sound all =
      by (next_out at base) refl
      (due_all Q n at (taken at base) (sound_after_out base (next_out at base) sound)
      (all_after_out Q base (next_out at base) all))
    where
      by : (o : Option Item) → next_out at base ≡ o → All Q (due_items n at (taken at base))
          → All Q (item_then o (due_items n at (taken at base)))
      by None is rest = All-nil Q
      by (Some item) is rest =
          let due = due_out at base sound in
          All-cons Q item (due_items n at (taken at base))
          (out_holds Q at base.items (Some item) all (subst (OutIsDue at base.items) is due)) rest

  pub out_known : (HadP HadG : ℕ → Type 0) (Seen : (c level : ℕ) → Type 0) (home runner : ℕ)
      (class : Class) (s : State) → home < cpus
      → Inside cpus levels now due HadP HadG Seen s
      → All IsItemIn (drained_on s home class runner).items
  out_known HadP HadG Seen home runner class s low inside =
      let one = inside.holds.each home low in
      let fits = one.cpu.told.consistent.fits class in
      due_all IsItemIn (length (base_of class (bases_at s home)).items) s.clock
      (base_of class (bases_at s home)) fits.sound
      fits.timers

  pub free_in : (HadP HadG : ℕ → Type 0) (Seen : (c level : ℕ) → Type 0) (s : State) (timer : ℕ)
      → Inside cpus levels now due HadP HadG Seen s → where_queued s timer ≡ None
      → (d : ℕ) → d < cpus → class_in timer (bases_at s d) ≡ None
  free_in HadP HadG Seen s timer inside none d low =
      let count = inside.holds.count in queued_nowhere s timer none d (omega (arith, low, count))

  pub ran_own : (c k : ℕ) (s : State) (a : Arming) → c < cpus → IsArmingIn a
      → where_queued s a.timer.0 ≡ None → Own c k s
      → Own c k (armed_on s c a).state
  ran_own c k s a low known none own = record {
    is_due = own.is_due;
    inside =
        arm_inside cpus levels now due (HadOwn due c k 1) (HadOwn due c k 2)
        (SeenBefore c) s own.inside c low a known
        (own.inside.due_online c own.is_due)
        (free_in (HadOwn due c k 1) (HadOwn due c k 2) (SeenBefore c) s a.timer.0 own.inside none);
  }

  -- THE LOOK
  none_below : (c looker level : ℕ) → SeenBelow c 0 looker level → SeenBefore c looker level
  none_below c looker level (inl before) = before
  none_below c looker level (inr here) = absurd (let low = here.1 in omega (arith, low))

  pub climbs : (c : ℕ) (s : State) → Own c 3 s → Climbed c 0 s
  climbs c s own = record {
    is_due = own.is_due;
    inside =
        inside_as cpus levels now due (HadOwn due c 3 1) (HadOwn due c 3 2) (HadOwn due c 3 1)
        (HadOwn due c 3 2)
        (SeenBefore c) (SeenBelow c 0) s own.inside (λ d had. had) (λ d had. had)
        (λ d low awaits.
        inr (still_awaits cpus levels own.inside.from due (SeenBefore c) (SeenBelow c 0) d
        (λ k level covers seen. none_below c k level seen) awaits));
  }

  pub looks_there : (c level : ℕ) (s : State) → Climbed c level s → Looking c level (cpu_count s) s
  looks_there c level s climbed = record { climbed = climbed; few = λ g at. few_sleepers s g }

  -- where it stops to look there is no more for it to see
  stops : (c level : ℕ) (s : State) (climbed : Climbed c level s)
      → ((d l : ℕ) → level ≤ l → Covers cpus levels climbed.inside.from due d c l → ⊥) → Looked c s
  stops c level s climbed no_more =
      let inside = climbed.inside in
      inside_as cpus levels now due (HadOwn due c 3 1) (HadOwn due c 3 2) (HadOwn due c 3 1)
      (HadOwn due c 3 2)
      (SeenBelow c level) (SeenBefore (c + 1)) s inside (λ d had. had) (λ d had. had)
      (λ d low awaits.
      inr (still_awaits cpus levels inside.from due (SeenBelow c level) (SeenBefore (c + 1)) d
      (λ k l covers seen.
      elim (cases_eq k c) [
        | inl same ↦
            elim (cases_lt l level) [
              | inl below ↦ inr (same, below)
              | inr above ↦
                  absurd
                  (no_more d l above
                  (subst (λ j. Covers cpus levels inside.from due d j l) same covers))
            ]
        | inr other ↦ inl (omega (arith, seen, other))
      ]) awaits))

  pub looks_no_more : (c level : ℕ) (s : State) → looks_after s c level ≡ false → Climbed c level s
      → Looked c s
  looks_no_more c level s not climbed =
      stops c level s climbed
      (λ d l above covers.
      both_ways (looks_after s c level) not
      (looks_same climbed.inside.from s climbed.inside.frame c level ∙ covers.looks level above))

  pub top_seen : (c : ℕ) (s : State) → Climbed c levels s → Looked c s
  top_seen c s climbed =
      stops c levels s climbed
      (λ d l above covers. let below = covers.below in omega (arith, above, below))

  -- where there is no sleeper left at a level, that level is seen
  seen_level : (c level : ℕ) (s : State) → Climbed c level s
      → ((g d : ℕ) → d < cpus → group_at_of s.tree c level ≡ Some g → is_due_sleeper s g d ≡ true
      → ⊥)
      → Climbed c (level + 1) s
  seen_level c level s climbed none =
      let inside = climbed.inside in
      record {
        is_due = climbed.is_due;
        inside =
            inside_as cpus levels now due (HadOwn due c 3 1) (HadOwn due c 3 2) (HadOwn due c 3 1)
            (HadOwn due c 3 2)
            (SeenBelow c level) (SeenBelow c (level + 1)) s inside (λ d had. had) (λ d had. had)
            (λ d low (k, l, covers, unseen). by inside d low k l covers unseen (cases_eq k c)
            (cases_eq l level));
      }
    where
      told_later :
          (inside : Inside cpus levels now due (HadOwn due c 3 1) (HadOwn due c 3 2)
          (SeenBelow c level) s) (d k l : ℕ) → d < cpus
          → Covers cpus levels inside.from due d k l → k ≡ c → l ≡ level
          → s.clock + 1 ≤ (cpu_at s d).told
      told_later inside d k l low covers same_k same_l =
          let g = covers.group in
          let at : group_at_of s.tree c level ≡ Some g =
          (λ i. group_at_of (inside.frame.tree i) (sym same_k i) (sym same_l i)) ∙ covers.at in
          let asleep = inactive_same inside.from s inside.frame d g ∙ covers.asleep in
          elim (cases_lt s.clock (cpu_at s d).told) [
            | inl later ↦ omega (arith, later)
            | inr by ↦
                absurd
                (none g d low at
                (and_from (nat_le (cpu_at s d).told s.clock) (inactive_child s (towards s.tree d g))
                (le-leb (cpu_at s d).told s.clock by) asleep))
          ]

      by :
          (inside : Inside cpus levels now due (HadOwn due c 3 1) (HadOwn due c 3 2)
          (SeenBelow c level) s) (d : ℕ) → d < cpus → (k l : ℕ)
          → Covers cpus levels inside.from due d k l → (SeenBelow c level k l → ⊥) → (k ≡ c)
          ⊎ (k ≡ c → ⊥) → (l ≡ level) ⊎ (l ≡ level → ⊥)
          → (s.clock + 1 ≤ (cpu_at s d).told)
          ⊎ Awaits cpus levels inside.from due (SeenBelow c (level + 1)) d
      by inside d low k l covers unseen (inl same_k) (inl same_l) =
          inl (told_later inside d k l low covers same_k same_l)
      by inside d low k l covers unseen (inl same_k) (inr other) =
          inr (
            k,
            l,
            covers,
            λ seen. (elim seen [
              | inl before ↦ unseen (inl before)
              | inr here ↦
                  unseen (inr (here.0, (let below = here.1 in omega (arith, below, other))))
            ]),
          )
      by inside d low k l covers unseen (inr other) rest =
          inr (
            k,
            l,
            covers,
            λ seen.
                (elim seen [ inl before ↦ unseen (inl before) | inr here ↦ other here.0 ]),
          )

  pub none_more : (c level n : ℕ) (s : State) → named s c level ≡ None → Looking c level n s
      → Climbed c (level + 1) s
  none_more c level n s none looking =
      let inside = looking.climbed.inside in
      let early = inside.holds.early in
      let count = inside.holds.count in
      seen_level c level s looking.climbed
      (λ g d low at is. none_named s c level g d (omega (arith, early)) at none
      (omega (arith, low, count)) is)

  pub all_tried : (c level : ℕ) (s : State) → Looking c level 0 s → Climbed c (level + 1) s
  all_tried c level s looking =
      let count = looking.climbed.inside.holds.count in
      seen_level c level s looking.climbed
      (λ g d low at is. none_passes (is_due_sleeper s g) (cpu_count s) d (looking.few g at)
      (omega (arith, low, count)) is)
