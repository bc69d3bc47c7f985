-- for crates above: what carries the law at each stage of a moment
use Rattle.std.proofs.Common.{◌≡◌, ℕ, ◌<◌, ◌≤◌, List, [], ◌∷◌, Bool, true, false, Option, Some}
use Rattle.std.proofs.Common.{None, refl, sym, ap, ◌∙◌, arith, inl, inr}
use Rattle.std.specs.Prelude.{◌||◌, ◌==◌, find, if◌then◌else◌, is_some, nat_le, not}
use Rattle.std.specs.Prelude.{option_and_then}
use Rattle.std.specs.List.{list_any, range_with_len}
use Rattle.std.specs.Ordering.{nat_cmp}
use Rattle.std.specs.FinSet as set
use Rattle.std.proofs.lemmas.Bool.{and_parts, cases_Bool, cases_lt, eq-eqb, eqb-true, false≢true}
use Rattle.std.proofs.lemmas.Bool.{leb-true, or_left, or_right}
use Rattle.std.proofs.lemmas.List.{length-set}
use Rattle.std.proofs.lemmas.Option.{none-some, same_Some}
use Rattle.tm_base.specs.declared.limits.TheConstants.{SCRIPT_TIME_LIMIT}
use Rattle.tm_base.specs.declared.names.Class.TheVariants.{Pinned, Global}
use Rattle.wheel_core.specs.declared.item.Item.{Item}
use Rattle.wheel_core.specs.PlainBase.{PlainBase}
use Rattle.cpu_bases.specs.CpuBases.{base_of}
use Rattle.tree_plan.specs.Shape.{Shape, IsPlanned}
use Rattle.tree_plan.specs.Paths.{cpu_count_of, group_at_of, level_count_of}
use Rattle.tree_plan.proofs.Below.{paths, placed_laws}
use Rattle.play_rules.specs.State.{Cpu, State, all_cpus, cpu_at, cpu_count, has_group}
use Rattle.play_rules.specs.Hierarchy.{due_sleeper, due_sleepers, inactive_child, is_due_sleeper}
use Rattle.play_rules.specs.Hierarchy.{is_placed, least_told, looks_after, looks_after_where, named}
use Rattle.play_rules.specs.Hierarchy.{reevaluated, told_again, towards}
use Rattle.play_rules.specs.Play.{at_clock, ended, has_interrupt, plain_rules, successor}
use Rattle.play_rules.specs.Interrupts.{having_interrupt}
use Rattle.play_laws.proofs.Answered.Bases.{Comes, IsBase}
use Rattle.play_laws.proofs.Answered.Invariant.{Answers, Fits, InTime, Later, busy, rests}
use Rattle.play_laws.proofs.Answered.Changes.{told_in}
use Rattle.play_laws.proofs.Answered.Ranges.{member_passes, member_was, range_low, some_kept}
use Rattle.play_laws.proofs.Shape.Shape.{Stage, begun, between, climbed, leaving, looked, looking, moving}
use Rattle.play_laws.proofs.Shape.Shape.{own, running, taking}
use Rattle.play_laws.proofs.Answered.States.{IsKept, Nobody, Only, written_alike}

-- the tree and the time of a state
pub record IsAt (t : Shape) (now : ℕ) (s : State) : Type 0 where
  pub tree : s.tree ≡ t
  pub clock : s.clock ≡ now

pub record Whole (t : Shape) (now : ℕ) (s : State) : Type 0 where
  pub at : IsAt t now s
  pub kept : IsKept Nobody (Unit {0}) s

-- the CPUs that are due an interrupt are online
abbrev pub AreOnline : set.FinSet nat_cmp → State → Type 0
AreOnline due s = (d : ℕ) → set.contains due d ≡ true → (cpu_at s d).online ≡ true

pub record Begun (t : Shape) (now : ℕ) (due : set.FinSet nat_cmp) (s : State) : Type 0 where
  pub whole : Whole t now s
  pub online : AreOnline due s

-- CPU c owes what it answers by until its interrupt ends, and where it has a group the top is its
-- to keep then
pub record Inside (t : Shape) (now : ℕ) (due : set.FinSet nat_cmp) (c : ℕ) (s : State) : Type
    0 where
  pub at : IsAt t now s
  pub kept : IsKept (Only c) (has_group s c ≡ false) s
  pub online : AreOnline due s

-- it looks at a group, so it has one
pub record Looking (t : Shape) (now : ℕ) (due : set.FinSet nat_cmp) (c : ℕ) (s : State) : Type
    0 where
  pub inside : Inside t now due c s
  pub grouped : has_group s c ≡ true

-- it has taken a CPU of the machine that rests
pub record Taking (t : Shape) (now : ℕ) (due : set.FinSet nat_cmp) (c d : ℕ) (s : State) : Type
    0 where
  pub looking : Looking t now due c s
  pub low : d < cpu_count s
  pub sleeps : rests (cpu_at s d) ≡ true

-- a CPU went offline, and another placed one is online where it is placed
pub record Leaving (t : Shape) (now c : ℕ) (s : State) : Type 0 where
  pub at : IsAt t now s
  pub kept : IsKept Nobody (has_group s c ≡ false) s
  pub others : is_placed s c ≡ true → is_some (successor s c) ≡ true

pub record Moving (t : Shape) (now to : ℕ) (s : State) : Type 0 where
  pub whole : Whole t now s
  pub low : to < cpu_count s
  pub active : busy (cpu_at s to) ≡ true

-- AT EACH STAGE
abbrev pub Settles : (t : Shape) (now : ℕ) → Stage → State → Type 0
Settles t now between s = Whole t now s
Settles t now (begun due c) s = Begun t now due s
Settles t now (own due c bases) s = Inside t now due c s
Settles t now (climbed due c level) s = Inside t now due c s
Settles t now (looking due c level n tried) s = Looking t now due c s
Settles t now (taking due c level n tried d) s = Taking t now due c d s
Settles t now (running due c level n tried d) s = Taking t now due c d s
Settles t now (looked due c) s = Inside t now due c s
Settles t now (leaving c) s = Leaving t now c s
Settles t now (moving from to n) s = Moving t now to s

pub low_in : (t : Shape) (now : ℕ) (Owes : ℕ → Type 0) (Topped : Type 0) (s : State) (c : ℕ)
    → IsAt t now s
    → IsKept Owes Topped s → c < cpu_count_of t → c < cpu_count s
low_in t now Owes Topped s c at kept low =
    let count = kept.cpus in
    let same : cpu_count_of s.tree ≡ cpu_count_of t = ap cpu_count_of at.tree in
    omega (arith, low, count, same)

-- THE CLOCK goes on
later_base : (Q : Item → Type 0) (now next : ℕ) (base : PlainBase) → now ≤ next → IsBase Q now base
    → IsBase Q next base
later_base Q now next base on holds =
    let near = holds.near in record { all = holds.all; near = omega (arith, near, on) }

module _ (s : State) (next : ℕ) (on : s.clock ≤ next) (in_time : next < SCRIPT_TIME_LIMIT) where
  later_fits : (d : ℕ) → Fits s.tree s.clock d (cpu_at s d) → Fits s.tree next d (cpu_at s d)
  later_fits d fits = record {
    away = fits.away;
    offline = fits.offline;
    ungrouped = fits.ungrouped;
    pinned = later_base Comes s.clock next (base_of Pinned (cpu_at s d).bases) on fits.pinned;
    global = later_base Comes s.clock next (base_of Global (cpu_at s d).bases) on fits.global;
  }

  later_answers : (x : Cpu) → Answers s.clock x → Answers next x
  later_answers x answers rest =
      let was = answers rest in
      record {
        pinned = later_base (Later x.wakeup) s.clock next (base_of Pinned x.bases) on was.pinned;
        global = later_base (InTime x.wakeup x.told) s.clock next (base_of Global x.bases) on
            was.global;
      }

  pub later_kept : IsKept Nobody (Unit {0}) s → IsKept Nobody (Unit {0}) (at_clock next s)
  later_kept kept = record {
    planned = kept.planned;
    in_time = in_time;
    cpus = kept.cpus;
    holds = record {
      each = λ d. later_fits d (kept.holds.each d);
      led = kept.holds.led;
      answered = λ d free. later_answers (cpu_at s d) (kept.holds.answered d free);
      top = kept.holds.top;
    };
  }

pub due_online : (s : State) → AreOnline (having_interrupt plain_rules s) s
due_online s d is =
    let has : has_interrupt s d ≡ true =
    member_passes (has_interrupt s) (range_with_len 0 (cpu_count s)) d is in
    (and_parts (cpu_at s d).online (not (cpu_at s d).idle || nat_le (cpu_at s d).wakeup s.clock)
    has).0

-- WHOM A LOOK NAMES: a CPU of the machine that rests
pub found_member : (p : ℕ → Bool) (xs : List ℕ) (d : ℕ) → find p xs ≡ Some d
    → list_any (λ x. x == d) xs ≡ true
found_member p [] d is = absurd (none-some d is)
found_member p (x ∷ xs) d is =
    elim (cases_Bool (p x)) [
      | inl here ↦
          let at : Some x ≡ Some d = rw here at is in
          or_left (x == d) (list_any (λ y. y == d) xs) (eq-eqb x d (same_Some x d at))
      | inr other ↦
          let at : find p xs ≡ Some d = rw other at is in
          or_right (x == d) (list_any (λ y. y == d) xs) (found_member p xs d at)
    ]

pub record IsSleeper (s : State) (d : ℕ) : Type 0 where
  pub low : d < cpu_count s
  pub sleeps : rests (cpu_at s d) ≡ true

sleeper_by : (Owes : ℕ → Type 0) (Topped : Type 0) (s : State) (g d : ℕ) → IsKept Owes Topped s
    → due_sleeper s g ≡ Some d → IsSleeper s d
sleeper_by Owes Topped s g d kept is =
    let sleepers = due_sleepers s g in
    let member = found_member (λ e. (cpu_at s e).told == least_told s sleepers) sleepers d is in
    let one = some_kept (is_due_sleeper s g) (λ x. x == d) (all_cpus s) member in
    let due : is_due_sleeper s g d ≡ true = ap (is_due_sleeper s g) (sym (eqb-true one.0 d one.2))
    ∙ one.1 in
    let told = leb-true (cpu_at s d).told s.clock
    (and_parts (nat_le (cpu_at s d).told s.clock) (inactive_child s (towards s.tree d g))
    due).0 in
    let early = kept.in_time in
    record {
      low = range_low (cpu_count s) d (member_was (is_due_sleeper s g) (all_cpus s) d member);
      sleeps = (elim (cases_Bool (rests (cpu_at s d))) [
        | inl rest ↦ rest
        | inr off ↦ let never = ((kept.holds.each d).away off).0 in
            absurd (omega (arith, told, never, early))
      ]);
    }

named_by : (Owes : ℕ → Type 0) (Topped : Type 0) (s : State) (o : Option ℕ) (d : ℕ)
    → IsKept Owes Topped s
    → option_and_then (due_sleeper s) o ≡ Some d → IsSleeper s d
named_by Owes Topped s None d kept is = absurd (none-some d is)
named_by Owes Topped s (Some g) d kept is = sleeper_by Owes Topped s g d kept is

pub named_sleeper : (Owes : ℕ → Type 0) (Topped : Type 0) (s : State) (c level d : ℕ)
    → IsKept Owes Topped s
    → named s c level ≡ Some d → IsSleeper s d
named_sleeper Owes Topped s c level d kept is =
    named_by Owes Topped s (group_at_of s.tree c level) d kept is

-- WHO LOOKS has a group
looker_by : (s : State) (c level : ℕ) (o : Option ℕ) → IsPlanned s.tree
    → group_at_of s.tree c level ≡ o
    → looks_after_where s c o ≡ true → has_group s c ≡ true
looker_by s c level None planned at is = absurd (false≢true is)
looker_by s c level (Some g) planned at is =
    let placed = (paths s.tree planned).cpu_placed c level g at in
    elim (cases_lt 0 (level_count_of s.tree)) [
      | inl some ↦ (placed_laws s.tree planned).placed c some placed
      | inr none ↦ absurd (none-some g
          (sym ((paths s.tree planned).beyond c level (omega (arith, none))) ∙ at))
    ]

pub looker_grouped : (s : State) (c level : ℕ) → IsPlanned s.tree → looks_after s c level ≡ true
    → has_group s c ≡ true
looker_grouped s c level planned is =
    looker_by s c level (group_at_of s.tree c level) planned refl is

-- AN INTERRUPT'S END leaves the tree, the time and who is online
module _ (s : State) (c : ℕ) (low : c < cpu_count s) where
  abbrev at_rest : State
  at_rest = reevaluated s c

  ended_tree : (b : Bool) → (if b then reevaluated s c else s).tree ≡ s.tree
  ended_tree true = refl
  ended_tree false = refl

  ended_clock : (b : Bool) → (if b then reevaluated s c else s).clock ≡ s.clock
  ended_clock true = refl
  ended_clock false = refl

  pub ended_at : (t : Shape) (now : ℕ) → IsAt t now s → IsAt t now (ended s c)
  ended_at t now at =
      record {
        tree = ended_tree (cpu_at s c).idle ∙ at.tree;
        clock = ended_clock (cpu_at s c).idle
            ∙ at.clock;
      }

  evaluated_online : (d : ℕ) → (cpu_at (reevaluated s c) d).online ≡ (cpu_at s d).online
  evaluated_online d =
      let t = told_again s c in
      let many = length-set s.cpus c
      (record (cpu_at s c) { told = told_in (has_group s c) (cpu_at s c).bases }) in
      written_alike t c (record (cpu_at t c) { wakeup = _ }) (omega (arith, low, many))
      (λ x. x.online) refl d
      ∙ written_alike s c (record (cpu_at s c) { told = _ }) low (λ x. x.online) refl d

  online_by : (b : Bool) (d : ℕ) → (cpu_at (if b then reevaluated s c else s) d).online
      ≡ (cpu_at s d).online
  online_by true d = evaluated_online d
  online_by false d = refl

  pub ended_online : (d : ℕ) → (cpu_at (ended s c) d).online ≡ (cpu_at s d).online
  ended_online d = online_by (cpu_at s c).idle d
