-- for crates above: what carries the law that timers are answered for, over CPUs and migrators as
-- functions
use Rattle.std.proofs.Common.{◌≡◌, ℕ, ◌<◌, ◌≤◌, Bool, true, false, Option, Some, None, refl, sym}
use Rattle.std.proofs.Common.{ap, ◌∙◌, subst, arith, inl, inr}
use Rattle.std.specs.Prelude.{◌⊎◌, ◌==◌, ◌&&◌, not, if◌then◌else◌, is_some}
use Rattle.std.proofs.lemmas.Bool.{both_ways, cases_Bool, cases_eq, cases_lt, eq-eqb, false≢true}
use Rattle.std.proofs.lemmas.Bool.{ne_eqb}
use Rattle.tm_base.specs.declared.names.TheConstants.{NEVER}
use Rattle.tm_base.specs.declared.names.Child.{Child}
use Rattle.tm_base.specs.declared.names.Class.TheVariants.{Pinned, Global}
use Rattle.wheel_core.specs.declared.item.Item.{Item}
use Rattle.tree_plan.specs.Shape.{Shape, IsPlanned}
use Rattle.tree_plan.specs.Paths.{child_at, cpu_count_of, group_count_of, has_group_in, is_below}
use Rattle.tree_plan.specs.Paths.{is_placed_in, is_under, level_count_of}
use Rattle.tree_plan.proofs.Below.{paths, placed_laws}
use Rattle.cpu_bases.specs.CpuBases.{base_of}
use Rattle.play_rules.specs.State.{Cpu}
use Rattle.play_laws.proofs.Answered.Bases.{Comes, IsBase}

-- ONE CPU
abbrev pub rests : Cpu → Bool
rests x = x.online && x.idle

abbrev pub busy : Cpu → Bool
busy x = x.online && not x.idle

-- a CPU that doesn't rest has told nothing and keeps no wakeup, nor has one without a group told
-- anything; one that is
-- offline is idle; its timers come
pub record Fits (t : Shape) (now d : ℕ) (x : Cpu) : Type 0 where
  pub away : rests x ≡ false → (x.told ≡ NEVER) × (x.wakeup ≡ NEVER)
  pub offline : x.online ≡ false → x.idle ≡ true
  pub ungrouped : has_group_in t d ≡ false → x.told ≡ NEVER
  pub pinned : IsBase Comes now (base_of Pinned x.bases)
  pub global : IsBase Comes now (base_of Global x.bases)

-- a timer is in time for a wakeup, or for a time that was told
abbrev pub InTime : (wakeup told : ℕ) → Item → Type 0
InTime wakeup told item = (wakeup ≤ item.wheel) ⊎ (told ≤ item.wheel)

abbrev pub Later : (wakeup : ℕ) → Item → Type 0
Later wakeup item = wakeup ≤ item.wheel

pub record AreAnswered (now : ℕ) (x : Cpu) : Type 0 where
  pub pinned : IsBase (Later x.wakeup) now (base_of Pinned x.bases)
  pub global : IsBase (InTime x.wakeup x.told) now (base_of Global x.bases)

-- where it rests, its timers are in time for its wakeup or for what it told
abbrev pub Answers : (now : ℕ) → Cpu → Type 0
Answers now x = rests x ≡ true → AreAnswered now x

-- MIGRATORS: each is an active child, and where there is none no active CPU is below
pub record ActiveChild (t : Shape) (active : ℕ → Bool) (g k : ℕ) : Type 0 where
  pub child : Child
  pub cpu : ℕ
  pub there : child_at t g k ≡ Some child
  pub on : active cpu ≡ true
  pub under : is_under t cpu child ≡ true

pub record Led (t : Shape) (active : ℕ → Bool) (migrators : ℕ → Option ℕ) : Type 0 where
  pub some : (g k : ℕ) → g < group_count_of t → migrators g ≡ Some k → ActiveChild t active g k
  pub none : (g d : ℕ) → g < group_count_of t → migrators g ≡ None → active d ≡ true
      → is_below t d g ≡ true → ⊥

-- THE TOP: where no placed CPU is active and a time was told, some resting placed CPU wakes for all
-- that was told
abbrev pub NonePlacedActive : Shape → (ℕ → Cpu) → Type 0
NonePlacedActive t cpu = (d : ℕ) → is_placed_in t d ≡ true → busy (cpu d) ≡ false

pub record WakesForAll (t : Shape) (cpu : ℕ → Cpu) (w : ℕ) : Type 0 where
  pub placed : is_placed_in t w ≡ true
  pub rests : rests (cpu w) ≡ true
  pub in_time : (e : ℕ) → e < cpu_count_of t → (cpu w).wakeup ≤ (cpu e).told

abbrev pub SomeWakes : Shape → (ℕ → Cpu) → Type 0
SomeWakes t cpu =
    NonePlacedActive t cpu → (e : ℕ) → (cpu e).told < NEVER → (w : ℕ) × WakesForAll t cpu w

-- ALL OF IT, where some CPUs still owe what they answer by, and the top is kept under a condition
pub record Invariant (now : ℕ) (t : Shape) (Owes : ℕ → Type 0) (Topped : Type 0) (cpu : ℕ → Cpu)
    (migrators : ℕ → Option ℕ) : Type 0 where
  pub each : (d : ℕ) → Fits t now d (cpu d)
  pub led : Led t (λ d. busy (cpu d)) migrators
  pub answered : (d : ℕ) → (Owes d → ⊥) → Answers now (cpu d)
  pub top : Topped → SomeWakes t cpu

-- ONE CPU IS PUT in the place of another
abbrev pub put : (ℕ → Cpu) → (c : ℕ) → Cpu → ℕ → Cpu
put cpu c y d = if d == c then y else cpu d

module _ (cpu : ℕ → Cpu) (c : ℕ) (y : Cpu) where
  pub put_same : put cpu c y c ≡ y
  put_same = rw (eq-eqb c c refl) refl

  pub put_other : (d : ℕ) → (d ≡ c → ⊥) → put cpu c y d ≡ cpu d
  put_other d other = rw (ne_eqb d c other) refl

  pub each_put : (Q : ℕ → Cpu → Type 0) → Q c y → ((d : ℕ) → (d ≡ c → ⊥) → Q d (cpu d)) → (d : ℕ)
      → Q d (put cpu c y d)
  each_put Q here others d =
      elim (cases_eq d c) [
        | inl same ↦ subst (λ k. Q k (put cpu c y k)) (sym same) (subst (Q c) (sym put_same) here)
        | inr other ↦ subst (Q d) (sym (put_other d other)) (others d other)
      ]

  -- what y has in common with the CPU that was there, each CPU has
  pub put_alike : {X : Type 0} (h : Cpu → X) → h y ≡ h (cpu c) → (d : ℕ)
      → h (put cpu c y d) ≡ h (cpu d)
  put_alike {X} h same d = each_put (λ k x. h x ≡ h (cpu k)) same (λ k other. refl) d

-- a group is there only in a tree with levels, and then each placed CPU has one
pub levels_there : (t : Shape) (e : ℕ) → IsPlanned t → has_group_in t e ≡ true
    → 0 < level_count_of t
levels_there t e planned is =
    elim (cases_lt 0 (level_count_of t)) [
      | inl some ↦ some
      | inr none ↦
          let gone = (paths t planned).beyond e 0 none in
          absurd (false≢true (sym (ap is_some gone) ∙ is))
    ]

pub group_of_placed : (t : Shape) (c e : ℕ) → IsPlanned t → has_group_in t e ≡ true
    → is_placed_in t c ≡ true
    → has_group_in t c ≡ true
group_of_placed t c e planned is placed =
    (placed_laws t planned).placed c (levels_there t e planned is) placed

module _ (t : Shape) (planned : IsPlanned t) (cpu : ℕ → Cpu) where
  -- an active placed CPU
  pub active_top : (c : ℕ) → is_placed_in t c ≡ true → busy (cpu c) ≡ true → SomeWakes t cpu
  active_top c placed on none e told = absurd (both_ways (busy (cpu c)) (none c placed) on)

  -- a CPU that told a time has a group
  pub teller_grouped : (now e : ℕ) → Fits t now e (cpu e) → (cpu e).told < NEVER
      → has_group_in t e ≡ true
  teller_grouped now e fits told =
      elim (cases_Bool (has_group_in t e)) [
        | inl is ↦ is
        | inr out ↦ let never = fits.ungrouped out in absurd (omega (arith, told, never))
      ]

  -- what wakeups, times told and activity have in common keeps the top
  pub alike_top : (new : ℕ → Cpu) → ((d : ℕ) → busy (new d) ≡ busy (cpu d))
      → ((d : ℕ) → rests (cpu d) ≡ true → rests (new d) ≡ true)
      → ((d : ℕ) → (new d).wakeup ≡ (cpu d).wakeup) → ((d : ℕ) → (new d).told ≡ (cpu d).told)
      → SomeWakes t cpu → SomeWakes t new
  alike_top new active rest wakeup told top none e comes =
      let same = told e in
      let before = top (λ d placed. sym (active d) ∙ none d placed) e
      (omega (arith, comes, same)) in
      let w = before.0 in (
        w,
        record {
          placed = before.1.placed;
          rests = rest w before.1.rests;
          in_time = λ f low.
              let at = before.1.in_time f low in
              let told_f = told f in
              let wakes = wakeup w in omega (arith, at, told_f, wakes);
        },
      )

  -- a CPU without a group neither is woken for nor wakes for others
  module _ (now : ℕ) (each : (d : ℕ) → Fits t now d (cpu d)) (c : ℕ) (y : Cpu)
      (out : has_group_in t c ≡ false) (silent : y.told ≡ NEVER) where
    teller_other : (e : ℕ) → (put cpu c y e).told < NEVER → e ≡ c → ⊥
    teller_other e told same =
        let here : (put cpu c y e).told ≡ NEVER = ap (λ k. (put cpu c y k).told) same
        ∙ ap (λ (x : Cpu). x.told) (put_same cpu c y) ∙ silent in
        omega (arith, told, here)

    pub apart_top : SomeWakes t cpu → SomeWakes t (put cpu c y)
    apart_top top none e told =
        let other : e ≡ c → ⊥ = teller_other e told in
        let e_same : put cpu c y e ≡ cpu e = put_other cpu c y e other in
        let told_e : (put cpu c y e).told ≡ (cpu e).told = ap (λ (x : Cpu). x.told) e_same in
        let told_before : (cpu e).told < NEVER = omega (arith, told, told_e) in
        let grouped = teller_grouped now e (each e) told_before in
        let apart : (d : ℕ) → is_placed_in t d ≡ true → d ≡ c → ⊥ = λ d placed same.
        both_ways (has_group_in t c) out
        (ap (has_group_in t) (sym same) ∙ group_of_placed t d e planned grouped placed) in
        let before = top (λ d placed. ap busy (sym (put_other cpu c y d (apart d placed)))
        ∙ none d placed) e told_before in
        let w = before.0 in
        let w_same : put cpu c y w ≡ cpu w = put_other cpu c y w (apart w before.1.placed) in
        let wakes : (put cpu c y w).wakeup ≡ (cpu w).wakeup = ap (λ (x : Cpu). x.wakeup) w_same in (
          w,
          record {
            placed = before.1.placed;
            rests = ap rests w_same ∙ before.1.rests;
            in_time = λ f low. (
                let at = before.1.in_time f low in
                let first = before.1.in_time e (in_machine e grouped) in
                elim (cases_eq f c) [
                  | inl same ↦ (
                      let here : (put cpu c y f).told ≡ NEVER = ap (λ k. (put cpu c y k).told) same
                      ∙ ap (λ (x : Cpu). x.told) (put_same cpu c y) ∙ silent in
                      omega (arith, first, told_before, here, wakes))
                  | inr f_other ↦ (
                      let told_f : (put cpu c y f).told ≡ (cpu f).told =
                      ap (λ (x : Cpu). x.told) (put_other cpu c y f f_other) in
                      omega (arith, at, told_f, wakes))
                ]);
          },
        )
      where
        in_machine : (d : ℕ) → has_group_in t d ≡ true → d < cpu_count_of t
        in_machine d grouped = (placed_laws t planned).in_range d
            ((placed_laws t planned).has_group d grouped)
