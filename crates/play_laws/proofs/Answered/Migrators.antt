-- for crates above: after a CPU woke, and after one came to rest, each migrator is an active child
-- again
use Rattle.std.proofs.Common.{◌≡◌, ℕ, zero, suc, ◌<◌, List, [], ◌∷◌, Bool, true, false, Option}
use Rattle.std.proofs.Common.{Some, None, refl, sym, ap, ◌∙◌, subst, arith, inl, inr, length}
use Rattle.std.proofs.Common.{get_or}
use Rattle.std.specs.Prelude.{◌&&◌, not, if◌then◌else◌, nat_lt, slice_get, option_map}
use Rattle.std.specs.List.{position_or_len}
use Rattle.std.proofs.lemmas.Bool.{and_from, and_parts, both_ways, cases_Bool, cases_eq, cond-true}
use Rattle.std.proofs.lemmas.Bool.{eq-eqb, false≢true, lt-ltb, not_from_false, true_from_ne_false}
use Rattle.std.proofs.lemmas.List.Quantifiers.{position-Some}
use Rattle.std.proofs.lemmas.Option.{none-some, same_Some, slice_get-get_or}
use Rattle.tm_base.specs.declared.names.Child.{Child}
use Rattle.tm_base.specs.Children.{of_cpu}
use Rattle.tree_plan.specs.Shape.{Shape, IsPlanned}
use Rattle.tree_plan.specs.Paths.{bit_of, child_at, child_towards, children_of, cpu_count_of}
use Rattle.tree_plan.specs.Paths.{group_count_of, is_below, is_under, level_of}
use Rattle.tree_plan.proofs.Below.{below_laws, paths, placed_laws}
use Rattle.play_rules.specs.State.{State, cpu_count, is_active, migrator_at}
use Rattle.play_rules.specs.Hierarchy.{child_active, gives_up, group_active, inactive_child}
use Rattle.play_rules.specs.Hierarchy.{is_number, lowest_active_child, number_towards}
use Rattle.play_rules.specs.Hierarchy.{rested_migrator, towards, woken_migrator}
use Rattle.play_laws.proofs.Answered.Invariant.{ActiveChild, Led}
use Rattle.play_laws.proofs.Answered.Ranges.{any_here, some_there}

-- the child through which a path goes
pub record Through (t : Shape) (c g : ℕ) : Type 0 where
  pub child : Child
  pub is : towards t c g ≡ Some child
  pub there : child_at t g (bit_of t child) ≡ Some child
  pub under : is_under t c child ≡ true

pub through : (t : Shape) (c g : ℕ) → IsPlanned t → is_below t c g ≡ true → Through t c g
through t c g planned below =
    let on = (paths t planned).below c g (((below_laws t planned).tested_below c g).0 below) in
    let step = (paths t planned).towards c (level_of t g) g on in
    record {
      child = step.0;
      is = cond-true (is_below t c g) (child_towards t c (level_of t g)) None below ∙ step.1;
      there = step.3;
      under = ((below_laws t planned).tested_under c step.0).1
          ((paths t planned).reached c (level_of t g) step.0 step.1);
    }

-- what is under a child is below its group
pub under_below : (t : Shape) (d g k : ℕ) (m : Child) → IsPlanned t → child_at t g k ≡ Some m
    → is_under t d m ≡ true
    → is_below t d g ≡ true
under_below t d g k m planned at under =
    ((below_laws t planned).tested_below d g).1
    ((below_laws t planned).group d g k m at
    (((below_laws t planned).tested_under d m).0 under))

pub below_low : (t : Shape) (d g : ℕ) → IsPlanned t → is_below t d g ≡ true → d < cpu_count_of t
below_low t d g planned below =
    (placed_laws t planned).in_range d
    ((below_laws t planned).placed d g (((below_laws t planned).tested_below d g).0 below))

-- a place before the end is found
place_before : {X : Type 0} (p : X → Bool) (xs : List X) (k : ℕ) (x : X) → slice_get xs k ≡ Some x
    → p x ≡ true
    → position_or_len p xs < length xs
place_before p [] k x at is = absurd (none-some x at)
place_before p (y ∷ ys) zero x at is =
    let here : p y ≡ true = ap p (same_Some y x at) ∙ is in rw here (omega arith)
place_before p (y ∷ ys) (suc k) x at is =
    let rest = place_before p ys k x at is in
    elim (cases_Bool (p y)) [
      | inl here ↦ rw here (omega arith)
      | inr other ↦ rw other (omega (arith, rest))
    ]

place_there : (n len : ℕ) → n < len → (if nat_lt n len then Some n else None) ≡ None → ⊥
place_there n len low none =
    none-some n (sym none ∙ cond-true (nat_lt n len) (Some n) None (lt-ltb n len low))

module _ (s : State) (planned : IsPlanned s.tree) (count : cpu_count s ≡ cpu_count_of s.tree) where
  -- an active child has an active CPU under it
  active_child : (m : Child) → child_active s m ≡ true
      → (d : ℕ) × (is_active s d ≡ true) × (is_under s.tree d m ≡ true)
  active_child m is =
      let at = some_there (λ d. is_active s d && is_under s.tree d m) 0 (cpu_count s) is in
      let both = and_parts (is_active s at.number) (is_under s.tree at.number m) at.passes in
      (at.number, both.0, both.1)

  child_with : (g k d : ℕ) (m : Child) → child_at s.tree g k ≡ Some m → is_active s d ≡ true
      → is_under s.tree d m ≡ true
      → child_active s m ≡ true
  child_with g k d m at on under =
      let low = below_low s.tree d g planned (under_below s.tree d g k m planned at under) in
      any_here (λ e. is_active s e && is_under s.tree e m) 0 (cpu_count s) d (omega arith)
      (omega (arith, low, count))
      (and_from (is_active s d) (is_under s.tree d m) on under)

  -- WAKE
  module _ (active : ℕ → Bool) (c : ℕ) (on : active c ≡ true)
      (stay : (d : ℕ) → is_active s d ≡ true → active d ≡ true)
      (were : (d : ℕ) → (d ≡ c → ⊥) → active d ≡ true → is_active s d ≡ true)
      (led : Led s.tree (is_active s) (migrator_at s)) where
    woken_some : (b : Bool) (g k : ℕ) → g < group_count_of s.tree
        → (is_below s.tree c g && not (group_active s g)) ≡ b
        → (if b then number_towards s.tree c g else migrator_at s g) ≡ Some k
        → ActiveChild s.tree active g k
    woken_some true g k low takes is =
        let way = through s.tree c g planned
        (and_parts (is_below s.tree c g) (not (group_active s g)) takes).0 in
        let same : bit_of s.tree way.child ≡ k =
        same_Some (bit_of s.tree way.child) k
        (sym (ap (option_map (bit_of s.tree)) way.is) ∙ is) in
        record {
          child = way.child;
          cpu = c;
          there = subst (λ j. child_at s.tree g j ≡ Some way.child) same way.there;
          on = on;
          under = way.under;
        }
    woken_some false g k low takes is =
        let old = led.some g k low is in
        record {
          child = old.child;
          cpu = old.cpu;
          there = old.there;
          on = stay old.cpu old.on;
          under = old.under;
        }

    woken_none : (b : Bool) (g d : ℕ) → g < group_count_of s.tree
        → (is_below s.tree c g && not (group_active s g)) ≡ b
        → (if b then number_towards s.tree c g else migrator_at s g) ≡ None → active d ≡ true
        → is_below s.tree d g ≡ true → ⊥
    woken_none true g d low takes none here below =
        let way = through s.tree c g planned
        (and_parts (is_below s.tree c g) (not (group_active s g)) takes).0 in
        none-some (bit_of s.tree way.child) (sym none ∙ ap (option_map (bit_of s.tree)) way.is)
    woken_none false g d low takes none here below =
        elim (cases_eq d c) [
          | inr other ↦ led.none g d low none (were d other here) below
          | inl same ↦
              let at : is_below s.tree c g ≡ true = ap (λ k. is_below s.tree k g) (sym same)
              ∙ below in
              let group : group_active s g ≡ true = true_from_ne_false (group_active s g)
              (λ off. false≢true (sym takes ∙ and_from (is_below s.tree c g)
              (not (group_active s g)) at (not_from_false (group_active s g) off))) in
              let one = some_there (λ e. is_active s e && is_below s.tree e g) 0
              (cpu_count s) group in
              let both = and_parts (is_active s one.number) (is_below s.tree one.number g)
              one.passes in
              led.none g one.number low none both.0 both.1
        ]

    pub woken_led : Led s.tree active (woken_migrator s c)
    woken_led = record {
      some = λ g k low is. woken_some (is_below s.tree c g && not (group_active s g)) g k low refl
          is;
      none = λ g d low none here below.
          woken_none (is_below s.tree c g && not (group_active s g)) g d low refl none here below;
    }

  -- REST: CPU c of the state rests, and the migrators are as they were when it was active
  module _ (active : ℕ → Bool) (c : ℕ) (were : (d : ℕ) → is_active s d ≡ true → active d ≡ true)
      (stay : (d : ℕ) → (d ≡ c → ⊥) → active d ≡ true → is_active s d ≡ true)
      (led : Led s.tree active (migrator_at s)) where
    -- a migrator that doesn't give up is active still
    still_active : (g k d : ℕ) (m : Child) → g < group_count_of s.tree
        → gives_up s c g (Some k) ≡ false
        → child_at s.tree g k ≡ Some m → active d ≡ true → is_under s.tree d m ≡ true
        → child_active s m ≡ false → ⊥
    still_active g k d m low keeps at on under off =
        elim (cases_eq d c) [
          | inr other ↦ both_ways (child_active s m) off
              (child_with g k d m at (stay d other on) under)
          | inl same ↦
              let here : is_under s.tree c m ≡ true = ap (λ e. is_under s.tree e m) (sym same)
              ∙ under in
              let way = through s.tree c g planned (under_below s.tree c g k m planned at here) in
              let laws = below_laws s.tree planned in
              let number : bit_of s.tree way.child ≡ k =
              laws.one_child c g (bit_of s.tree way.child) k way.child m way.there at
              ((laws.tested_under c way.child).0 way.under) ((laws.tested_under c m).0 here) in
              let child : way.child ≡ m =
              same_Some way.child m (sym way.there ∙ ap (child_at s.tree g) number ∙ at) in
              let through_m : towards s.tree c g ≡ Some m = way.is ∙ ap Some child in
              let first : is_number (number_towards s.tree c g) k ≡ true =
              ap (λ o. is_number (option_map (bit_of s.tree) o) k) way.is
              ∙ eq-eqb (bit_of s.tree way.child) k number in
              let second : inactive_child s (towards s.tree c g) ≡ true =
              ap (inactive_child s) through_m ∙ not_from_false (child_active s m) off in
              both_ways (gives_up s c g (Some k)) keeps
              (and_from (is_number (number_towards s.tree c g) k)
              (inactive_child s (towards s.tree c g)) first second)
        ]

    rested_some : (b : Bool) (o : Option ℕ) (g k : ℕ) → g < group_count_of s.tree
        → migrator_at s g ≡ o
        → gives_up s c g o ≡ b → (if b then lowest_active_child s g else o) ≡ Some k
        → ActiveChild s.tree (is_active s) g k
    rested_some true o g k low migrator gives is =
        let found = position-Some (child_active s) (children_of s.tree g) k (of_cpu 0) is in
        let child = get_or (children_of s.tree g) k (of_cpu 0) in
        let one = active_child child found.1 in
        record {
          child = child;
          cpu = one.0;
          there = slice_get-get_or (children_of s.tree g) k (of_cpu 0) found.0;
          on = one.1;
          under = one.2;
        }
    rested_some false o g k low migrator gives is =
        let old = led.some g k low (migrator ∙ is) in
        let keeps : gives_up s c g (Some k) ≡ false = ap (gives_up s c g) (sym is) ∙ gives in
        elim (cases_Bool (child_active s old.child)) [
          | inl on ↦
              let one = active_child old.child on in
              record {
                child = old.child;
                cpu = one.0;
                there = old.there;
                on = one.1;
                under = one.2;
              }
          | inr off ↦ absurd (still_active g k old.cpu old.child low keeps old.there old.on
              old.under off)
        ]

    rested_none : (b : Bool) (o : Option ℕ) (g d : ℕ) → g < group_count_of s.tree
        → migrator_at s g ≡ o
        → gives_up s c g o ≡ b → (if b then lowest_active_child s g else o) ≡ None
        → is_active s d ≡ true
        → is_below s.tree d g ≡ true → ⊥
    rested_none true o g d low migrator gives none on below =
        let child = (below_laws s.tree planned).child d g
        (((below_laws s.tree planned).tested_below d g).0 below) in
        let under = ((below_laws s.tree planned).tested_under d child.1).1 child.3 in
        let active_one = child_with g child.0 d child.1 child.2 on under in
        place_there (position_or_len (child_active s) (children_of s.tree g))
        (length (children_of s.tree g))
        (place_before (child_active s) (children_of s.tree g) child.0 child.1 child.2 active_one)
        none
    rested_none false o g d low migrator gives none on below =
        led.none g d low (migrator ∙ none) (were d on) below

    pub rested_led : Led s.tree (is_active s) (rested_migrator s c)
    rested_led = record {
      some = λ g k low is. rested_some (gives_up s c g (migrator_at s g)) (migrator_at s g) g k low
          refl refl is;
      none = λ g d low none on below.
          rested_none (gives_up s c g (migrator_at s g)) (migrator_at s g) g d low refl refl none on
          below;
    }
