-- a generated script is one of the grammar
use Rattle.std.proofs.Common.{◌≡◌, ℕ, zero, suc, ◌+◌, ◌-◌, ◌*◌, ◌/◌, ◌%◌, ◌^◌, ◌<◌, ◌≤◌, eqb, leb, Bool, true, false, cond, List, [], ◌∷◌, length, map, refl, sym, ap, subst, ◌∙◌, length-append, arith}
use Rattle.std.specs.Prelude.{codes, Result, Ok, Err, IfOk}
use Rattle.std.specs.List.{range_with_len, flat_map, AllByRecursion}
use Rattle.std.specs.List.Sorted.{IsStrictlyIncreasing}
use Rattle.std.specs.FinSet.{contains-empty}
use Rattle.std.specs.Ordering.{nat_cmp}
use Rattle.std.proofs.lemmas.Bool.{false≢true}
use Rattle.std.proofs.lemmas.List.{length-map}
use Rattle.std.proofs.lemmas.List.Elements.{All-from_recursion}
use Rattle.std.proofs.lemmas.List.FromFn.{length-range_with_len}
use Rattle.tm_base.specs.declared.faults.NoMemory.{NoMemory}
use Rattle.tm_base.specs.declared.names.Class.TheVariants.{Pinned, Global}
use Rattle.tm_base.specs.declared.limits.TheConstants.{MOST_CPUS_V1, MOST_TIMERS}
use Rattle.tm_script.specs.declared.syntax.Script.{Script}
use Rattle.tm_script.specs.declared.syntax.Moment.{Moment}
use Rattle.tm_script.specs.declared.syntax.Op.{Op}
use Rattle.tm_script.specs.declared.syntax.What.TheVariants.{Cancel, Idle, Wake}
use Rattle.tm_script.specs.Texts.{op_line, moment_lines, number_line}
use Rattle.tm_script.specs.Grammar.{IsClassOf, IsArm, IsWhat, IsOp, is_hotplug, IsHotplugLast, IsMoment, AreOpsNumbered, AreMomentsNumbered, IsScript}
use Rattle.tm_generate.specs.declared.generated.TheConstants.{MOST_MOMENTS}
use Rattle.tm_generate.specs.Generated.{x_after, draw, arming, idling, choice, later_moment, generated}

-- what holds of f at each number of a range holds of the list
all_map : {X : Type 0} (P : X → Type 0) (f : ℕ → X) (a n : ℕ) → ((i : ℕ) → a ≤ i → i < a + n → P (f i)) → AllByRecursion P (map f (range_with_len a n))
all_map P f a zero h = tt
all_map P f a (suc n) h = (h a (omega arith) (omega arith), all_map P f (a + 1) n (λ i low high. h i (omega arith) (omega arith)))

none_hotplug : (os : List Op) → AllByRecursion (λ (o : Op). is_hotplug o.what ≡ false) os → IsHotplugLast os
none_hotplug [] h = tt
none_hotplug (o ∷ []) h = tt
none_hotplug (o ∷ p ∷ os) h = (h.0, none_hotplug (p ∷ os) h.1)

ops_numbered : (f : ℕ → Op) (a n line : ℕ) → ((i : ℕ) → (f i).line + a ≡ line + i) → AreOpsNumbered line (map f (range_with_len a n))
ops_numbered f a zero line h = tt
ops_numbered f a (suc n) line h = (omega (arith, h a), ops_numbered f (a + 1) n (line + 1) (λ i. omega (arith, h i)))

map_length : {X : Type 0} (f : ℕ → X) (a n : ℕ) → length (map f (range_with_len a n)) ≡ n
map_length f a n = length-map (range_with_len a n) f ∙ length-range_with_len a n

class_ok : (t : Bool) → IsClassOf 1 (cond t Pinned Global)
class_ok true = tt
class_ok false = tt

job_ok : (t : Bool) → cond t 2 1 < 256
job_ok true = omega arith
job_ok false = omega arith

choice_ok : (timers : ℕ) (x y : Bool) (t : ℕ) → t < timers → IsWhat 1 timers (cond x Wake (cond y Idle (Cancel (record { 0 = t }))))
choice_ok timers true y t low = tt
choice_ok timers false true t low = tt
choice_ok timers false false t low = low

-- each number is above the one before it
abbrev Above : ℕ → List ℕ → Type 0
Above x [] = Unit {0}
Above x (y ∷ ys) = (x < y) × Above y ys

adjacent : (x : ℕ) (xs : List ℕ) → Above x xs → IsStrictlyIncreasing (x ∷ xs)
adjacent x [] h k lt = absurd (omega arith)
adjacent x (y ∷ ys) h zero lt = h.0
adjacent x (y ∷ ys) h (suc k) lt =
    let more : suc k + 1 ≡ suc (k + 1) = omega arith in
    rw more (adjacent y ys h.1 k (omega arith))

below : (x n : ℕ) → 1 ≤ n → x % n < n
below x n some = let pos : 0 < n = omega arith in omega arith

module _ (number cpus timers : ℕ) (some_cpus : 1 ≤ cpus) (some_timers : 1 ≤ timers) where
  arming_ok : (i : ℕ) → i < timers → IsOp 1 (1 * cpus) timers (arming number cpus i)
  unfolding arming
  arming_ok i low =
      let p = draw number (3 * i) 8 in
      let form : IsArm 1 timers i (cond (eqb p 0) Pinned Global) (20 + draw number (suc (3 * i)) 480) (cond (eqb p 0) 2 1) (50 + draw number (suc (suc (3 * i))) 950) = record {
        timer_in_range = low;
        class_of_version = class_ok (eqb p 0);
        delay_in_range = omega (arith, below (x_after number (suc (suc (3 * i))) / 2 ^ 33) 480 (omega arith));
        job_in_range = job_ok (eqb p 0);
        arg_in_range = omega (arith, below (x_after number (suc (suc (suc (3 * i)))) / 2 ^ 33) 950 (omega arith));
      } in
      record { cpu_in_range = omega (arith, below i cpus some_cpus); what = form }

  arming_stays : (i : ℕ) → is_hotplug (arming number cpus i).what ≡ false
  unfolding arming
  arming_stays i = refl

  arming_line : (i : ℕ) → (arming number cpus i).line + 0 ≡ 6 + i
  unfolding arming
  arming_line i = omega arith

  later_ok : (j : ℕ) → IsMoment 1 (1 * cpus) timers (later_moment number cpus timers j)
  unfolding later_moment
  later_ok j =
      let k = 3 * timers + 3 * (j - 1) in
      let r = draw number k 4 in
      let op : Op = record { line = 5 + timers + cpus + 2 * j; cpu = record { 0 = draw number (suc k) cpus }; what = choice r (draw number (suc k) cpus) (draw number (suc (suc k)) timers) } in
      record {
        few_ops = omega arith;
        ops = All-from_recursion (IsOp 1 (1 * cpus) timers) (op ∷ []) (
          record {
            cpu_in_range = omega (arith, below (x_after number (suc (suc k)) / 2 ^ 33) cpus some_cpus);
            what = choice_ok timers (eqb r 0) (leb r 2) (draw number (suc (suc k)) timers) (below (x_after number (suc (suc (suc k))) / 2 ^ 33) timers some_timers);
          },
          tt,
        );
        hotplug_last = tt;
      }

  later_at : (j : ℕ) → (later_moment number cpus timers j).at ≡ 5 * j
  unfolding later_moment
  later_at j = refl

  later_above : (last a n : ℕ) → last < 5 * a → Above last (map (λ (m : Moment). m.at) (map (later_moment number cpus timers) (range_with_len a n)))
  unfolding later_moment
  later_above last a zero low = tt
  later_above last a (suc n) low = (low, later_above (5 * a) (a + 1) n (omega arith))

  later_numbered : (a n line : ℕ) → line ≡ 4 + timers + cpus + 2 * a → AreMomentsNumbered line (map (later_moment number cpus timers) (range_with_len a n))
  unfolding later_moment
  later_numbered a zero line e = tt
  later_numbered a (suc n) line e = ((omega arith, tt), later_numbered (a + 1) n (line + 1 + 1) (omega arith))

  later_lines : (a n : ℕ) → length (flat_map moment_lines (map (later_moment number cpus timers) (range_with_len a n))) ≡ 2 * n
  unfolding later_moment
  later_lines a zero = refl
  later_lines a (suc n) = omega (arith, later_lines (a + 1) n)

moment_count : (m : Moment) (ms : List Moment) → length (flat_map moment_lines (m ∷ ms)) ≡ suc (length m.ops) + length (flat_map moment_lines ms)
moment_count m ms = length-append (moment_lines m) (flat_map moment_lines ms) ∙ ap (λ (k : ℕ). suc k + length (flat_map moment_lines ms)) (length-map m.ops op_line)

pub is_script : (number cpus timers moments : ℕ) → 1 ≤ cpus → cpus ≤ MOST_CPUS_V1 → 1 ≤ timers → timers ≤ MOST_TIMERS → 1 ≤ moments → moments ≤ MOST_MOMENTS → IsScript (generated number cpus timers moments)
unfolding generated
is_script number cpus timers moments some_cpus few_cpus some_timers few_timers some_moments few_moments =
    let armings = map (arming number cpus) (range_with_len 0 timers) in
    let idlings = map (idling timers) (range_with_len 1 (cpus - 1)) in
    let laters = map (later_moment number cpus timers) (range_with_len 1 moments) in
    let first : Moment = record { at = 0; ops = armings } in
    let second : Moment = record { at = 1; ops = idlings } in
    let all = first ∷ second ∷ laters in
    let end = 5 * (moments + 1) in
    let is_op = IsOp 1 (1 * cpus) timers in
    let is_moment = IsMoment 1 (1 * cpus) timers in
    let by_end : Moment → Type 0 = λ m. m.at ≤ end in
    let stays : Op → Type 0 = λ o. is_hotplug o.what ≡ false in
    let armed : length armings ≡ timers = map_length (arming number cpus) 0 timers in
    let idled : length idlings ≡ cpus - 1 = map_length (idling timers) 1 (cpus - 1) in
    let first_ok : IsMoment 1 (1 * cpus) timers first = record {
      few_ops = omega arith;
      ops = All-from_recursion is_op armings (all_map is_op (arming number cpus) 0 timers (λ i low high. arming_ok number cpus timers some_cpus some_timers i (omega arith)));
      hotplug_last = none_hotplug armings (all_map stays (arming number cpus) 0 timers (λ i low high. arming_stays number cpus timers some_cpus some_timers i));
    } in
    let second_ok : IsMoment 1 (1 * cpus) timers second = record {
      few_ops = omega arith;
      ops = All-from_recursion is_op idlings (all_map is_op (idling timers) 1 (cpus - 1) (λ c low high. record { cpu_in_range = omega arith; what = tt }));
      hotplug_last = none_hotplug idlings (all_map stays (idling timers) 1 (cpus - 1) (λ c low high. refl));
    } in
    let count_first = moment_count first (second ∷ laters) in
    let count_second = moment_count second laters in
    let count_laters = later_lines number cpus timers some_cpus some_timers 1 moments in
    let count_end = length-append (flat_map moment_lines all) (number_line (codes "end") end ∷ []) in
    record {
      some_version = omega arith;
      few_versions = omega arith;
      some_nodes = omega arith;
      few_nodes = omega arith;
      some_cpus = some_cpus;
      few_node_cpus = omega arith;
      few_cpus = omega arith;
      some_timers = some_timers;
      few_timers = few_timers;
      none_isolated = λ _. refl;
      isolated_in_range = λ c here. absurd (false≢true (sym (contains-empty nat_cmp c) ∙ here));
      some_placed = (0, omega arith, contains-empty nat_cmp 0);
      moments = All-from_recursion is_moment all (first_ok, (second_ok, all_map is_moment (later_moment number cpus timers) 1 moments (λ j low high. later_ok number cpus timers some_cpus some_timers j)));
      ascending = adjacent 0 (1 ∷ map (λ (m : Moment). m.at) laters) (omega arith, later_above number cpus timers some_cpus some_timers 1 1 moments (omega arith));
      by_the_end = All-from_recursion by_end all (omega arith, (omega arith, all_map by_end (later_moment number cpus timers) 1 moments (λ j low high. omega (arith, later_at number cpus timers some_cpus some_timers j))));
      early_end = omega arith;
      numbered = (
        ops_numbered (arming number cpus) 0 timers 6 (λ i. arming_line number cpus timers some_cpus some_timers i),
        (
          ops_numbered (idling timers) 1 (cpus - 1) (5 + 1 + length armings + 1) (λ i. omega arith),
          later_numbered number cpus timers some_cpus some_timers 1 moments (5 + 1 + length armings + 1 + length idlings) (omega arith),
        ),
      );
      few_lines = omega (arith, count_first, count_second, count_laters, count_end);
    }

pub made_is_script : (r : Result Script NoMemory) (number cpus timers moments : ℕ) → 1 ≤ cpus → cpus ≤ MOST_CPUS_V1 → 1 ≤ timers → timers ≤ MOST_TIMERS → 1 ≤ moments → moments ≤ MOST_MOMENTS
    → IfOk r (λ s. s ≡ generated number cpus timers moments) → IfOk r IsScript
made_is_script (Ok s) number cpus timers moments a b c d e f h = subst IsScript (sym h) (is_script number cpus timers moments a b c d e f)
made_is_script (Err e) number cpus timers moments a b c d e' f h = tt
