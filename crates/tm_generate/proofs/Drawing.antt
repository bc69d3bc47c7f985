-- draws in a row
use Rattle.std.proofs.Common.{◌≡◌, ℕ, suc, ◌+◌, ◌-◌, ◌*◌, ◌≤◌, List, [], ◌∷◌, ◌++◌, map, sym, ap, ◌∙◌, append_assoc, arith}
use Rattle.std.specs.List.{range_with_len}
use Rattle.std.proofs.lemmas.List.FromFn.{map-range_with_len_more}
use Rattle.tm_script.specs.declared.syntax.Op.{Op}
use Rattle.tm_script.specs.declared.syntax.Moment.{Moment}
use Rattle.tm_generate.specs.Generated.{x_after, next, answer, generated_arming, arming, idling, later_moment, choice}

pub three_draws : (number k n : ℕ) → n ≡ suc (suc (suc k)) → next (next (next (x_after number k))) ≡ x_after number n
unfolding x_after
three_draws number k n e = ap (x_after number) (sym e)

-- one arming more
pub armings_more : (number cpus i x : ℕ) (ops : List Op) (op : Op) → ops ≡ map (arming number cpus) (range_with_len 0 i) → x ≡ x_after number (3 * i)
    → op ≡ generated_arming cpus i (answer (next x) 8) (answer (next (next x)) 480) (answer (next (next (next x))) 950)
    → ops ++ op ∷ [] ≡ map (arming number cpus) (range_with_len 0 (i + 1))
unfolding arming x_after
armings_more number cpus i x ops op was at is =
    (λ k. was k ++ (is ∙ ap (λ (y : ℕ). generated_arming cpus i (answer (next y) 8) (answer (next (next y)) 480) (answer (next (next (next y))) 950)) at) k ∷ [])
    ∙ sym (map-range_with_len_more (arming number cpus) 0 i i (omega arith))

pub draws_more : (number i x y : ℕ) → x ≡ x_after number (3 * i) → y ≡ next (next (next x)) → y ≡ x_after number (3 * (i + 1))
draws_more number i x y at is =
    let same : 3 * (i + 1) ≡ suc (suc (suc (3 * i))) = omega arith in
    is ∙ ap (λ (z : ℕ). next (next (next z))) at ∙ three_draws number (3 * i) (3 * (i + 1)) same

-- one CPU more that goes idle
pub idlings_more : (timers n : ℕ) → 1 ≤ n → map (idling timers) (range_with_len 1 (n + 1 - 1)) ≡ map (idling timers) (range_with_len 1 (n - 1)) ++ idling timers n ∷ []
idlings_more timers n some =
    let same : n + 1 - 1 ≡ (n - 1) + 1 = omega arith in
    ap (λ (k : ℕ). map (idling timers) (range_with_len 1 k)) same ∙ map-range_with_len_more (idling timers) 1 (n - 1) n (omega arith)

-- one moment more
pub later_more : (number cpus timers j x : ℕ) (old list new : List Moment) (op : Op) → list ≡ old ++ map (later_moment number cpus timers) (range_with_len 1 j) → x ≡ x_after number (3 * timers + 3 * j)
    → op ≡ record {
      line = 5 + timers + cpus + 2 * (j + 1);
      cpu = record { 0 = answer (next (next x)) cpus };
      what = choice (answer (next x) 4) (answer (next (next x)) cpus) (answer (next (next (next x))) timers);
    }
    → new ≡ list ++ record { at = 5 * (j + 1); ops = op ∷ [] } ∷ []
    → new ≡ old ++ map (later_moment number cpus timers) (range_with_len 1 (j + 1))
unfolding later_moment x_after
later_more number cpus timers j x old list new op was at is made =
    let moment : ℕ → Moment = λ y. record {
      at = 5 * (j + 1);
      ops = record {
        line = 5 + timers + cpus + 2 * (j + 1);
        cpu = record { 0 = answer (next (next y)) cpus };
        what = choice (answer (next y) 4) (answer (next (next y)) cpus) (answer (next (next (next y))) timers);
      } ∷ [];
    } in
    let so_far = map (later_moment number cpus timers) (range_with_len 1 j) in
    let same : 3 * timers + 3 * j ≡ 3 * timers + 3 * (j + 1 - 1) = omega arith in
    made
    ∙ (λ i. was i ++ record { at = 5 * (j + 1); ops = is i ∷ [] } ∷ [])
    ∙ (λ i. (old ++ so_far) ++ moment (at i) ∷ [])
    ∙ (λ i. (old ++ so_far) ++ moment (x_after number (same i)) ∷ [])
    ∙ append_assoc old so_far (later_moment number cpus timers (j + 1) ∷ [])
    ∙ ap (λ (ms : List Moment). old ++ ms) (sym (map-range_with_len_more (later_moment number cpus timers) 1 j (j + 1) (omega arith)))

pub later_draws : (number timers j x y : ℕ) → x ≡ x_after number (3 * timers + 3 * j) → y ≡ next (next (next x)) → y ≡ x_after number (3 * timers + 3 * (j + 1))
later_draws number timers j x y at is =
    let same : 3 * timers + 3 * (j + 1) ≡ suc (suc (suc (3 * timers + 3 * j))) = omega arith in
    is ∙ ap (λ (z : ℕ). next (next (next z))) at ∙ three_draws number (3 * timers + 3 * j) (3 * timers + 3 * (j + 1)) same

pub ruleset drawing = (draws_more, later_draws)
