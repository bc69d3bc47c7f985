-- how far the moments of all timers are behind a tick, as one slot changes
use Rattle.std.proofs.Common.{◌≡◌, ◌≢◌, ℕ, zero, suc, ◌+◌, List, [], ◌∷◌, Option, None}
use Rattle.std.proofs.Common.{get_or, refl, ap, arith}
use Rattle.timer_queue.specs.declared.timer.Timer.{Timer}
use Rattle.timer_queue.specs.Turns.{left, weight}

module _ {T : Type 0} where
  same_left : (now : ℕ) (xs ys : List (Option (Timer T)))
      → ((k : ℕ) → get_or xs k None ≡ get_or ys k None) → left now xs ≡ left now ys
  same_left now [] [] at = refl
  same_left now [] (y ∷ ys) at =
      let here : 0 ≡ weight now y = ap (weight now) (at 0) in
      let rest : 0 ≡ left now ys = same_left now [] ys (λ k. at (suc k)) in
      omega (arith, here, rest)
  same_left now (x ∷ xs) [] at =
      let here : weight now x ≡ 0 = ap (weight now) (at 0) in
      let rest : left now xs ≡ 0 = same_left now xs [] (λ k. at (suc k)) in
      omega (arith, here, rest)
  same_left now (x ∷ xs) (y ∷ ys) at =
      let here : weight now x ≡ weight now y = ap (weight now) (at 0) in
      let rest = same_left now xs ys (λ k. at (suc k)) in
      omega (arith, here, rest)

  pub left_updated : (now key : ℕ) (xs ys : List (Option (Timer T)))
      → ((k : ℕ) → k ≢ key → get_or ys k None ≡ get_or xs k None)
      → left now ys + weight now (get_or xs key None) ≡ left now xs + weight now (get_or ys key None)
  left_updated now zero [] [] at = refl
  left_updated now zero [] (y ∷ ys) at =
      let rest : left now ys ≡ 0 = same_left now ys [] (λ k. at (suc k) (λ z. omega (arith, z))) in
      omega (arith, rest)
  left_updated now zero (x ∷ xs) [] at =
      let rest : 0 ≡ left now xs = same_left now [] xs (λ k. at (suc k) (λ z. omega (arith, z))) in
      omega (arith, rest)
  left_updated now zero (x ∷ xs) (y ∷ ys) at =
      let rest = same_left now ys xs (λ k. at (suc k) (λ z. omega (arith, z))) in
      omega (arith, rest)
  left_updated now (suc key) [] [] at = refl
  left_updated now (suc key) [] (y ∷ ys) at =
      let here : weight now y ≡ 0 = ap (weight now) (at 0 (λ z. omega (arith, z))) in
      let rest = left_updated now key [] ys (λ k apart. at (suc k) (λ z. apart (omega (arith, z)))) in
      omega (arith, here, rest)
  left_updated now (suc key) (x ∷ xs) [] at =
      let here : 0 ≡ weight now x = ap (weight now) (at 0 (λ z. omega (arith, z))) in
      let rest = left_updated now key xs [] (λ k apart. at (suc k) (λ z. apart (omega (arith, z)))) in
      omega (arith, here, rest)
  left_updated now (suc key) (x ∷ xs) (y ∷ ys) at =
      let here : weight now y ≡ weight now x = ap (weight now) (at 0 (λ z. omega (arith, z))) in
      let rest = left_updated now key xs ys (λ k apart. at (suc k) (λ z. apart (omega (arith, z)))) in
      omega (arith, here, rest)
