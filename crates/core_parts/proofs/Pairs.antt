-- a list in which two elements are changed, each in a part of its own
use Rattle.std.proofs.Common.{◌≡◌, ◌≢◌, ℕ, zero, suc, ◌+◌, ◌<◌, List, [], ◌∷◌, ◌++◌, length, take}
use Rattle.std.proofs.Common.{drop, refl, sym, ap, ◌∙◌, arith, get_or, length-set}
use Rattle.std.specs.Prelude.{OnErr, OnOk, Result, Ok, Err, slice_set}
use Rattle.std.proofs.lemmas.List.{get_or-drop, get_or-take, get_or_default, set-get_or, set_comm}
use Rattle.std.proofs.Math.Seq.{take-append_seam}
use Rattle.tm_base.specs.declared.names.Class.{Class}
use Rattle.tm_base.specs.declared.names.CpuId.{CpuId}
use Rattle.core_world.specs.World.{CpuRecord, no_cpu}
use Rattle.core_parts.specs.Moves.{after_giving, after_moving, after_taking}

on_ok_both : {A E : Type 0} (r : Result A E) (P Q R : Type 0) → (P → Q → R) → OnOk r P → OnOk r Q
    → OnOk r R
on_ok_both (Ok x) P Q R f p q = f p q
on_ok_both (Err e) P Q R f p q = tt

on_err_both : {A E : Type 0} (r : Result A E) (P Q R : Type 0) → (P → Q → R) → OnErr r P → OnErr r Q
    → OnErr r R
on_err_both (Ok x) P Q R f p q = tt
on_err_both (Err e) P Q R f p q = f p q

one_set : {A : Type 0} (xs : List A) (m : ℕ) (b : A) → m < length xs
    → take m xs ++ slice_set (drop m xs) 0 b ≡ slice_set xs m b
one_set [] m b low = absurd (omega arith)
one_set (x ∷ xs) zero b low = refl
one_set (x ∷ xs) (suc m) b low = ap (λ ys. x ∷ ys) (one_set xs m b (omega (arith, low)))

two_set : {A : Type 0} (xs : List A) (m i : ℕ) (a b : A) → i < m → m < length xs
    → slice_set (take m xs) i a ++ slice_set (drop m xs) 0 b ≡ slice_set (slice_set xs i a) m b
two_set [] m i a b at low = absurd (omega arith)
two_set (x ∷ xs) zero i a b at low = absurd (omega arith)
two_set (x ∷ xs) (suc m) zero a b at low = ap (λ ys. a ∷ ys) (one_set xs m b (omega (arith, low)))
two_set (x ∷ xs) (suc m) (suc i) a b at low =
    ap (λ ys. x ∷ ys) (two_set xs m i a b (omega (arith, at)) (omega (arith, low)))

-- what a call that was lent both parts leaves
module _ (xs front back : List CpuRecord) (len i m : ℕ) (x y a b : CpuRecord)
    (counted : len ≡ length xs) (is_front : front ≡ take m xs) (is_back : back ≡ drop m xs)
    (at : i < m) (low : m < length xs) (read_x : x ≡ get_or front i x)
    (read_y : y ≡ get_or back 0 y) where
  pub low_read : x ≡ get_or xs i no_cpu
  low_read =
      read_x
      ∙ (ap (λ ys. get_or ys i x) is_front
      ∙ (get_or-take m xs i x at ∙ sym (get_or_default xs i no_cpu x (omega (arith, at, low)))))

  pub high_read : y ≡ get_or xs m no_cpu
  high_read =
      let first : m + 0 ≡ m = omega arith in
      read_y
      ∙ (ap (λ ys. get_or ys 0 y) is_back
      ∙ (get_or-drop m xs 0 y
      ∙ (ap (λ k. get_or xs k y) first ∙ sym (get_or_default xs m no_cpu y low))))

  abbrev whole : List CpuRecord
  whole = slice_set front i a ++ slice_set back 0 b

  whole_is : whole ≡ slice_set (slice_set xs i a) m b
  whole_is = (λ k. slice_set (is_front k) i a ++ slice_set (is_back k) 0 b)
      ∙ two_set xs m i a b at low

  pub left_is : take len (whole ++ drop (length whole) xs) ≡ slice_set (slice_set xs i a) m b
  left_is =
      let same : length whole ≡ len =
      ap length whole_is
      ∙ (length-set (slice_set xs i a) m b ∙ (length-set xs i a ∙ sym counted)) in
      ap (λ n. take n (whole ++ drop (length whole) xs)) (sym same)
      ∙ (take-append_seam whole (drop (length whole) xs) ∙ whole_is)

  pub unmoved : a ≡ x → b ≡ y → slice_set (slice_set xs i a) m b ≡ xs
  unmoved same_a same_b =
      (λ k. slice_set (slice_set xs i ((same_a ∙ low_read) k)) m ((same_b ∙ high_read) k))
      ∙ (ap (λ ys. slice_set ys m (get_or xs m no_cpu)) (set-get_or xs i no_cpu)
      ∙ set-get_or xs m no_cpu)

module _ (xs : List CpuRecord) (now : ℕ) (class : Class) (from to : CpuId) where
  pub ok_up : {A E : Type 0} (r : Result A E) (ys : List CpuRecord) (a b x y : CpuRecord)
      → ys ≡ slice_set (slice_set xs from.0 a) to.0 b → x ≡ get_or xs from.0 no_cpu
      → y ≡ get_or xs to.0 no_cpu
      → OnOk r (a ≡ after_giving now class to x) → OnOk r (b ≡ after_taking now class to x y)
      → OnOk r (ys ≡ after_moving now class from to xs)
  ok_up r ys a b x y is read_x read_y =
      on_ok_both r _ _ _ (λ given taken.
      is
      ∙ (λ k. slice_set (slice_set xs from.0 ((given ∙ ap (after_giving now class to) read_x) k))
      to.0 ((taken ∙ (λ j. after_taking now class to (read_x j) (read_y j))) k)))

  pub ok_down : {A E : Type 0} (r : Result A E) (ys : List CpuRecord) (a b x y : CpuRecord)
      → ys ≡ slice_set (slice_set xs to.0 b) from.0 a → from.0 ≢ to.0 → x ≡ get_or xs from.0 no_cpu
      → y ≡ get_or xs to.0 no_cpu
      → OnOk r (a ≡ after_giving now class to x) → OnOk r (b ≡ after_taking now class to x y)
      → OnOk r (ys ≡ after_moving now class from to xs)
  ok_down r ys a b x y is apart read_x read_y =
      ok_up r ys a b x y (is ∙ set_comm xs to.0 from.0 b a (λ e. apart (sym e))) read_x read_y

  pub err_any : {A E : Type 0} (r : Result A E) (ys : List CpuRecord) (P Q : Type 0)
      → (P → Q → ys ≡ xs) → OnErr r P → OnErr r Q → OnErr r (ys ≡ xs)
  err_any r ys P Q f = on_err_both r P Q (ys ≡ xs) f
