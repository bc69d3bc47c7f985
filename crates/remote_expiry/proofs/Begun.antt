-- from when on deeds were done
use Rattle.std.proofs.Common.{ℕ, ◌≤◌, List, [], ◌∷◌, ◌++◌, map, arith}
use Rattle.walk_inactive.specs.shared_rule.declared.parts.Did.{Did}
use Rattle.walk_inactive.specs.shared_rule.declared.parts.Look.{Look}
use Rattle.shared_acts.specs.Looks.{saw}
use Rattle.remote_expiry.specs.Order.{BeginsWhere}

-- from earlier on, too
pub sooner : (n m : ℕ) (did : List Did) → n ≤ m → BeginsWhere m did → BeginsWhere n did
sooner n m [] low h = tt
sooner n m (x ∷ did) low h = omega (arith, low, h)

-- deeds behind others
pub both_begin : (n m : ℕ) (did later : List Did) → n ≤ m → BeginsWhere n did
    → BeginsWhere m later → BeginsWhere n (did ++ later)
both_begin n m [] later low h k = sooner n m later low k
both_begin n m (x ∷ did) later low h k = h

-- loads
pub loads_begin : (n : ℕ) (xs : List Look)
    → BeginsWhere n (map (λ (x : Look). record { held = n; deed = saw x }) xs)
loads_begin n [] = tt
loads_begin n (x ∷ xs) = omega arith
