-- the passes of a run are cut in two, and put together again after they have loaded
use Rattle.std.proofs.Common.{◌≡◌, ℕ, ◌+◌, ◌≤◌, List, ◌++◌, length, take, drop, ◌∙◌, subst}
use Rattle.std.proofs.Common.{arith}
use Rattle.std.proofs.lemmas.List.{length-append, length-drop, length-take-le}
use Rattle.atomic_table.specs.Seated.{TableId}
use Rattle.shared_table.specs.shared_rule.Passes.{HeldPass}
use Rattle.shared_table.specs.Ended.{AreAllPasses, PassesFrom}
use Rattle.shared_table.proofs.Passes.{cut_back, put_together}

-- the second half
pub back_half : (table : TableId) (m : ℕ) (ps : List HeldPass) → PassesFrom table 0 ps
    → PassesFrom table m (drop m ps)
back_half table m ps h =
    let same : 0 + m ≡ m = omega arith in
    subst (λ j. PassesFrom table j (drop m ps)) same (cut_back table 0 m ps h)

-- both halves after they have changed
module _ (table : TableId) (n middle : ℕ) (ps front back : List HeldPass)
    (all : AreAllPasses table n ps) (low : middle ≤ length ps)
    (fronts : PassesFrom table 0 front) (f : length front ≡ length (take middle ps))
    (backs : PassesFrom table middle back) (b : length back ≡ length (drop middle ps)) where
  front_is : length front ≡ middle
  front_is = f ∙ length-take-le middle ps low

  pub all_again : AreAllPasses table n (front ++ back)
  all_again = record {
    count =
        let cut = length-append front back in
        let rest = length-drop middle ps in
        let whole = all.count in
        omega (arith, cut, front_is, b, rest, low, whole);
    each =
        let behind : middle ≡ 0 + length front = omega (arith, front_is) in
        put_together table 0 front back fronts
        (subst (λ j. PassesFrom table j back) behind backs);
  }
