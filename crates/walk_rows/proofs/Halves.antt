-- passes are cut in two, and put together again after their CPUs have taken turns
use Rattle.std.proofs.Common.{◌≡◌, ℕ, ◌+◌, ◌≤◌, List, ◌++◌, length, take, drop, sym, ap, ◌∙◌, subst}
use Rattle.std.proofs.Common.{arith}
use Rattle.std.proofs.lemmas.List.{length-append, length-drop, length-take-le}
use Rattle.atomic_table.specs.Seated.{TableId}
use Rattle.idle_wakeup.specs.shared_rule.Passes.{HeldPass}
use Rattle.shared_rows.specs.shared_table.Ended.{PassesFrom}
use Rattle.shared_rows.proofs.shared_table.Passes.{cut_back, cut_front, put_together}

module _ (table : TableId) (k cut most : ℕ) (ps : List HeldPass) (each : PassesFrom table k ps)
    (few : k + length ps ≤ most) (low : cut ≤ length ps) (front back : List HeldPass)
    (front_is : front ≡ take cut ps) (back_is : back ≡ drop cut ps) where
  front_count : length front ≡ cut
  front_count = ap length front_is ∙ length-take-le cut ps low

  back_count : cut + length back ≡ length ps
  back_count =
      let all = length-drop cut ps in let is = ap length back_is in omega (arith, all, is, low)

  pub front_from : PassesFrom table k front
  front_from = subst (PassesFrom table k) (sym front_is) (cut_front table k cut ps each)

  pub back_from : PassesFrom table (k + cut) back
  back_from = subst (PassesFrom table (k + cut)) (sym back_is) (cut_back table k cut ps each)

  pub front_few : k + length front ≤ most
  front_few = let is = front_count in omega (arith, is, few, low)

  pub back_few : k + cut + length back ≤ most
  back_few = let is = back_count in omega (arith, is, few)

  -- both after they have changed
  module _ (ones others : List HeldPass) (from : PassesFrom table k ones)
      (then : PassesFrom table (k + cut) others) (many : length ones ≡ length front)
      (more : length others ≡ length back) where
    pub joined_from : PassesFrom table k (ones ++ others)
    joined_from =
        let count : cut ≡ length ones = sym (many ∙ front_count) in
        put_together table k ones others from
        (subst (λ n. PassesFrom table (k + n) others) count then)

    pub joined_count : length (ones ++ others) ≡ length ps
    joined_count =
        let sum = length-append ones others in
        let a = front_count in
        let b = back_count in
        omega (arith, sum, many, more, a, b)
