-- going over operations, runs and works, one by one
use Rattle.std.proofs.Common.{◌≡◌, ℕ, zero, suc, ◌+◌, ◌-◌, ◌<◌, ◌≤◌, List, ◌++◌, length, sym, ap, subst, ◌∙◌, arith, get_or, append_assoc}
use Rattle.std.specs.Prelude.{drop}
use Rattle.std.proofs.lemmas.List.{append-nil, drop_all, drop_more}
use Rattle.work_script.specs.declared.syntax.WorkOp.{WorkOp}
use Rattle.work_script.specs.declared.syntax.WorkOp.TheVariants.{Cancel}
use Rattle.delayed_work.specs.Calls.{WorkReplies}
use Rattle.delayed_work.specs.Lines.{left_work_line}
use Rattle.delayed_work.specs.Play.{Playing, all_done, work_op_done, left_lines, run_all, run_one}
use Rattle.delayed_work.specs.Playable.{AreInRange, NamesWork}
use Rattle.delayed_work.specs.Works.{WorksState, work_left}

pub done_more : (now i : ℕ) (d : WorkOp) (ops : List WorkOp) (p q whole : Playing) → all_done now (drop i ops) p ≡ whole → i < length ops → q ≡ work_op_done now (get_or ops i d) p
    → all_done now (drop (i + 1) ops) q ≡ whole
done_more now i d ops p q whole rest low is =
    ap (all_done now (drop (i + 1) ops)) is ∙ (rw (drop_more ops i d low) at rest)

pub done_end : (now i : ℕ) (ops : List WorkOp) (p whole : Playing) → all_done now (drop i ops) p ≡ whole → length ops ≤ i → p ≡ whole
done_end now i ops p whole rest high = rw (drop_all i ops high) at rest

pub in_range_at : (count n i : ℕ) (ops : List WorkOp) → n ≡ count → i < length ops → AreInRange count (drop i ops) → (d : WorkOp) → NamesWork n (get_or ops i d)
in_range_at count n i ops len low h d =
    let both = rw (drop_more ops i d low) at h in
    subst (λ k. NamesWork k (get_or ops i d)) (sym len) both.0

pub in_range_more : (count i : ℕ) (ops : List WorkOp) → i < length ops → AreInRange count (drop i ops) → AreInRange count (drop (i + 1) ops)
in_range_more count i ops low h = let both = rw (drop_more ops i (Cancel 0 0) low) at h in both.1

below : (n i : ℕ) → i < n → n - i ≡ suc (n - (i + 1))
below n i low = omega arith

past : (n i : ℕ) → n ≤ i → n - i ≡ zero
past n i high = omega arith

pub run_more : (replies : WorkReplies) (n i now : ℕ) (p q whole : Playing) → run_all replies (n - i) now p ≡ whole → i < n → q ≡ run_one replies now p
    → run_all replies (n - (i + 1)) now q ≡ whole
run_more replies n i now p q whole rest low is =
    ap (run_all replies (n - (i + 1)) now) is ∙ (rw (below n i low) at rest)

pub run_end : (replies : WorkReplies) (n i now : ℕ) (p whole : Playing) → run_all replies (n - i) now p ≡ whole → n ≤ i → p ≡ whole
run_end replies n i now p whole rest high = rw (past n i high) at rest

pub left_more : (n i : ℕ) (text told whole : List ℕ) (works : WorksState) → text ++ left_lines (n - i) i works ≡ whole → i < n → told ≡ text ++ left_work_line i (work_left i works)
    → told ++ left_lines (n - (i + 1)) (i + 1) works ≡ whole
left_more n i text told whole works rest low is =
    ap (λ (t : List ℕ). t ++ left_lines (n - (i + 1)) (i + 1) works) is
    ∙ append_assoc text (left_work_line i (work_left i works)) (left_lines (n - (i + 1)) (i + 1) works)
    ∙ (rw (below n i low) at rest)

pub left_end : (n i : ℕ) (text whole : List ℕ) (works : WorksState) → text ++ left_lines (n - i) i works ≡ whole → n ≤ i → text ≡ whole
left_end n i text whole works rest high = sym (append-nil text) ∙ (rw (past n i high) at rest)
