-- shares under way, and shares that are done, one after another
use Rattle.std.proofs.Common.{◌≡◌, ◌∷◌, ◌++◌, ℕ, List, [], ap, ◌∙◌, length, subst}
use Rattle.std.specs.FinSet.{contains}
use Rattle.atomic_table.specs.Seated.{TableId}
use Rattle.core_world.specs.World.{World}
use Rattle.play_rules.specs.Interrupts.{Replies}
use Rattle.run_shares.specs.shared_rule.Passes.{HeldPass}
use Rattle.run_shares.specs.run_story.Shares.{own_ops}
use Rattle.run_shares.specs.Tasks.{IsTaskOf, RoundPlan}
use Rattle.run_shares.specs.Progress.{IsDoneAt, MayShare}
use Rattle.run_shares.specs.declared.shares.Share.{Share}
use Rattle.run_shares.specs.declared.tasks.Task.{Task}
use Rattle.run_shares.proofs.Moving.{count_on, others_of}
use Rattle.run_shares.proofs.Rows.{next_is, one_moved}
use Rattle.run_rounds.specs.UnderWay.{BegunSoFar, EndedSoFar, IsBegun, IsBegunAt, IsKept}
use Rattle.run_rounds.specs.declared.threads.Begun.{Begun}

-- UNDER WAY: by the plan
pub begun_at : {N J : Type 0} (table : TableId) (o : World) (replies : J → Replies)
    (jobs : Replies) (plan : RoundPlan) (c : ℕ) (x : Task) (b : Begun N J) → IsTaskOf table o plan c x
    → IsBegun table o replies jobs x.due x.ops.items x.pass.cpu b
    → IsBegunAt table o replies jobs plan c b
begun_at table o replies jobs plan c x b h is =
    let cpu : x.pass.cpu ≡ c = ap (λ (p : HeldPass). p.cpu) h.pass in
    subst (λ d. IsBegun table o replies jobs d (own_ops c plan.ops) c b) h.due
    (subst (λ l. IsBegun table o replies jobs x.due l c b) h.ops
    (subst (λ d. IsBegun table o replies jobs x.due x.ops.items d b) cpu is))

module _ {N J : Type 0} (table : TableId) (o : World) (replies : J → Replies) where
  -- a share begins
  pub begun_one : (jobs : Replies) (all rest later : List Task) (begun new : List (Begun N J))
      (task : Task)
      (one : Begun N J) → rest ≡ task ∷ later → new ≡ begun ++ one ∷ []
      → IsBegun table o replies jobs task.due task.ops.items task.pass.cpu one
      → BegunSoFar table o replies jobs all rest begun
      → BegunSoFar table o replies jobs all later new
  begun_one jobs all rest later begun new task one steps pushed is so_far = record {
    may = others_of (MayShare table o) rest task later steps so_far.may;
    all_are = count_on rest later begun new task one steps pushed ∙ so_far.all_are;
    moved = λ plan tasks.
        let P = IsTaskOf table o plan in
        let Q = IsBegunAt table o replies jobs plan in
        let moved = so_far.moved plan tasks in
        one_moved P Q (length all) rest begun moved task later steps one new pushed
        (begun_at table o replies jobs plan (length begun) task one
        (next_is P Q (length all) rest begun moved task later steps) is);
  }

  -- and ends
  pub ended_one : (all rest later : List (Begun N J)) (shares new : List Share) (one : Begun N J)
      (share : Share) → rest ≡ one ∷ later → new ≡ shares ++ share ∷ []
      → IsKept table o replies one share → EndedSoFar table o replies all rest shares
      → EndedSoFar table o replies all later new
  ended_one all rest later shares new one share steps pushed kept so_far = record {
    all_are = count_on rest later shares new one share steps pushed ∙ so_far.all_are;
    moved = λ jobs plan begun.
        let P = IsBegunAt table o replies jobs plan in
        let Q = IsDoneAt table o jobs plan in
        let moved = so_far.moved jobs plan begun in
        one_moved P Q (length all) rest shares moved one later steps share new pushed
        (kept jobs (contains plan.due (length shares)) (own_ops (length shares) plan.ops)
        (length shares) (next_is P Q (length all) rest shares moved one later steps));
  }
