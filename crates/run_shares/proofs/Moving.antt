-- for crates above: tasks and shares, one after another
use Rattle.std.proofs.Common.{arith, ◌≡◌, ◌+◌, List, [], ◌∷◌, ◌++◌, length, sym, ap, ◌∙◌, subst}
use Rattle.std.proofs.Common.{map}
use Rattle.std.specs.Prelude.{IsOk}
use Rattle.std.specs.FinSet.{contains}
use Rattle.std.specs.List.{flat_map}
use Rattle.std.proofs.lemmas.List.{append_assoc, length-append}
use Rattle.tm_base.specs.CpuSet.{Cpus}
use Rattle.tm_report.specs.declared.lines.Line.{Line}
use Rattle.idle_wakeup.specs.shared_rule.Passes.{HeldPass}
use Rattle.idle_wakeup.specs.shared_rule.Rule.{Each}
use Rattle.run_shares.specs.Tasks.{HasShareEnded, IsTaskOf, RoundPlan, pass_of, told_of}
use Rattle.run_shares.specs.Progress.{GatheredSoFar, IsFirstPass, TasksSoFar}
use Rattle.run_shares.specs.declared.shares.Share.{Share}
use Rattle.run_shares.specs.declared.tasks.Task.{Task}
use Rattle.run_shares.proofs.Rows.{next_is, one_moved}

-- the first of a list, and the others
pub each_first : {X : Type 0} (P : X → Type 0) (rest : List X) (x : X) (later : List X)
    → rest ≡ x ∷ later → Each P rest → P x
each_first P rest x later steps each = (subst (Each P) steps each).0

pub others_of : {X : Type 0} (P : X → Type 0) (rest : List X) (x : X) (later : List X)
    → rest ≡ x ∷ later → Each P rest → Each P later
others_of P rest x later steps each = (subst (Each P) steps each).1

-- one more is made of those that are left
pub count_on : {X Y : Type 0} (rest later : List X) (made new : List Y) (x : X) (y : Y)
    → rest ≡ x ∷ later → new ≡ made ++ y ∷ []
    → length new + length later ≡ length made + length rest
count_on rest later made new x y steps pushed =
    let sum = length-append made (y ∷ []) in
    let longer = ap length pushed in
    let was = ap length steps in
    omega (arith, sum, longer, was)

-- a task for a pass
pub task_one : (due : Cpus) (all rest later : List HeldPass) (tasks new : List Task)
    (pass : HeldPass) (task : Task) → rest ≡ pass ∷ later → new ≡ tasks ++ task ∷ []
    → task.pass ≡ pass → task.due ≡ contains due pass.cpu → task.ops.items ≡ []
    → TasksSoFar due all rest tasks → TasksSoFar due all later new
task_one due all rest later tasks new pass task steps pushed pass_is due_is ops_are so_far table o
    first =
    let moved = so_far table o first in
    let plan : RoundPlan = record { due = due; ops = [] } in
    let is = next_is (IsFirstPass table o) (IsTaskOf table o plan) (length all) rest tasks moved
    pass later steps in
    one_moved (IsFirstPass table o) (IsTaskOf table o plan) (length all) rest tasks moved pass later
    steps task new pushed (record {
      pass = pass_is ∙ is;
      due = due_is ∙ ap (λ (p : HeldPass). contains due p.cpu) is;
      ops = ops_are;
    })

-- passes and lines are gathered
pub gathered_one : (all rest later : List Share) (passes more : List HeldPass)
    (lines longer : List Line) (share : Share) → rest ≡ share ∷ later
    → more ≡ passes ++ share.pass ∷ [] → longer ≡ lines ++ share.lines.items → IsOk share.ended
    → GatheredSoFar all rest passes lines → GatheredSoFar all later more longer
gathered_one all rest later passes more lines longer share steps pushed appended ended so_far =
    record {
      passes_are = ap (λ l. l ++ map pass_of later) pushed
          ∙ (append_assoc passes (share.pass ∷ []) (map pass_of later)
          ∙ (ap (λ l. passes ++ map pass_of l) (sym steps) ∙ so_far.passes_are));
      lines_are = ap (λ l. l ++ flat_map told_of later) appended
          ∙ (append_assoc lines share.lines.items (flat_map told_of later)
          ∙ (ap (λ l. lines ++ flat_map told_of l) (sym steps) ∙ so_far.lines_are));
      ended = λ later_ended.
          so_far.ended (subst (Each HasShareEnded) (sym steps) (ended, later_ended));
    }
