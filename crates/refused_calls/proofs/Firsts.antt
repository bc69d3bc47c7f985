-- a pass with which a run begins, and what an interrupt and an arming that wanted memory make of one
use Rattle.std.proofs.Common.{◌≡◌, ℕ, List}
use Rattle.std.proofs.Common.{Result, Ok, Err, ap, subst, ◌∙◌}
use Rattle.std.specs.Prelude.{MatchResult, None, option_map}
use Rattle.atomic_table.specs.Seated.{TableId}
use Rattle.tm_base.specs.declared.faults.OpFault.{OpFault}
use Rattle.tm_base.specs.declared.faults.OpFault.TheVariants as faults
use Rattle.job_table.specs.declared.jobs.JobCall.{JobCall}
use Rattle.job_table.specs.declared.jobs.JobReply.{JobReply}
use Rattle.core_world.specs.World.{World}
use Rattle.shared_rows.specs.shared_rule.declared.parts.PassView.{PassView}
use Rattle.shared_rows.specs.shared_rule.Parts.{HeldPart}
use Rattle.shared_rows.specs.shared_rule.Passes.{HeldPass, IsOfRun, Seated}
use Rattle.shared_rows.specs.shared_rule.Starts.{first_pass_of}
use Rattle.shared_rows.specs.shared_table.Begun.{begun_pass}
use Rattle.remote_expiry.specs.Runs.{Ran}
use Rattle.remote_expiry.specs.Interrupts.{HasInterrupted, NotInterrupted, interrupt_fault}
use Rattle.remote_expiry.specs.shared_calls.Arms.{NotArmed}

-- an interrupt leaves a pass to its CPU, whatever it answers
pub stays_its : {A : Type 0} (o : World) (jobs : ℕ → JobCall → JobReply) (p q : PassView)
    (before after : List Ran) (r : Result A OpFault)
    → MatchResult r (λ done. (interrupt_fault p ≡ None) × HasInterrupted o jobs p q before after)
    (NotInterrupted o jobs p q before after) → q.cpu ≡ p.cpu
stays_its o jobs p q before after (Ok done) m = m.1.gained.cpu
stays_its o jobs p q before after (Err faults.NoMemory) m = m.1.gained.cpu
stays_its o jobs p q before after (Err faults.Offline) m = ap (λ (x : PassView). x.cpu) m.pass_is
stays_its o jobs p q before after (Err (faults.Spent made)) m =
    ap (λ (x : PassView). x.cpu) m.pass_is
stays_its o jobs p q before after (Err faults.NotActive) m = absurd m
stays_its o jobs p q before after (Err faults.NotIdle) m = absurd m
stays_its o jobs p q before after (Err faults.AlreadyOnline) m = absurd m
stays_its o jobs p q before after (Err faults.LastOnline) m = absurd m
stays_its o jobs p q before after (Err (faults.Queued cpu)) m = absurd m

-- a pass with which a run begins is the run's
pub begun_of_run : (table : TableId) (o : World) (h : HeldPass) → h ≡ begun_pass table o 0 h.cpu
    → IsOfRun table h
begun_of_run table o h is = (first_pass_of o 0 h.cpu, ap (λ (x : HeldPass). x.seated) is)

-- an arming that wanted memory leaves a pass of the run
pub still_of_run : (table : TableId) (o : World) (timer : ℕ) (part : HeldPart)
    (held after : HeldPass) (fault : OpFault) → fault ≡ faults.NoMemory
    → NotArmed table o timer part held after fault → IsOfRun table held → IsOfRun table after
still_of_run table o timer part held after fault is failed of_run =
    let left = subst (λ f. NotArmed table o timer part held after f) is failed in (
      record of_run.0 { journal = part.box.own.bases.journal },
      ap (λ (h : HeldPass). h.seated) left.left
          ∙ ap (option_map (λ (s : Seated).
          record s { pass = record s.pass { journal = part.box.own.bases.journal } })) of_run.1,
    )
