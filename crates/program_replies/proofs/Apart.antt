-- for crates above: two statuses that differ, and a reply that isn't usage
use Rattle.std.proofs.Common.{◌≡◌, ℕ, Bool, true, false, refl, sym, ◌∙◌, ap}
use Rattle.std.specs.Prelude.{◌==◌}
use Rattle.program_texts.specs.declared.inputs.Form.{Form}
use Rattle.program_texts.specs.declared.inputs.Form.TheVariants as forms
use Rattle.program_texts.specs.declared.replies.Reply.{Reply}
use Rattle.program_texts.specs.declared.replies.Reply.TheVariants.{Usage, ReadFault, TooLong}
use Rattle.program_texts.specs.declared.replies.Reply.TheVariants.{Refused, JobUnknown, WorkSpent}
use Rattle.program_texts.specs.declared.replies.Reply.TheVariants.{Played, Made}
use Rattle.program_texts.specs.declared.statuses.TheConstants.{DONE, USAGE, READ_FAULT, TOO_LONG}
use Rattle.program_texts.specs.declared.statuses.TheConstants.{SCRIPT_REFUSED, TRACE_REFUSED}
use Rattle.program_texts.specs.declared.statuses.TheConstants.{WORKS_REFUSED, JOB_UNKNOWN}
use Rattle.program_texts.specs.declared.statuses.TheConstants.{WORK_SPENT}
use Rattle.program_texts.specs.Statuses.{refused_status, status_written}

never : false ≡ true → ⊥
never e = cc

-- numbers of which one equals itself, and the other not it
pub apart : (a b : ℕ) → (b == b) ≡ true → (a == b) ≡ false → a ≡ b → ⊥
apart a b self other e = never (sym other ∙ (ap (λ (x : ℕ). x == b) e ∙ self))

abbrev pub is_usage : Reply → Bool
is_usage Usage = true
is_usage ReadFault = false
is_usage TooLong = false
is_usage (Refused form fault) = false
is_usage (JobUnknown line job) = false
is_usage (WorkSpent count) = false
is_usage (Played text) = false
is_usage (Made text) = false

pub no_usage : (reply : Reply) → is_usage reply ≡ false → reply ≡ Usage → ⊥
no_usage reply other e = never (sym other ∙ ap is_usage e)

-- a status that isn't a refusal's
refusal_apart : (form : Form) (x : ℕ) → (x == x) ≡ true → (SCRIPT_REFUSED == x) ≡ false
    → (TRACE_REFUSED == x) ≡ false → (WORKS_REFUSED == x) ≡ false → refused_status form ≡ x → ⊥
refusal_apart forms.Script x self script trace works = apart SCRIPT_REFUSED x self script
refusal_apart forms.Trace x self script trace works = apart TRACE_REFUSED x self trace
refusal_apart forms.Works x self script trace works = apart WORKS_REFUSED x self works

-- ---- the replies that alone have a status

pub usage_written : (reply : Reply) → status_written reply ≡ USAGE → reply ≡ Usage
usage_written Usage at = refl
usage_written ReadFault at = absurd (apart READ_FAULT USAGE refl refl at)
usage_written TooLong at = absurd (apart TOO_LONG USAGE refl refl at)
usage_written (Refused form fault) at =
    absurd (refusal_apart form USAGE refl refl refl refl at)
usage_written (JobUnknown line job) at = absurd (apart JOB_UNKNOWN USAGE refl refl at)
usage_written (WorkSpent count) at = absurd (apart WORK_SPENT USAGE refl refl at)
usage_written (Played text) at = absurd (apart DONE USAGE refl refl at)
usage_written (Made text) at = absurd (apart DONE USAGE refl refl at)

pub fault_written : (reply : Reply) → status_written reply ≡ READ_FAULT → reply ≡ ReadFault
fault_written Usage at = absurd (apart USAGE READ_FAULT refl refl at)
fault_written ReadFault at = refl
fault_written TooLong at = absurd (apart TOO_LONG READ_FAULT refl refl at)
fault_written (Refused form fault) at =
    absurd (refusal_apart form READ_FAULT refl refl refl refl at)
fault_written (JobUnknown line job) at = absurd (apart JOB_UNKNOWN READ_FAULT refl refl at)
fault_written (WorkSpent count) at = absurd (apart WORK_SPENT READ_FAULT refl refl at)
fault_written (Played text) at = absurd (apart DONE READ_FAULT refl refl at)
fault_written (Made text) at = absurd (apart DONE READ_FAULT refl refl at)

pub long_written : (reply : Reply) → status_written reply ≡ TOO_LONG → reply ≡ TooLong
long_written Usage at = absurd (apart USAGE TOO_LONG refl refl at)
long_written ReadFault at = absurd (apart READ_FAULT TOO_LONG refl refl at)
long_written TooLong at = refl
long_written (Refused form fault) at =
    absurd (refusal_apart form TOO_LONG refl refl refl refl at)
long_written (JobUnknown line job) at = absurd (apart JOB_UNKNOWN TOO_LONG refl refl at)
long_written (WorkSpent count) at = absurd (apart WORK_SPENT TOO_LONG refl refl at)
long_written (Played text) at = absurd (apart DONE TOO_LONG refl refl at)
long_written (Made text) at = absurd (apart DONE TOO_LONG refl refl at)
