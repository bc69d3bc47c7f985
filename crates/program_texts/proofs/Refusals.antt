-- for crates above: refusals, and which replies have which status
use Rattle.std.proofs.Common.{◌≡◌, ℕ, Bool, true, false, refl, sym, ◌∙◌, ap, subst, arith, inl, inr}
use Rattle.std.specs.Prelude.{◌⊎◌, ◌==◌, ◌||◌}
use Rattle.tm_script.specs.declared.faults.ScriptFault.{ScriptFault}
use Rattle.tm_io.specs.Seen.{SinkSeen}
use Rattle.program_texts.specs.declared.inputs.Form.{Form}
use Rattle.program_texts.specs.declared.inputs.Form.TheVariants as forms
use Rattle.program_texts.specs.declared.replies.Reply.{Reply}
use Rattle.program_texts.specs.declared.replies.Reply.TheVariants.{Usage, ReadFault, TooLong}
use Rattle.program_texts.specs.declared.replies.Reply.TheVariants.{Refused, JobUnknown, WorkSpent}
use Rattle.program_texts.specs.declared.replies.Reply.TheVariants.{Played, Made}
use Rattle.program_texts.specs.declared.statuses.TheConstants.{DONE, USAGE, READ_FAULT, WRITE_FAULT}
use Rattle.program_texts.specs.declared.statuses.TheConstants.{NO_MEMORY, TOO_LONG, SCRIPT_REFUSED}
use Rattle.program_texts.specs.declared.statuses.TheConstants.{TRACE_REFUSED, WORKS_REFUSED}
use Rattle.program_texts.specs.declared.statuses.TheConstants.{WORK_SPENT, JOB_UNKNOWN}
use Rattle.program_texts.specs.Statuses.{refused_status, status_written, status_broken, IsStatus}
use Rattle.program_texts.specs.Ends.{EndsAs, whole, part, wanting, unwritten}

-- ---- refusals

-- a status is that of a refusal
is_refused : ℕ → Bool
is_refused status =
    status == SCRIPT_REFUSED || (status == TRACE_REFUSED || status == WORKS_REFUSED)

refused : (form : Form) → is_refused (refused_status form) ≡ true
unfolding is_refused
refused forms.Script = refl
refused forms.Trace = refl
refused forms.Works = refl

-- another status is none
not_refused : (form : Form) (x : ℕ) → is_refused x ≡ false → x ≡ refused_status form → ⊥
not_refused form x other e =
    let same : is_refused x ≡ true = ap is_refused e ∙ refused form in cc (other, same)

-- each form's refusal has a status of its own
same_form : (f g : Form) → refused_status f ≡ refused_status g → f ≡ g
same_form forms.Script forms.Script e = refl
same_form forms.Script forms.Trace e = cc
same_form forms.Script forms.Works e = cc
same_form forms.Trace forms.Script e = cc
same_form forms.Trace forms.Trace e = refl
same_form forms.Trace forms.Works e = cc
same_form forms.Works forms.Script e = cc
same_form forms.Works forms.Trace e = cc
same_form forms.Works forms.Works e = refl

-- a reply with the status of a refusal is one
pub is_refusal : (form : Form) (reply : Reply) → status_written reply ≡ refused_status form
    → (fault : ScriptFault) × (reply ≡ Refused form fault)
unfolding is_refused
is_refusal form Usage e = absurd (not_refused form USAGE refl e)
is_refusal form ReadFault e = absurd (not_refused form READ_FAULT refl e)
is_refusal form TooLong e = absurd (not_refused form TOO_LONG refl e)
is_refusal form (Refused f fault) e = (fault, ap (λ g. Refused g fault) (same_form f form e))
is_refusal form (JobUnknown line job) e = absurd (not_refused form JOB_UNKNOWN refl e)
is_refusal form (WorkSpent count) e = absurd (not_refused form WORK_SPENT refl e)
is_refusal form (Played text) e = absurd (not_refused form DONE refl e)
is_refusal form (Made text) e = absurd (not_refused form DONE refl e)

-- a refusal isn't a broken sink's, nor want of memory, an unknown job or spent work
pub no_break : (form : Form) → WRITE_FAULT ≡ refused_status form → ⊥
unfolding is_refused
no_break form e = not_refused form WRITE_FAULT refl e

pub no_want : (form : Form) → NO_MEMORY ≡ refused_status form → ⊥
unfolding is_refused
no_want form e = not_refused form NO_MEMORY refl e

pub no_done : (form : Form) → DONE ≡ refused_status form → ⊥
unfolding is_refused
no_done form e = not_refused form DONE refl e

pub no_job : (form : Form) → JOB_UNKNOWN ≡ refused_status form → ⊥
unfolding is_refused
no_job form e = not_refused form JOB_UNKNOWN refl e

pub no_work : (form : Form) → WORK_SPENT ≡ refused_status form → ⊥
unfolding is_refused
no_work form e = not_refused form WORK_SPENT refl e

-- there is such a status
refusal_status : (form : Form) → IsStatus (refused_status form)
refusal_status forms.Script = inl (omega arith)
refusal_status forms.Trace = inr (inl refl)
refusal_status forms.Works = inr (inr refl)

-- ---- which replies have which status

pub never_write_fault : (reply : Reply) → status_written reply ≡ WRITE_FAULT → ⊥
never_write_fault Usage e = cc
never_write_fault ReadFault e = cc
never_write_fault TooLong e = cc
never_write_fault (Refused form fault) e = absurd (no_break form (sym e))
never_write_fault (JobUnknown line job) e = cc
never_write_fault (WorkSpent count) e = cc
never_write_fault (Played text) e = cc
never_write_fault (Made text) e = cc

pub never_no_memory : (reply : Reply) → status_written reply ≡ NO_MEMORY → ⊥
never_no_memory Usage e = cc
never_no_memory ReadFault e = cc
never_no_memory TooLong e = cc
never_no_memory (Refused form fault) e = absurd (no_want form (sym e))
never_no_memory (JobUnknown line job) e = cc
never_no_memory (WorkSpent count) e = cc
never_no_memory (Played text) e = cc
never_no_memory (Made text) e = cc

pub broken_output : (reply : Reply) → status_broken reply ≡ WRITE_FAULT
    → status_written reply ≡ DONE
broken_output Usage e = cc
broken_output ReadFault e = cc
broken_output TooLong e = cc
broken_output (Refused form fault) e = absurd (no_break form (sym e))
broken_output (JobUnknown line job) e = cc
broken_output (WorkSpent count) e = cc
broken_output (Played text) e = refl
broken_output (Made text) e = refl

-- the status of a broken sink is that of an output or the reply's own
broken_own : (reply : Reply)
    → (status_broken reply ≡ WRITE_FAULT) ⊎ (status_broken reply ≡ status_written reply)
broken_own Usage = inr refl
broken_own ReadFault = inr refl
broken_own TooLong = inr refl
broken_own (Refused form fault) = inr refl
broken_own (JobUnknown line job) = inr refl
broken_own (WorkSpent count) = inr refl
broken_own (Played text) = inl refl
broken_own (Made text) = inl refl

pub own_of_broken : (reply : Reply) (x : ℕ) → (WRITE_FAULT ≡ x → ⊥) → status_broken reply ≡ x
    → status_written reply ≡ x
own_of_broken reply x not e =
    elim (broken_own reply) [ inl b ↦ absurd (not (sym b ∙ e)) | inr b ↦ sym b ∙ e ]

pub never_broken_done : (reply : Reply) → status_broken reply ≡ DONE → ⊥
never_broken_done reply e =
    elim (broken_own reply) [
      | inl b ↦ absurd (let no : WRITE_FAULT ≡ DONE = sym b ∙ e in cc)
      | inr b ↦ no_output reply (sym b ∙ e) (sym b)
    ]
  where
    no_output : (r : Reply) → status_written r ≡ DONE → status_written r ≡ status_broken r → ⊥
    no_output Usage e b = cc
    no_output ReadFault e b = cc
    no_output TooLong e b = cc
    no_output (Refused form fault) e b = absurd (no_done form (sym e))
    no_output (JobUnknown line job) e b = cc
    no_output (WorkSpent count) e b = cc
    no_output (Played text) e b = cc
    no_output (Made text) e b = cc

-- the statuses that replies have
is_status : (reply : Reply) → IsStatus (status_written reply)
is_status Usage = inl (omega arith)
is_status ReadFault = inl (omega arith)
is_status TooLong = inl (omega arith)
is_status (Refused form fault) = refusal_status form
is_status (JobUnknown line job) = inl (omega arith)
is_status (WorkSpent count) = inl (omega arith)
is_status (Played text) = inl (omega arith)
is_status (Made text) = inl (omega arith)

is_broken_status : (reply : Reply) → IsStatus (status_broken reply)
is_broken_status reply =
    elim (broken_own reply) [
      | inl b ↦ subst IsStatus (sym b) (inl (omega arith))
      | inr b ↦ subst IsStatus (sym b) (is_status reply)
    ]

-- how writing a reply ended is told by such a status
pub has_status : (reply : Reply) {k m : SinkSeen} {status : ℕ} → EndsAs reply k m status
    → IsStatus status
has_status reply (whole w own) = subst IsStatus (sym own) (is_status reply)
has_status reply (part w own) = subst IsStatus (sym own) (is_broken_status reply)
has_status reply (wanting count front sound own) = subst IsStatus (sym own) (inl (omega arith))
has_status reply (unwritten same) = subst IsStatus (sym same.1) (inl (omega arith))
