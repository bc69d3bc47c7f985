-- the statuses: those that there are, and that of a reply
use Rattle.std.specs.Prelude.{◌≡◌, ◌⊎◌, ℕ, ◌≤◌}
use Rattle.program_texts.specs.declared.inputs.Form.{Form}
use Rattle.program_texts.specs.declared.inputs.Form.TheVariants as forms
use Rattle.program_texts.specs.declared.replies.Reply.{Reply}
use Rattle.program_texts.specs.declared.replies.Reply.TheVariants.{Usage, ReadFault, TooLong}
use Rattle.program_texts.specs.declared.replies.Reply.TheVariants.{Refused, JobUnknown, WorkSpent}
use Rattle.program_texts.specs.declared.replies.Reply.TheVariants.{Played, Made}
use Rattle.program_texts.specs.declared.statuses.TheConstants.{DONE, SCRIPT_REFUSED, USAGE}
use Rattle.program_texts.specs.declared.statuses.TheConstants.{READ_FAULT, WRITE_FAULT, WORK_SPENT}
use Rattle.program_texts.specs.declared.statuses.TheConstants.{TOO_LONG, JOB_UNKNOWN, TRACE_REFUSED}
use Rattle.program_texts.specs.declared.statuses.TheConstants.{WORKS_REFUSED}

-- there is such a status
abbrev pub IsStatus : (status : ℕ) → Type 0
IsStatus status =
    (status ≤ JOB_UNKNOWN) ⊎ ((status ≡ TRACE_REFUSED) ⊎ (status ≡ WORKS_REFUSED))

-- one of two statuses
abbrev pub IsEither : (status this that : ℕ) → Type 0
IsEither status this that = (status ≡ this) ⊎ (status ≡ that)

-- the status of a refusal, by what was to be read
abbrev pub refused_status : Form → ℕ
refused_status forms.Script = SCRIPT_REFUSED
refused_status forms.Trace = TRACE_REFUSED
refused_status forms.Works = WORKS_REFUSED

-- the status where all of the reply was written
abbrev pub status_written : Reply → ℕ
status_written Usage = USAGE
status_written ReadFault = READ_FAULT
status_written TooLong = TOO_LONG
status_written (Refused form fault) = refused_status form
status_written (JobUnknown line job) = JOB_UNKNOWN
status_written (WorkSpent count) = WORK_SPENT
status_written (Played text) = DONE
status_written (Made text) = DONE

-- the status where the sink failed or took nothing: an earlier cause stays
abbrev pub status_broken : Reply → ℕ
status_broken Usage = USAGE
status_broken ReadFault = READ_FAULT
status_broken TooLong = TOO_LONG
status_broken (Refused form fault) = refused_status form
status_broken (JobUnknown line job) = JOB_UNKNOWN
status_broken (WorkSpent count) = WORK_SPENT
status_broken (Played text) = WRITE_FAULT
status_broken (Made text) = WRITE_FAULT
