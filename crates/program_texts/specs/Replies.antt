-- the texts of replies
use Rattle.std.specs.Prelude.{ℕ, List}
use Rattle.program_texts.specs.declared.replies.Reply.{Reply}
use Rattle.program_texts.specs.declared.replies.Reply.TheVariants.{Usage, ReadFault, TooLong}
use Rattle.program_texts.specs.declared.replies.Reply.TheVariants.{Refused, JobUnknown, WorkSpent}
use Rattle.program_texts.specs.declared.replies.Reply.TheVariants.{Played, Made}
use Rattle.program_texts.specs.Texts.{program_read_fault_text, program_too_long_text}
use Rattle.program_texts.specs.Texts.{program_usage_text, refused_input_text}
use Rattle.program_texts.specs.Texts.{job_unknown_text, work_spent_text}

-- the text of a reply
abbrev pub program_reply_text : Reply → List ℕ
program_reply_text Usage = program_usage_text
program_reply_text ReadFault = program_read_fault_text
program_reply_text TooLong = program_too_long_text
program_reply_text (Refused form fault) = refused_input_text form fault
program_reply_text (JobUnknown line job) = job_unknown_text line job
program_reply_text (WorkSpent count) = work_spent_text count
program_reply_text (Played text) = text
program_reply_text (Made text) = text.items
