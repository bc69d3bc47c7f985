use Rattle.std.proofs.Common.{refl, inl, inr, arith}
use Rattle.program_texts.specs.declared.inputs.Form.TheVariants as forms
use Rattle.program_texts.proofs.Written.{appends_none}
use Rattle.program_texts.proofs.Refusals.{has_status}
use Rattle.program_texts.specs.declared.statuses.TheConstants.{DONE, SCRIPT_REFUSED, USAGE}
use Rattle.program_texts.specs.declared.statuses.TheConstants.{READ_FAULT, WRITE_FAULT, NO_MEMORY}
use Rattle.program_texts.specs.declared.statuses.TheConstants.{WORK_SPENT, TOO_LONG, JOB_UNKNOWN}
use Rattle.program_texts.specs.declared.statuses.TheConstants.{TRACE_REFUSED, WORKS_REFUSED}
use Rattle.program_replies.proofs.Apart.{apart}
use Rattle.program_replies.proofs.Endings.{day_ends, says_done, says_no_memory, says_write_fault}
use Rattle.program_replies.proofs.Endings.{says_work_spent, says_job_unknown, says_read_fault}
use Rattle.program_replies.proofs.Endings.{says_refused, says_too_long, says_usage, usage_exactly}
use Rattle.program_replies.proofs.Exactly.{refused_exactly, job_exactly, work_exactly, fine_ends}
use Rattle.program_replies.proofs.Exactly.{fine_done}
use Rattle.script_main.proofs.program.run_program.Goals as goal

pub returns-in-Ok-clause-done : goal.returns-in-Ok-clause-done
returns-in-Ok-clause-done g c =
    says_done (record {
      reply = c.in-Ok.reply;
      is = c.in-Ok.ensures.reply;
      ends = c.write_reply.ensures;
    })

pub returns-in-Ok-clause-write_fault : goal.returns-in-Ok-clause-write_fault
returns-in-Ok-clause-write_fault g c =
    says_write_fault (record {
      reply = c.in-Ok.reply;
      is = c.in-Ok.ensures.reply;
      ends = c.write_reply.ensures;
    })

pub returns-in-Ok-clause-no_memory : goal.returns-in-Ok-clause-no_memory
returns-in-Ok-clause-no_memory g c =
    says_no_memory (record {
      reply = c.in-Ok.reply;
      is = c.in-Ok.ensures.reply;
      ends = c.write_reply.ensures;
    })

pub returns-in-Ok-clause-work_spent : goal.returns-in-Ok-clause-work_spent
returns-in-Ok-clause-work_spent g c =
    says_work_spent (record {
      reply = c.in-Ok.reply;
      is = c.in-Ok.ensures.reply;
      ends = c.write_reply.ensures;
    })

pub returns-in-Ok-clause-job_unknown : goal.returns-in-Ok-clause-job_unknown
returns-in-Ok-clause-job_unknown g c =
    says_job_unknown (record {
      reply = c.in-Ok.reply;
      is = c.in-Ok.ensures.reply;
      ends = c.write_reply.ensures;
    })

pub returns-in-Ok-clause-refused : goal.returns-in-Ok-clause-refused
returns-in-Ok-clause-refused g c =
    says_refused (record {
      reply = c.in-Ok.reply;
      is = c.in-Ok.ensures.reply;
      ends = c.write_reply.ensures;
    }) forms.Script

pub returns-in-Ok-clause-trace_refused : goal.returns-in-Ok-clause-trace_refused
returns-in-Ok-clause-trace_refused g c =
    says_refused (record {
      reply = c.in-Ok.reply;
      is = c.in-Ok.ensures.reply;
      ends = c.write_reply.ensures;
    }) forms.Trace

pub returns-in-Ok-clause-works_refused : goal.returns-in-Ok-clause-works_refused
returns-in-Ok-clause-works_refused g c =
    says_refused (record {
      reply = c.in-Ok.reply;
      is = c.in-Ok.ensures.reply;
      ends = c.write_reply.ensures;
    }) forms.Works

pub returns-in-Ok-clause-no_other : goal.returns-in-Ok-clause-no_other
returns-in-Ok-clause-no_other g c =
    has_status c.in-Ok.reply c.write_reply.ensures

pub returns-in-Ok-clause-refused_exactly : goal.returns-in-Ok-clause-refused_exactly
returns-in-Ok-clause-refused_exactly g c =
    λ not r.
    refused_exactly (record {
      reply = c.in-Ok.reply;
      is = c.in-Ok.ensures.reply;
      ends = c.write_reply.ensures;
    }) forms.Script r not

pub returns-in-Ok-clause-trace_refused_exactly : goal.returns-in-Ok-clause-trace_refused_exactly
returns-in-Ok-clause-trace_refused_exactly g c =
    λ not r.
    refused_exactly (record {
      reply = c.in-Ok.reply;
      is = c.in-Ok.ensures.reply;
      ends = c.write_reply.ensures;
    }) forms.Trace r not

pub returns-in-Ok-clause-works_refused_exactly : goal.returns-in-Ok-clause-works_refused_exactly
returns-in-Ok-clause-works_refused_exactly g c =
    λ not r.
    refused_exactly (record {
      reply = c.in-Ok.reply;
      is = c.in-Ok.ensures.reply;
      ends = c.write_reply.ensures;
    }) forms.Works r not

pub returns-in-Ok-clause-day_ends : goal.returns-in-Ok-clause-day_ends
returns-in-Ok-clause-day_ends g c =
    day_ends {jobs = g.J.Jobs.replies c.args.jobs.now} {table = g.J.Jobs.count c.args.jobs.now}
    {words = c.args.words.now} {s = g.S.Source.seen c.args.source.now}
    {t = g.S.Source.seen c.reply_to.new.source} (record {
      reply = c.in-Ok.reply;
      is = c.in-Ok.ensures.reply;
      ends = c.write_reply.ensures;
    })

pub returns-in-Ok-clause-job_unknown_exactly : goal.returns-in-Ok-clause-job_unknown_exactly
returns-in-Ok-clause-job_unknown_exactly g c =
    job_exactly (record {
      reply = c.in-Ok.reply;
      is = c.in-Ok.ensures.reply;
      ends = c.write_reply.ensures;
    })

pub returns-in-Ok-clause-work_spent_exactly : goal.returns-in-Ok-clause-work_spent_exactly
returns-in-Ok-clause-work_spent_exactly g c =
    work_exactly (record {
      reply = c.in-Ok.reply;
      is = c.in-Ok.ensures.reply;
      ends = c.write_reply.ensures;
    })

pub returns-in-Ok-clause-output : goal.returns-in-Ok-clause-output
returns-in-Ok-clause-output g c =
    fine_ends (record {
      reply = c.in-Ok.reply;
      is = c.in-Ok.ensures.reply;
      ends = c.write_reply.ensures;
    })

pub returns-in-Ok-clause-complete : goal.returns-in-Ok-clause-complete
returns-in-Ok-clause-complete g c =
    fine_done (record {
      reply = c.in-Ok.reply;
      is = c.in-Ok.ensures.reply;
      ends = c.write_reply.ensures;
    })

pub returns-in-Err-clause-no_memory : goal.returns-in-Err-clause-no_memory
returns-in-Err-clause-no_memory g c =
    let nothing = appends_none (g.K.Sink.seen c.args.sink.now).held in
    λ at. record {
      sound = (refl, refl);
      written = inl (record { has_read = c.in-Err.ensures.has_read; nothing = nothing });
    }

pub returns-in-Err-clause-done : goal.returns-in-Err-clause-done
returns-in-Err-clause-done g c = λ at. absurd (apart NO_MEMORY DONE refl refl at)

pub returns-in-Err-clause-refused : goal.returns-in-Err-clause-refused
returns-in-Err-clause-refused g c = λ at. absurd (apart NO_MEMORY SCRIPT_REFUSED refl refl at)

pub returns-in-Err-clause-usage : goal.returns-in-Err-clause-usage
returns-in-Err-clause-usage g c = λ at. absurd (apart NO_MEMORY USAGE refl refl at)

pub returns-in-Err-clause-read_fault : goal.returns-in-Err-clause-read_fault
returns-in-Err-clause-read_fault g c = λ at. absurd (apart NO_MEMORY READ_FAULT refl refl at)

pub returns-in-Err-clause-write_fault : goal.returns-in-Err-clause-write_fault
returns-in-Err-clause-write_fault g c = λ at. absurd (apart NO_MEMORY WRITE_FAULT refl refl at)

pub returns-in-Err-clause-work_spent : goal.returns-in-Err-clause-work_spent
returns-in-Err-clause-work_spent g c = λ at. absurd (apart NO_MEMORY WORK_SPENT refl refl at)

pub returns-in-Err-clause-too_long : goal.returns-in-Err-clause-too_long
returns-in-Err-clause-too_long g c = λ at. absurd (apart NO_MEMORY TOO_LONG refl refl at)

pub returns-in-Err-clause-job_unknown : goal.returns-in-Err-clause-job_unknown
returns-in-Err-clause-job_unknown g c = λ at. absurd (apart NO_MEMORY JOB_UNKNOWN refl refl at)

pub returns-in-Err-clause-trace_refused : goal.returns-in-Err-clause-trace_refused
returns-in-Err-clause-trace_refused g c = λ at. absurd (apart NO_MEMORY TRACE_REFUSED refl refl at)

pub returns-in-Err-clause-works_refused : goal.returns-in-Err-clause-works_refused
returns-in-Err-clause-works_refused g c = λ at. absurd (apart NO_MEMORY WORKS_REFUSED refl refl at)

pub returns-in-Err-clause-no_other : goal.returns-in-Err-clause-no_other
returns-in-Err-clause-no_other g c = inl (omega arith)

pub returns-in-Err-clause-usage_exactly : goal.returns-in-Err-clause-usage_exactly
returns-in-Err-clause-usage_exactly g c = λ is. inr refl

pub returns-in-Err-clause-read_fault_exactly : goal.returns-in-Err-clause-read_fault_exactly
returns-in-Err-clause-read_fault_exactly g c = λ is. inr refl

pub returns-in-Err-clause-too_long_exactly : goal.returns-in-Err-clause-too_long_exactly
returns-in-Err-clause-too_long_exactly g c = λ not is. inr refl

pub returns-in-Err-clause-refused_exactly : goal.returns-in-Err-clause-refused_exactly
returns-in-Err-clause-refused_exactly g c = λ not is. inr refl

pub returns-in-Err-clause-trace_refused_exactly : goal.returns-in-Err-clause-trace_refused_exactly
returns-in-Err-clause-trace_refused_exactly g c = λ not is. inr refl

pub returns-in-Err-clause-works_refused_exactly : goal.returns-in-Err-clause-works_refused_exactly
returns-in-Err-clause-works_refused_exactly g c = λ not is. inr refl

pub returns-in-Err-clause-job_unknown_exactly : goal.returns-in-Err-clause-job_unknown_exactly
returns-in-Err-clause-job_unknown_exactly g c = λ not is. inr refl

pub returns-in-Err-clause-work_spent_exactly : goal.returns-in-Err-clause-work_spent_exactly
returns-in-Err-clause-work_spent_exactly g c = λ not is. inr refl

pub returns-in-Err-clause-day_ends : goal.returns-in-Err-clause-day_ends
returns-in-Err-clause-day_ends g c =
    λ recipe named short at. apart NO_MEMORY WORK_SPENT refl refl at

pub returns-in-Err-clause-output : goal.returns-in-Err-clause-output
returns-in-Err-clause-output g c = λ not fine. inr (inr refl)

pub returns-in-Err-clause-complete : goal.returns-in-Err-clause-complete
returns-in-Err-clause-complete g c = λ sound taken fine. inr refl

pub returns-in-Ok-clause-untouched : goal.returns-in-Ok-clause-untouched
returns-in-Ok-clause-untouched g c = c.reply_to.ensures.untouched

pub returns-in-Err-clause-untouched : goal.returns-in-Err-clause-untouched
returns-in-Err-clause-untouched g c = c.reply_to.ensures.untouched

pub returns-in-Ok-clause-usage : goal.returns-in-Ok-clause-usage
returns-in-Ok-clause-usage g c =
    says_usage (record {
      reply = c.in-Ok.reply;
      is = c.in-Ok.ensures.reply;
      ends = c.write_reply.ensures;
    })

pub returns-in-Ok-clause-read_fault : goal.returns-in-Ok-clause-read_fault
returns-in-Ok-clause-read_fault g c =
    says_read_fault (record {
      reply = c.in-Ok.reply;
      is = c.in-Ok.ensures.reply;
      ends = c.write_reply.ensures;
    })

pub returns-in-Ok-clause-too_long : goal.returns-in-Ok-clause-too_long
returns-in-Ok-clause-too_long g c =
    says_too_long (record {
      reply = c.in-Ok.reply;
      is = c.in-Ok.ensures.reply;
      ends = c.write_reply.ensures;
    })

pub returns-in-Ok-clause-usage_exactly : goal.returns-in-Ok-clause-usage_exactly
returns-in-Ok-clause-usage_exactly g c =
    usage_exactly {jobs = g.J.Jobs.replies c.args.jobs.now}
    {table = g.J.Jobs.count c.args.jobs.now} {words = c.args.words.now}
    {s = g.S.Source.seen c.args.source.now} {t = g.S.Source.seen c.reply_to.new.source} (record {
      reply = c.in-Ok.reply;
      is = c.in-Ok.ensures.reply;
      ends = c.write_reply.ensures;
    })
