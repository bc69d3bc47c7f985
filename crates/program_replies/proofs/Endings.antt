-- for crates above: what each status says, by the reply and by how writing it went
use Rattle.std.proofs.Common.{◌≡◌, ℕ, List, Option, Some, None, refl, sym, ◌∙◌, ap, subst, inl, inr}
use Rattle.std.proofs.Common.{length, lit<, ◌<◌, ◌≤◌, ◌+◌, ◌*◌, arith}
use Rattle.std.proofs.lemmas.Option.{same_Some}
use Rattle.std.specs.Prelude.{◌⊎◌, take, String}
use Rattle.std.specs.declared.alloc.Global.{Global}
use Rattle.std.specs.Io.KnownBytes.{Appends}
use Rattle.tm_base.specs.declared.limits.TheConstants.{MOST_BYTES, WORK_LIMIT_V1}
use Rattle.tm_io.specs.Seen.{SourceFailed, SourceSeen, SourceUnbroken, SinkSeen}
use Rattle.tm_io.specs.Sources.{TakesCount, TakesUpTo}
use Rattle.tm_script.specs.declared.faults.ScriptFault.{ScriptFault}
use Rattle.tm_generate.specs.Generated.{generated}
use Rattle.play_rules.specs.Interrupts.{Replies}
use Rattle.program_texts.specs.declared.commands.Recipe.{Recipe}
use Rattle.program_texts.specs.declared.commands.Command.{Command}
use Rattle.program_texts.specs.declared.commands.Command.TheVariants.{Day}
use Rattle.program_texts.specs.declared.inputs.Form.{Form}
use Rattle.program_texts.specs.declared.inputs.Input.{Input}
use Rattle.program_texts.specs.declared.inputs.Input.TheVariants as inputs
use Rattle.program_texts.specs.declared.replies.Reply.{Reply}
use Rattle.program_texts.specs.declared.replies.Reply.TheVariants.{Usage, ReadFault, TooLong}
use Rattle.program_texts.specs.declared.replies.Reply.TheVariants.{Refused, JobUnknown, WorkSpent}
use Rattle.program_texts.specs.declared.replies.Reply.TheVariants.{Played, Made}
use Rattle.program_texts.specs.declared.statuses.TheConstants.{DONE, USAGE, NO_MEMORY, WRITE_FAULT}
use Rattle.program_texts.specs.declared.statuses.TheConstants.{WORK_SPENT, JOB_UNKNOWN, READ_FAULT}
use Rattle.program_texts.specs.declared.statuses.TheConstants.{TOO_LONG}
use Rattle.program_texts.specs.Words.{program_command_of, form_of, recipe_in, HasJobsRun, Reads}
use Rattle.program_texts.specs.Brought.{BringsBy, MakesScript, script_by, ReadsNone}
use Rattle.program_texts.specs.Replies.{program_reply_text}
use Rattle.program_texts.specs.Statuses.{IsEither, refused_status, status_written, status_broken}
use Rattle.program_texts.specs.Ends.{EndsAs, WritesAll, WritesFront, Writes, whole, part, wanting}
use Rattle.program_texts.specs.Ends.{unwritten}
use Rattle.program_texts.proofs.Told.{brought_up, takes_up}
use Rattle.program_texts.proofs.Refusals.{is_refusal, no_break, no_want, no_done, no_job, no_work}
use Rattle.program_texts.proofs.Refusals.{never_write_fault, never_no_memory, broken_output}
use Rattle.program_texts.proofs.Refusals.{own_of_broken, never_broken_done}
use Rattle.program_texts.proofs.Written.{by_end, either, no_change}
use Rattle.program_replies.specs.Scripts.{EndsLate, IsScriptOutput, LacksJob, SpendsBy, SpendsWork}
use Rattle.program_replies.specs.Replies.{IsProgramReply, IsReplyBy, RepliesToInput}
use Rattle.program_replies.specs.Statuses.{HasInput, SaysDone, SaysJobUnknown, SaysNoMemory}
use Rattle.program_replies.specs.Statuses.{SaysReadFault, SaysRefusedAs, SaysTooLong, SaysUsage}
use Rattle.program_replies.specs.Statuses.{SaysWorkSpent, IsShortDay, SaysWriteFault}
use Rattle.program_replies.specs.Statuses.{WritesNothing, WritesReplyFront}
use Rattle.program_replies.proofs.Apart.{apart, fault_written, long_written, no_usage, usage_written}
use Rattle.program_replies.proofs.OneText.{front_of_none}

-- ---- what a reply with its own status rests on

-- how a run ended that came to a reply
pub record Ended (jobs : Replies) (table : ℕ) (words : List (String Global)) (s t : SourceSeen)
    (k m : SinkSeen) (status : ℕ) : Type 0 where
  pub reply : Reply
  pub is : IsProgramReply jobs table words s t reply
  pub ends : EndsAs reply k m status

module _ (jobs : Replies) (table : ℕ) (words : List (String Global)) (s t : SourceSeen) where
  record Outputs (reply : Reply) : Type 0 where
    command : Command
    input : Input
    has : HasInput words s t command input
    output : IsScriptOutput jobs table command input (program_reply_text reply)

  record Lacks (reply : Reply) : Type 0 where
    command : Command
    input : Input
    has : HasInput words s t command input
    plays : HasJobsRun command
    line : ℕ
    job : ℕ
    lacks : LacksJob table input line job
    is : reply ≡ JobUnknown line job

  record Spends (reply : Reply) : Type 0 where
    command : Command
    input : Input
    has : HasInput words s t command input
    plays : HasJobsRun command
    count : ℕ
    spends : SpendsBy jobs table command input count
    is : reply ≡ WorkSpent count

  has_input : (command : Command) → program_command_of words ≡ Some command → (reply : Reply)
      → (r : RepliesToInput jobs table command s t reply) → HasInput words s t command r.input
  has_input command named reply r =
      record { named = named; brought = r.brought; unbroken = r.unbroken }

  usage_at : (reply : Reply) (x : ℕ) → reply ≡ Usage → status_written reply ≡ x → USAGE ≡ x
  usage_at reply x e at = sym (ap status_written e) ∙ at

  outputs : (o : Option Command) → program_command_of words ≡ o → (reply : Reply)
      → IsReplyBy jobs table o s t reply → status_written reply ≡ DONE → Outputs reply
  outputs None named reply is at =
      absurd (apart USAGE DONE refl refl (usage_at reply DONE is at))
  outputs (Some command) named Usage is at = absurd is
  outputs (Some command) named ReadFault is at = absurd (apart READ_FAULT DONE refl refl at)
  outputs (Some command) named TooLong is at = absurd (apart TOO_LONG DONE refl refl at)
  outputs (Some command) named (Refused form fault) is at = absurd (no_done form (sym at))
  outputs (Some command) named (JobUnknown line job) is at =
      absurd (apart JOB_UNKNOWN DONE refl refl at)
  outputs (Some command) named (WorkSpent count) is at = absurd (apart WORK_SPENT DONE refl refl at)
  outputs (Some command) named (Played text) is at = record {
    command = command;
    input = is.input;
    has = has_input command named (Played text) is;
    output = is.reply_is;
  }
  outputs (Some command) named (Made text) is at = record {
    command = command;
    input = is.input;
    has = has_input command named (Made text) is;
    output = is.reply_is;
  }

  lacks_job : (o : Option Command) → program_command_of words ≡ o → (reply : Reply)
      → IsReplyBy jobs table o s t reply → status_written reply ≡ JOB_UNKNOWN → Lacks reply
  lacks_job None named reply is at =
      absurd (apart USAGE JOB_UNKNOWN refl refl (usage_at reply JOB_UNKNOWN is at))
  lacks_job (Some command) named Usage is at = absurd is
  lacks_job (Some command) named ReadFault is at =
      absurd (apart READ_FAULT JOB_UNKNOWN refl refl at)
  lacks_job (Some command) named TooLong is at = absurd (apart TOO_LONG JOB_UNKNOWN refl refl at)
  lacks_job (Some command) named (Refused form fault) is at = absurd (no_job form (sym at))
  lacks_job (Some command) named (JobUnknown line job) is at = record {
    command = command;
    input = is.input;
    has = has_input command named (JobUnknown line job) is;
    plays = is.reply_is.0;
    line = line;
    job = job;
    lacks = is.reply_is.1;
    is = refl;
  }
  lacks_job (Some command) named (WorkSpent count) is at =
      absurd (apart WORK_SPENT JOB_UNKNOWN refl refl at)
  lacks_job (Some command) named (Played text) is at = absurd (apart DONE JOB_UNKNOWN refl refl at)
  lacks_job (Some command) named (Made text) is at = absurd (apart DONE JOB_UNKNOWN refl refl at)

  spends_work : (o : Option Command) → program_command_of words ≡ o → (reply : Reply)
      → IsReplyBy jobs table o s t reply → status_written reply ≡ WORK_SPENT → Spends reply
  spends_work None named reply is at =
      absurd (apart USAGE WORK_SPENT refl refl (usage_at reply WORK_SPENT is at))
  spends_work (Some command) named Usage is at = absurd is
  spends_work (Some command) named ReadFault is at =
      absurd (apart READ_FAULT WORK_SPENT refl refl at)
  spends_work (Some command) named TooLong is at = absurd (apart TOO_LONG WORK_SPENT refl refl at)
  spends_work (Some command) named (Refused form fault) is at = absurd (no_work form (sym at))
  spends_work (Some command) named (JobUnknown line job) is at =
      absurd (apart JOB_UNKNOWN WORK_SPENT refl refl at)
  spends_work (Some command) named (WorkSpent count) is at = record {
    command = command;
    input = is.input;
    has = has_input command named (WorkSpent count) is;
    plays = is.reply_is.0;
    count = count;
    spends = is.reply_is.1;
    is = refl;
  }
  spends_work (Some command) named (Played text) is at = absurd (apart DONE WORK_SPENT refl refl at)
  spends_work (Some command) named (Made text) is at = absurd (apart DONE WORK_SPENT refl refl at)

  no_words : (o : Option Command) → program_command_of words ≡ o → IsReplyBy jobs table o s t Usage
      → program_command_of words ≡ None
  no_words None named is = named
  no_words (Some command) named is = absurd is

  fault_by : (o : Option Command) → program_command_of words ≡ o → IsReplyBy jobs table o s t ReadFault
      → Reads words × SourceFailed s t × TakesUpTo s t MOST_BYTES
  fault_by None named is = absurd (no_usage ReadFault refl is)
  fault_by (Some command) named is = ((command, named, is.0), is.1, is.2)

  long_by : (o : Option Command) → program_command_of words ≡ o → IsReplyBy jobs table o s t TooLong
      → Reads words × SourceUnbroken s t × TakesCount s t (MOST_BYTES + 1)
  long_by None named is = absurd (no_usage TooLong refl is)
  long_by (Some command) named is = ((command, named, is.0), is.1, is.2)

  record Refuses (form : Form) (reply : Reply) : Type 0 where
    command : Command
    named : program_command_of words ≡ Some command
    reader : recipe_in command ≡ None
    form_is : form_of command ≡ form
    unbroken : SourceUnbroken s t
    fault : ScriptFault
    read : ReadsNone form s t fault
    is : reply ≡ Refused form fault

  refusal_by : (form : Form) (fault : ScriptFault) (o : Option Command) → program_command_of words ≡ o
      → IsReplyBy jobs table o s t (Refused form fault) → Refuses form (Refused form fault)
  refusal_by form fault None named is = absurd (no_usage (Refused form fault) refl is)
  refusal_by form fault (Some command) named is = record {
    command = command;
    named = named;
    reader = is.0;
    form_is = is.2;
    unbroken = is.1;
    fault = fault;
    read = is.3;
    is = refl;
  }

  refusal_of : (form : Form) (reply : Reply) → IsProgramReply jobs table words s t reply
      → status_written reply ≡ refused_status form → Refuses form reply
  refusal_of form reply is at =
      let refusal = is_refusal form reply at in
      let Is : Reply → Type 0 = λ r. IsProgramReply jobs table words s t r in
      subst (λ r. Refuses form r) (sym refusal.1)
      (refusal_by form refusal.0 (program_command_of words) refl (subst Is refusal.1 is))

  -- nothing was put: the reply's text isn't empty, or the command has read
  module _ (k m : SinkSeen) (same : m ≡ k) where
    GainsNothing : Type 0
    GainsNothing = WritesNothing words s t k m ⊎ WritesReplyFront jobs table words s t k m

    has_read : (command : Command) → program_command_of words ≡ Some command → SourceUnbroken s t
        → TakesUpTo s t MOST_BYTES → GainsNothing
    unfolding GainsNothing
    has_read command named sound read = inl (record {
      has_read = record { command = command; named = named; unbroken = sound; read = read };
      nothing = no_change k m same;
    })

    has_brought : (command : Command) → program_command_of words ≡ Some command → (reply : Reply)
        → RepliesToInput jobs table command s t reply → GainsNothing
    has_brought command named reply r =
        has_read command named r.unbroken
        (brought_up s t (recipe_in command) (form_of command) r.input r.brought)

    front_of : (reply : Reply) → IsProgramReply jobs table words s t reply
        → 0 < length (program_reply_text reply) → Appends k.held m.held (take 0 (program_reply_text reply))
        → GainsNothing
    unfolding GainsNothing
    front_of reply is some put = inr (record {
      reply = reply;
      called_for = is;
      count = 0;
      front = (some, put);
      not_all = front_of_none jobs table words s t reply 0 is some;
    })

    nothing_put : (o : Option Command) → program_command_of words ≡ o → (reply : Reply)
        → IsReplyBy jobs table o s t reply → IsProgramReply jobs table words s t reply → GainsNothing
    nothing_put o named Usage by is = front_of Usage is (lit< tt) (no_change k m same)
    nothing_put o named ReadFault by is = front_of ReadFault is (lit< tt) (no_change k m same)
    nothing_put o named TooLong by is = front_of TooLong is (lit< tt) (no_change k m same)
    nothing_put None named (Refused form fault) by is = absurd (no_usage (Refused form fault) refl by)
    nothing_put None named (JobUnknown line job) by is = absurd (no_usage (JobUnknown line job) refl by)
    nothing_put None named (WorkSpent count) by is = absurd (no_usage (WorkSpent count) refl by)
    nothing_put None named (Played text) by is = absurd (no_usage (Played text) refl by)
    nothing_put None named (Made text) by is = absurd (no_usage (Made text) refl by)
    nothing_put (Some command) named (Refused form fault) by is =
        has_read command named by.1 (takes_up s t by.3.bytes by.3.read)
    nothing_put (Some command) named (JobUnknown line job) by is =
        has_brought command named (JobUnknown line job) by
    nothing_put (Some command) named (WorkSpent count) by is =
        has_brought command named (WorkSpent count) by
    nothing_put (Some command) named (Played text) by is =
        has_brought command named (Played text) by
    nothing_put (Some command) named (Made text) by is = has_brought command named (Made text) by

    unwritten_says : (reply : Reply) → IsProgramReply jobs table words s t reply
        → SaysNoMemory jobs table words s t k m
    unfolding GainsNothing
    unwritten_says reply is = record {
      sound = (ap (λ (x : SinkSeen). x.faults) same, ap (λ (x : SinkSeen). x.refusals) same);
      written = nothing_put (program_command_of words) refl reply is is;
    }

-- ---- a day that ends too early for so much work

below : (a b : ℕ) → a < b → b ≤ a → ⊥
below a b less more = absurd (omega (arith, less, more))

day_late : (r : Recipe) → EndsLate (inputs.Script (script_by r))
    → WORK_LIMIT_V1 ≤ 5 * (r.moments + 1) * (1 + r.cpus + r.timers)
unfolding generated
day_late r late =
    let count : 1 * r.cpus ≡ r.cpus = omega arith in
    subst (λ (n : ℕ). WORK_LIMIT_V1 ≤ 5 * (r.moments + 1) * (1 + n + r.timers)) count late

-- ---- what each status says

module _ {jobs : Replies} {table : ℕ} {words : List (String Global)} {s t : SourceSeen}
    {k m : SinkSeen} {status : ℕ} (e : Ended jobs table words s t k m status) where
  by : {A : Type 0} (x : ℕ) → status ≡ x
      → (status_written e.reply ≡ x → WritesAll (program_reply_text e.reply) k m → A)
      → (status_broken e.reply ≡ x → WritesFront (program_reply_text e.reply) k m → A)
      → (NO_MEMORY ≡ x → A) → A
  by x =
      by_end k m status (program_reply_text e.reply) (status_written e.reply) (status_broken e.reply) x
      e.ends

  out_of : status_written e.reply ≡ DONE → Outputs jobs table words s t e.reply
  out_of own = outputs jobs table words s t (program_command_of words) refl e.reply e.is own

  pub says_done : status ≡ DONE → SaysDone jobs table words s t k m
  says_done at =
      by DONE at
      (λ own w. let out = out_of own in record {
        command = out.command;
        input = out.input;
        has = out.has;
        text = program_reply_text e.reply;
        output = out.output;
        writes = w;
      })
      (λ own w. absurd (never_broken_done e.reply own))
      (λ own. absurd (apart NO_MEMORY DONE refl refl own))

  pub says_write_fault : status ≡ WRITE_FAULT → SaysWriteFault jobs table words s t k m
  says_write_fault at =
      by WRITE_FAULT at (λ own w. absurd (never_write_fault e.reply own))
      (λ own w. let out = out_of (broken_output e.reply own) in record {
        command = out.command;
        input = out.input;
        has = out.has;
        text = program_reply_text e.reply;
        output = out.output;
        writes = w;
      })
      (λ own. absurd (apart NO_MEMORY WRITE_FAULT refl refl own))

  pub says_no_memory : status ≡ NO_MEMORY → SaysNoMemory jobs table words s t k m
  says_no_memory at = no_memory_by e.ends
    where
      no_memory_by : EndsAs e.reply k m status → SaysNoMemory jobs table words s t k m
      no_memory_by (whole w own) = absurd (never_no_memory e.reply (sym own ∙ at))
      no_memory_by (part w own) =
          absurd (never_no_memory e.reply
          (own_of_broken e.reply NO_MEMORY (apart WRITE_FAULT NO_MEMORY refl refl) (sym own ∙ at)))
      no_memory_by (wanting count front sound own) = record {
        sound = sound;
        written = inr (record {
          reply = e.reply;
          called_for = e.is;
          count = count;
          front = front;
          not_all = front_of_none jobs table words s t e.reply count e.is front.0;
        });
      }
      no_memory_by (unwritten same) =
          unwritten_says jobs table words s t k m same.0 e.reply e.is

  usage_said : status_written e.reply ≡ USAGE → Writes (program_reply_text e.reply) k m
      → SaysUsage words k m
  usage_said own w =
      let same = usage_written e.reply own in
      let Wrote : Reply → Type 0 = λ r. Writes (program_reply_text r) k m in
      let Is : Reply → Type 0 = λ r. IsProgramReply jobs table words s t r in
      record {
        words_are = no_words jobs table words s t (program_command_of words) refl (subst Is same e.is);
        writes = subst Wrote same w;
      }

  pub says_usage : status ≡ USAGE → SaysUsage words k m
  says_usage at =
      by USAGE at (λ own w. usage_said own (inl w))
      (λ own w. usage_said (own_of_broken e.reply USAGE (apart WRITE_FAULT USAGE refl refl) own)
      (inr w))
      (λ own. absurd (apart NO_MEMORY USAGE refl refl own))

  read_fault_said : status_written e.reply ≡ READ_FAULT → Writes (program_reply_text e.reply) k m
      → SaysReadFault words s t k m
  read_fault_said own w =
      let same = fault_written e.reply own in
      let Wrote : Reply → Type 0 = λ r. Writes (program_reply_text r) k m in
      let Is : Reply → Type 0 = λ r. IsProgramReply jobs table words s t r in
      let is = fault_by jobs table words s t (program_command_of words) refl (subst Is same e.is) in
      record { reads = is.0; cause = is.1; read = is.2; writes = subst Wrote same w }

  pub says_read_fault : status ≡ READ_FAULT → SaysReadFault words s t k m
  says_read_fault at =
      by READ_FAULT at (λ own w. read_fault_said own (inl w))
      (λ own w. read_fault_said (own_of_broken e.reply READ_FAULT (apart WRITE_FAULT READ_FAULT refl refl) own)
      (inr w))
      (λ own. absurd (apart NO_MEMORY READ_FAULT refl refl own))

  too_long_said : status_written e.reply ≡ TOO_LONG → Writes (program_reply_text e.reply) k m
      → SaysTooLong words s t k m
  too_long_said own w =
      let same = long_written e.reply own in
      let Wrote : Reply → Type 0 = λ r. Writes (program_reply_text r) k m in
      let Is : Reply → Type 0 = λ r. IsProgramReply jobs table words s t r in
      let is = long_by jobs table words s t (program_command_of words) refl (subst Is same e.is) in
      record { reads = is.0; unbroken = is.1; read = is.2; writes = subst Wrote same w }

  pub says_too_long : status ≡ TOO_LONG → SaysTooLong words s t k m
  says_too_long at =
      by TOO_LONG at (λ own w. too_long_said own (inl w))
      (λ own w. too_long_said (own_of_broken e.reply TOO_LONG (apart WRITE_FAULT TOO_LONG refl refl) own)
      (inr w))
      (λ own. absurd (apart NO_MEMORY TOO_LONG refl refl own))

  pub usage_exactly : program_command_of words ≡ None → IsEither status USAGE NO_MEMORY
  usage_exactly none =
      let By : Option Command → Type 0 = λ o. IsReplyBy jobs table o s t e.reply in
      let Ends : Reply → Type 0 = λ r. EndsAs r k m status in
      either (program_reply_text Usage) k m status USAGE (subst Ends (subst By none e.is) e.ends)

  job_said : status_written e.reply ≡ JOB_UNKNOWN → Writes (program_reply_text e.reply) k m
      → SaysJobUnknown table words s t k m
  job_said own w =
      let no = lacks_job jobs table words s t (program_command_of words) refl e.reply e.is own in
      let Wrote : Reply → Type 0 = λ r. Writes (program_reply_text r) k m in
      record {
        command = no.command;
        input = no.input;
        has = no.has;
        plays = no.plays;
        line = no.line;
        job = no.job;
        lacks = no.lacks;
        writes = subst Wrote no.is w;
      }

  pub says_job_unknown : status ≡ JOB_UNKNOWN → SaysJobUnknown table words s t k m
  says_job_unknown at =
      by JOB_UNKNOWN at (λ own w. job_said own (inl w))
      (λ own w. job_said (own_of_broken e.reply JOB_UNKNOWN (apart WRITE_FAULT JOB_UNKNOWN refl refl) own)
      (inr w))
      (λ own. absurd (apart NO_MEMORY JOB_UNKNOWN refl refl own))

  work_said : status_written e.reply ≡ WORK_SPENT → Writes (program_reply_text e.reply) k m
      → SaysWorkSpent jobs table words s t k m
  work_said own w =
      let no = spends_work jobs table words s t (program_command_of words) refl e.reply e.is own in
      let Wrote : Reply → Type 0 = λ r. Writes (program_reply_text r) k m in
      record {
        command = no.command;
        input = no.input;
        has = no.has;
        plays = no.plays;
        count = no.count;
        spends = no.spends;
        writes = subst Wrote no.is w;
      }

  pub says_work_spent : status ≡ WORK_SPENT → SaysWorkSpent jobs table words s t k m
  says_work_spent at =
      by WORK_SPENT at (λ own w. work_said own (inl w))
      (λ own w. work_said (own_of_broken e.reply WORK_SPENT (apart WRITE_FAULT WORK_SPENT refl refl) own)
      (inr w))
      (λ own. absurd (apart NO_MEMORY WORK_SPENT refl refl own))

  refusal_said : (form : Form) → status_written e.reply ≡ refused_status form
      → Writes (program_reply_text e.reply) k m → SaysRefusedAs form words s t k m
  refusal_said form own w =
      let no = refusal_of jobs table words s t form e.reply e.is own in
      let Wrote : Reply → Type 0 = λ r. Writes (program_reply_text r) k m in
      record {
        reads = (no.command, no.named, no.reader, no.form_is);
        unbroken = no.unbroken;
        fault = no.fault;
        read = no.read;
        writes = subst Wrote no.is w;
      }

  pub says_refused : (form : Form) → status ≡ refused_status form
      → SaysRefusedAs form words s t k m
  says_refused form at =
      by (refused_status form) at (λ own w. refusal_said form own (inl w))
      (λ own w. refusal_said form (own_of_broken e.reply (refused_status form) (no_break form) own)
      (inr w))
      (λ own. absurd (no_want form own))

  pub day_ends : (recipe : Recipe) → program_command_of words ≡ Some (Day recipe) → IsShortDay recipe
      → status ≡ WORK_SPENT → ⊥
  day_ends recipe named short at =
      let says = says_work_spent at in
      let same = same_Some says.command (Day recipe) (sym says.has.named ∙ named) in
      let By : Command → Type 0 = λ c. BringsBy (recipe_in c) (form_of c) s t says.input in
      let brought : MakesScript recipe s t says.input = subst By same says.has.brought in
      let Spends : Command → Type 0 = λ c. SpendsBy jobs table c says.input says.count in
      let spent : SpendsWork jobs table says.input says.count = subst Spends same says.spends in
      let limit = day_late recipe (subst EndsLate brought.made spent.late) in
      below (5 * (recipe.moments + 1) * (1 + recipe.cpus + recipe.timers)) WORK_LIMIT_V1 short limit
