-- for crates above: which status comes, by its cause
use Rattle.std.proofs.Common.{◌≡◌, ◌≢◌, ℕ, List, Option, Some, None, refl, sym, ◌∙◌, subst, inl}
use Rattle.std.proofs.Common.{inr}
use Rattle.std.specs.Prelude.{◌⊎◌, String}
use Rattle.std.specs.declared.alloc.Global.{Global}
use Rattle.tm_io.specs.Seen.{SourceSeen, SourceFailed, SinkSeen}
use Rattle.tm_script.specs.declared.faults.ScriptFault.{ScriptFault}
use Rattle.play_rules.specs.Interrupts.{Replies}
use Rattle.program_texts.specs.declared.commands.Recipe.{Recipe}
use Rattle.program_texts.specs.declared.commands.Command.{Command}
use Rattle.program_texts.specs.declared.inputs.Form.{Form}
use Rattle.program_texts.specs.declared.inputs.Input.{Input}
use Rattle.program_texts.specs.declared.replies.Reply.{Reply}
use Rattle.program_texts.specs.declared.replies.Reply.TheVariants.{Usage, ReadFault, TooLong}
use Rattle.program_texts.specs.declared.replies.Reply.TheVariants.{Refused, JobUnknown, WorkSpent}
use Rattle.program_texts.specs.declared.replies.Reply.TheVariants.{Played, Made}
use Rattle.program_texts.specs.declared.statuses.TheConstants.{DONE, NO_MEMORY, READ_FAULT}
use Rattle.program_texts.specs.declared.statuses.TheConstants.{WRITE_FAULT, WORK_SPENT, JOB_UNKNOWN}
use Rattle.program_texts.specs.Inputs.{SpellsInput}
use Rattle.program_texts.specs.Words.{form_of, recipe_in}
use Rattle.program_texts.specs.Brought.{BringsBy, ReadsNone}
use Rattle.program_texts.specs.Statuses.{refused_status, IsEither}
use Rattle.program_texts.specs.Replies.{program_reply_text}
use Rattle.program_texts.specs.Ends.{SinkBreaks, EndsAs, EndsWith}
use Rattle.program_texts.proofs.Told.{all_known, not_many, refuses}
use Rattle.program_texts.proofs.Written.{either, out_ends, out_whole}
use Rattle.program_replies.specs.Replies.{IsReplyBy, IsReplyTo, RepliesToInput}
use Rattle.program_replies.specs.Causes.{AsksCommand, HasText, IsFine, IsInputBy, IsJobUnknown, IsRefusedAs}
use Rattle.program_replies.specs.Causes.{IsWorkSpent}
use Rattle.program_replies.proofs.Endings.{Ended}
use Rattle.program_replies.proofs.Known.{ends_know, never_spends, not_both, out_knows, out_plays}
use Rattle.program_replies.proofs.Known.{spent_knows}

-- ---- the input that is asked for is the one that is replied to

same_input : (s t : SourceSeen) (r : Option Recipe) (form : Form) (x y : Input)
    → BringsBy r form s t x → IsInputBy r form s.left y → x ≡ y
same_input s t None form x y brought asked =
    let Spelled : List ℕ → Type 0 = λ bs. SpellsInput form bs y in
    let same = all_known s t asked.bytes asked.has.left_are brought.bytes brought.read in
    sym (brought.only y (subst Spelled same asked.spelled))
same_input s t (Some recipe) form x y brought asked = brought.made ∙ sym asked

module _ (jobs : Replies) (table : ℕ) (words : List (String Global)) (s t : SourceSeen)
    (command : Command) (input : Input) (asks : AsksCommand words s.left command input) where
  text_asked : recipe_in command ≡ None → HasText (form_of command) s.left input
  text_asked reader =
      let By : Option Recipe → Type 0 = λ o. IsInputBy o (form_of command) s.left input in
      subst By reader asks.input_is

  to_asked : (reply : Reply) → RepliesToInput jobs table command s t reply
      → IsReplyTo jobs table command input reply
  to_asked reply is =
      let To : Input → Type 0 = λ x. IsReplyTo jobs table command x reply in
      let same =
      same_input s t (recipe_in command) (form_of command) is.input input is.brought
      asks.input_is in
      subst To same is.reply_is

  -- bytes that spell the input aren't refused
  not_refused : (fault : ScriptFault) → recipe_in command ≡ None
      → ReadsNone (form_of command) s t fault → ⊥
  not_refused fault reader is =
      let text = text_asked reader in
      let Spelled : List ℕ → Type 0 = λ bs. SpellsInput (form_of command) bs input in
      let same = all_known s t text.bytes text.has.left_are is.bytes is.read in
      refuses (form_of command) is.bytes fault is.refusal input (subst Spelled same text.spelled)

  answered_by : (reply : Reply) → IsReplyBy jobs table (Some command) s t reply
      → ((reply ≡ ReadFault) × SourceFailed s t) ⊎ IsReplyTo jobs table command input reply
  answered_by Usage is = absurd is
  answered_by ReadFault is = inl (refl, is.1)
  answered_by TooLong is =
      let text = text_asked is.0 in
      absurd (not_many s t text.bytes text.has.left_are text.has.few is.2)
  answered_by (Refused form fault) is =
      let Read : Form → Type 0 = λ f. ReadsNone f s t fault in
      absurd (not_refused fault is.0 (subst Read (sym is.2) is.3))
  answered_by (JobUnknown line job) is = inr (to_asked (JobUnknown line job) is)
  answered_by (WorkSpent count) is = inr (to_asked (WorkSpent count) is)
  answered_by (Played text) is = inr (to_asked (Played text) is)
  answered_by (Made text) is = inr (to_asked (Made text) is)

-- ---- the causes

module _ {jobs : Replies} {table : ℕ} {words : List (String Global)} {s t : SourceSeen}
    {k m : SinkSeen} {status : ℕ} (e : Ended jobs table words s t k m status) where
  -- the reply to an input that is asked for, unless the source failed
  answered : (command : Command) (input : Input) → AsksCommand words s.left command input
      → ((e.reply ≡ ReadFault) × SourceFailed s t) ⊎ IsReplyTo jobs table command input e.reply
  answered command input asks =
      let By : Option Command → Type 0 = λ o. IsReplyBy jobs table o s t e.reply in
      answered_by jobs table words s t command input asks e.reply (subst By asks.named e.is)

  -- a fault of the source, where the status isn't its own
  no_read_fault : e.reply ≡ ReadFault → status ≢ READ_FAULT → status ≡ NO_MEMORY
  no_read_fault is not =
      let Ends : Reply → Type 0 = λ r. EndsAs r k m status in
      elim (either (program_reply_text ReadFault) k m status READ_FAULT (subst Ends is e.ends)) [
        | inl own ↦ absurd (not own)
        | inr own ↦ own
      ]

  -- job unknown
  job_to : (j : IsJobUnknown table words s.left) (reply : Reply)
      → IsReplyTo jobs table j.command j.input reply → EndsAs reply k m status
      → IsEither status JOB_UNKNOWN NO_MEMORY
  job_to j Usage is ends = absurd is
  job_to j ReadFault is ends = absurd is
  job_to j TooLong is ends = absurd is
  job_to j (Refused form fault) is ends = absurd is
  job_to j (JobUnknown line job) is ends =
      either (program_reply_text (JobUnknown line job)) k m status JOB_UNKNOWN ends
  job_to j (WorkSpent count) is ends =
      absurd (j.unknown (spent_knows jobs table j.command j.input count is.1))
  job_to j (Played text) is ends =
      absurd (j.unknown (out_knows jobs table j.command j.input text j.plays is))
  job_to j (Made text) is ends =
      absurd (j.unknown (out_knows jobs table j.command j.input text.items j.plays is))

  pub job_exactly : status ≢ READ_FAULT → IsJobUnknown table words s.left
      → IsEither status JOB_UNKNOWN NO_MEMORY
  job_exactly not j =
      elim (answered j.command j.input j.asks) [
        | inl fault ↦ inr (no_read_fault fault.0 not)
        | inr to ↦ job_to j e.reply to e.ends
      ]

  -- work spent
  work_to : (w : IsWorkSpent jobs table words s.left) (reply : Reply)
      → IsReplyTo jobs table w.command w.input reply → EndsAs reply k m status
      → IsEither status WORK_SPENT NO_MEMORY
  work_to w Usage is ends = absurd is
  work_to w ReadFault is ends = absurd is
  work_to w TooLong is ends = absurd is
  work_to w (Refused form fault) is ends = absurd is
  work_to w (JobUnknown line job) is ends = absurd (not_both table w.input line job is.1 w.known)
  work_to w (WorkSpent count) is ends =
      either (program_reply_text (WorkSpent count)) k m status WORK_SPENT ends
  work_to w (Played text) is ends =
      absurd (w.spent (out_plays jobs table w.command w.input text w.plays is).within)
  work_to w (Made text) is ends =
      absurd (w.spent (out_plays jobs table w.command w.input text.items w.plays is).within)

  pub work_exactly : status ≢ READ_FAULT → IsWorkSpent jobs table words s.left
      → IsEither status WORK_SPENT NO_MEMORY
  work_exactly not w =
      elim (answered w.command w.input w.asks) [
        | inl fault ↦ inr (no_read_fault fault.0 not)
        | inr to ↦ work_to w e.reply to e.ends
      ]

  -- an output
  fine_text : (f : IsFine jobs table words s.left) (reply : Reply)
      → IsReplyTo jobs table f.command f.input reply → EndsAs reply k m status
      → EndsWith (program_reply_text reply) DONE WRITE_FAULT k m status
  fine_text f Usage is ends = absurd is
  fine_text f ReadFault is ends = absurd is
  fine_text f TooLong is ends = absurd is
  fine_text f (Refused form fault) is ends = absurd is
  fine_text f (JobUnknown line job) is ends =
      absurd (not_both table f.input line job is.1
      (ends_know jobs table f.command f.input (f.plays is.0)))
  fine_text f (WorkSpent count) is ends =
      absurd (never_spends jobs table f.command f.input count (f.plays is.0) is.1)
  fine_text f (Played text) is ends = ends
  fine_text f (Made text) is ends = ends

  pub fine_ends : status ≢ READ_FAULT → IsFine jobs table words s.left
      → (status ≡ WRITE_FAULT) ⊎ IsEither status DONE NO_MEMORY
  fine_ends not f =
      elim (answered f.command f.input f.asks) [
        | inl fault ↦ inr (inr (no_read_fault fault.0 not))
        | inr to ↦ out_ends (program_reply_text e.reply) k m status (fine_text f e.reply to e.ends)
      ]

  pub fine_done : (SourceFailed s t → ⊥) → (SinkBreaks k m → ⊥) → IsFine jobs table words s.left
      → IsEither status DONE NO_MEMORY
  fine_done sure sound f =
      elim (answered f.command f.input f.asks) [
        | inl fault ↦ absurd (sure fault.1)
        | inr to ↦ out_whole (program_reply_text e.reply) k m status (fine_text f e.reply to e.ends) sound
      ]

  -- what was to be read was refused
  module _ (form : Form) (r : IsRefusedAs form words s.left) where
    no_text : (reply : Reply) → RepliesToInput jobs table r.reads.0 s t reply → ⊥
    no_text reply is =
        let By : Option Recipe → Type 0 = λ o. BringsBy o (form_of r.reads.0) s t is.input in
        let read = subst By r.reads.2 is.brought in
        let same = all_known s t r.bytes r.has.left_are read.bytes read.read in
        let Spelled : List ℕ → Type 0 = λ bs. SpellsInput (form_of r.reads.0) bs is.input in
        let As : Form → Type 0 = λ f. SpellsInput f r.bytes is.input in
        r.spells_none is.input (subst As r.reads.3 (subst Spelled (sym same) read.spelled))

    refused_by : (reply : Reply) → IsReplyBy jobs table (Some r.reads.0) s t reply
        → e.reply ≡ reply → EndsAs reply k m status → status ≢ READ_FAULT
        → IsEither status (refused_status form) NO_MEMORY
    refused_by Usage is same ends not = absurd is
    refused_by ReadFault is same ends not = inr (no_read_fault same not)
    refused_by TooLong is same ends not =
        absurd (not_many s t r.bytes r.has.left_are r.has.few is.2)
    refused_by (Refused f fault) is same ends not =
        let Own : Form → Type 0 = λ g. IsEither status (refused_status g) NO_MEMORY in
        subst Own (sym is.2 ∙ r.reads.3)
        (either (program_reply_text (Refused f fault)) k m status (refused_status f) ends)
    refused_by (JobUnknown line job) is same ends not =
        absurd (no_text (JobUnknown line job) is)
    refused_by (WorkSpent count) is same ends not = absurd (no_text (WorkSpent count) is)
    refused_by (Played text) is same ends not = absurd (no_text (Played text) is)
    refused_by (Made text) is same ends not = absurd (no_text (Made text) is)

    pub refused_exactly : status ≢ READ_FAULT → IsEither status (refused_status form) NO_MEMORY
    refused_exactly not =
        let By : Option Command → Type 0 = λ o. IsReplyBy jobs table o s t e.reply in
        refused_by e.reply (subst By r.reads.1 e.is) refl e.ends not
