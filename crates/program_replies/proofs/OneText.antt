-- where one text is due, any two replies that are called for have it; of `check` neither of their
-- texts is a front of the other
use Rattle.std.proofs.Common.{◌≡◌, ◌≢◌, ◌<◌, ◌+◌, ℕ, List, Option, Some, None, length, refl, sym}
use Rattle.std.proofs.Common.{◌∙◌, ap, subst}
use Rattle.std.specs.Prelude.{◌-◌, ◌^◌, take, String}
use Rattle.std.specs.declared.alloc.Global.{Global}
use Rattle.std.proofs.lemmas.Option.{none-some, same_Some}
use Rattle.tm_base.specs.declared.limits.TheConstants.{MOST_BYTES}
use Rattle.tm_io.specs.Seen.{SourceSeen, SourceFailed, SourceUnbroken}
use Rattle.tm_io.specs.Sources.{TakesCount}
use Rattle.tm_script.specs.declared.faults.ScriptFault.{ScriptFault}
use Rattle.play_rules.specs.Interrupts.{Replies}
use Rattle.play_rules.specs.declared.asks.UnknownJob.{UnknownJob}
use Rattle.delayed_work.specs.declared.faults.UnknownWorkJob.{UnknownWorkJob}
use Rattle.program_texts.specs.declared.commands.Recipe.{Recipe}
use Rattle.program_texts.specs.declared.commands.Command.{Command}
use Rattle.program_texts.specs.declared.commands.Command.TheVariants as commands
use Rattle.program_texts.specs.declared.inputs.Form.{Form}
use Rattle.program_texts.specs.declared.inputs.Input.{Input}
use Rattle.program_texts.specs.declared.inputs.Input.TheVariants as inputs
use Rattle.program_texts.specs.declared.replies.Reply.{Reply}
use Rattle.program_texts.specs.declared.replies.Reply.TheVariants.{Usage, ReadFault, TooLong}
use Rattle.program_texts.specs.declared.replies.Reply.TheVariants.{Refused, JobUnknown, WorkSpent}
use Rattle.program_texts.specs.declared.replies.Reply.TheVariants.{Played, Made}
use Rattle.program_texts.specs.Words.{program_command_of, form_of, recipe_in, HasJobsRun}
use Rattle.program_texts.specs.Brought.{BringsBy, IsReader, ReadsNone}
use Rattle.program_texts.specs.Replies.{program_reply_text}
use Rattle.program_texts.proofs.Told.{not_many, few_known, first_fault, none_spelled, not_both_ways}
use Rattle.program_texts.proofs.Told.{one_input}
use Rattle.program_texts.proofs.Forms.{plays_alone}
use Rattle.program_replies.proofs.CheckTexts.{FrontIsWhole, check_whole, front_apart, same_is_whole}
use Rattle.program_replies.specs.Scripts.{IsScriptOutput, LacksJob, SpendsWork}
use Rattle.program_replies.specs.Replies.{IsProgramReply, IsReplyBy, IsReplyOf, IsReplyTo, RepliesToInput}
use Rattle.program_replies.specs.Statuses.{IsAllOfNone, IsOneDue}
use Rattle.program_replies.proofs.Known.{not_both, out_knows, out_plays, spends_alone}

-- ---- one text of an input

-- a command but `run` writes one output, or of `check` none that is a front of another
whole_output : (jobs : Replies) (table : ℕ) (command : Command) (input : Input) (xs ys : List ℕ)
    → command ≢ commands.Run → IsScriptOutput jobs table command input xs
    → IsScriptOutput jobs table command input ys → FrontIsWhole xs ys
whole_output jobs table commands.Play (inputs.Script script) xs ys not_run x y =
    same_is_whole xs ys (x.played ∙ sym y.played)
whole_output jobs table commands.Play (inputs.Trace trace) xs ys not_run x y = absurd x
whole_output jobs table commands.Play (inputs.Works works) xs ys not_run x y = absurd x
whole_output jobs table commands.Run input xs ys not_run x y = absurd (not_run refl)
whole_output jobs table commands.Tree (inputs.Script script) xs ys not_run x y =
    same_is_whole xs ys (x ∙ sym y)
whole_output jobs table commands.Tree (inputs.Trace trace) xs ys not_run x y = absurd x
whole_output jobs table commands.Tree (inputs.Works works) xs ys not_run x y = absurd x
whole_output jobs table (commands.Generate recipe) (inputs.Script script) xs ys not_run x y =
    same_is_whole xs ys (x ∙ sym y)
whole_output jobs table (commands.Generate recipe) (inputs.Trace trace) xs ys not_run x y =
    absurd x
whole_output jobs table (commands.Generate recipe) (inputs.Works works) xs ys not_run x y =
    absurd x
whole_output jobs table (commands.Day recipe) (inputs.Script script) xs ys not_run x y =
    same_is_whole xs ys (x.summed ∙ sym y.summed)
whole_output jobs table (commands.Day recipe) (inputs.Trace trace) xs ys not_run x y = absurd x
whole_output jobs table (commands.Day recipe) (inputs.Works works) xs ys not_run x y = absurd x
whole_output jobs table commands.Check (inputs.Script script) xs ys not_run x y = absurd x
whole_output jobs table commands.Check (inputs.Trace trace) xs ys not_run x y =
    check_whole trace xs ys x y
whole_output jobs table commands.Check (inputs.Works works) xs ys not_run x y = absurd x
whole_output jobs table commands.Deep (inputs.Script script) xs ys not_run x y =
    same_is_whole xs ys (x.played ∙ sym y.played)
whole_output jobs table commands.Deep (inputs.Trace trace) xs ys not_run x y = absurd x
whole_output jobs table commands.Deep (inputs.Works works) xs ys not_run x y = absurd x
whole_output jobs table commands.Works (inputs.Script script) xs ys not_run x y = absurd x
whole_output jobs table commands.Works (inputs.Trace trace) xs ys not_run x y = absurd x
whole_output jobs table commands.Works (inputs.Works works) xs ys not_run x y =
    same_is_whole xs ys (x.played ∙ sym y.played)

same_unknown : (a b : UnknownJob) → Some a ≡ Some b → (a.line ≡ b.line) × (a.job ≡ b.job)
same_unknown a b e =
    let same = same_Some a b e in
    (ap (λ (u : UnknownJob). u.line) same, ap (λ (u : UnknownJob). u.job) same)

same_unknown_work : (a b : UnknownWorkJob) → Some a ≡ Some b
    → (a.line ≡ b.line) × (a.job ≡ b.job)
same_unknown_work a b e =
    let same = same_Some a b e in
    (ap (λ (u : UnknownWorkJob). u.line) same, ap (λ (u : UnknownWorkJob). u.job) same)

-- one job is the first that the table hasn't
one_lack : (table : ℕ) (input : Input) (l j m k : ℕ) → LacksJob table input l j
    → LacksJob table input m k → (l ≡ m) × (j ≡ k)
one_lack table (inputs.Script script) l j m k x y =
    same_unknown (record { line = l; job = j }) (record { line = m; job = k }) (sym x ∙ y)
one_lack table (inputs.Trace trace) l j m k x y = absurd x
one_lack table (inputs.Works works) l j m k x y =
    same_unknown_work (record { line = l; job = j }) (record { line = m; job = k }) (sym x ∙ y)

-- what a reply to an input is
data Answer (jobs : Replies) (table : ℕ) (command : Command) (input : Input) (reply : Reply)
    : Type 0 where
  lack : (line job : ℕ) → HasJobsRun command → LacksJob table input line job
      → reply ≡ JobUnknown line job → Answer jobs table command input reply
  spend : (count : ℕ) → HasJobsRun command → SpendsWork jobs table input count
      → reply ≡ WorkSpent count → Answer jobs table command input reply
  output : IsScriptOutput jobs table command input (program_reply_text reply)
      → Answer jobs table command input reply

module _ (jobs : Replies) (table : ℕ) (command : Command) (no_run : command ≢ commands.Run) where
  answer : (input : Input) (reply : Reply) → IsReplyTo jobs table command input reply
      → Answer jobs table command input reply
  answer input Usage is = absurd is
  answer input ReadFault is = absurd is
  answer input TooLong is = absurd is
  answer input (Refused form fault) is = absurd is
  answer input (JobUnknown line job) is = lack line job is.0 is.1 refl
  answer input (WorkSpent count) is =
      spend count is.0 (spends_alone jobs table command input count no_run is.1) refl
  answer input (Played text) is = output is
  answer input (Made text) is = output is

  whole_answer : (input : Input) (x y : Reply) → Answer jobs table command input x
      → Answer jobs table command input y → FrontIsWhole (program_reply_text x) (program_reply_text y)
  whole_answer input x y (lack l j plays lacks is) (lack m k plays2 lacks2 is2) =
      let same = one_lack table input l j m k lacks lacks2 in
      let texts : program_reply_text (JobUnknown l j) ≡ program_reply_text (JobUnknown m k) =
      λ i. program_reply_text (JobUnknown (same.0 i) (same.1 i)) in
      same_is_whole (program_reply_text x) (program_reply_text y)
      (ap program_reply_text is ∙ texts ∙ sym (ap program_reply_text is2))
  whole_answer input x y (lack l j plays lacks is) (spend n plays2 spent is2) =
      absurd (not_both table input l j lacks spent.known)
  whole_answer input x y (lack l j plays lacks is) (output out) =
      absurd (not_both table input l j lacks
      (out_knows jobs table command input (program_reply_text y) plays out))
  whole_answer input x y (spend n plays spent is) (lack l j plays2 lacks is2) =
      absurd (not_both table input l j lacks spent.known)
  whole_answer input x y (spend n plays spent is) (spend k plays2 spent2 is2) =
      let same = same_Some n k (sym spent.spent ∙ spent2.spent) in
      same_is_whole (program_reply_text x) (program_reply_text y)
      (ap program_reply_text is ∙ ap (λ (c : ℕ). program_reply_text (WorkSpent c)) same ∙ sym (ap program_reply_text is2))
  whole_answer input x y (spend n plays spent is) (output out) =
      let alone = plays_alone command plays no_run in
      let within = (out_plays jobs table command input (program_reply_text y) alone out).within in
      absurd (none-some n (sym within ∙ spent.spent))
  whole_answer input x y (output out) (lack l j plays lacks is) =
      absurd (not_both table input l j lacks
      (out_knows jobs table command input (program_reply_text x) plays out))
  whole_answer input x y (output out) (spend n plays spent is) =
      let alone = plays_alone command plays no_run in
      let within = (out_plays jobs table command input (program_reply_text x) alone out).within in
      absurd (none-some n (sym within ∙ spent.spent))
  whole_answer input x y (output out) (output out2) =
      whole_output jobs table command input (program_reply_text x) (program_reply_text y) no_run out out2

-- ---- one text of a source

-- why a reply is called for, by the source
data Due (jobs : Replies) (table : ℕ) (command : Command) (s t : SourceSeen) (reply : Reply)
    : Type 0 where
  failed : SourceFailed s t → reply ≡ ReadFault → Due jobs table command s t reply
  long : IsReader command → SourceUnbroken s t → TakesCount s t (MOST_BYTES + 1)
      → reply ≡ TooLong → Due jobs table command s t reply
  refused : (fault : ScriptFault) → IsReader command → SourceUnbroken s t
      → ReadsNone (form_of command) s t fault → reply ≡ Refused (form_of command) fault
      → Due jobs table command s t reply
  answered : RepliesToInput jobs table command s t reply → Due jobs table command s t reply

module _ (s t : SourceSeen) (known : List ℕ) (told : s.left ≡ Some known) where
  module _ (jobs : Replies) (table : ℕ) (command : Command) where
    due : (reply : Reply) → IsReplyOf jobs table command s t reply
        → Due jobs table command s t reply
    due Usage is = absurd is
    due ReadFault is = failed is.1 refl
    due TooLong is = long is.0 is.1 is.2 refl
    due (Refused form fault) is =
        let Read : Form → Type 0 = λ f. ReadsNone f s t fault in
        refused fault is.0 is.1 (subst Read (sym is.2) is.3)
        (ap (λ (f : Form). Refused f fault) (sym is.2))
    due (JobUnknown line job) is = answered is
    due (WorkSpent count) is = answered is
    due (Played text) is = answered is
    due (Made text) is = answered is

    read_by : IsReader command → (reply : Reply) → (r : RepliesToInput jobs table command s t reply)
        → BringsBy None (form_of command) s t r.input
    read_by reader reply r =
        let By : Option Recipe → Type 0 = λ o. BringsBy o (form_of command) s t r.input in
        subst By reader r.brought

    not_long : (reply : Reply) → IsReader command → TakesCount s t (MOST_BYTES + 1)
        → RepliesToInput jobs table command s t reply → ⊥
    not_long reply reader count r =
        let read = read_by reader reply r in
        not_many s t known told (few_known s t known told read.bytes read.read) count

    not_none : (reply : Reply) (fault : ScriptFault) → IsReader command
        → ReadsNone (form_of command) s t fault → RepliesToInput jobs table command s t reply → ⊥
    not_none reply fault reader none r =
        none_spelled s t known told (form_of command) fault none r.input (read_by reader reply r)

    module _ (counts : s.faults ≢ 2 ^ 64 - 1) (no_run : command ≢ commands.Run) where
      sure : {A : Type 0} → SourceFailed s t → SourceUnbroken s t → A
      sure fell sound = absurd (not_both_ways s t counts fell sound)

      to_whole : (x y : Reply) → (a : RepliesToInput jobs table command s t x)
          → RepliesToInput jobs table command s t y
          → FrontIsWhole (program_reply_text x) (program_reply_text y)
      to_whole x y a b =
          let To : Input → Type 0 = λ input. IsReplyTo jobs table command input x in
          let same =
          one_input s t known told (recipe_in command) (form_of command) a.input b.input a.brought
          b.brought in
          whole_answer jobs table command no_run b.input x y
          (answer jobs table command no_run b.input x (subst To same a.reply_is))
          (answer jobs table command no_run b.input y b.reply_is)

      from_same : (x y : Reply) → program_reply_text x ≡ program_reply_text y
          → FrontIsWhole (program_reply_text x) (program_reply_text y)
      from_same x y same = same_is_whole (program_reply_text x) (program_reply_text y) same

      whole_due : (x y : Reply) → Due jobs table command s t x → Due jobs table command s t y
          → FrontIsWhole (program_reply_text x) (program_reply_text y)
      whole_due x y (failed fell is) (failed fell2 is2) =
          from_same x y (ap program_reply_text (is ∙ sym is2))
      whole_due x y (failed fell is) (long reader sound count is2) = sure fell sound
      whole_due x y (failed fell is) (refused fault reader sound none is2) = sure fell sound
      whole_due x y (failed fell is) (answered r) = sure fell r.unbroken
      whole_due x y (long reader sound count is) (failed fell is2) = sure fell sound
      whole_due x y (long reader sound count is) (long r2 s2 c2 is2) =
          from_same x y (ap program_reply_text (is ∙ sym is2))
      whole_due x y (long reader sound count is) (refused fault r2 s2 none is2) =
          absurd (not_many s t known told (few_known s t known told none.bytes none.read) count)
      whole_due x y (long reader sound count is) (answered r) = absurd (not_long y reader count r)
      whole_due x y (refused fault reader sound none is) (failed fell is2) = sure fell sound
      whole_due x y (refused fault reader sound none is) (long r2 s2 count is2) =
          absurd (not_many s t known told (few_known s t known told none.bytes none.read) count)
      whole_due x y (refused fault reader sound none is) (refused g r2 s2 none2 is2) =
          let Told : ScriptFault → Reply = λ f. Refused (form_of command) f in
          let same = first_fault s t known told (form_of command) fault g none none2 in
          from_same x y (ap program_reply_text (is ∙ ap Told same ∙ sym is2))
      whole_due x y (refused fault reader sound none is) (answered r) =
          absurd (not_none y fault reader none r)
      whole_due x y (answered r) (failed fell is2) = sure fell r.unbroken
      whole_due x y (answered r) (long reader sound count is2) = absurd (not_long x reader count r)
      whole_due x y (answered r) (refused fault reader sound none is2) =
          absurd (not_none x fault reader none r)
      whole_due x y (answered a) (answered b) = to_whole x y a b

-- ---- one text of the words

module _ (jobs : Replies) (table : ℕ) (words : List (String Global)) (s t : SourceSeen)
    (one : IsOneDue words s) where
  whole_by : (o : Option Command) → program_command_of words ≡ o → (x y : Reply)
      → IsReplyBy jobs table o s t x → IsReplyBy jobs table o s t y
      → FrontIsWhole (program_reply_text x) (program_reply_text y)
  whole_by None named x y a b =
      same_is_whole (program_reply_text x) (program_reply_text y) (ap program_reply_text (a ∙ sym b))
  whole_by (Some command) named x y a b =
      whole_due s t one.bytes one.told jobs table command one.counts
      (λ is. one.no_run (named ∙ ap Some is)) x y
      (due s t one.bytes one.told jobs table command x a)
      (due s t one.bytes one.told jobs table command y b)

-- a front that isn't all of one text that is due is all of none
pub front_of_none : (jobs : Replies) (table : ℕ) (words : List (String Global)) (s t : SourceSeen)
    (reply : Reply) (count : ℕ) → IsProgramReply jobs table words s t reply
    → count < length (program_reply_text reply) → IsOneDue words s
    → IsAllOfNone jobs table words s t (take count (program_reply_text reply))
front_of_none jobs table words s t reply count is less one other due_too same =
    absurd (front_apart (program_reply_text other) (program_reply_text reply) count less
    (whole_by jobs table words s t one (program_command_of words) refl other reply due_too is) same)
