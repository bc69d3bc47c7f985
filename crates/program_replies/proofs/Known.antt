-- what is known of an input by its replies
use Rattle.std.proofs.Common.{◌≢◌, ℕ, List, ◌∙◌, ap, arith, refl, sym}
use Rattle.std.specs.Prelude.{option_map}
use Rattle.std.proofs.lemmas.Option.{none-some}
use Rattle.play_rules.specs.Interrupts.{Replies}
use Rattle.play_rules.specs.Parts.{counted}
use Rattle.program_texts.specs.declared.commands.Command.{Command}
use Rattle.program_texts.specs.declared.commands.Command.TheVariants as commands
use Rattle.program_texts.specs.declared.inputs.Input.{Input}
use Rattle.program_texts.specs.declared.inputs.Input.TheVariants as inputs
use Rattle.program_texts.specs.Words.{HasJobsRun, IsPlayer}
use Rattle.program_replies.specs.Scripts.{CanEnd, EndsBy, IsScriptOutput, KnowsJobs, LacksJob, SpendsBy}
use Rattle.program_replies.specs.Scripts.{SpendsWork}

-- a job that the table hasn't isn't known
pub not_both : (table : ℕ) (input : Input) (line job : ℕ) → LacksJob table input line job
    → KnowsJobs table input → ⊥
not_both table (inputs.Script script) line job lacks known = cc (lacks, known)
not_both table (inputs.Trace trace) line job lacks known = lacks
not_both table (inputs.Works works) line job lacks known = cc (lacks, known)

-- a player's output is that of an input that can be played
pub out_plays : (jobs : Replies) (table : ℕ) (command : Command) (input : Input) (text : List ℕ)
    → IsPlayer command → IsScriptOutput jobs table command input text → CanEnd jobs table input
out_plays jobs table commands.Play (inputs.Script script) text plays out =
    record { known = out.can_play.known; within = ap (option_map counted) out.can_play.within }
out_plays jobs table commands.Play (inputs.Trace trace) text plays out = absurd out
out_plays jobs table commands.Play (inputs.Works works) text plays out = absurd out
out_plays jobs table commands.Run input text plays out = absurd plays
out_plays jobs table commands.Tree input text plays out = absurd plays
out_plays jobs table (commands.Generate recipe) input text plays out = absurd plays
out_plays jobs table (commands.Day recipe) (inputs.Script script) text plays out =
    record { known = out.can_play.known; within = ap (option_map counted) out.can_play.within }
out_plays jobs table (commands.Day recipe) (inputs.Trace trace) text plays out = absurd out
out_plays jobs table (commands.Day recipe) (inputs.Works works) text plays out = absurd out
out_plays jobs table commands.Check input text plays out = absurd plays
out_plays jobs table commands.Deep (inputs.Script script) text plays out =
    record { known = out.can_play.known; within = ap (option_map counted) out.can_play.within }
out_plays jobs table commands.Deep (inputs.Trace trace) text plays out = absurd out
out_plays jobs table commands.Deep (inputs.Works works) text plays out = absurd out
out_plays jobs table commands.Works (inputs.Script script) text plays out = absurd out
out_plays jobs table commands.Works (inputs.Trace trace) text plays out = absurd out
out_plays jobs table commands.Works (inputs.Works works) text plays out =
    record { known = out.can_play.known; within = out.can_play.unspent }

-- a player's work is its input's
pub spends_alone : (jobs : Replies) (table : ℕ) (command : Command) (input : Input) (count : ℕ)
    → command ≢ commands.Run → SpendsBy jobs table command input count
    → SpendsWork jobs table input count
spends_alone jobs table commands.Play input count other is = is
spends_alone jobs table commands.Run input count other is = absurd (other refl)
spends_alone jobs table commands.Tree input count other is = is
spends_alone jobs table (commands.Generate recipe) input count other is = is
spends_alone jobs table (commands.Day recipe) input count other is = is
spends_alone jobs table commands.Check input count other is = is
spends_alone jobs table commands.Deep input count other is = is
spends_alone jobs table commands.Works input count other is = is

module _ (jobs : Replies) (table : ℕ) where
  -- an output is that of an input whose jobs are in the table
  pub out_knows : (command : Command) (input : Input) (text : List ℕ) → HasJobsRun command
      → IsScriptOutput jobs table command input text → KnowsJobs table input
  out_knows commands.Play input text has out =
      (out_plays jobs table commands.Play input text tt out).known
  out_knows commands.Run (inputs.Script script) text has out = out.1.known
  out_knows commands.Run (inputs.Trace trace) text has out = absurd out
  out_knows commands.Run (inputs.Works works) text has out = absurd out
  out_knows commands.Tree input text has out = absurd has
  out_knows (commands.Generate recipe) input text has out = absurd has
  out_knows (commands.Day recipe) input text has out =
      (out_plays jobs table (commands.Day recipe) input text tt out).known
  out_knows commands.Check input text has out = absurd has
  out_knows commands.Deep input text has out =
      (out_plays jobs table commands.Deep input text tt out).known
  out_knows commands.Works input text has out =
      (out_plays jobs table commands.Works input text tt out).known

  -- and so is work that was broken off
  pub spent_knows : (command : Command) (input : Input) (count : ℕ)
      → SpendsBy jobs table command input count → KnowsJobs table input
  spent_knows commands.Play input count is = is.known
  spent_knows commands.Run (inputs.Script script) count is = is.known
  spent_knows commands.Run (inputs.Trace trace) count is = absurd is
  spent_knows commands.Run (inputs.Works works) count is = absurd is
  spent_knows commands.Tree input count is = is.known
  spent_knows (commands.Generate recipe) input count is = is.known
  spent_knows (commands.Day recipe) input count is = is.known
  spent_knows commands.Check input count is = is.known
  spent_knows commands.Deep input count is = is.known
  spent_knows commands.Works input count is = is.known

  -- work that stays below its limit
  pub ends_know : (command : Command) (input : Input) → EndsBy jobs table command input
      → KnowsJobs table input
  ends_know commands.Play input is = is.known
  ends_know commands.Run (inputs.Script script) is = is.known
  ends_know commands.Run (inputs.Trace trace) is = absurd is
  ends_know commands.Run (inputs.Works works) is = absurd is
  ends_know commands.Tree input is = is.known
  ends_know (commands.Generate recipe) input is = is.known
  ends_know (commands.Day recipe) input is = is.known
  ends_know commands.Check input is = is.known
  ends_know commands.Deep input is = is.known
  ends_know commands.Works input is = is.known

  stays_below : (input : Input) (count : ℕ) → CanEnd jobs table input
      → SpendsWork jobs table input count → ⊥
  stays_below input count ends spends =
      absurd (none-some count (sym ends.within ∙ spends.spent))

  pub never_spends : (command : Command) (input : Input) (count : ℕ)
      → EndsBy jobs table command input → SpendsBy jobs table command input count → ⊥
  never_spends commands.Play input count ends spends = stays_below input count ends spends
  never_spends commands.Run (inputs.Script script) count ends spends =
      let early = ends.early in
      let late = spends.late in
      omega (arith, early, late)
  never_spends commands.Run (inputs.Trace trace) count ends spends = ends
  never_spends commands.Run (inputs.Works works) count ends spends = ends
  never_spends commands.Tree input count ends spends = stays_below input count ends spends
  never_spends (commands.Generate recipe) input count ends spends =
      stays_below input count ends spends
  never_spends (commands.Day recipe) input count ends spends =
      stays_below input count ends spends
  never_spends commands.Check input count ends spends = stays_below input count ends spends
  never_spends commands.Deep input count ends spends = stays_below input count ends spends
  never_spends commands.Works input count ends spends = stays_below input count ends spends
