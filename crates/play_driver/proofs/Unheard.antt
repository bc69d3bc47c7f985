-- a play of which no text is made, and which is broken off
use Rattle.std.proofs.Common.{◌≡◌, ◌≢◌, ℕ, List, [], refl, subst}
use Rattle.std.specs.Prelude.{None}
use Rattle.tm_script.specs.declared.syntax.Script.{Script}
use Rattle.play_rules.specs.Interrupts.{Replies}
use Rattle.play_rules.specs.Jobs.{first_unknown_job}
use Rattle.play_rules.specs.Rules.{Rules}
use Rattle.play_driver.specs.declared.outcomes.DriveFault.{DriveFault}
use Rattle.play_driver.specs.declared.outcomes.DriveFault.TheVariants.{BadJob, NoMemory, WorkSpent}
use Rattle.play_driver.specs.Outcomes.{BreaksOff, EndsEarly, ForSomeText, SaysFault, script_turns}
use Rattle.play_driver.specs.Outcomes.{work_limit}

module _ {S : Type 0} (r : Rules S) (jobs : Replies) (table : ℕ) (script : Script) (start : S)
    (known : first_unknown_job table script.moments ≡ None) where
  pub fault_unheard : (old new : List ℕ) (fault : DriveFault) → old ≡ []
      → EndsEarly (work_limit script.version) (script_turns jobs r script start) fault old new
      → ForSomeText (λ t. SaysFault r jobs table script start fault [] t)
  fault_unheard old new (BadJob line job) none ends = absurd ends
  fault_unheard old new (WorkSpent count) none ends =
      let limit = work_limit script.version in
      let ts = script_turns jobs r script start in
      (new, (known, subst (λ t. BreaksOff limit count ts t new) none ends))
  fault_unheard old new NoMemory none ends = ([], refl)

  pub fault_told : (old new : List ℕ) (fault : DriveFault) → fault ≢ NoMemory
      → EndsEarly (work_limit script.version) (script_turns jobs r script start) fault old new
      → SaysFault r jobs table script start fault old new
  fault_told old new (BadJob line job) other ends = absurd ends
  fault_told old new (WorkSpent count) other ends = (known, ends)
  fault_told old new NoMemory other ends = absurd (other refl)
