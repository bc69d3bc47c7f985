-- WHAT A PART OF A PLAY LEAVES: of a machine whose world was one and is another, and of what was
-- told before and after
use Rattle.std.specs.Prelude.{◌≡◌, ◌+◌, ◌++◌, OnOk, Result}
use Rattle.tm_report.specs.Lines.{report_text}
use Rattle.play_rules.specs.Rules.{Rules}
use Rattle.play_rules.specs.Machines.{Same, SameOnline}
use Rattle.play_rules.specs.Parts.{Gains, Played, Progress, counted}

-- a machine of the same timers, CPUs and tree, at the same time, of which no CPU has gone offline
-- or come online: what stays so inside an interrupt
pub record SameInside {S : Type 0} (r : Rules S) (old new : S) : Type 0 where
  pub same : Same r old new
  pub online : SameOnline r old new

-- the report has gained the lines of a part of a play, the work is counted, and the machine is in
-- the state that the part leaves, whatever lines were tallied
pub record Tells {S : Type 0} (p : Played S) (old new : Progress) (after : S) : Type 0 where
  pub text : new.text ≡ old.text ++ report_text p.lines
  pub work : counted new.work ≡ counted (old.work + p.work)
  pub state : after ≡ p.state

-- where the part came to its end it has told what it says, the machine has stayed what it stays,
-- and it fits again; after want of memory too the text has only been gone on with
pub record PartLeaves {S E : Type 0} (Says : (old new : Progress) → S → Type 0)
    (Stays : S → S → Type 0) (Fits : S → Type 0) (result : Result (Unit {0}) E)
    (before after : S) (old new : Progress) : Type 0 where
  pub prints : OnOk result (Says old new after)
  pub same : OnOk result (Stays before after)
  pub fit : OnOk result (Fits after)
  pub gains : Gains old.text new.text
