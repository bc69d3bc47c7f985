use Rattle.std.proofs.Common.{refl, sym}
use Rattle.play_driver.proofs.Parts.{same_none}
use Rattle.play_driver.proofs.jobs.reply_to.Goals as goal

pub arm_again-requires-clause-runner : goal.arm_again-requires-clause-runner
arm_again-requires-clause-runner g c = c.requires.runner

pub arm_again-requires-clause-timer : goal.arm_again-requires-clause-timer
arm_again-requires-clause-timer g c = c.requires.timer

pub arm_again-requires-clause-fit : goal.arm_again-requires-clause-fit
arm_again-requires-clause-fit g c = c.requires.fit

pub returns-in-Done-clause-reply : goal.returns-in-Done-clause-reply
returns-in-Done-clause-reply g c = rw (sym c.clock.ensures.clock, sym c.in-Done.ensures) refl

pub returns-in-Done-clause-state : goal.returns-in-Done-clause-state
returns-in-Done-clause-state g c = rw (sym c.clock.ensures.clock, sym c.in-Done.ensures) refl

pub returns-in-Mark-clause-reply : goal.returns-in-Mark-clause-reply
returns-in-Mark-clause-reply g c = rw (sym c.clock.ensures.clock, sym c.in-Mark.ensures) refl

pub returns-in-Mark-clause-state : goal.returns-in-Mark-clause-state
returns-in-Mark-clause-state g c = rw (sym c.clock.ensures.clock, sym c.in-Mark.ensures) refl

pub returns-in-Done-clause-same : goal.returns-in-Done-clause-same
returns-in-Done-clause-same g c = same_none _ _

pub returns-in-Done-clause-online : goal.returns-in-Done-clause-online
returns-in-Done-clause-online g c = record { online = λ k. refl }

pub returns-in-Done-clause-fit : goal.returns-in-Done-clause-fit
returns-in-Done-clause-fit g c = λ ph may fit. fit

pub returns-in-Mark-clause-same : goal.returns-in-Mark-clause-same
returns-in-Mark-clause-same g c = same_none _ _

pub returns-in-Mark-clause-online : goal.returns-in-Mark-clause-online
returns-in-Mark-clause-online g c = record { online = λ k. refl }

pub returns-in-Mark-clause-fit : goal.returns-in-Mark-clause-fit
returns-in-Mark-clause-fit g c = λ ph may fit. fit

pub returns-in-Again-clause-reply : goal.returns-in-Again-clause-reply
returns-in-Again-clause-reply g c =
    rw (sym c.clock.ensures.clock, sym c.in-Again.ensures) c.arm_again.ensures.reply

pub returns-in-Again-clause-state : goal.returns-in-Again-clause-state
returns-in-Again-clause-state g c =
    rw (sym c.clock.ensures.clock, sym c.in-Again.ensures) c.arm_again.ensures.state

pub returns-in-Again-clause-same : goal.returns-in-Again-clause-same
returns-in-Again-clause-same g c = c.arm_again.ensures.same

pub returns-in-Again-clause-fit : goal.returns-in-Again-clause-fit
returns-in-Again-clause-fit g c = c.arm_again.ensures.fit

pub returns-in-Again-clause-online : goal.returns-in-Again-clause-online
returns-in-Again-clause-online g c = c.arm_again.ensures.online
