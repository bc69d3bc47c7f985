use Rattle.trace_explain.specs.Sentences.{step_text}
use Rattle.trace_explain.proofs.sentences.push_step.Goals as goal

pub returns-in-Cancel : goal.returns-in-Cancel
unfolding step_text
returns-in-Cancel g c =
    rw c.in-Cancel.is
    (rw c.from.ensures at
    (rw c.from-in-Cancel.ensures at (rw c.from-in-Cancel-2.ensures at c.push_three.ensures)))

pub returns-in-Offline : goal.returns-in-Offline
unfolding step_text
returns-in-Offline g c = rw c.in-Offline.is c.push_cpu-in-Offline.ensures

pub returns-in-Online : goal.returns-in-Online
unfolding step_text
returns-in-Online g c = rw c.in-Online.is c.push_cpu-in-Online.ensures

pub returns-in-Carry : goal.returns-in-Carry
unfolding step_text
returns-in-Carry g c = rw c.in-Carry.is c.push_cpu-in-Carry.ensures
