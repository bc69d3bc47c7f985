-- the headline over runs: each front of a list of enabled steps is one, so its world is lawful
use Rattle.std.proofs.Common.{ℕ, zero, suc, List, [], ◌∷◌, take}
use Rattle.core_world.specs.declared.step.Step.{Step}
use Rattle.core_world.specs.Lists.{EachEnabled, after_all}
use Rattle.core_world.specs.Steps.{stepped}
use Rattle.core_world.specs.World.{World}
use Rattle.core_laws.specs.Laws.{ListsStayLawful}
use Rattle.core_laws.specs.Start.Layer.{StartsLawful}
use Rattle.core_facts.specs.Cover.Headline.{EachCovered, EachSettled}
use Rattle.core_facts.specs.Cover.Runs.{AlwaysAnswered, EachLawfulIsAnswered, start_with}

front_enabled : (made : ℕ) (w : World) (steps : List Step) → EachEnabled w steps
    → EachEnabled w (take made steps)
front_enabled zero w steps each = tt
front_enabled (suc made) w [] each = tt
front_enabled (suc made) w (step ∷ rest) each =
    (each.0, front_enabled made (stepped w step) rest each.1)

pub each_answered : EachCovered → EachSettled → EachLawfulIsAnswered
each_answered covered settled w lawful c item waits = record {
  covered = covered w lawful c item waits;
  settled = λ rests. settled w lawful rests c item waits;
}

pub always_answered : StartsLawful → ListsStayLawful → EachLawfulIsAnswered → AlwaysAnswered
always_answered starts stay answered nodes cpus timers isolated limits few steps each made =
    let start = start_with nodes cpus isolated timers in
    answered (after_all start (take made steps))
    (stay start (take made steps) (starts nodes cpus timers isolated limits few)
    (front_enabled made start steps each))
