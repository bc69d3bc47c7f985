-- each world that enabled steps reach from a start keeps what a core keeps
use Rattle.std.proofs.Common.{ℕ, zero, suc, ◌<◌, ◌^◌, List, [], ◌∷◌, refl, arith, take}
use Rattle.tm_base.specs.CpuSet.{Cpus}
use Rattle.tree_plan.specs.Shape.{IsWithinLimits, tree_of}
use Rattle.core_world.specs.declared.step.Step.{Step}
use Rattle.core_world.specs.Lists.{EachEnabled, after_all}
use Rattle.core_world.specs.Steps.{stepped}
use Rattle.core_world.specs.World.{World}
use Rattle.step_core.specs.core_laws.Start.Layer.{StartsLawful}
use Rattle.step_core.specs.core_facts.Cover.Runs.{start_with}
use Rattle.step_core.specs.core_facts.Levels.{LevelsStartFit}
use Rattle.step_core.specs.core_facts.Played.{StartsPlayed}
use Rattle.step_core.specs.core_state.Kept.{WorldFits, WorldsStayFit}
use Rattle.step_laws.specs.Reached.{EachReachedFits}

start_fits : StartsLawful → StartsPlayed → LevelsStartFit → (nodes cpus timers : ℕ)
    (isolated : Cpus) → IsWithinLimits nodes cpus isolated → timers < 2 ^ 16 →
    WorldFits (start_with nodes cpus isolated timers)
start_fits law plays levels nodes cpus timers isolated limits few = record {
  planned = record { limits = limits; tree = refl };
  in_time = omega arith;
  few = few;
  lawful = law nodes cpus timers isolated limits (omega (arith, few));
  played = plays (tree_of nodes cpus isolated) timers;
  levels = levels (tree_of nodes cpus isolated) timers;
}

front_fits : WorldsStayFit → (made : ℕ) (w : World) (steps : List Step) → WorldFits w →
    EachEnabled w steps → WorldFits (after_all w (take made steps))
front_fits stay zero w steps fits each = fits
front_fits stay (suc made) w [] fits each = fits
front_fits stay (suc made) w (step ∷ rest) fits each =
    front_fits stay made (stepped w step) rest (stay w fits step each.0) each.1

pub each_reached : StartsLawful → StartsPlayed → LevelsStartFit → WorldsStayFit → EachReachedFits
each_reached law plays levels stay nodes cpus timers isolated limits few steps each made =
    front_fits stay made (start_with nodes cpus isolated timers) steps
    (start_fits law plays levels nodes cpus timers isolated limits few) each
