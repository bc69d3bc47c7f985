use Rattle.std.proofs.Common.{refl}
use Rattle.tree_plan.specs.Shape.{IsPlanned, tree_of}
use Rattle.core_laws.proofs.Start.Starts.{starts_lawful}
use Rattle.core_laws.proofs.start_law.law_start.Goals as goal

pub returns : goal.returns
returns c = λ nodes cpus timers isolated limits few. (let planned : IsPlanned (tree_of nodes cpus isolated) = record { limits = limits; tree = refl } in
    starts_lawful (tree_of nodes cpus isolated) timers few planned (c.law_hierarchy.ensures _ planned) (c.law_edges.ensures _ planned) (c.law_cuts.ensures _ planned))
