use Rattle.core_facts.proofs.LevelsRead.{each_level_is_low, each_stage_fits, levels_stay}
use Rattle.core_facts.proofs.law_height.Goals as goal

pub returns-clause-stays : goal.returns-clause-stays
returns-clause-stays c = levels_stay c.law_quiet.ensures c.law_sizes.ensures

pub returns-clause-stage : goal.returns-clause-stage
returns-clause-stage c = each_stage_fits

pub returns-clause-low : goal.returns-clause-low
returns-clause-low c = each_level_is_low c.law_cuts.ensures c.law_paths.ensures
