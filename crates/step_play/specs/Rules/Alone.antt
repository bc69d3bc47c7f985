-- a walk that is made from its start to its end, with no other step between
use Rattle.std.specs.Prelude.{ℕ, zero, suc, ◌+◌, ◌*◌, Bool, true, false, Option}
use Rattle.std.specs.Prelude.{Some, None, if◌then◌else◌}
use Rattle.tree_plan.specs.Paths.{level_count_of}
use Rattle.walk_rules.specs.declared.walk.Walk.{Walk}
use Rattle.walk_rules.specs.declared.walk.Stage.{Stage}
use Rattle.walk_rules.specs.declared.walk.Stage.TheVariants as stages
use Rattle.core_world.specs.declared.step.Step.TheVariants as steps
use Rattle.core_world.specs.Steps.{stepped}
use Rattle.core_world.specs.World.{World, cpu_of}

-- a walk goes on unless it has ended or waits to hand on
abbrev pub is_handing : Stage → Bool
is_handing stages.Handing = true
is_handing other = false

-- whether a walk, where there is one, goes on: it stands at any stage but Handing
abbrev pub goes_on : Option Walk → Bool
goes_on None = false
goes_on (Some k) = if is_handing k.stage then false else true

-- at most n steps of CPU c's walk
unfoldable pub walk_steps : (n c : ℕ) → World → World
walk_steps zero c w = w
walk_steps (suc n) c w =
    if goes_on (cpu_of w c).walk
    then walk_steps n c (stepped w (steps.Walk (record { 0 = c })))
    else w

-- a walk that is alone has at most 32 steps at a level: up to an exchange, eight events to scan,
-- eight to look through at the top, locks and reads
abbrev pub most_steps : World → ℕ
most_steps w = 32 * (level_count_of w.tree + 1)

-- CPU c's walk is made to its end
abbrev pub walked_out : (c : ℕ) → World → World
walked_out c w = walk_steps (most_steps w) c w
