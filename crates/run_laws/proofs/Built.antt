-- the tree, the timers, the CPUs and the clock stay as they are all through a plain moment
use Rattle.std.proofs.Common.{◌≡◌, ℕ, List, [], ◌∷◌, Bool, true, false, Option, Some, None}
use Rattle.std.proofs.Common.{length, refl, ap, ◌∙◌, subst, zero, suc, length-set}
use Rattle.std.specs.Prelude.{◌&&◌, option_map, slice_set}
use Rattle.std.proofs.lemmas.Bool.{cond_both}
use Rattle.std.proofs.lemmas.Option.{none-some, same_Some}
use Rattle.tm_base.specs.declared.names.Class.{Class}
use Rattle.tm_base.specs.declared.names.Class.TheVariants.{Global}
use Rattle.wheel_core.specs.declared.item.Item.{Item}
use Rattle.tree_plan.specs.Shape.{Shape}
use Rattle.tree_plan.specs.Paths.{cpu_count_of, level_count_of}
use Rattle.walk_rules.specs.declared.walk.Walk.{Walk}
use Rattle.walk_rules.specs.declared.walk.Stage.{Stage}
use Rattle.walk_rules.specs.declared.walk.Stage.TheVariants as stages
use Rattle.walk_rules.specs.Scene.{Group}
use Rattle.play_rules.specs.declared.asks.Arming.{Arming}
use Rattle.play_rules.specs.Rules.{Moved}
use Rattle.play_rules.specs.Timers.{first_to_move}
use Rattle.play_laws.proofs.Shape.Shape.{KeptByRules, nth_class}
use Rattle.core_world.specs.declared.step.Step.TheVariants as steps
use Rattle.core_world.specs.Lists.{after_all}
use Rattle.core_world.specs.Steps.{first_moved, moved_with, stepped, swapped, walk_made, walked}
use Rattle.core_world.specs.World.{CpuRecord, World, cpu_of, moved}
use Rattle.core_world.proofs.Moves.{moved_laws}
use Rattle.step_play.specs.Rules.Alone.{goes_on, most_steps, walk_steps, walked_out}
use Rattle.step_play.specs.Rules.StepRules.{hands, items_due, made_active, moved_by_steps}
use Rattle.step_play.specs.Rules.StepRules.{step_rules}
use Rattle.step_play.specs.Rules.StepRules.{woken_by_steps}

-- two worlds of the same machine, at the same time
pub record SameBuilt (w v : World) : Type 0 where
  pub tree : v.tree ≡ w.tree
  pub timers : v.timers ≡ w.timers
  pub clock : v.clock ≡ w.clock
  pub cpus : length v.cpus ≡ length w.cpus

pub same_built : (w : World) → SameBuilt w w
same_built w = record { tree = refl; timers = refl; clock = refl; cpus = refl }

pub built_then : (u v w : World) → SameBuilt u v → SameBuilt v w → SameBuilt u w
built_then u v w a b = record {
  tree = b.tree ∙ a.tree;
  timers = b.timers ∙ a.timers;
  clock = b.clock ∙ a.clock;
  cpus = b.cpus ∙ a.cpus;
}

-- the form of a step
pub moved_built : (w : World) (g : ℕ) (x : Group) (c : ℕ) (y : CpuRecord) (r : Bool)
    → SameBuilt w (moved w g x c y r)
moved_built w g x c y r = record {
  tree = refl;
  timers = refl;
  clock = refl;
  cpus = (moved_laws w g x c y r).cpus;
}

-- a step of a walk
module _ (w : World) (c : ℕ) where
  by_swap : (k : Walk) (fresh : Bool) → SameBuilt w (swapped w c k fresh)
  by_swap k true = moved_built w _ _ c _ true
  by_swap k false = moved_built w _ _ c _ false

  by_stage : (k : Walk) (st : Stage) → SameBuilt w (walked w c k st)
  by_stage k stages.Own = moved_built w _ _ c _ false
  by_stage k stages.Up = moved_built w _ _ c _ true
  by_stage k (stages.Mark more) = moved_built w _ _ c _ false
  by_stage k stages.Read = moved_built w _ _ c _ false
  by_stage k stages.Child = moved_built w _ _ c _ false
  by_stage k stages.Swap = by_swap k k.fresh
  by_stage k stages.LockChild = moved_built w _ _ c _ false
  by_stage k stages.LockGroup = moved_built w _ _ c _ false
  by_stage k stages.SeeChild = moved_built w _ _ c _ false
  by_stage k stages.SeeGroup = moved_built w _ _ c _ false
  by_stage k (stages.Scan j) = moved_built w _ _ c _ false
  by_stage k stages.Store = moved_built w _ _ c _ false
  by_stage k (stages.First j) = moved_built w _ _ c _ false
  by_stage k stages.FreeGroup = moved_built w _ _ c _ false
  by_stage k stages.FreeChild = moved_built w _ _ c _ false
  by_stage k stages.Finish = moved_built w _ _ c _ false
  by_stage k stages.Handing = same_built w

  pub walk_built : (o : Option Walk) → SameBuilt w (walk_made w c o)
  walk_built None = same_built w
  walk_built (Some k) = by_stage k k.stage

-- a walk made to its end
steps_built : (n c : ℕ) (w : World) → SameBuilt w (walk_steps n c w)
unfolding walk_steps
steps_built zero c w = same_built w
steps_built (suc n) c w =
    let v = stepped w (steps.Walk (record { 0 = c })) in
    cond_both (goes_on (cpu_of w c).walk) (walk_steps n c v) w (SameBuilt w)
    (λ on. built_then w v (walk_steps n c v) (walk_built w c (cpu_of w c).walk) (steps_built n c v))
    (λ off. same_built w)

pub out_built : (c : ℕ) (w v : World) → SameBuilt w v → SameBuilt w (walked_out c v)
out_built c w v same =
    built_then w v (walked_out c v) same (steps_built (most_steps v) c v)

-- a drain
pub hands_built : (home : ℕ) (class : Class) (runner : ℕ) (items : List Item) (w : World)
    → SameBuilt w (after_all w (hands home class runner items))
hands_built home class runner [] w = moved_built w _ _ home _ false
hands_built home class runner (item ∷ items) w =
    let v = stepped w (steps.Hand (record { 0 = home }) (record { 0 = item.id })
    (record { 0 = runner })) in
    built_then w v (after_all v (hands home class runner items)) (moved_built w _ _ home _ false)
    (hands_built home class runner items v)

-- a timer moves
move_built : (w : World) (from to : ℕ) (o : Option (Class × Item))
    → SameBuilt w (moved_with w from to o)
move_built w from to None = same_built w
move_built w from to (Some (class, item)) = record {
  tree = refl;
  timers = refl;
  clock = refl;
  cpus = length-set (slice_set w.cpus from _) to _ ∙ length-set w.cpus from _;
}

moved_by : (w : World) (from to : ℕ) (o : Option (Class × Item)) (m : Moved World)
    → option_map (moved_by_steps w from to) o ≡ Some m → SameBuilt w m.state
moved_by w from to None m none = absurd (none-some m none)
moved_by w from to (Some found) m some =
    subst (λ (x : Moved World). SameBuilt w x.state)
    (same_Some (moved_by_steps w from to found) m some)
    (move_built w from to (first_moved (cpu_of w from).bases))

-- a CPU wakes
woken_built : (w : World) (d : ℕ) → SameBuilt w (woken_by_steps w d)
woken_built w d = out_built d w _ (moved_built w _ _ d _ false)

active_built : (w : World) (d : ℕ) → SameBuilt w (made_active w d)
active_built w d =
    cond_both (cpu_of w d).idle (woken_by_steps w d) w (SameBuilt w) (λ idle. woken_built w d)
    (λ busy. same_built w)

handed_built : (w : World) (c d : ℕ) → SameBuilt w (step_rules.handed_on w c d)
handed_built w c d =
    built_then w (made_active w d) (step_rules.handed_on w c d) (active_built w d)
    (moved_built (made_active w d) _ _ c _ false)

-- whoever is let go, and the end of an interrupt
pub let_go_built : (w : World) (c d : ℕ) → SameBuilt w (step_rules.let_go w c d)
let_go_built w c d =
    cond_both ((cpu_of w d).online && (cpu_of w d).idle)
    (walked_out d (stepped w (steps.Carry (record { 0 = d }))))
    (stepped w (steps.Release (record { 0 = d }))) (SameBuilt w)
    (λ asleep. out_built d w _ (moved_built w _ _ d _ false))
    (λ awake. moved_built w _ _ d _ false)

pub ended_built : (w : World) (c : ℕ) → SameBuilt w (step_rules.ended w c)
ended_built w c =
    cond_both (cpu_of w c).idle (walked_out c (stepped w (steps.Reeval (record { 0 = c }))))
    (stepped w (steps.Leave (record { 0 = c }))) (SameBuilt w)
    (λ idle. out_built c w _ (moved_built w _ _ c _ false))
    (λ busy. moved_built w _ _ c _ false)

-- whatever is armed again
abbrev pub Any : Arming → Type 0
Any a = Unit {0}

module _ (t : Shape) (timers : ℕ) where
  -- the machine of a tree, with so many timers, at a time
  pub record IsBuilt (now : ℕ) (w : World) : Type 0 where
    pub tree : w.tree ≡ t
    pub timers_are : w.timers ≡ timers
    pub clock : w.clock ≡ now
    pub cpus : length w.cpus ≡ cpu_count_of t

  pub stays : (now : ℕ) (w v : World) → SameBuilt w v → IsBuilt now w → IsBuilt now v
  stays now w v same was = record {
    tree = same.tree ∙ was.tree;
    timers_are = same.timers ∙ was.timers_are;
    clock = same.clock ∙ was.clock;
    cpus = same.cpus ∙ was.cpus;
  }

  pub at_time : (now next : ℕ) (w : World) → IsBuilt now w
      → IsBuilt next (step_rules.at_clock next w)
  at_time now next w was = record {
    tree = was.tree;
    timers_are = was.timers_are;
    clock = refl;
    cpus = was.cpus;
  }

  -- EACH RULE keeps it
  pub rules_build : (end : ℕ) → KeptByRules step_rules (cpu_count_of t) timers (level_count_of t)
      end Any (λ now stage w. IsBuilt now w)
  rules_build end = record {
    clock = λ now w was. was.clock;
    all_cpus = λ now due w was. was.cpus;
    all_levels = λ now due c w low was. ap level_count_of was.tree;
    comes = λ now next w was later by no_later. at_time now next w was;
    passed = λ now due c w low is was. was;
    entered = λ now due c w low is was. stays now w _ (moved_built w _ _ c _ false) was;
    drained = λ now due c k w low few was.
        stays now w _ (hands_built c (nth_class k) c (items_due w c (nth_class k)) w) was;
    known = λ now due c k w low few was. (λ i d below class delay. tt);
    ran = λ now due c k w a low few fits none was.
        stays now w _ (moved_built w _ _ c _ false) was;
    drained_all = λ now due c w low was. was;
    looks = λ now due c level w low below is was. was;
    looks_not = λ now due c level w low below is was. was;
    top_looked = λ now due c w low was. was;
    named_none = λ now due c level n tried w low is was. was;
    none_left = λ now due c level tried w low was. was;
    left_alone = λ now due c level n tried d w low is takes was. was;
    taken = λ now due c level n tried d w low is took was.
        stays now w _ (moved_built w _ _ d _ false) was;
    drained_for = λ now due c level n tried d w low was.
        stays now w _ (hands_built d Global c (items_due w d Global) w) was;
    known_for = λ now due c level n tried d w low was. (λ i e below class delay. tt);
    ran_for = λ now due c level n tried d w a low fits none was.
        stays now w _ (moved_built w _ _ c _ false) was;
    let_go = λ now due c level n tried d w low was.
        stays now w _ (let_go_built w c d) was;
    ended = λ now due c w low is was. stays now w _ (ended_built w c) was;
    interrupted = λ now due w was. was;
    armed = λ now c w a low known short online active none was.
        stays now w _ (moved_built w _ _ c _ false) was;
    cancelled = λ now c w held a low known online active is was.
        stays now w _ (moved_built w _ _ held.cpu.0 _ false) was;
    idled = λ now c w low online active later was.
        stays now w _ (out_built c w _ (moved_built w _ _ c _ false)) was;
    woken = λ now c w low online idle was. stays now w _ (woken_built w c) was;
    come_online = λ now c w low offline was.
        stays now w _ (out_built c w _ (moved_built w _ _ c _ false)) was;
    gone_offline = λ now c w low online active none was.
        stays now w _ (out_built c w _ (moved_built w _ _ c _ false)) was;
    keeps_on = λ now c w low none was. was;
    no_successor = λ now c w low hands_it none was. was;
    handed_on = λ now c d w low hands_it is was. stays now w _ (handed_built w c d) was;
    controlling = λ now from d w low offline is was. stays now w _ (active_built w d) was;
    moved = λ now from to n w m low is was.
        stays now w m.state (moved_by w from to (first_to_move (cpu_of w from).bases) m is) was;
    moved_none = λ now from to n w low none was. was;
    all_moved = λ now from to w low was. was;
  }
