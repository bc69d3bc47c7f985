-- for crates above: runs behind one another are a run, and so are the runs of the rules
use Rattle.std.proofs.Common.{◌≡◌, ℕ, List, [], ◌∷◌, ◌++◌, refl, sym, ap, ◌∙◌, subst}
use Rattle.play_rules.specs.Moments.{Turn}
use Rattle.core_world.specs.declared.step.Step.{Step}
use Rattle.core_world.specs.Lists.{EachEnabled, IsRun, after_all}
use Rattle.core_world.specs.Steps.{stepped}
use Rattle.core_world.specs.World.{World}
use Rattle.step_play.specs.Rules.Lone.{IsRunOf, Reaches, walk_times}
use Rattle.step_play.specs.Rules.Runs.{RuleRun, RuleRuns, TurnRun}
use Rattle.step_play.specs.Rules.Runs as runs
use Rattle.step_play.specs.Rules.StepRules.{step_rules}

after_both : (w : World) (xs ys : List Step)
    → after_all w (xs ++ ys) ≡ after_all (after_all w xs) ys
after_both w [] ys = refl
after_both w (x ∷ xs) ys = after_both (stepped w x) xs ys

both_enabled : (w : World) (xs ys : List Step) → EachEnabled w xs
    → EachEnabled (after_all w xs) ys → EachEnabled w (xs ++ ys)
both_enabled w [] ys first then = then
both_enabled w (x ∷ xs) ys first then =
    (first.0, both_enabled (stepped w x) xs ys first.1 then)

pub onwards : (w v u : World) → Reaches w v → Reaches v u → Reaches w u
onwards w v u (xs, first) (ys, then) = (
  xs ++ ys,
  record {
    enabled =
        both_enabled w xs ys first.enabled
        (subst (λ x. EachEnabled x ys) first.done then.enabled);
    done =
        then.done ∙ (ap (λ x. after_all x ys) first.done ∙ sym (after_both w xs ys));
  },
)

by_list : (xs : List Step) (w v : World) → IsRun xs w v → Reaches w v
by_list xs w v run = (xs, run)

pub by_walk : (step : Step) (c : ℕ) (w v : World) → IsRunOf step c w v → Reaches w v
by_walk step c w v (n, run) = (step ∷ walk_times n c, run)

rule_reaches : (w v : World) → RuleRun w v → Reaches w v
rule_reaches w v (runs.drained home class runner is run) = by_list _ w v run
rule_reaches w v (runs.armed c a is run) = by_list _ w v run
rule_reaches w v (runs.cancelled home a is run) = by_list _ w v run
rule_reaches w v (runs.entered c is run) = by_list _ w v run
rule_reaches w v (runs.taken c d is run) = by_list _ w v run
rule_reaches w v (runs.let_go c d is run) = by_walk _ d w v run
rule_reaches w v (runs.ended_idle c is run) = by_walk _ c w v run
rule_reaches w v (runs.ended_active c is run) = by_list _ w v run
rule_reaches w v (runs.idled c is run) = by_walk _ c w v run
rule_reaches w v (runs.woken c is run) = by_walk _ c w v run
rule_reaches w v (runs.gone_offline c is run) = by_walk _ c w v run
rule_reaches w v (runs.handed_on c d awake is wakes hands) =
    onwards w awake v (by_walk _ d w awake wakes) (by_list _ awake v hands)
rule_reaches w v (runs.come_online c is run) = by_walk _ c w v run
rule_reaches w v (runs.controlling d is run) = by_walk _ d w v run
rule_reaches w v (runs.moved from to m found is run) = by_list _ w v run

rules_reach : (w v : World) → RuleRuns w v → Reaches w v
rules_reach w v (runs.stays u same) = ([], record { enabled = tt; done = same })
rules_reach w v (runs.goes_on m u before last) =
    onwards w m u (rules_reach w m before) (rule_reaches m u last)

pub turn_reaches : (w : World) (t : Turn World) → TurnRun w t → Reaches w t.played.state
turn_reaches w t run =
    let v = step_rules.at_clock t.at w in
    onwards w v t.played.state (by_list _ w v run.clock) (rules_reach v t.played.state run.rules)
