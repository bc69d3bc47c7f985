-- the rules of steps keep what holds of the core at each stage
use Rattle.std.proofs.Common.{ℕ, suc, ◌<◌, ap, ◌∙◌}
use Rattle.std.proofs.Common.{◌+◌}
use Rattle.std.proofs.lemmas.Bool.{both_ways}
use Rattle.std.specs.Ordering.{nat_cmp}
use Rattle.std.specs.FinSet as set
use Rattle.tm_base.specs.declared.limits.TheConstants.{SCRIPT_TIME_LIMIT}
use Rattle.tm_base.specs.declared.names.Class.TheVariants.{Global}
use Rattle.tree_plan.specs.Shape.{Shape}
use Rattle.tree_plan.specs.Paths.{cpu_count_of, level_count_of}
use Rattle.play_laws.proofs.Answered.Plays.{rules_keep}
use Rattle.play_laws.proofs.Answered.Settles.{Settles}
use Rattle.play_laws.proofs.Shape.Shape.{KeptByRules, Stage, begun, between, climbed, looked}
use Rattle.play_laws.proofs.Shape.Shape.{looking, moving}
use Rattle.play_laws.proofs.Shape.Shape.{nth_class, own, taking}
use Rattle.core_world.specs.World.{World}
use Rattle.core_facts.specs.core_laws.Laws.{StepsStayLawful}
use Rattle.step_play.specs.Rules.Seen.{inside, resting, serving, state_of}
use Rattle.step_play.specs.Rules.StepRules.{step_rules}
use Rattle.step_play.specs.SamePlay.{Walks}
use Rattle.step_play.proofs.Interrupted.{comes, drained, ends, entered, known, ran}
use Rattle.step_play.proofs.Looking.{can_take, drained_for, let_go, ran_for, taken}
use Rattle.step_play.proofs.Operated.{armed, came, cancelled, control, gone, handed, idle, keeps_on}
use Rattle.step_play.proofs.Operated.{moves, no_successor, woke}
use Rattle.step_play.proofs.Stages.{Inside, MayArm, Stands, restaged}

module _ (law : StepsStayLawful) (walks : Walks) (t : Shape)
    (timers end : ℕ) (in_time : end < SCRIPT_TIME_LIMIT) where
  -- the same core at another stage of an interrupt
  within : (now : ℕ) (due : set.FinSet nat_cmp) (c : ℕ) (st next : Stage) (w : World) →
      (was : Inside t timers now due c st w) → Settles t now next (state_of w) →
      Inside t timers now due c next w
  within now due c st next w was settles = record {
    at = restaged t timers now st (inside c) w was.at next settles;
    called = was.called;
  }

  -- EACH RULE keeps it
  pub steps_keep : KeptByRules step_rules (cpu_count_of t) timers (level_count_of t) end (MayArm timers)
      (Stands t timers)
  steps_keep = record {
    clock = λ now w was. was.clock;
    all_cpus = λ now due w was. was.in_play.in_run.lawful.sized.cpus ∙ ap cpu_count_of was.tree;
    all_levels = λ now due c w low was. ap level_count_of was.tree;
    comes = λ now next w was later by_end no_later.
        comes law walks t timers end in_time now next w was later by_end no_later;
    passed = λ now due c w low is was.
        restaged t timers now (begun due c) resting w was (begun due (c + 1)) was.settles;
    entered = λ now due c w low is was.
        entered law walks t timers end in_time now due c w low is was;
    drained = λ now due c k w low few was.
        drained law walks t timers end in_time now due c k w low few was;
    known = λ now due c k w low few was.
        known law walks t timers end in_time now (inside c) (own due c k) w c (nth_class k) was.at;
    ran = λ now due c k w a low few fits none was.
        ran law walks t timers end in_time now due c k w low few was a fits none;
    drained_all = λ now due c w low was.
        within now due c (own due c 3) (climbed due c 0) w was was.at.settles;
    looks = λ now due c level w low below is was. record {
      inside = within now due c (climbed due c level)
          (looking due c level (step_rules.cpus w) set.empty) w was
          ((rules_keep t timers end in_time).looks now due c level (state_of w) low below is
          was.at.settles);
      late = λ d none. absurd (both_ways (set.contains set.empty d) (set.contains-empty nat_cmp d)
          none);
    };
    looks_not = λ now due c level w low below is was.
        within now due c (climbed due c level) (looked due c) w was was.at.settles;
    top_looked = λ now due c w low was.
        within now due c (climbed due c (level_count_of t)) (looked due c) w was was.at.settles;
    named_none = λ now due c level n tried w low none was.
        within now due c (looking due c level (suc n) tried) (climbed due c (level + 1)) w
        was.inside was.inside.at.settles.inside;
    none_left = λ now due c level tried w low was.
        within now due c (looking due c level 0 tried) (climbed due c (level + 1)) w
        was.inside was.inside.at.settles.inside;
    left_alone = λ now due c level n tried d w low is left was.
        absurd (both_ways (step_rules.takes w c d) left
        (can_take law walks t timers end in_time now due c level n tried w was d is));
    taken = λ now due c level n tried d w low is takes was.
        taken law walks t timers end in_time now due c level n tried w was d is low;
    drained_for = λ now due c level n tried d w low was.
        drained_for law walks t timers end in_time now due c level n tried d w low was;
    known_for = λ now due c level n tried d w low was.
        known law walks t timers end in_time now (serving c d) (taking due c level n tried d) w d
        Global was.at;
    ran_for = λ now due c level n tried d w a low fits none was.
        ran_for law walks t timers end in_time now due c level n tried d w low was a fits none;
    let_go = λ now due c level n tried d w low was.
        let_go law walks t timers end in_time now due c level n tried d w low was;
    ended = λ now due c w low is was. ends law walks t timers end in_time now due c w low is was;
    interrupted = λ now due w was.
        restaged t timers now (begun due (cpu_count_of t)) resting w was between was.settles.whole;
    armed = λ now c w a low few short online busy none was.
        armed law walks t timers end in_time now w was c low online busy a few short none;
    cancelled = λ now c w held a low few online busy is was.
        cancelled law walks t timers end in_time now w was c low online busy a held few is;
    idled = λ now c w low online busy later was.
        idle law walks t timers end in_time now w was c low online busy later;
    woken = λ now c w low online idle was.
        woke law walks t timers end in_time now w was c low online idle;
    come_online = λ now c w low offline was.
        came law walks t timers end in_time now w was c low offline;
    gone_offline = λ now c w low online busy none was.
        gone law walks t timers end in_time now w was c low online busy none;
    keeps_on = λ now c w low none was.
        keeps_on law walks t timers end in_time now w c low was none;
    no_successor = λ now c w low waits none was.
        no_successor law walks t timers end in_time now w c low was waits none;
    handed_on = λ now c d w low waits is was.
        handed law walks t timers end in_time now w c low was waits d is;
    controlling = λ now from d w low offline is was.
        control law walks t timers end in_time now w was from low offline d is
        (step_rules.count_queued (step_rules.controlling w d) from);
    moved = λ now from to n w m low is was.
        moves law walks t timers end in_time now w from to n low was m is;
    moved_none = λ now from to n w low none was.
        restaged t timers now (moving from to (suc n)) resting w was.at between
        was.at.settles.whole;
    all_moved = λ now from to w low was.
        restaged t timers now (moving from to 0) resting w was.at between was.at.settles.whole;
  }
