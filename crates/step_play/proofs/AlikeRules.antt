-- each rule of steps is the plain rule on what Play sees
use Rattle.std.proofs.Common.{◌≡◌, ℕ, ◌<◌, refl, sym}
use Rattle.tm_base.specs.declared.limits.TheConstants.{SCRIPT_TIME_LIMIT}
use Rattle.tree_plan.specs.Shape.{Shape}
use Rattle.tree_plan.specs.Paths.{cpu_count_of, level_count_of}
use Rattle.play_rules.specs.declared.asks.Arming.{Arming}
use Rattle.play_rules.specs.Play.{plain_rules}
use Rattle.play_rules.specs.State.{Cpu, cpu_at}
use Rattle.play_rules.specs.Timers.{armed_item, armed_on}
use Rattle.play_laws.proofs.Shape.Alike.{Alike, placed_seen}
use Rattle.play_laws.proofs.Shape.Shape.{Stage, begun, between, climbed, leaving, looked, looking}
use Rattle.play_laws.proofs.Shape.Shape.{moving, own, running, taking}
use Rattle.core_world.specs.World.{World}
use Rattle.core_facts.specs.core_laws.Laws.{StepsStayLawful}
use Rattle.step_play.specs.Rules.Alike.{Plays}
use Rattle.step_play.specs.Rules.Seen.{Phase, cpu_seen, inside, resting, serving, state_of}
use Rattle.step_play.specs.Rules.StepRules.{armed_by_steps, step_rules}
use Rattle.step_play.proofs.Queues.Covers.{covers_alike}
use Rattle.step_play.proofs.Queues.Sights.{count_seen}
use Rattle.step_play.specs.SamePlay.{Walks}
use Rattle.step_play.proofs.Hotplug.{read}
use Rattle.step_play.proofs.Interrupted.{arms_own, ended_plays, entered_plays, sees_own}
use Rattle.step_play.proofs.Looking.{arms_for, can_take, lets_go_plays, names, sees_for}
use Rattle.step_play.proofs.Looking.{takes_plays}
use Rattle.step_play.proofs.Operated.{arms, cancel, comes, controls, goes, hands_plays, idles}
use Rattle.step_play.proofs.Operated.{sees_moved, sees_none, wakes}
use Rattle.step_play.proofs.Stages.{At, MayArm, Stands, in_core}
use Rattle.step_play.proofs.Worlds.{rests}

-- an arming gets the same wheel expiry
placed : (ph : Phase) (w : World) (c : ℕ) (a : Arming) →
    Plays ph (armed_by_steps w c a).state (armed_on (state_of w) c a).state →
    placed_seen state_of (armed_by_steps w c a) ≡ armed_on (state_of w) c a
placed ph w c a plays = λ i. record {
  wheel = (armed_item (state_of w) c a).wheel;
  state = plays.state i;
}

module _ (t : Shape) (timers : ℕ) where
  -- at each stage the core has the tree's CPUs
  stands_at : (now : ℕ) (st : Stage) (w : World) → Stands t timers now st w →
      (ph : Phase) × At t timers now st ph w
  stands_at now between w was = (_, was)
  stands_at now (begun due c) w was = (_, was)
  stands_at now (own due c bases) w was = (_, was.at)
  stands_at now (climbed due c level) w was = (_, was.at)
  stands_at now (looking due c level n tried) w was = (_, was.inside.at)
  stands_at now (taking due c level n tried d) w was = (_, was.at)
  stands_at now (running due c level n tried d) w was = (_, was.serving.at)
  stands_at now (looked due c) w was = (_, was.at)
  stands_at now (leaving c) w was = (_, was.at)
  stands_at now (moving from to n) w was = (_, was.at)

  -- and so what is read of a CPU is what Play reads
  reads : {X : Type 0} (f : Cpu → X) (now : ℕ) (st : Stage) (w : World) (c : ℕ) →
      c < cpu_count_of t → Stands t timers now st w →
      f (cpu_at (state_of w) c) ≡ f (cpu_seen w c)
  reads f now st w c low was =
      let at = stands_at now st w was in
      read w f c (in_core t timers now st at.0 w at.1 c low)

module _ (law : StepsStayLawful) (walks : Walks) (t : Shape)
    (timers end : ℕ) (in_time : end < SCRIPT_TIME_LIMIT) where
  pub steps_alike : Alike step_rules plain_rules state_of (cpu_count_of t) timers (level_count_of t)
      end (MayArm timers) (Stands t timers)
  steps_alike = record {
    clock = λ w. refl;
    timers_are = λ w. refl;
    cpus_are = count_seen;
    levels_are = λ w. refl;
    is_placed = λ w c. refl;
    queued = λ w timer. refl;
    has_interrupt = λ w c. refl;
    next_interrupt = λ w. refl;
    looks_after = λ w c level. refl;
    first_event = λ w c. refl;
    successor = λ w c. refl;
    count_queued = λ w c. refl;
    controller = λ w. refl;
    is_online = λ now st w c low was. reads t timers (λ x. x.online) now st w c low was;
    is_idle = λ now st w c low was. reads t timers (λ x. x.idle) now st w c low was;
    wakeup = λ now st w c low was. reads t timers (λ x. x.wakeup) now st w c low was;
    cover = λ now w c low was. sym (covers_alike w (rests resting w was.in_play) c);
    hands_on = λ now c w low was. sym was.waits;
    named = λ now due c level n tried w low was.
        sym (names law walks t timers end in_time now due c level n tried w was);
    takes = λ now due c level n tried d w low is was.
        sym (can_take law walks t timers end in_time now due c level n tried w was d is);
    at_clock = λ next w. refl;
    entered = λ now due c w low is was.
        (entered_plays law walks t timers end in_time now due c w low is was).state;
    drained = λ now due c k w low few was.
        sees_own law walks t timers end in_time now due c k w low few was;
    ran = λ now due c k w a low few fits none was.
        placed (inside c) w c a
        (arms_own law walks t timers end in_time now due c k w low few was a fits none);
    taken = λ now due c level n tried d w low is takes was.
        (takes_plays law walks t timers end in_time now due c level n tried w was d is low).state;
    drained_for = λ now due c level n tried d w low was.
        sees_for law walks t timers end in_time now due c level n tried d w low was;
    ran_for = λ now due c level n tried d w a low fits none was.
        placed (serving c d) w c a
        (arms_for law walks t timers end in_time now due c level n tried d w low was a fits none);
    let_go = λ now due c level n tried d w low was.
        (lets_go_plays law walks t timers end in_time now due c level n tried d w low was).state;
    ended = λ now due c w low is was.
        (ended_plays law walks t timers end in_time now due c w low is was).state;
    armed = λ now c w a low few short online busy none was.
        placed resting w c a
        (arms law walks t timers end in_time now w was c low online busy a few short none);
    cancelled = λ now c w held a low few online busy is was.
        (cancel law walks t timers end in_time now w was c low online busy a held few
        is).state;
    idled = λ now c w low online busy later was.
        (idles law walks t timers end in_time now w was c low online busy later).state;
    woken = λ now c w low online idle was.
        (wakes law walks t timers end in_time now w was c low online idle).state;
    come_online = λ now c w low offline was.
        (comes law walks t timers end in_time now w was c low offline).state;
    gone_offline = λ now c w low online busy none was.
        (goes law walks t timers end in_time now w was c low online busy none).plays.state;
    handed_on = λ now c d w low waits is was.
        (hands_plays law walks t timers end in_time now w c low was waits d is).state;
    controlling = λ now from d w low offline is was.
        (controls law walks t timers end in_time now w was from low offline d is).state;
    moved = λ now from to n w m low is was.
        sees_moved law walks t timers end in_time now w from to n low was m is;
    moved_none = λ now from to n w low none was.
        sees_none law walks t timers end in_time now w from to n low was none;
  }
