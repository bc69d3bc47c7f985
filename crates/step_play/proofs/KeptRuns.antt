-- the rules of steps keep that the core is reached by their runs
use Rattle.std.proofs.Common.{◌≡◌, ℕ, zero, suc, ◌<◌, ◌≤◌, List, [], ◌∷◌, Bool, true, false}
use Rattle.std.proofs.Common.{arith, refl}
use Rattle.std.specs.Prelude.{All, ◌≢◌, ◌==◌}
use Rattle.std.proofs.lemmas.Bool.{eqb-false}
use Rattle.tm_base.specs.declared.limits.TheConstants.{SCRIPT_TIME_LIMIT}
use Rattle.tm_script.specs.declared.syntax.Moment.{Moment}
use Rattle.tree_plan.specs.Shape.{Shape}
use Rattle.tree_plan.specs.Paths.{cpu_count_of, level_count_of}
use Rattle.play_rules.specs.Interrupts.{Replies, having_interrupt}
use Rattle.play_rules.specs.Moments.{Turn, moments_after, next_moment, turn, turn_then, turns}
use Rattle.play_laws.proofs.Shape.Shape.{KeptByRules, Stage, begun, between}
use Rattle.play_laws.proofs.Shape.ShapeTurns.{IsMomentIn, Rise, after_in, after_rise, moment_kept}
use Rattle.play_laws.proofs.Shape.ShapeTurns.{next_is}
use Rattle.core_world.specs.declared.step.Step.TheVariants as steps
use Rattle.core_world.specs.Frames.{SizesStay}
use Rattle.core_world.specs.Lists.{IsRun}
use Rattle.core_world.specs.World.{World}
use Rattle.core_facts.specs.core_laws.Laws.{StepsStayLawful}
use Rattle.step_play.specs.Rules.Runs.{RuleRun, RuleRuns, TurnRun, TurnsAreRuns}
use Rattle.step_play.specs.Rules.Runs as runs
use Rattle.step_play.specs.Rules.StepRules.{step_rules}
use Rattle.step_play.specs.SamePlay.{Walks}
use Rattle.step_play.proofs.Kept.{steps_keep}
use Rattle.step_play.proofs.StageRuns.{arms_by_run, cancels_by_run, clock_runs, comes_by_run}
use Rattle.step_play.proofs.StageRuns.{control_runs, ends_by_run, enter_runs, goes_by_run}
use Rattle.step_play.proofs.StageRuns.{hands_by_run, idles_by_run, lets_go_by_run, moves_by_run}
use Rattle.step_play.proofs.StageRuns.{own_arm_runs, own_drain_runs, serve_arm_runs}
use Rattle.step_play.proofs.StageRuns.{serve_drain_runs, take_runs, wakes_by_run}
use Rattle.step_play.proofs.Stages.{MayArm, Stands}

module _ (law : StepsStayLawful) (sizes : SizesStay) (walks : Walks) (t : Shape)
    (timers end : ℕ) (in_time : end < SCRIPT_TIME_LIMIT) where
  abbrev Rules : ((now : ℕ) → Stage → World → Type 0) → Type 0
  Rules P = KeptByRules step_rules (cpu_count_of t) timers (level_count_of t) end (MayArm timers) P

  abbrev keeps : Rules (Stands t timers)
  keeps = steps_keep law walks t timers end in_time

  -- in the moment of a time, or later; and in that moment runs of the rules lead there
  pub record Since (time : ℕ) (from : World) (now : ℕ) (w : World) : Type 0 where
    pub late : time ≤ now
    pub run : now ≤ time → RuleRuns from w

  -- the core stands at its stage besides
  abbrev Reached : (time : ℕ) (from : World) (now : ℕ) → Stage → World → Type 0
  Reached time from now st w = Stands t timers now st w × Since time from now w

  module _ (time : ℕ) (from : World) where
    -- one more run of a rule
    and_then : (now : ℕ) (w v : World) → Since time from now w → RuleRun w v → Since time from now v
    and_then now w v since run = record {
      late = since.late;
      run = λ early. runs.goes_on w v (since.run early) run;
    }

  -- EACH RULE keeps it
  pub steps_run : (time : ℕ) (from : World) → Rules (Reached time from)
  steps_run time from = record {
    clock = λ now w was. keeps.clock now w was.0;
    all_cpus = λ now due w was. keeps.all_cpus now due w was.0;
    all_levels = λ now due c w low was. keeps.all_levels now due c w low was.0;
    comes = λ now next w was later by_end no_later. (
      keeps.comes now next w was.0 later by_end no_later,
      record {
        late = (let since = was.1.late in omega (arith, since, later));
        run = λ early. absurd (let since = was.1.late in omega (arith, since, later, early));
      },
    );
    passed = λ now due c w low is was. (keeps.passed now due c w low is was.0, was.1);
    entered = λ now due c w low is was. (
      keeps.entered now due c w low is was.0,
      and_then time from now w _ was.1
          (enter_runs law sizes walks t timers end in_time now w due c low is was.0),
    );
    drained = λ now due c k w low few was. (
      keeps.drained now due c k w low few was.0,
      and_then time from now w _ was.1
          (own_drain_runs law sizes walks t timers end in_time now w due c low k was.0),
    );
    known = λ now due c k w low few was. keeps.known now due c k w low few was.0;
    ran = λ now due c k w a low few fits none was. (
      keeps.ran now due c k w a low few fits none was.0,
      and_then time from now w _ was.1
          (own_arm_runs law sizes walks t timers end in_time now w due c low k was.0 a fits none),
    );
    drained_all = λ now due c w low was. (keeps.drained_all now due c w low was.0, was.1);
    looks = λ now due c level w low below is was.
        (keeps.looks now due c level w low below is was.0, was.1);
    looks_not = λ now due c level w low below is was.
        (keeps.looks_not now due c level w low below is was.0, was.1);
    top_looked = λ now due c w low was. (keeps.top_looked now due c w low was.0, was.1);
    named_none = λ now due c level n tried w low none was.
        (keeps.named_none now due c level n tried w low none was.0, was.1);
    none_left = λ now due c level tried w low was.
        (keeps.none_left now due c level tried w low was.0, was.1);
    left_alone = λ now due c level n tried d w low is left was.
        (keeps.left_alone now due c level n tried d w low is left was.0, was.1);
    taken = λ now due c level n tried d w low is takes was. (
      keeps.taken now due c level n tried d w low is takes was.0,
      and_then time from now w _ was.1
          (take_runs law sizes walks t timers end in_time now w due c low level
          n tried d was.0 is),
    );
    drained_for = λ now due c level n tried d w low was. (
      keeps.drained_for now due c level n tried d w low was.0,
      and_then time from now w _ was.1
          (serve_drain_runs law sizes walks t timers end in_time now w due c low
          level n tried d was.0),
    );
    known_for = λ now due c level n tried d w low was.
        keeps.known_for now due c level n tried d w low was.0;
    ran_for = λ now due c level n tried d w a low fits none was. (
      keeps.ran_for now due c level n tried d w a low fits none was.0,
      and_then time from now w _ was.1
          (serve_arm_runs law sizes walks t timers end in_time now w due c low
          level n tried d was.0 a fits none),
    );
    let_go = λ now due c level n tried d w low was. (
      keeps.let_go now due c level n tried d w low was.0,
      and_then time from now w _ was.1
          (lets_go_by_run law sizes walks t timers end in_time now w due c low
          level n tried d was.0),
    );
    ended = λ now due c w low is was. (
      keeps.ended now due c w low is was.0,
      and_then time from now w _ was.1
          (ends_by_run law sizes walks t timers end in_time now w due c low was.0),
    );
    interrupted = λ now due w was. (keeps.interrupted now due w was.0, was.1);
    armed = λ now c w a low few short online busy none was. (
      keeps.armed now c w a low few short online busy none was.0,
      and_then time from now w _ was.1
          (arms_by_run law sizes walks t timers end in_time now w was.0 c low
          online busy a few short none),
    );
    cancelled = λ now c w held a low few online busy is was. (
      keeps.cancelled now c w held a low few online busy is was.0,
      and_then time from now w _ was.1
          (cancels_by_run law sizes walks t timers end in_time now w was.0 c low
          a held few.1 is),
    );
    idled = λ now c w low online busy later was. (
      keeps.idled now c w low online busy later was.0,
      and_then time from now w _ was.1
          (idles_by_run law sizes walks t timers end in_time now w was.0 c low
          online busy later),
    );
    woken = λ now c w low online idle was. (
      keeps.woken now c w low online idle was.0,
      and_then time from now w _ was.1
          (wakes_by_run law sizes walks t timers end in_time now w was.0 c low
          online idle),
    );
    come_online = λ now c w low offline was. (
      keeps.come_online now c w low offline was.0,
      and_then time from now w _ was.1
          (comes_by_run law sizes walks t timers end in_time now w was.0 c low
          offline),
    );
    gone_offline = λ now c w low online busy none was. (
      keeps.gone_offline now c w low online busy none was.0,
      and_then time from now w _ was.1
          (goes_by_run law sizes walks t timers end in_time now w was.0 c low
          online busy none),
    );
    keeps_on = λ now c w low none was. (keeps.keeps_on now c w low none was.0, was.1);
    no_successor = λ now c w low waits none was.
        (keeps.no_successor now c w low waits none was.0, was.1);
    handed_on = λ now c d w low waits is was. (
      keeps.handed_on now c d w low waits is was.0,
      and_then time from now w _ was.1
          (hands_by_run law sizes walks t timers end in_time now w c low was.0
          waits d is),
    );
    controlling = λ now home d w low offline is was. (
      keeps.controlling now home d w low offline is was.0,
      record {
        late = was.1.late;
        run = λ early. control_runs law sizes walks t timers end in_time now w was.0 d is _
            (was.1.run early);
      },
    );
    moved = λ now home to n w m low is was. (
      keeps.moved now home to n w m low is was.0,
      and_then time from now w _ was.1
          (moves_by_run law sizes walks t timers end in_time now w home to n low
          was.0 m is),
    );
    moved_none = λ now from to n w low none was.
        (keeps.moved_none now from to n w low none was.0, was.1);
    all_moved = λ now from to w low was. (keeps.all_moved now from to w low was.0, was.1);
  }

  -- MOMENT BY MOMENT
  module _ (jobs : Replies) where
    -- a core at rest, from which the clock comes to a moment that is to be played
    pub record Playing (now : ℕ) (ms : List Moment) (w : World) : Type 0 where
      pub known : All (IsMomentIn (cpu_count_of t) timers) ms
      pub rise : Rise now end ms
      pub low : now ≤ end
      pub due : Stands t timers now
          (begun (having_interrupt step_rules (step_rules.at_clock now w)) 0)
          (step_rules.at_clock now w)
      pub clock : IsRun (steps.Clock now ∷ []) w (step_rules.at_clock now w)

    one_turn : (now : ℕ) (ms : List Moment) (w : World) → Playing now ms w →
        Reached now (step_rules.at_clock now w) now between
        (turn jobs step_rules ms now w).played.state
    one_turn now ms w p =
        let v = step_rules.at_clock now w in
        moment_kept jobs step_rules (cpu_count_of t) timers (level_count_of t) end (Reached now v)
        (MayArm timers) (steps_run now v) now ms v p.known
        (p.due, record { late = omega arith; run = λ early. runs.stays v refl })

    then_run : (is_last : Bool) (rest : World → List (Turn World)) (w : World) (u : Turn World) →
        TurnRun w u →
        (is_last ≡ false → TurnsAreRuns u.played.state (rest u.played.state)) →
        TurnsAreRuns w (turn_then is_last rest u)
    then_run true rest w u here there = (here, tt)
    then_run false rest w u here there = (here, there refl)

    pub turns_run : (n now : ℕ) (ms : List Moment) (w : World) → Playing now ms w →
        TurnsAreRuns w (turns jobs step_rules n end now ms w)
    unfolding turns
    turns_run zero now ms w p = tt
    turns_run (suc n) now ms w p =
        let here = turn jobs step_rules ms now w in
        let v = here.played.state in
        let left = moments_after now ms in
        let after = one_turn now ms w p in
        then_run (now == end)
        (λ u. turns jobs step_rules n end (next_moment step_rules end left u) left u) w here
        (record { clock = p.clock; rules = after.1.run (omega arith) })
        (λ more.
        let apart : now ≢ end = eqb-false now end more in
        let at = p.low in
        let to = next_moment step_rules end left v in
        let next = next_is jobs step_rules (cpu_count_of t) timers (level_count_of t) end
        (Stands t timers) (MayArm timers) keeps now left v (after_rise now end ms p.rise)
        (omega (arith, at, apart)) (keeps.clock now v after.0) in
        turns_run n to left v (record {
          known = after_in (IsMomentIn (cpu_count_of t) timers) now ms p.known;
          rise = next.rise;
          low = next.by_the_end;
          due = keeps.comes now to v after.0 next.later next.by_the_end next.no_later;
          clock = clock_runs law sizes walks t timers end in_time now v to after.0 next.later
              next.by_the_end;
        }))
