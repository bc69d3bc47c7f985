-- for crates above: what a rule of steps makes at its stage, it makes by a run
use Rattle.std.proofs.Common.{◌≡◌, ℕ, suc, ◌+◌, ◌<◌, ◌≤◌, true, false, length, [], ◌∷◌}
use Rattle.std.proofs.Common.{Some, None, refl, sym, ap, ◌∙◌, subst, arith, inl, inr}
use Rattle.std.specs.Prelude.{◌&&◌, ◌==◌, ◌^◌, if◌then◌else◌, nat_le, not}
use Rattle.std.specs.Ordering.{nat_cmp}
use Rattle.std.specs.FinSet as set
use Rattle.std.proofs.lemmas.Bool.{and_parts, cases_Bool, cond-false, cond-true, eq-eqb, ne_eqb}
use Rattle.std.proofs.lemmas.List.{length-set}
use Rattle.tm_base.specs.declared.limits.TheConstants.{SCRIPT_TIME_LIMIT}
use Rattle.tm_base.specs.declared.names.TheConstants.{NEVER}
use Rattle.tm_base.specs.declared.names.Class.TheVariants.{Global}
use Rattle.tree_plan.specs.Shape.{Shape}
use Rattle.tree_plan.specs.Paths.{cpu_count_of, is_placed_in}
use Rattle.tree_plan.proofs.Below.{placed_laws}
use Rattle.play_rules.specs.declared.asks.Arming.{Arming}
use Rattle.play_rules.specs.declared.asks.Cancelling.{Cancelling}
use Rattle.play_rules.specs.declared.asks.Queued.{Queued}
use Rattle.play_rules.specs.Hierarchy.{first_event}
use Rattle.play_rules.specs.Interrupts.{cpu_id}
use Rattle.play_rules.specs.Operations.{last_online}
use Rattle.play_rules.specs.Play.{successor}
use Rattle.play_rules.specs.Rules.{Moved}
use Rattle.play_rules.specs.State.{State, cpu_at}
use Rattle.play_rules.specs.Timers.{controller, where_queued}
use Rattle.play_laws.proofs.Answered.Timers.{queued_low}
use Rattle.play_laws.proofs.Shape.Shape.{between, begun, leaving, looked, looking, moving}
use Rattle.play_laws.proofs.Shape.Shape.{nth_class, own, running, taking}
use Rattle.core_world.specs.declared.step.Step.TheVariants as steps
use Rattle.core_world.specs.Enabled.{IsFree}
use Rattle.core_world.specs.Frames.{SizesStay}
use Rattle.core_world.specs.Lists.{IsRun}
use Rattle.core_world.specs.Steps.{stepped}
use Rattle.core_world.specs.World.{World, cpu_of}
use Rattle.core_facts.specs.core_laws.Laws.{StepsStayLawful}
use Rattle.step_play.specs.Rules.Lone.{IsRunOf}
use Rattle.step_play.specs.Rules.Runs.{RuleRun, RuleRuns}
use Rattle.step_play.specs.Rules.Runs as runs
use Rattle.step_play.specs.Rules.Seen.{InRun, Phase, handing, inside, resting, serving, state_of}
use Rattle.step_play.specs.Rules.StepRules.{armed_by_steps, cancelled_by_steps, drained_by_steps}
use Rattle.step_play.specs.Rules.StepRules.{ended_by_steps, handed_on_by_steps, is_waiting}
use Rattle.step_play.specs.Rules.StepRules.{let_go_by_steps, made_active, named_by_queue}
use Rattle.step_play.specs.Rules.StepRules.{step_rules, woken_by_steps}
use Rattle.step_play.specs.SamePlay.{Walks}
use Rattle.step_play.proofs.Queues.Sights.{count_seen}
use Rattle.step_play.proofs.Hotplug.{head_is, heir_idle, may_go, may_idle, may_wake, next_is, read}
use Rattle.step_play.proofs.Hotplug.{runs as is_running, woken_active}
use Rattle.step_play.proofs.Interrupted.{may_time}
use Rattle.step_play.proofs.Looking.{can_take}
use Rattle.step_play.proofs.Moves.{finds, may_move}
use Rattle.step_play.proofs.Running.{arm_runs, cancel_runs, drain_runs, end_runs, let_go_runs}
use Rattle.step_play.proofs.Running.{lone, one_run}
use Rattle.step_play.proofs.Stages.{At, Inside, Leaving, Looking, MayArm, Moving, Running, Serving}
use Rattle.step_play.proofs.Stages.{from_play, in_core}
use Rattle.step_play.proofs.Takes.{may_enter, may_hand_on, may_take}
use Rattle.step_play.proofs.WalkRuns.{begun_run}
use Rattle.step_play.proofs.Worlds.{free_in}

module _ (law : StepsStayLawful) (sizes : SizesStay) (walks : Walks) (t : Shape) (timers end : ℕ)
    (in_time : end < SCRIPT_TIME_LIMIT) (now : ℕ) (w : World) where
  -- THE CLOCK
  pub clock_runs : (next : ℕ) → At t timers now between resting w → now < next → next ≤ end →
      IsRun (steps.Clock next ∷ []) w (step_rules.at_clock next w)
  clock_runs next was later by_end =
      let is = was.clock in
      one_run (steps.Clock next) w
      (may_time law next w (omega (arith, is, later)) (omega (arith, by_end, in_time)))

  -- AN INTERRUPT
  module _ (due : set.FinSet nat_cmp) (c : ℕ) (low : c < cpu_count_of t) where
    pub enter_runs : set.contains due c ≡ true → At t timers now (begun due c) resting w →
        RuleRun w (step_rules.entered w c)
    enter_runs called was =
        let here = in_core t timers now (begun due c) resting w was c low in
        runs.entered c refl
        (one_run (steps.Enter (cpu_id c)) w
        (may_enter w c was.in_play.in_run
        (sym (read w (λ x. x.online) c here) ∙ was.settles.online c called)))

    pub own_drain_runs : (k : ℕ) → Inside t timers now due c (own due c k) w →
        RuleRun w (drained_by_steps w c (nth_class k) c).state
    own_drain_runs k was =
        drain_runs law (inside c) w was.at.in_play.in_run c (nth_class k) c
        (free_in (inside c) w c was.at.in_play.in_run refl
        (in_core t timers now (own due c k) (inside c) w was.at c low))
        (inl (refl, was.at.in_play.in_run.inside c ∙ eq-eqb c c refl))

    pub own_arm_runs : (k : ℕ) → Inside t timers now due c (own due c (k + 1)) w → (a : Arming) →
        MayArm timers a → where_queued (state_of w) a.timer.0 ≡ None →
        RuleRun w (armed_by_steps w c a).state
    own_arm_runs k was a fits none =
        let here = in_core t timers now (own due c (k + 1)) (inside c) w was.at c low in
        let clock = was.at.clock in
        let early = was.at.early in
        let many = was.at.many in
        let known = fits.0 in
        arm_runs law (inside c) w was.at.in_play.in_run c a
        (free_in (inside c) w c was.at.in_play.in_run refl here)
        (sym (read w (λ x. x.online) c here) ∙ was.at.settles.online c was.called)
        (inr (was.at.in_play.in_run.inside c ∙ eq-eqb c c refl)) (omega (arith, known, many)) fits.1
        (omega (arith, clock, early)) none

    pub ends_by_run : Inside t timers now due c (looked due c) w → RuleRun w (ended_by_steps w c)
    ends_by_run was =
        end_runs law sizes w c was.at.in_play.in_run
        (in_core t timers now (looked due c) (inside c) w was.at c low)

    -- A LOOK
    module _ (level n : ℕ) (tried : set.FinSet nat_cmp) (d : ℕ) where
      pub take_runs : Looking t timers now due c (looking due c level (suc n) tried) tried w →
          named_by_queue w c level tried ≡ Some d → RuleRun w (step_rules.taken w c d)
      take_runs was is =
          let i = was.inside.at.in_play.in_run in
          runs.taken c d refl
          (one_run (steps.Take (cpu_id d) (cpu_id c)) w
          (may_take w c d i
          ((placed_laws w.tree i.planned).has_group c was.inside.at.settles.grouped)
          (in_core t timers now (looking due c level (suc n) tried) (inside c) w was.inside.at c
          low)
          (can_take law walks t timers end in_time now due c level n tried w was d is)))

      pub serve_drain_runs : Serving t timers now due c (taking due c level n tried d) tried d w →
          RuleRun w (drained_by_steps w d Global c).state
      serve_drain_runs was =
          let ph = serving c d in
          let i = was.at.in_play.in_run in
          drain_runs law ph w i d Global c
          (free_in ph w d i refl
          (from_play t timers now (taking due c level n tried d) ph w was.at d was.at.settles.low))
          (inr (refl, i.marks d ∙ cond-true (d == d) (Some c) None (eq-eqb d d refl)))

      module _ (was : Running t timers now due c (running due c level n tried d) tried d w) where
        abbrev at : At t timers now (running due c level n tried d) (serving c d) w
        at = was.serving.at

        pub serve_arm_runs : (a : Arming) → MayArm timers a →
            where_queued (state_of w) a.timer.0 ≡ None → RuleRun w (armed_by_steps w c a).state
        serve_arm_runs a fits none =
            let ph = serving c d in
            let i = at.in_play.in_run in
            let here = in_core t timers now (running due c level n tried d) ph w at c low in
            let clock = at.clock in
            let early = at.early in
            let many = at.many in
            let known = fits.0 in
            arm_runs law ph w i c a (free_in ph w c i refl here)
            (sym (read w (λ x. x.online) c here)
            ∙ at.settles.looking.inside.online c was.serving.called)
            (inr (i.inside c ∙ eq-eqb c c refl)) (omega (arith, known, many)) fits.1
            (omega (arith, clock, early)) none

        pub lets_go_by_run : RuleRun w (let_go_by_steps w d)
        lets_go_by_run =
            let low_d = from_play t timers now (running due c level n tried d) (serving c d) w at d
            at.settles.low in
            let parts = and_parts (cpu_at (state_of w) d).online (cpu_at (state_of w) d).idle
            at.settles.sleeps in
            let_go_runs law sizes w c d at.in_play.in_run low_d
            (sym (read w (λ x. x.online) d low_d) ∙ parts.0)
            (sym (read w (λ x. x.idle) d low_d) ∙ parts.1)

  -- OPERATIONS
  module _ (was : At t timers now between resting w) (c : ℕ) (low : c < cpu_count_of t) where
    abbrev i : InRun resting w
    i = was.in_play.in_run

    here : c < length w.cpus
    here = in_core t timers now between resting w was c low

    free : IsFree w c
    free = free_in resting w c i refl here

    module _ (online : (cpu_of w c).online ≡ true) (busy : (cpu_of w c).idle ≡ false) where
      pub arms_by_run : (a : Arming) → a.timer.0 < timers → a.delay < 2 ^ 32 →
          where_queued (state_of w) a.timer.0 ≡ None → RuleRun w (armed_by_steps w c a).state
      arms_by_run a known short none =
          let many = was.many in
          let clock = was.clock in
          let early = was.early in
          arm_runs law resting w i c a free online (inl (is_running w c online busy))
          (omega (arith, known, many)) short (omega (arith, clock, early)) none

      pub idles_by_run : nat_le (first_event (state_of w) c) (w.clock + 1) ≡ false →
          RuleRun w (step_rules.idled w c)
      idles_by_run later =
          runs.idled c refl
          (begun_run law sizes c (steps.Idle (cpu_id c)) w i.lawful here
          (may_idle w i c here online busy later) (lone law resting w i c _))

      pub goes_by_run : last_online step_rules w c ≡ None → RuleRun w (step_rules.gone_offline w c)
      goes_by_run none =
          runs.gone_offline c refl
          (begun_run law sizes c (steps.Offline (cpu_id c)) w i.lawful here
          (may_go w i c here online busy none) (lone law resting w i c _))

    pub cancels_by_run : (a : Cancelling) (held : Queued) → a.by.0 < cpu_count_of t →
        where_queued (state_of w) a.timer.0 ≡ Some held →
        RuleRun w (cancelled_by_steps w held.cpu.0 a)
    cancels_by_run a held by is =
        cancel_runs law resting w i a held is
        (free_in resting w held.cpu.0 i refl
        (from_play t timers now between resting w was held.cpu.0
        (queued_low (state_of w) a.timer.0 held is)))
        (in_core t timers now between resting w was a.by.0 by)

    pub wakes_by_run : (cpu_of w c).online ≡ true → (cpu_of w c).idle ≡ true →
        RuleRun w (woken_by_steps w c)
    wakes_by_run online idle =
        runs.woken c refl
        (begun_run law sizes c (steps.Wake (cpu_id c)) w i.lawful here
        (may_wake resting w i c here refl online idle) (lone law resting w i c _))

    pub comes_by_run : (cpu_of w c).online ≡ false → RuleRun w (step_rules.come_online w c)
    comes_by_run offline =
        runs.come_online c refl
        (begun_run law sizes c (steps.Online (cpu_id c)) w i.lawful here
        (record { is_free = free; offline = offline }) (lone law resting w i c _))

  -- WHO TAKES CONTROL wakes where it is idle
  pub control_runs : At t timers now between resting w → (d : ℕ) →
      controller (state_of w) ≡ Some d → (v : World) → RuleRuns v w → RuleRuns v (made_active w d)
  control_runs was d is v before =
      let i = was.in_play.in_run in
      let to = head_is w d is in
      elim (cases_Bool (cpu_of w d).idle) [
        | inl idle ↦
            runs.goes_on w (made_active w d) before
            (runs.controlling d refl
            (subst (IsRunOf (steps.Wake (cpu_id d)) d w)
            (sym (cond-true (cpu_of w d).idle (woken_by_steps w d) w idle))
            (begun_run law sizes d (steps.Wake (cpu_id d)) w i.lawful to.low
            (may_wake resting w i d to.low refl to.online idle)
            (lone law resting w i d _))))
        | inr busy ↦
            subst (RuleRuns v) (sym (cond-false (cpu_of w d).idle (woken_by_steps w d) w busy))
            before
      ]

  -- HANDING ON
  module _ (c : ℕ) (low : c < cpu_count_of t) (was : Leaving t timers now c w)
      (waits : is_waiting w c ≡ true) (d : ℕ) (is : successor (state_of w) c ≡ Some d) where
    abbrev ph : Phase
    ph = handing c

    left : At t timers now (leaving c) ph w
    left =
        subst (λ b. At t timers now (leaving c) (if b then handing c else resting) w) waits was.at

    abbrev awake : World
    awake = woken_by_steps w d

    pub hands_by_run : RuleRun w (handed_on_by_steps w c d)
    hands_by_run =
        let i = left.in_play in
        let low_c = in_core t timers now (leaving c) ph w left c low in
        let next = next_is w c d is in
        let idle = heir_idle w c d (sym was.waits ∙ waits) next in
        let may = may_wake ph w i.in_run d next.low (ne_eqb d c next.another) next.online idle
        in
        let p = walks.wakes ph w d i may in
        let many = ap (λ (s : State). length s.cpus) p.state in
        let within : c < length awake.cpus =
        (let old = count_seen w in
        let new = count_seen awake in
        let stays = length-set (state_of w).cpus d
        (record (cpu_at (state_of w) d) { idle = false; wakeup = NEVER; told = NEVER }) in
        omega (arith, low_c, many, old, new, stays)) in
        let hand = steps.HandOn (cpu_id c) (cpu_id d) in
        runs.handed_on c d awake refl
        (begun_run law sizes d (steps.Wake (cpu_id d)) w i.in_run.lawful next.low may
        (lone law ph w i.in_run d _))
        (record {
          enabled = (
            may_hand_on awake c d p.in_play.in_run within next.another
                (ap (λ (s : State). is_placed_in s.tree d) p.state ∙ next.placed)
                (woken_active w awake d p.state next.low next.online),
            tt,
          );
          done = ap (λ u. stepped u hand) (cond-true (cpu_of w d).idle awake w idle);
        })

  -- MOVING
  module _ (from to n : ℕ) (low : from < cpu_count_of t)
      (was : Moving t timers now from to (moving from to (suc n)) w) where
    here_from : from < length w.cpus
    here_from = in_core t timers now (moving from to (suc n)) resting w was.at from low

    here_to : to < length w.cpus
    here_to = from_play t timers now (moving from to (suc n)) resting w was.at to was.at.settles.low

    pub moves_by_run : (m : Moved World) → step_rules.moved w from to ≡ Some m → RuleRun w m.state
    moves_by_run m is =
        let f = finds w from to here_from m is in
        runs.moved from to m is refl
        (subst (λ (x : Moved World).
        IsRun (steps.Move (cpu_id from) (cpu_id to) x.mover.timer ∷ []) w x.state) f.made
        (one_run (steps.Move (cpu_id from) (cpu_id to) (record { 0 = f.found.1.id })) w
        (may_move law w was.at.in_play.in_run from to here_from was.offline
        (ap (λ x. is_placed_in x to) was.at.tree ∙ was.placed)
        (sym (read w (λ x. x.online && not x.idle) to here_to) ∙ was.at.settles.active)
        f.found.0 f.found.1 f.first)))
