-- for crates above: each operation by steps, at its stage
use Rattle.std.proofs.Common.{◌≡◌, ℕ, suc, ◌+◌, ◌^◌, ◌<◌, true, false, length, Some, None}
use Rattle.std.proofs.Common.{refl, sym, ap, ◌∙◌, subst, arith, inl}
use Rattle.std.specs.Prelude.{◌&&◌, if◌then◌else◌, is_some, nat_le, not}
use Rattle.std.proofs.lemmas.Bool.{false≢true}
use Rattle.tm_base.specs.declared.limits.TheConstants.{SCRIPT_TIME_LIMIT}
use Rattle.tree_plan.specs.Shape.{Shape}
use Rattle.tree_plan.specs.Paths.{cpu_count_of, is_placed_in, level_count_of}
use Rattle.play_rules.specs.declared.asks.Arming.{Arming}
use Rattle.play_rules.specs.declared.asks.Cancelling.{Cancelling}
use Rattle.play_rules.specs.declared.asks.Queued.{Queued}
use Rattle.play_rules.specs.Hierarchy.{come_online, first_event, gone_offline, idled, woken}
use Rattle.play_rules.specs.Hierarchy.{with_migrators, woken_migrator}
use Rattle.play_rules.specs.Operations.{last_online}
use Rattle.play_rules.specs.Play.{hands_on, plain_rules, successor}
use Rattle.play_rules.specs.Rules.{Moved}
use Rattle.play_rules.specs.State.{Cpu, State, cpu_at, cpu_count}
use Rattle.play_rules.specs.Timers.{armed_on, cancelled_on, controller, controlling, moved_first}
use Rattle.play_rules.specs.Timers.{moved_one, where_queued}
use Rattle.play_laws.proofs.Answered.Hotplug.{hands_placed}
use Rattle.play_laws.proofs.Answered.Plays.{rules_keep}
use Rattle.play_laws.proofs.Answered.Settles.{Settles}
use Rattle.play_laws.proofs.Answered.States.{written_alike}
use Rattle.play_laws.proofs.Answered.Timers.{queued_low}
use Rattle.play_laws.proofs.Shape.Alike.{moved_seen}
use Rattle.play_laws.proofs.Shape.Shape.{KeptByRules, between, leaving, moving}
use Rattle.core_world.specs.World.{World, cpu_of, is_active}
use Rattle.core_facts.specs.core_laws.Laws.{StepsStayLawful}
use Rattle.step_play.specs.Rules.Alike.{GoesAlike, Plays}
use Rattle.step_play.specs.Rules.Seen.{InPlay, handing, resting, state_of}
use Rattle.step_play.specs.Rules.StepRules.{armed_by_steps, cancelled_by_steps, come_by_steps}
use Rattle.step_play.specs.Rules.StepRules.{gone_by_steps, handed_on_by_steps, idled_by_steps}
use Rattle.step_play.specs.Rules.StepRules.{is_waiting, made_active, moved_by_steps, step_rules}
use Rattle.step_play.specs.Rules.StepRules.{woken_by_steps}
use Rattle.step_play.proofs.Queues.Sights.{count_seen}
use Rattle.step_play.specs.SamePlay.{Walks}
use Rattle.step_play.proofs.Acts.{arm_plays, cancel_plays}
use Rattle.step_play.proofs.Hotplug.{active_plays, handed_plays, head_is, may_go, may_idle}
use Rattle.step_play.proofs.Hotplug.{may_wake, read, runs}
use Rattle.step_play.proofs.Interrupted.{of_either}
use Rattle.step_play.proofs.Moves.{Finds, finds, move_online, move_plays, moves_none, moves_some}
use Rattle.step_play.proofs.Stages.{At, Leaving, Moving, from_play, in_core, played, restaged}
use Rattle.step_play.proofs.Worlds.{free_in}

-- who takes control leaves who is online
pub control_online : (s : State) (d : ℕ) → d < cpu_count s → (e : ℕ) →
    (cpu_at (controlling s d) e).online ≡ (cpu_at s e).online
control_online s d low e =
    of_either (λ (x : State). (cpu_at x e).online) (cpu_at s d).idle (woken s d) s
    (written_alike (with_migrators s (woken_migrator s d)) d _ low (λ (x : Cpu). x.online) refl e)

module _ (law : StepsStayLawful) (walks : Walks) (t : Shape)
    (timers end : ℕ) (in_time : end < SCRIPT_TIME_LIMIT) (now : ℕ) (w : World) where
  abbrev rules : KeptByRules plain_rules (cpu_count_of t) timers (level_count_of t) end (λ a. Unit {0})
      (Settles t)
  rules = rules_keep t timers end in_time

  abbrev s : State
  s = state_of w

  module _ (was : At t timers now between resting w) (c : ℕ) (low : c < cpu_count_of t) where
    abbrev i : InPlay resting w
    i = was.in_play

    pub here : c < length w.cpus
    here = in_core t timers now between resting w was c low

    -- an active CPU
    module _ (online : (cpu_of w c).online ≡ true) (busy : (cpu_of w c).idle ≡ false) where
      on : (cpu_at s c).online ≡ true
      on = read w (λ x. x.online) c here ∙ online

      awake : (cpu_at s c).idle ≡ false
      awake = read w (λ x. x.idle) c here ∙ busy

      module _ (a : Arming) (known : a.timer.0 < timers) (short : a.delay < 2 ^ 32)
          (none : where_queued s a.timer.0 ≡ None) where
        pub arms : Plays resting (armed_by_steps w c a).state (armed_on s c a).state
        arms =
            let many = was.many in
            let clock = was.clock in
            let early = was.early in
            arm_plays law resting w i c a (free_in resting w c i.in_run refl here) online
            (inl (runs w c online busy)) (omega (arith, known, many)) short
            (omega (arith, clock, early)) none

        pub armed : At t timers now between resting (armed_by_steps w c a).state
        armed =
            played t timers now between resting w was between resting (armed_by_steps w c a).state
            (armed_on s c a).state arms
            (rules.armed now c s a low known short on awake none was.settles) refl refl refl

      module _ (a : Cancelling) (held : Queued)
          (known : (a.timer.0 < timers) × (a.by.0 < cpu_count_of t))
          (is : where_queued s a.timer.0 ≡ Some held) where
        pub cancel : Plays resting (cancelled_by_steps w held.cpu.0 a)
            (cancelled_on s held.cpu.0 a)
        cancel =
            cancel_plays law resting w i a held is
            (free_in resting w held.cpu.0 i.in_run refl
            (from_play t timers now between resting w was held.cpu.0
            (queued_low s a.timer.0 held is)))
            (in_core t timers now between resting w was a.by.0 known.1)

        pub cancelled : At t timers now between resting (cancelled_by_steps w held.cpu.0 a)
        cancelled =
            played t timers now between resting w was between resting
            (cancelled_by_steps w held.cpu.0 a) (cancelled_on s held.cpu.0 a) cancel
            (rules.cancelled now c s held a low known on awake is was.settles) refl refl refl

      module _ (later : nat_le (first_event s c) (w.clock + 1) ≡ false) where
        pub idles : Plays resting (idled_by_steps w c) (idled s c)
        idles = walks.tell.idles w c i (may_idle w i.in_run c here online busy later)

        pub idle : At t timers now between resting (idled_by_steps w c)
        idle =
            played t timers now between resting w was between resting (idled_by_steps w c)
            (idled s c) idles (rules.idled now c s low on awake later was.settles) refl refl refl

      module _ (none : last_online step_rules w c ≡ None) where
        pub goes : GoesAlike w c
        goes = walks.tell.goes w c i (may_go w i.in_run c here online busy none)

        pub gone : Leaving t timers now c (gone_by_steps w c)
        gone = record {
          at = played t timers now between resting w was (leaving c)
              (if is_waiting (gone_by_steps w c) c then handing c else resting) (gone_by_steps w c)
              (gone_offline s c) goes.plays
              (rules.gone_offline now c s low on awake none was.settles) refl refl refl;
          waits = goes.waits ∙ ap (λ x. hands_on x c) (sym goes.plays.state);
        }

    -- an idle CPU
    module _ (online : (cpu_of w c).online ≡ true) (idle : (cpu_of w c).idle ≡ true) where
      pub wakes : Plays resting (woken_by_steps w c) (woken s c)
      wakes = walks.wakes resting w c i (may_wake resting w i.in_run c here refl online idle)

      pub woke : At t timers now between resting (woken_by_steps w c)
      woke =
          played t timers now between resting w was between resting (woken_by_steps w c) (woken s c)
          wakes
          (rules.woken now c s low (read w (λ x. x.online) c here ∙ online)
          (read w (λ x. x.idle) c here ∙ idle) was.settles) refl refl refl

    -- one that is offline
    module _ (offline : (cpu_of w c).online ≡ false) where
      off : (cpu_at s c).online ≡ false
      off = read w (λ x. x.online) c here ∙ offline

      pub comes : Plays resting (come_by_steps w c) (come_online s c)
      comes = walks.comes w c i (record {
        is_free = free_in resting w c i.in_run refl here;
        offline = offline;
      })

      pub came : At t timers now between resting (come_by_steps w c)
      came =
          played t timers now between resting w was between resting (come_by_steps w c)
          (come_online s c) comes (rules.come_online now c s low off was.settles) refl refl refl

      -- and whose timers are to move
      module _ (d : ℕ) (is : controller s ≡ Some d) where
        pub controls : Plays resting (made_active w d) (controlling s d)
        controls =
            let to = head_is w d is in
            active_plays walks.wakes resting w i d to.low refl to.online

        pub control : (n : ℕ) → Moving t timers now c d (moving c d n) (made_active w d)
        control n =
            let to = head_is w d is in
            let v = made_active w d in
            let b = (cpu_at s d).idle in
            let at = played t timers now between resting w was (moving c d n) resting v
            (controlling s d) controls (rules.controlling now c d s low off is was.settles)
            (of_either (λ (x : State). x.tree) b (woken s d) s refl)
            (of_either (λ (x : State). x.clock) b (woken s d) s refl)
            (of_either (λ (x : State). x.timers) b (woken s d) s refl) in
            record {
              at = at;
              offline =
                  sym (read v (λ x. x.online) c (in_core t timers now (moving c d n) resting v at c
                  low))
                  ∙ (ap (λ (x : State). (cpu_at x c).online) controls.state
                  ∙ (control_online s d
                  (let some = to.low in let count = count_seen w in omega (arith, some, count)) c
                  ∙ off));
              placed = ap (λ x. is_placed_in x d) (sym was.tree) ∙ to.placed;
            }

  -- OFFLINE, and what there is to hand on
  module _ (c : ℕ) (low : c < cpu_count_of t) (was : Leaving t timers now c w) where
    pub keeps_on : is_waiting w c ≡ false → At t timers now between resting w
    keeps_on none =
        restaged t timers now (leaving c) resting w
        (subst (λ b. At t timers now (leaving c) (if b then handing c else resting) w) none was.at)
        between (rules.keeps_on now c s low (sym was.waits ∙ none) was.at.settles)

    module _ (waits : is_waiting w c ≡ true) where
      at : At t timers now (leaving c) (handing c) w
      at =
          subst (λ b. At t timers now (leaving c) (if b then handing c else resting) w) waits was.at

      hands : hands_on s c ≡ true
      hands = sym was.waits ∙ waits

      pub no_successor : successor s c ≡ None → At t timers now between resting w
      no_successor none =
          absurd (false≢true (sym (ap is_some none)
          ∙ at.settles.others (hands_placed s c at.settles.kept hands)))

      module _ (d : ℕ) (is : successor s c ≡ Some d) where
        pub hands_plays : Plays resting (handed_on_by_steps w c d) (woken s d)
        hands_plays =
            handed_plays law walks.wakes w c d at.in_play
            (in_core t timers now (leaving c) (handing c) w at c low) hands is

        pub handed : At t timers now between resting (handed_on_by_steps w c d)
        handed =
            played t timers now (leaving c) (handing c) w at between resting
            (handed_on_by_steps w c d) (woken s d) hands_plays
            (rules.handed_on now c d s low hands is at.settles) refl refl refl

  -- MOVING
  module _ (from to n : ℕ) (low : from < cpu_count_of t)
      (was : Moving t timers now from to (moving from to (suc n)) w) where
    here_from : from < length w.cpus
    here_from = in_core t timers now (moving from to (suc n)) resting w was.at from low

    here_to : to < length w.cpus
    here_to = from_play t timers now (moving from to (suc n)) resting w was.at to was.at.settles.low

    active : is_active (cpu_of w to) ≡ true
    active = sym (read w (λ x. x.online && not x.idle) to here_to) ∙ was.at.settles.active

    placed : is_placed_in w.tree to ≡ true
    placed = ap (λ x. is_placed_in x to) was.at.tree ∙ was.placed

    module _ (m : Moved World) (is : step_rules.moved w from to ≡ Some m) where
      f : Finds w from to here_from m
      f = finds w from to here_from m is

      moving_plays : Plays resting (moved_by_steps w from to f.found).state
          (moved_one s from to f.found).state
      moving_plays =
          move_plays law w was.at.in_play from to here_from was.offline placed active f.found.0
          f.found.1 f.first

      pub sees_moved : moved_first s from to ≡ Some (moved_seen state_of m)
      sees_moved = moves_some w from to here_from m f moving_plays.state

      moves_settled : Settles t now (moving from to n) (state_of m.state)
      moves_settled =
          rules.moved now from to n s (moved_seen state_of m) low sees_moved was.at.settles

      one_moved : Moving t timers now from to (moving from to n)
          (moved_by_steps w from to f.found).state
      one_moved = record {
        at = played t timers now (moving from to (suc n)) resting w was.at (moving from to n)
            resting (moved_by_steps w from to f.found).state (moved_one s from to f.found).state
            moving_plays
            (subst (Settles t now (moving from to n))
            (ap (λ (x : Moved World). state_of x.state) (sym f.made) ∙ moving_plays.state)
            moves_settled) refl refl refl;
        offline =
            move_online law w was.at.in_play.in_run from to here_from was.offline placed active
            f.found.0 f.found.1 f.first from ∙ was.offline;
        placed = was.placed;
      }

      pub moves : Moving t timers now from to (moving from to n) m.state
      moves =
          subst (λ (x : Moved World). Moving t timers now from to (moving from to n) x.state) f.made
          one_moved

    pub sees_none : step_rules.moved w from to ≡ None → moved_first s from to ≡ None
    sees_none none = moves_none w from to here_from none
