-- for crates above: timers by steps: a drain, an arming and a cancelling, as Play has them
use Rattle.std.proofs.Common.{◌≡◌, ◌⊎◌, ℕ, ◌+◌, ◌-◌, ◌^◌, ◌<◌, true, length, Some, None}
use Rattle.std.proofs.Common.{refl, sym, ap, ◌∙◌, subst, arith}
use Rattle.std.specs.Prelude.{All}
use Rattle.tm_base.specs.declared.limits.TheConstants.{SCRIPT_TIME_LIMIT}
use Rattle.tm_base.specs.declared.names.Class.{Class}
use Rattle.cpu_bases.specs.declared.entry.Act.TheVariants.{Armed}
use Rattle.wheel_core.specs.PlainBase.{NoneBehind, NoneDue}
use Rattle.cpu_bases.specs.CpuBases.{CpuBases, armed, base_of, cancelled, drained}
use Rattle.cpu_bases.proofs.Drains.{drain_is_whole}
use Rattle.play_rules.specs.declared.asks.Arming.{Arming}
use Rattle.play_rules.specs.declared.asks.Cancelling.{Cancelling}
use Rattle.play_rules.specs.declared.asks.Queued.{Queued}
use Rattle.play_rules.specs.Interrupts.{cpu_id}
use Rattle.play_rules.specs.State as play
use Rattle.play_rules.specs.State.{State}
use Rattle.play_rules.specs.Timers.{armed_on, cancelled_on, drained_on, due_items}
use Rattle.play_rules.specs.Timers.{where_queued}
use Rattle.core_world.specs.declared.step.Step.TheVariants as steps
use Rattle.core_world.specs.Enabled.{IsFree, MayArm, MayCancel, MayRun}
use Rattle.core_world.specs.Lists.{EachEnabled}
use Rattle.core_world.specs.Steps.{with_bases}
use Rattle.core_world.specs.World.{CpuRecord, World, cpu_of, is_active}
use Rattle.core_facts.specs.core_laws.Laws.{StepsStayLawful}
use Rattle.step_play.specs.Rules.Alike.{Plays}
use Rattle.step_play.specs.Rules.Seen.{InPlay, InRun, Phase, state_of}
use Rattle.step_play.specs.Rules.StepRules.{armed_by_steps, cancelled_by_steps, drained_by_steps}
use Rattle.step_play.specs.Rules.StepRules.{hands, items_due}
use Rattle.play_laws.proofs.Shape.Alike.{drained_seen}
use Rattle.step_play.proofs.Bases.{Each, cancelled_whole, drained_whole, due_all, queued_late}
use Rattle.step_play.proofs.Bases.{queued_whole}
use Rattle.step_play.proofs.Drains.{DrainsOut, Rebases, drains}
use Rattle.step_play.proofs.Held.{bases_seen, held_class, nowhere}
use Rattle.step_play.proofs.Worlds.{Bare, bare, bases_fit, bases_shown, dressed, own_is, put_bare}
use Rattle.step_play.proofs.Worlds.{put_else, put_plays, put_same}

-- where the bases of one CPU become these, the core stays in its run
pub rebase_runs : (ph : Phase) (w : World) (c : ℕ) (b : CpuBases) (v : World) → InRun ph w →
    c < length w.cpus → Each NoneBehind b → Rebases w c b v → InRun ph v
rebase_runs ph w c b v i low whole r =
    dressed ph v (subst (Bare ph) (sym r.is)
    (put_bare ph ph w c (with_bases (cpu_of w c) b) low (bare ph w i)
    (bases_fit ph w c b (bare ph w i) whole))) r.lawful

-- and Play's become these too
pub rebase_plays : (ph : Phase) (w : World) (c : ℕ) (b : CpuBases) (v : World) (s : State) →
    InPlay ph w → c < length w.cpus → Each NoneBehind b → Rebases w c b v →
    play.with_bases (state_of w) c b ≡ s → Plays ph v s
rebase_plays ph w c b v s i low whole r is = record {
  in_play = put_plays ph ph w c (with_bases (cpu_of w c) b) v low refl refl r.is i
      (rebase_runs ph w c b v i.in_run low whole r);
  state = ap state_of r.is ∙ (bases_shown w c b low ∙ is);
}

-- and what such a world has of each CPU's bases
pub rebased_class : (w : World) (c : ℕ) (b : CpuBases) (v : World) → c < length w.cpus →
    Rebases w c b v → (P : CpuBases → Type 0) → P b → P (cpu_of v c).bases
rebased_class w c b v low r P holds =
    subst (λ u. P (cpu_of u c).bases) (sym r.is)
    (subst (λ (y : CpuRecord). P y.bases) (sym (put_same w c (with_bases (cpu_of w c) b) low))
    holds)

module _ (law : StepsStayLawful) (ph : Phase) (w : World) (i : InRun ph w) where
  -- A DRAIN
  module _ (home : ℕ) (class : Class) (runner : ℕ) (free : IsFree w home)
      (may : MayRun w home class runner) where
    abbrev pub many : ℕ
    many = length (base_of class (cpu_of w home).bases).items

    abbrev pub left : CpuBases
    left = drained many w.clock class (cpu_id runner) (cpu_of w home).bases

    in_time : w.clock < 2 ^ 47 - 1
    in_time = let clock = i.lawful.times.clock in omega (arith, clock)

    drains_out : DrainsOut law home runner class w left
        (hands home class runner (items_due w home class))
    drains_out = drains law home runner class many w i.lawful free may (omega arith)

    pub drain_is : Rebases w home left (drained_by_steps w home class runner).state
    drain_is = drains_out.rebases

    pub may_drain : EachEnabled w (hands home class runner (items_due w home class))
    may_drain = drains_out.enabled

    pub left_whole : Each NoneBehind left
    left_whole =
        drained_whole (cpu_of w home).bases (i.whole home) w.clock class (cpu_id runner)
        (i.lawful.timers.consistent home) in_time many (omega arith)

    pub drain_stays : InRun ph (drained_by_steps w home class runner).state
    drain_stays =
        rebase_runs ph w home left (drained_by_steps w home class runner).state i free.in_range
        left_whole drain_is

    -- nothing of the class is due then
    pub drain_late : NoneDue w.clock
        (base_of class (cpu_of (drained_by_steps w home class runner).state home).bases).items
    drain_late =
        rebased_class w home left (drained_by_steps w home class runner).state free.in_range
        drain_is
        (λ b. NoneDue w.clock (base_of class b).items)
        (drain_is_whole many w.clock class (cpu_id runner) (cpu_of w home).bases in_time
        (i.lawful.timers.consistent home) (omega arith)).none_due

  -- what was queued has a known number
  pub drain_known : (home : ℕ) (class : Class) →
      All (λ item. item.id < w.timers) (items_due w home class)
  drain_known home class =
      due_all (λ item. item.id < w.timers)
      (length (base_of class (cpu_of w home).bases).items) w.clock
      (base_of class (cpu_of w home).bases)
      ((i.lawful.timers.consistent home).fits class).sound (i.lawful.times.known home class)

  -- AN ARMING
  module _ (c : ℕ) (a : Arming) (free : IsFree w c) (online : (cpu_of w c).online ≡ true)
      (may : (is_active (cpu_of w c) ≡ true) ⊎ ((cpu_of w c).inside ≡ true))
      (known : a.timer.0 < w.timers) (short : a.delay < 2 ^ 32)
      (early : w.clock < SCRIPT_TIME_LIMIT)
      (none : where_queued (state_of w) a.timer.0 ≡ None) where
    abbrev pub filled : CpuBases
    filled = armed w.clock a.class a.timer.0 (w.clock + a.delay) a.job a.arg a.line (cpu_id c)
        (cpu_of w c).bases

    pub may_arm : MayArm w c a.timer.0 a.class (w.clock + a.delay)
    may_arm = record {
      is_free = free;
      online = online;
      may_run = may;
      known = known;
      not_queued = nowhere w a.timer.0 none;
      to_come = omega arith;
      in_time = omega (arith, early, short);
      none_behind = i.whole c a.class;
    }

    pub arm_is : Rebases w c filled (armed_by_steps w c a).state
    arm_is = record {
      lawful = law w (steps.Arm (cpu_id c) a.timer a.class (w.clock + a.delay) a.job a.arg a.line)
          i.lawful may_arm;
      is = own_is w c _;
    }

    pub filled_whole : Each NoneBehind filled
    filled_whole =
        queued_whole (cpu_of w c).bases (i.whole c) (i.lawful.timers.consistent c) Armed a.line
        w.clock w.clock a.class a.timer.0 (w.clock + a.delay) a.job a.arg (cpu_id c)
        (omega (arith, early)) (omega (arith, early, short))

    pub arm_stays : InRun ph (armed_by_steps w c a).state
    arm_stays =
        rebase_runs ph w c filled (armed_by_steps w c a).state i free.in_range filled_whole arm_is

    -- what isn't due stays so
    pub arm_late : (k : Class) → NoneDue w.clock (base_of k (cpu_of w c).bases).items →
        NoneDue w.clock (base_of k (cpu_of (armed_by_steps w c a).state c).bases).items
    arm_late k late =
        rebased_class w c filled (armed_by_steps w c a).state free.in_range arm_is
        (λ b. NoneDue w.clock (base_of k b).items)
        (queued_late (cpu_of w c).bases (i.lawful.timers.consistent c) Armed a.line w.clock a.class
        k a.timer.0 (w.clock + a.delay) a.job a.arg (cpu_id c) (omega (arith, early))
        (omega (arith, early, short)) (omega arith) late)

    pub arm_else : (d : ℕ) → (d ≡ c → ⊥) →
        (cpu_of (armed_by_steps w c a).state d).bases ≡ (cpu_of w d).bases
    arm_else d ne =
        ap (λ u. (cpu_of u d).bases) arm_is.is
        ∙ ap (λ (y : CpuRecord). y.bases) (put_else w c (with_bases (cpu_of w c) filled)
        free.in_range d ne)

  -- A CANCELLING
  module _ (a : Cancelling) (held : Queued) (is : where_queued (state_of w) a.timer.0 ≡ Some held)
      (free : IsFree w held.cpu.0) (by : a.by.0 < length w.cpus) where
    abbrev pub less : CpuBases
    less = cancelled w.clock a.timer.0 a.line a.by (cpu_of w held.cpu.0).bases

    pub may_cancel : MayCancel w held.cpu.0 a.timer.0
    may_cancel = record {
      is_free = free;
      queued = (held.class, held_class w a.timer.0 held is free.in_range);
    }

    pub cancel_is : Rebases w held.cpu.0 less (cancelled_by_steps w held.cpu.0 a)
    cancel_is = record {
      lawful = law w (steps.Cancel (cpu_id held.cpu.0) a.timer a.by a.line) i.lawful (
        may_cancel,
        by,
      );
      is = own_is w held.cpu.0 _;
    }

    pub less_whole : Each NoneBehind less
    less_whole =
        cancelled_whole (cpu_of w held.cpu.0).bases (i.whole held.cpu.0) w.clock a.timer.0 a.line
        a.by

    pub cancel_stays : InRun ph (cancelled_by_steps w held.cpu.0 a)
    cancel_stays =
        rebase_runs ph w held.cpu.0 less (cancelled_by_steps w held.cpu.0 a) i free.in_range
        less_whole cancel_is

-- AND AS PLAY HAS THEM
module _ (law : StepsStayLawful) (ph : Phase) (w : World) (i : InPlay ph w) where
  module _ (home : ℕ) (class : Class) (runner : ℕ) (free : IsFree w home)
      (may : MayRun w home class runner) where
    pub drain_plays : Plays ph (drained_by_steps w home class runner).state
        (drained_on (state_of w) home class runner).state
    drain_plays =
        rebase_plays ph w home _ (drained_by_steps w home class runner).state
        (drained_on (state_of w) home class runner).state i free.in_range
        (left_whole law ph w i.in_run home class runner free may)
        (drain_is law ph w i.in_run home class runner free may)
        (ap (λ b. play.with_bases (state_of w) home
        (drained (length (base_of class b).items) w.clock class (cpu_id runner) b))
        (sym (bases_seen w home free.in_range)))

    pub drain_seen : drained_seen state_of (drained_by_steps w home class runner)
        ≡ drained_on (state_of w) home class runner
    drain_seen = λ j. record {
      items = ap (λ b. due_items (length (base_of class b).items) w.clock (base_of class b))
          (sym (bases_seen w home free.in_range)) j;
      state = drain_plays.state j;
    }

  module _ (c : ℕ) (a : Arming) (free : IsFree w c) (online : (cpu_of w c).online ≡ true)
      (may : (is_active (cpu_of w c) ≡ true) ⊎ ((cpu_of w c).inside ≡ true))
      (known : a.timer.0 < w.timers) (short : a.delay < 2 ^ 32)
      (early : w.clock < SCRIPT_TIME_LIMIT)
      (none : where_queued (state_of w) a.timer.0 ≡ None) where
    pub arm_plays : Plays ph (armed_by_steps w c a).state (armed_on (state_of w) c a).state
    arm_plays =
        rebase_plays ph w c _ (armed_by_steps w c a).state (armed_on (state_of w) c a).state i
        free.in_range
        (filled_whole law ph w i.in_run c a free online may known short early none)
        (arm_is law ph w i.in_run c a free online may known short early none)
        (ap (λ b. play.with_bases (state_of w) c
        (armed w.clock a.class a.timer.0 (w.clock + a.delay) a.job a.arg a.line (cpu_id c) b))
        (sym (bases_seen w c free.in_range)))

  module _ (a : Cancelling) (held : Queued) (is : where_queued (state_of w) a.timer.0 ≡ Some held)
      (free : IsFree w held.cpu.0) (by : a.by.0 < length w.cpus) where
    pub cancel_plays : Plays ph (cancelled_by_steps w held.cpu.0 a)
        (cancelled_on (state_of w) held.cpu.0 a)
    cancel_plays =
        rebase_plays ph w held.cpu.0 _ (cancelled_by_steps w held.cpu.0 a)
        (cancelled_on (state_of w) held.cpu.0 a) i free.in_range
        (less_whole law ph w i.in_run a held is free by)
        (cancel_is law ph w i.in_run a held is free by)
        (ap (λ b. play.with_bases (state_of w) held.cpu.0
        (cancelled w.clock a.timer.0 a.line a.by b)) (sym (bases_seen w held.cpu.0 free.in_range)))
