-- for crates above: each rule of an interrupt by steps, at its stage
use Rattle.std.proofs.Common.{◌≡◌, ℕ, ◌+◌, ◌<◌, ◌≤◌, Bool, true, false, length}
use Rattle.std.proofs.Common.{None, refl, sym, ap, ◌∙◌, subst, arith, inl, inr, max}
use Rattle.std.specs.Prelude.{All, if◌then◌else◌, filter}
use Rattle.std.specs.List.{range_with_len}
use Rattle.std.specs.Ordering.{nat_cmp}
use Rattle.std.specs.FinSet as set
use Rattle.std.proofs.lemmas.Bool.{eq-eqb}
use Rattle.std.proofs.lemmas.List.Elements.{All-weaker}
use Rattle.tm_base.specs.declared.limits.TheConstants.{SCRIPT_TIME_LIMIT}
use Rattle.tm_base.specs.declared.names.TheConstants.{NEVER}
use Rattle.tm_base.specs.declared.names.Class.{Class}
use Rattle.tm_base.specs.declared.names.Class.TheVariants.{Global}
use Rattle.wheel_core.specs.PlainBase.{NoneDue}
use Rattle.cpu_bases.specs.CpuBases.{CpuBases, base_of, events_of}
use Rattle.tree_plan.specs.Shape.{Shape}
use Rattle.tree_plan.specs.Paths.{cpu_count_of, level_count_of}
use Rattle.play_rules.specs.declared.asks.Arming.{Arming}
use Rattle.play_rules.specs.Interrupts.{having_interrupt}
use Rattle.play_rules.specs.Play.{ended, has_interrupt, plain_rules}
use Rattle.play_rules.specs.State.{State, cpu_at}
use Rattle.play_rules.specs.Timers.{armed_on, drained_on, where_queued}
use Rattle.play_laws.proofs.Answered.Plays.{rules_keep}
use Rattle.play_laws.proofs.Answered.Settles.{Settles}
use Rattle.std.proofs.lemmas.Bool.Decides.{nat_tests}
use Rattle.play_laws.proofs.Shape.Alike.{drained_seen}
use Rattle.play_laws.proofs.Shape.Shape.{KeptByRules, MayRunAgain, Stage, begun, between, looked}
use Rattle.play_laws.proofs.Shape.Shape.{nth_class, own}
use Rattle.core_world.specs.declared.step.Step.TheVariants as steps
use Rattle.core_world.specs.Enabled.{IsFree, MayTime}
use Rattle.core_world.specs.Steps.{stepped}
use Rattle.core_world.specs.World.{World, cpu_of}
use Rattle.core_facts.specs.core_laws.Laws.{StepsStayLawful}
use Rattle.step_play.specs.Rules.Alike.{Plays}
use Rattle.step_play.specs.Rules.Seen.{InPlay, InRun, Phase, inside, resting, state_of}
use Rattle.step_play.specs.Rules.StepRules.{armed_by_steps, drained_by_steps}
use Rattle.step_play.specs.Rules.StepRules.{ended_by_steps, items_due}
use Rattle.step_play.specs.Rules.StepRules.{step_rules}
use Rattle.step_play.proofs.Queues.Sights.{count_seen}
use Rattle.step_play.specs.SamePlay.{Walks}
use Rattle.step_play.proofs.Acts.{arm_plays, drain_known}
use Rattle.step_play.proofs.Acts.{drain_plays, drain_seen}
use Rattle.step_play.proofs.Bases.{first_late}
use Rattle.step_play.proofs.Hotplug.{read}
use Rattle.step_play.proofs.Stages.{At, Inside, MayArm}
use Rattle.step_play.proofs.Stages.{in_core, played}
use Rattle.step_play.proofs.Takes.{enter_plays}
use Rattle.step_play.proofs.Worlds.{free_in}

-- what holds of both holds of either
pub of_either : {X Y : Type 0} (f : X → Y) (b : Bool) (x y : X) → f x ≡ f y →
    f (if b then x else y) ≡ f y
of_either f true x y same = same
of_either f false x y same = refl

-- who has an interrupt, as Play has it
pub having_seen : (w : World) →
    having_interrupt step_rules w ≡ having_interrupt plain_rules (state_of w)
having_seen w =
    ap (λ n. set.from_list (filter (has_interrupt (state_of w)) (range_with_len 0 n)))
    (sym (count_seen w))

-- a CPU whose global timers are still to come tells what is to come
pub next_late : (now : ℕ) (b : CpuBases) → now < NEVER → NoneDue now (base_of Global b).items →
    now < (events_of b).next
next_late now b low late =
    let far = first_late now Global b low late in grind (arith, nat_tests, far)

-- time goes on
module _ (law : StepsStayLawful) (now : ℕ) (w : World) (not_back : w.clock ≤ now)
    (in_time : now < SCRIPT_TIME_LIMIT) where
  pub may_time : MayTime w now
  may_time = record { not_back = not_back; in_time = omega (arith, in_time) }

  pub time_runs : InRun resting w → InRun resting (stepped w (steps.Clock now))
  time_runs i = record {
    lawful = law w (steps.Clock now) i.lawful may_time;
    planned = i.planned;
    whole = i.whole;
    inside = i.inside;
    marks = i.marks;
    walks = i.walks;
  }

  pub time_goes : InPlay resting w → InPlay resting (stepped w (steps.Clock now))
  time_goes i = record { in_run = time_runs i.in_run; exact = i.exact; told = i.told }

module _ (law : StepsStayLawful) (walks : Walks) (t : Shape) (timers end : ℕ)
    (in_time : end < SCRIPT_TIME_LIMIT) where
  abbrev plain : KeptByRules plain_rules (cpu_count_of t) timers (level_count_of t) end
      (λ a. Unit {0}) (Settles t)
  plain = rules_keep t timers end in_time

  -- THE CLOCK comes to the next moment
  pub comes : (now next : ℕ) (w : World) → At t timers now between resting w → now < next →
      next ≤ end → next ≤ max (w.clock + 1) (step_rules.next_interrupt w) →
      At t timers next (begun (having_interrupt step_rules (step_rules.at_clock next w)) 0) resting
      (step_rules.at_clock next w)
  comes now next w was later by_end no_later =
      let v = stepped w (steps.Clock next) in
      let is = was.clock in
      let i = was.in_play in
      record {
        tree = was.tree;
        clock = refl;
        many = was.many;
        early = omega (arith, by_end, in_time);
        in_play = time_goes law next w (omega (arith, is, later))
            (omega (arith, by_end, in_time)) i;
        settles = subst (λ due. Settles t next (begun due 0) (state_of v)) (sym (having_seen v))
            (plain.comes now next (state_of w) was.settles later by_end no_later);
      }

  -- an interrupt begins
  module _ (now : ℕ) (due : set.FinSet nat_cmp) (c : ℕ) (w : World) (low : c < cpu_count_of t)
      (called : set.contains due c ≡ true) where
    pub entered_plays : At t timers now (begun due c) resting w →
        Plays (inside c) (step_rules.entered w c) (state_of w)
    entered_plays was =
        enter_plays law w c was.in_play
        (sym (read w (λ x. x.online) c (in_core t timers now (begun due c) resting w was c low))
        ∙ was.settles.online c called)

    pub entered : At t timers now (begun due c) resting w →
        Inside t timers now due c (own due c 0) (step_rules.entered w c)
    entered was = record {
      at = played t timers now (begun due c) resting w was (own due c 0) (inside c)
          (step_rules.entered w c) (state_of w) (entered_plays was)
          (plain.entered now due c (state_of w) low called was.settles) refl refl refl;
      called = called;
    }

    -- it ends
    pub ended_plays : Inside t timers now due c (looked due c) w →
        Plays resting (ended_by_steps w c) (ended (state_of w) c)
    ended_plays was = walks.tell.ends w c was.at.in_play

    pub ends : Inside t timers now due c (looked due c) w →
        At t timers now (begun due (c + 1)) resting (ended_by_steps w c)
    ends was =
        let s = state_of w in
        let b = (cpu_at s c).idle in
        played t timers now (looked due c) (inside c) w was.at (begun due (c + 1)) resting
        (ended_by_steps w c) (ended s c) (ended_plays was)
        (plain.ended now due c s low called was.at.settles)
        (of_either (λ (x : State). x.tree) b _ s refl)
        (of_either (λ (x : State). x.clock) b _ s refl)
        (of_either (λ (x : State). x.timers) b _ s refl)

  -- ITS OWN BASES
  module _ (now : ℕ) (due : set.FinSet nat_cmp) (c k : ℕ) (w : World) (low : c < cpu_count_of t)
      (few : k < 3) where
    module _ (was : Inside t timers now due c (own due c k) w) where
      free : IsFree w c
      free = free_in (inside c) w c was.at.in_play.in_run refl
          (in_core t timers now (own due c k) (inside c) w was.at c low)

      pub drains_own : Plays (inside c) (drained_by_steps w c (nth_class k) c).state
          (drained_on (state_of w) c (nth_class k) c).state
      drains_own =
          drain_plays law (inside c) w was.at.in_play c (nth_class k) c free
          (inl (refl, was.at.in_play.in_run.inside c ∙ eq-eqb c c refl))

      pub sees_own : drained_seen state_of (drained_by_steps w c (nth_class k) c)
          ≡ drained_on (state_of w) c (nth_class k) c
      sees_own =
          drain_seen law (inside c) w was.at.in_play c (nth_class k) c free
          (inl (refl, was.at.in_play.in_run.inside c ∙ eq-eqb c c refl))

      pub drained : Inside t timers now due c (own due c (k + 1))
          (drained_by_steps w c (nth_class k) c).state
      drained = record {
        at = played t timers now (own due c k) (inside c) w was.at (own due c (k + 1)) (inside c)
            (drained_by_steps w c (nth_class k) c).state
            (drained_on (state_of w) c (nth_class k) c).state drains_own
            (plain.drained now due c k (state_of w) low few was.at.settles) refl refl refl;
        called = was.called;
      }

    -- and what its jobs arm
    module _ (was : Inside t timers now due c (own due c (k + 1)) w) (a : Arming)
        (fits : MayArm timers a) (none : where_queued (state_of w) a.timer.0 ≡ None) where
      here : c < length w.cpus
      here = in_core t timers now (own due c (k + 1)) (inside c) w was.at c low

      arms_by : {X : Type 0} → ((free : IsFree w c) → (cpu_of w c).online ≡ true →
          (cpu_of w c).inside ≡ true → a.timer.0 < w.timers → w.clock < SCRIPT_TIME_LIMIT → X) → X
      arms_by go =
          let clock = was.at.clock in
          let early = was.at.early in
          let many = was.at.many in
          let known = fits.0 in
          go (free_in (inside c) w c was.at.in_play.in_run refl here)
          (sym (read w (λ x. x.online) c here) ∙ was.at.settles.online c was.called)
          (was.at.in_play.in_run.inside c ∙ eq-eqb c c refl) (omega (arith, known, many))
          (omega (arith, clock, early))

      pub arms_own : Plays (inside c) (armed_by_steps w c a).state (armed_on (state_of w) c a).state
      arms_own = arms_by (λ free on within known early.
          arm_plays law (inside c) w was.at.in_play c a free on (inr within) known fits.1 early
          none)

      pub ran : Inside t timers now due c (own due c (k + 1)) (armed_by_steps w c a).state
      ran = record {
        at = played t timers now (own due c (k + 1)) (inside c) w was.at (own due c (k + 1))
            (inside c) (armed_by_steps w c a).state (armed_on (state_of w) c a).state arms_own
            (plain.ran now due c k (state_of w) a low few tt none was.at.settles) refl refl refl;
        called = was.called;
      }

  -- what was queued may be armed again
  pub known : (now : ℕ) (ph : Phase) (st : Stage) (w : World) (home : ℕ) (class : Class) →
      At t timers now st ph w → All (MayRunAgain (MayArm timers)) (items_due w home class)
  known now ph st w home class was =
      let many = was.many in
      All-weaker (λ item. item.id < w.timers) (MayRunAgain (MayArm timers))
      (λ item low again delay. (omega (arith, low, many), omega arith))
      (items_due w home class) (drain_known law ph w was.in_play.in_run home class)
