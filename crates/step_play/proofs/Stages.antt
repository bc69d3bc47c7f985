-- what holds of the core at each stage of a moment
use Rattle.std.proofs.Common.{◌≡◌, ℕ, ◌<◌, true, false, length, sym, ap, ◌∙◌}
use Rattle.std.proofs.Common.{subst, arith, ◌^◌}
use Rattle.std.specs.Prelude.{if◌then◌else◌}
use Rattle.std.specs.Ordering.{nat_cmp}
use Rattle.std.specs.FinSet as set
use Rattle.tm_base.specs.declared.limits.TheConstants.{SCRIPT_TIME_LIMIT}
use Rattle.tm_base.specs.declared.names.Class.TheVariants.{Global}
use Rattle.wheel_core.specs.PlainBase.{NoneDue}
use Rattle.cpu_bases.specs.CpuBases.{base_of}
use Rattle.tree_plan.specs.Shape.{Shape}
use Rattle.tree_plan.specs.Paths.{cpu_count_of, is_placed_in}
use Rattle.play_rules.specs.declared.asks.Arming.{Arming}
use Rattle.play_rules.specs.State.{State, cpu_at, cpu_count}
use Rattle.play_rules.specs.Play.{hands_on}
use Rattle.play_laws.proofs.Answered.Settles.{Settles}
use Rattle.play_laws.proofs.Shape.Shape.{Stage, begun, between, climbed, leaving, looked, looking}
use Rattle.play_laws.proofs.Shape.Shape.{moving, own, running, taking}
use Rattle.core_world.specs.World.{World, cpu_of}
use Rattle.step_play.specs.Rules.Alike.{Plays}
use Rattle.step_play.specs.Rules.Seen.{InPlay, Phase, handing, inside, resting, serving, state_of}
use Rattle.step_play.specs.Rules.StepRules.{is_waiting}
use Rattle.step_play.specs.Queues.Choices as queues
use Rattle.step_play.proofs.Queues.Sights.{count_seen, told_seen}
use Rattle.step_play.proofs.Worlds.{rests}

-- a job arms a timer that there is, with a delay of 32 bits
abbrev pub MayArm : (timers : ℕ) → Arming → Type 0
MayArm timers a = (a.timer.0 < timers) × (a.delay < 2 ^ 32)

-- what each CPU tried told is still to come
abbrev pub TriedLate : set.FinSet nat_cmp → State → Type 0
TriedLate tried s = (d : ℕ) → set.contains tried d ≡ true → s.clock < (cpu_at s d).told

pub none_due : (ph : Phase) (w : World) (tried : set.FinSet nat_cmp) → InPlay ph w →
    TriedLate tried (state_of w) → queues.NoneDue w tried
none_due ph w tried i late d was =
    let far = late d was in
    let same = told_seen w (rests ph w i) d in
    omega (arith, far, same)

module _ (t : Shape) (timers : ℕ) where
  -- the core of the tree at a time, in play, with Play's state at this stage
  pub record At (now : ℕ) (st : Stage) (ph : Phase) (w : World) : Type 0 where
    pub tree : w.tree ≡ t
    pub clock : w.clock ≡ now
    pub many : w.timers ≡ timers
    pub early : now < SCRIPT_TIME_LIMIT
    pub in_play : InPlay ph w
    pub settles : Settles t now st (state_of w)

  module _ (now : ℕ) (due : set.FinSet nat_cmp) (c : ℕ) where
    -- CPU c is in its interrupt
    pub record Inside (st : Stage) (w : World) : Type 0 where
      pub at : At now st (inside c) w
      pub called : set.contains due c ≡ true

    pub record Looking (st : Stage) (tried : set.FinSet nat_cmp) (w : World) : Type 0 where
      pub inside : Inside st w
      pub late : TriedLate tried (state_of w)

    -- it serves CPU d
    pub record Serving (st : Stage) (tried : set.FinSet nat_cmp) (d : ℕ) (w : World) : Type 0 where
      pub at : At now st (serving c d) w
      pub called : set.contains due c ≡ true
      pub late : TriedLate tried (state_of w)

    -- nothing global of CPU d is due
    pub record Running (st : Stage) (tried : set.FinSet nat_cmp) (d : ℕ) (w : World) : Type 0 where
      pub serving : Serving st tried d w
      pub drained : NoneDue w.clock (base_of Global (cpu_of w d).bases).items

  -- CPU c went offline: its walk waits exactly where it has a duty to hand on
  pub record Leaving (now c : ℕ) (w : World) : Type 0 where
    pub at : At now (leaving c) (if is_waiting w c then handing c else resting) w
    pub waits : is_waiting w c ≡ hands_on (state_of w) c

  pub record Moving (now from to : ℕ) (st : Stage) (w : World) : Type 0 where
    pub at : At now st resting w
    pub offline : (cpu_of w from).online ≡ false
    pub placed : is_placed_in t to ≡ true

  -- AT EACH STAGE
  abbrev pub Stands : (now : ℕ) → Stage → World → Type 0
  Stands now between w = At now between resting w
  Stands now (begun due c) w = At now (begun due c) resting w
  Stands now (own due c bases) w = Inside now due c (own due c bases) w
  Stands now (climbed due c level) w = Inside now due c (climbed due c level) w
  Stands now (looking due c level n tried) w =
      Looking now due c (looking due c level n tried) tried w
  Stands now (taking due c level n tried d) w =
      Serving now due c (taking due c level n tried d) tried d w
  Stands now (running due c level n tried d) w =
      Running now due c (running due c level n tried d) tried d w
  Stands now (looked due c) w = Inside now due c (looked due c) w
  Stands now (leaving c) w = Leaving now c w
  Stands now (moving from to n) w = Moving now from to (moving from to n) w

  module _ (now : ℕ) (st : Stage) (ph : Phase) (w : World) (was : At now st ph w) where
    -- the same core at another stage
    pub restaged : (next : Stage) → Settles t now next (state_of w) → At now next ph w
    restaged next settles = record {
      tree = was.tree;
      clock = was.clock;
      many = was.many;
      early = was.early;
      in_play = was.in_play;
      settles = settles;
    }

    -- a core that plays what Play makes of its state
    pub played : (next : Stage) (new : Phase) (v : World) (s : State) → Plays new v s →
        Settles t now next s → s.tree ≡ w.tree → s.clock ≡ w.clock → s.timers ≡ w.timers →
        At now next new v
    played next new v s plays settles tree clock many = record {
      tree = ap (λ (x : State). x.tree) plays.state ∙ (tree ∙ was.tree);
      clock = ap (λ (x : State). x.clock) plays.state ∙ (clock ∙ was.clock);
      many = ap (λ (x : State). x.timers) plays.state ∙ (many ∙ was.many);
      early = was.early;
      in_play = plays.in_play;
      settles = subst (Settles t now next) (sym plays.state) settles;
    }

    -- a CPU of the tree is there
    pub in_core : (c : ℕ) → c < cpu_count_of t → c < length w.cpus
    in_core c low =
        let sized = was.in_play.in_run.lawful.sized.cpus in
        let same = ap cpu_count_of was.tree in
        omega (arith, low, sized, same)

    pub from_play : (c : ℕ) → c < cpu_count (state_of w) → c < length w.cpus
    from_play c low = let count = count_seen w in omega (arith, low, count)
