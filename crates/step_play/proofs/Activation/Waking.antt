-- a CPU that wakes, and one that comes online
use Rattle.std.proofs.Common.{◌≡◌, ◌≢◌, inl, inr, ℕ, ◌<◌, ◌&&◌, not, true, false, length, None}
use Rattle.std.proofs.Common.{length-set, refl, sym, ap, ◌∙◌, subst, arith}
use Rattle.std.proofs.lemmas.Bool.{cases_eq}
use Rattle.tm_base.specs.declared.names.TheConstants.{NEVER}
use Rattle.tree_plan.specs.Shape.{IsPlanned, Shape}
use Rattle.tree_plan.specs.Laws.{BelowLaws, PathLaws}
use Rattle.play_rules.specs.State as play
use Rattle.play_rules.specs.State.{Cpu, State, cpu_at, with_cpu}
use Rattle.walk_rules.specs.declared.walk.WalkKind.TheVariants as kinds
use Rattle.walk_rules.specs.declared.walk.Stage.TheVariants as stages
use Rattle.core_world.specs.declared.step.Step.TheVariants as steps
use Rattle.core_world.specs.Enabled.{MayComeOnline, MayWake}
use Rattle.core_world.specs.Steps.{begins, with_walk}
use Rattle.core_world.specs.World.{CpuRecord, World, cpu_of, is_active}
use Rattle.core_facts.specs.core_laws.Laws.{StepsStayLawful}
use Rattle.play_rules.specs.Hierarchy.{come_online, woken}
use Rattle.step_play.specs.Rules.Alike.{ComesAlike, Plays, WakesAlike}
use Rattle.step_play.specs.Rules.Seen.{InPlay, Phase, cpu_seen, resting, state_of}
use Rattle.step_play.specs.Rules.StepRules.{come_by_steps, woken_by_steps}
use Rattle.step_play.proofs.Activation.Ascents.{Arrived}
use Rattle.step_play.proofs.Activation.Calm.{run_calm}
use Rattle.step_play.proofs.Activation.Seeing.{cpus_seen, seen_at, with_else, with_same}
use Rattle.step_play.proofs.Activation.Starting.{arrives}
use Rattle.step_play.proofs.Activation.Woken.{IsAwake, sees_woken, stays_in_play}

module _ (law : StepsStayLawful) (all_paths : (t : Shape) → IsPlanned t → PathLaws t)
    (all_below : (t : Shape) → IsPlanned t → BelowLaws t) where
  -- A CPU WAKES
  module _ (ph : Phase) (w : World) (c : ℕ) (i : InPlay ph w)
      (may : MayWake w c) where
    abbrev woken_cpu : CpuRecord
    woken_cpu = record (cpu_of w c) {
      idle = false;
      wakeup = NEVER;
      walk = begins w c kinds.Activate stages.Own;
    }

    wake_arrives : Arrived w c (with_walk woken_cpu None) (woken_by_steps w c)
    wake_arrives = arrives law w c woken_cpu may.is_free.in_range i.in_run.lawful
        (all_paths w.tree i.in_run.planned)
        (run_calm ph w i.in_run) i.exact refl
        (law w (steps.Wake (record { 0 = c })) i.in_run.lawful may)

    wakes_up : IsAwake w c (with_walk woken_cpu None)
    wakes_up = record {
      low = may.is_free.in_range;
      free = may.is_free.free;
      online = may.online;
      idle = refl;
      wakeup = refl;
      bases = refl;
      inside = refl;
      mark = refl;
    }

    pub wakes_alike : Plays ph (woken_by_steps w c) (woken (state_of w) c)
    wakes_alike = record {
      in_play = stays_in_play w c (with_walk woken_cpu None) (woken_by_steps w c) wake_arrives
          wakes_up ph
          i;
      state = sees_woken w c (with_walk woken_cpu None) (woken_by_steps w c) wake_arrives
          wakes_up ph i
          (all_paths w.tree i.in_run.planned) (all_below w.tree i.in_run.planned)
          (state_of w).cpus (cpus_seen w)
          (λ d low. ap (λ (v : Cpu). v.online && not v.idle) (seen_at w d low))
          (λ d ne low. seen_at w d low)
          (ap (λ (v : Cpu). v.online) (seen_at w c may.is_free.in_range) ∙ may.online)
          (ap (λ (v : Cpu). v.bases) (seen_at w c may.is_free.in_range));
    }

  -- A CPU COMES ONLINE
  module _ (w : World) (c : ℕ) (i : InPlay resting w)
      (may : MayComeOnline w c) where
    abbrev new_cpu : CpuRecord
    new_cpu = record (cpu_of w c) {
      online = true;
      idle = false;
      walk = begins w c kinds.Activate stages.Own;
    }

    comes_arrives : Arrived w c (with_walk new_cpu None) (come_by_steps w c)
    comes_arrives = arrives law w c new_cpu may.is_free.in_range i.in_run.lawful
        (all_paths w.tree i.in_run.planned)
        (run_calm resting w i.in_run) i.exact refl
        (law w (steps.Online (record { 0 = c })) i.in_run.lawful may)

    comes_up : IsAwake w c (with_walk new_cpu None)
    comes_up = record {
      low = may.is_free.in_range;
      free = may.is_free.free;
      online = refl;
      idle = refl;
      wakeup = i.in_run.lawful.no_wakeup c (inl may.offline);
      bases = refl;
      inside = refl;
      mark = refl;
    }

    abbrev made_online : Cpu
    made_online = record (cpu_at (state_of w) c) { online = true }

    abbrev s : State
    s = with_cpu (state_of w) c made_online

    count : length s.cpus ≡ length w.cpus
    count = length-set (state_of w).cpus c made_online ∙ cpus_seen w

    there : c < length (state_of w).cpus
    there = let low = may.is_free.in_range in omega (arith, cpus_seen w)

    itself : cpu_at s c ≡ made_online
    itself = with_same (state_of w) c made_online there

    others : (d : ℕ) → d ≢ c → d < length w.cpus → cpu_at s d ≡ cpu_seen w d
    others d ne low = with_else (state_of w) c made_online d ne ∙ seen_at w d low

    -- as long as it is idle it isn't active
    idle_yet : made_online.idle ≡ true
    idle_yet = ap (λ (v : Cpu). v.idle) (seen_at w c may.is_free.in_range)
        ∙ (i.in_run.lawful.off_at_rest c may.offline).idle

    active : (d : ℕ) → d < length w.cpus → play.is_active s d ≡ is_active (cpu_of w d)
    active d low = elim (cases_eq d c) [
      | inl is ↦ subst (λ n. play.is_active s n ≡ is_active (cpu_of w n)) (sym is)
          (ap (λ (v : Cpu). v.online && not v.idle) itself
          ∙ (ap not idle_yet
          ∙ sym (ap (λ b. b && not (cpu_of w c).idle) may.offline)))
      | inr ne ↦ ap (λ (v : Cpu). v.online && not v.idle) (others d ne low)
    ]

    pub comes_alike : Plays resting (come_by_steps w c) (come_online (state_of w) c)
    comes_alike = record {
      in_play = stays_in_play w c (with_walk new_cpu None) (come_by_steps w c) comes_arrives
          comes_up
          resting i;
      state = sees_woken w c (with_walk new_cpu None) (come_by_steps w c) comes_arrives
          comes_up resting i
          (all_paths w.tree i.in_run.planned) (all_below w.tree i.in_run.planned)
          s.cpus count active others
          (ap (λ (v : Cpu). v.online) itself)
          (ap (λ (v : Cpu). v.bases) itself
          ∙ ap (λ (v : Cpu). v.bases) (seen_at w c may.is_free.in_range));
    }

  pub wakes : WakesAlike
  wakes ph w c i may = wakes_alike ph w c i may

  pub comes : ComesAlike
  comes w c i may = comes_alike w c i may
