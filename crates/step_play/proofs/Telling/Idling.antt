-- a CPU goes idle
use Rattle.std.proofs.Common.{◌≡◌, inl, ℕ, true, true≢false, cond, refl}
use Rattle.std.proofs.Common.{sym, ap, ◌∙◌}
use Rattle.std.specs.Prelude.{◌&&◌, is_some, not}
use Rattle.std.proofs.lemmas.Bool.{and_parts}
use Rattle.tm_base.specs.declared.names.TheConstants.{NEVER}
use Rattle.cpu_bases.specs.CpuBases.{events_of}
use Rattle.tree_plan.specs.Paths.{group_at_of}
use Rattle.play_rules.specs.State.{Cpu, State, cpu_at, has_group}
use Rattle.play_rules.specs.Hierarchy as play
use Rattle.play_rules.specs.Hierarchy.{idled, next_of}
use Rattle.walk_rules.specs.declared.walk.WalkKind.TheVariants as kinds
use Rattle.walk_rules.specs.declared.walk.Stage.TheVariants as stages
use Rattle.core_facts.specs.core_laws.Laws.{StepsStayLawful}
use Rattle.core_world.specs.declared.step.Step.TheVariants as steps
use Rattle.core_world.specs.Enabled.{MayIdle}
use Rattle.core_world.specs.Steps.{begins}
use Rattle.core_world.specs.World.{CpuRecord, World, cpu_of, own}
use Rattle.step_play.specs.Rules.Alike.{IdlesAlike, Plays}
use Rattle.step_play.specs.Rules.Alone.{walked_out}
use Rattle.step_play.specs.Rules.Seen.{InPlay, resting, state_of}
use Rattle.step_play.proofs.Activation.Seeing.{seen_at}
use Rattle.step_play.proofs.Telling.Ending.{IsDone}
use Rattle.step_play.proofs.Telling.Playing.{at_rest, done, made_once, seen_rested_programmed}
use Rattle.step_play.proofs.Telling.Playing.{stays_in_play, told_is}
use Rattle.step_play.proofs.Telling.Seeing.{IsMade}

module _ (laws : StepsStayLawful) (w : World) (c : ℕ) (i : InPlay resting w) (may : MayIdle w c)
  where
    abbrev z : CpuRecord
    z = record (cpu_of w c) { idle = true; walk = begins w c kinds.Deactivate stages.Read }

    abbrev v : World
    v = walked_out c (own w c z)

    e : IsDone w c z kinds.Deactivate v
    e =
        let events = events_of (cpu_of w c).bases in
        let began = laws w (steps.Idle (record { 0 = c })) i.in_run.lawful may in
        done i (λ d. refl) laws c may.is_free.in_range z began kinds.Deactivate
        (λ act. cc) stages.Read
        (inl refl) events.pin events.next refl

    online : (cpu_of w c).online ≡ true
    online = (and_parts (cpu_of w c).online (not (cpu_of w c).idle) may.active).0

    in_play : InPlay resting v
    in_play = stays_in_play i (λ d. refl) e resting (record {
      told = λ off. absurd (true≢false (sym (ap (λ b. b && true) online) ∙ off));
      bases = refl;
      inside = i.in_run.inside c;
      mark = i.in_run.marks c;
      walk = refl;
      insides = λ d ne. refl;
      marks = λ d ne. refl;
      hands = λ d ne. refl;
    })

    -- what Play makes of the CPU
    abbrev told : ℕ
    told = cond (has_group (state_of w) c) (next_of (state_of w) c) NEVER

    abbrev s : State
    s = play.resting (state_of w) c (next_of (state_of w) c)

    made : IsMade w v c s
    made =
        let is = seen_at w c may.is_free.in_range in
        let next = ap (λ (x : Cpu). (events_of x.bases).next) is ∙ sym e.next in
        made_once e (record (cpu_at (state_of w) c) { idle = true; told = told }) (record {
          online = ap (λ (x : Cpu). x.online) is;
          idle = refl;
          told = ap (λ n. cond (is_some (group_at_of w.tree c 0)) n NEVER) next ∙ sym (told_is e);
          bases = ap (λ (x : Cpu). x.bases) is;
        })

    pub idle_plays : Plays resting v (idled (state_of w) c)
    idle_plays = record {
      in_play = in_play;
      state = seen_rested_programmed e made (at_rest resting v in_play)
          (record { own = refl; next = refl; wakeup = refl });
    }

pub idles : StepsStayLawful → IdlesAlike
idles laws w c i may = idle_plays laws w c i may
