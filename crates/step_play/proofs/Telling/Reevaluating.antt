-- for crates above: an interrupt ends, and where its CPU is idle it re-evaluates
use Rattle.std.proofs.Common.{◌≡◌, ◌≢◌, inl, inr, ℕ, ◌<◌, Bool, true, false, true≢false, cond}
use Rattle.std.proofs.Common.{length, refl, sym, ap, ◌∙◌, subst}
use Rattle.std.specs.Prelude.{◌&&◌, is_some}
use Rattle.std.proofs.lemmas.Bool.{cases_Bool, cases_lt, eq-eqb, ne_eqb}
use Rattle.std.proofs.lemmas.List.{get_or_past}
use Rattle.std.proofs.lemmas.Option.{none-some}
use Rattle.tm_base.specs.declared.names.TheConstants.{NEVER}
use Rattle.cpu_bases.specs.CpuBases.{events_of}
use Rattle.tree_plan.specs.Paths.{group_at_of}
use Rattle.play_rules.specs.State.{Cpu, State, cpu_at, has_group}
use Rattle.play_rules.specs.Hierarchy.{next_of, reevaluated, told_again}
use Rattle.play_rules.specs.Play.{ended}
use Rattle.walk_rules.specs.declared.walk.WalkKind.TheVariants as kinds
use Rattle.walk_rules.specs.declared.walk.Stage.TheVariants as stages
use Rattle.core_facts.specs.core_laws.Laws.{StepsStayLawful}
use Rattle.core_world.specs.declared.step.Step.TheVariants as steps
use Rattle.core_world.specs.Enabled.{IsFree, MarksNobody, MayLeave, MayReeval}
use Rattle.core_world.specs.Steps.{begins, stepped, with_walk}
use Rattle.core_world.specs.World.{CpuRecord, World, cpu_of, no_cpu, own}
use Rattle.step_play.specs.Rules.Alike.{EndsAlike, Plays}
use Rattle.step_play.specs.Rules.Alone.{walked_out}
use Rattle.step_play.specs.Rules.Seen.{InPlay, InRun, inside, is_inside, resting}
use Rattle.step_play.specs.Rules.Seen.{state_of}
use Rattle.step_play.specs.Rules.StepRules.{ended_by_steps}
use Rattle.step_play.proofs.Activation.Seeing.{seen_at}
use Rattle.step_play.proofs.Telling.Ending.{IsDone}
use Rattle.step_play.proofs.Telling.Playing.{at_rest, done, made_once, no_walk}
use Rattle.step_play.proofs.Telling.Playing.{seen_kept_programmed, stays_in_play, told_is}
use Rattle.step_play.proofs.Telling.Seeing.{IsMade}
use Rattle.step_play.proofs.Worlds.{Bare, Fits, bare, dressed, own_is, put_bare, put_hidden}
use Rattle.step_play.proofs.Worlds.{put_plays, walk_by}

-- who may re-evaluate, and who may leave
module _ (w : World) (c : ℕ) (i : InRun (inside c) w) where
  in_it : (cpu_of w c).inside ≡ true
  in_it = i.inside c ∙ eq-eqb c c refl

  is_there : c < length w.cpus
  is_there = elim (cases_lt c (length w.cpus)) [
    | inl there ↦ there
    | inr past ↦ absurd (true≢false (sym in_it
        ∙ ap (λ (x : CpuRecord). x.inside) (get_or_past w.cpus c no_cpu past)))
  ]

  no_marks : MarksNobody w c
  no_marks d mark = none-some c (sym (i.marks d) ∙ mark)

  is_free : IsFree w c
  is_free = record {
    in_range = is_there;
    free = no_walk (inside c) c (cpu_of w c).walk refl (i.walks c);
  }

  module _ (idle : (cpu_of w c).idle ≡ true) where
    online : (cpu_of w c).online ≡ true
    online = elim (cases_Bool (cpu_of w c).online) [
      | inl on ↦ on
      | inr off ↦ absurd (true≢false (sym in_it ∙ (i.lawful.off_at_rest c off).outside))
    ]

    pub may_reevaluate : MayReeval w c
    may_reevaluate = record {
      is_free = is_free;
      online = online;
      idle = idle;
      inside = in_it;
      marks_nobody = no_marks;
    }

  pub may_leave : (cpu_of w c).idle ≡ false → MayLeave w c
  may_leave busy =
      record { is_free = is_free; inside = in_it; busy = busy; marks_nobody = no_marks }

pub leaves_run : StepsStayLawful → (w : World) (c : ℕ) → InRun (inside c) w →
    (cpu_of w c).idle ≡ false → InRun resting (stepped w (steps.Leave (record { 0 = c })))
leaves_run laws w c i busy =
    let low = is_there w c i in
    let y = record (cpu_of w c) { inside = false } in
    let v = stepped w (steps.Leave (record { 0 = c })) in
    let fits : Fits (inside c) resting w c y = record {
      whole = i.whole c;
      inside = refl;
      mark = i.marks c;
      walk = walk_by (inside c) resting c (cpu_of w c).walk refl (i.walks c);
      others_inside = λ d ne. sym (ne_eqb d c ne);
      others_marks = λ d ne. refl;
      others_hand = λ d ne. refl;
    } in
    dressed resting v
    (subst (Bare resting) (sym (own_is w c y))
    (put_bare (inside c) resting w c y low (bare (inside c) w i) fits))
    (laws w (steps.Leave (record { 0 = c })) i.lawful (may_leave w c i busy))

module _ (laws : StepsStayLawful) (w : World) (c : ℕ) (i : InPlay (inside c) w) where
  abbrev run : InRun (inside c) w
  run = i.in_run

  low : c < length w.cpus
  low = is_there w c run

  others : (d : ℕ) → d ≢ c → is_inside (inside c) d ≡ false
  others d ne = ne_eqb d c ne

  -- AN IDLE CPU
  module _ (idle : (cpu_of w c).idle ≡ true) where
    on : (cpu_of w c).online ≡ true
    on = online w c run idle

    abbrev z : CpuRecord
    z = with_walk (cpu_of w c) (begins w c kinds.Reeval stages.LockGroup)

    abbrev v : World
    v = walked_out c (own w c z)

    e : IsDone w c z kinds.Reeval v
    e =
        let events = events_of (cpu_of w c).bases in
        let may = may_reevaluate w c run idle in
        let began = laws w (steps.Reeval (record { 0 = c })) run.lawful may in
        done i (λ d. refl) laws c low z began kinds.Reeval (λ act. cc) stages.LockGroup (inr refl)
        events.pin events.next refl

    in_play : InPlay resting v
    in_play = stays_in_play i (λ d. refl) e resting (record {
      told = λ off. absurd (true≢false (sym (λ j. on j && idle j) ∙ off));
      bases = refl;
      inside = refl;
      mark = run.marks c;
      walk = refl;
      insides = others;
      marks = λ d ne. refl;
      hands = λ d ne. refl;
    })

    -- what Play makes of the CPU
    abbrev y : Cpu
    y = record (cpu_at (state_of w) c) {
      told = cond (has_group (state_of w) c) (next_of (state_of w) c) NEVER;
    }

    made : IsMade w v c (told_again (state_of w) c)
    made =
        let is = seen_at w c low in
        let next = ap (λ (x : Cpu). (events_of x.bases).next) is ∙ sym e.next in
        made_once e y (record {
          online = ap (λ (x : Cpu). x.online) is;
          idle = ap (λ (x : Cpu). x.idle) is;
          told = ap (λ n. cond (is_some (group_at_of w.tree c 0)) n NEVER) next ∙ sym (told_is e);
          bases = ap (λ (x : Cpu). x.bases) is;
        })

    reevaluates : Plays resting v (reevaluated (state_of w) c)
    reevaluates = record {
      in_play = in_play;
      state = seen_kept_programmed e made (at_rest resting v in_play) refl
          (record { own = refl; next = refl; wakeup = refl });
    }

  -- AN ACTIVE CPU leaves
  leaves : (cpu_of w c).idle ≡ false →
      Plays resting (stepped w (steps.Leave (record { 0 = c }))) (state_of w)
  leaves busy =
      let y = record (cpu_of w c) { inside = false } in
      record {
        in_play = put_plays (inside c) resting w c y _ low refl refl (own_is w c y) i
            (leaves_run laws w c run busy);
        state = ap state_of (own_is w c y) ∙ put_hidden w c y low refl;
      }

  -- by whether the CPU is idle
  abbrev after : Bool → World
  after idle = cond idle
      (walked_out c (own w c (with_walk (cpu_of w c) (begins w c kinds.Reeval stages.LockGroup))))
      (own w c (record (cpu_of w c) { inside = false }))

  abbrev as_played : Bool → State
  as_played idle = cond idle (reevaluated (state_of w) c) (state_of w)

  by_idle : (b : Bool) → (cpu_of w c).idle ≡ b → Plays resting (after b) (as_played b)
  by_idle true idle = reevaluates idle
  by_idle false busy = leaves busy

  pub end_plays : Plays resting (ended_by_steps w c) (ended (state_of w) c)
  end_plays =
      subst (λ b. Plays resting (ended_by_steps w c) (as_played b))
      (sym (ap (λ (b : Cpu). b.idle) (seen_at w c low))) (by_idle (cpu_of w c).idle refl)

pub ends : StepsStayLawful → EndsAlike
ends laws w r i = end_plays laws w r i
