-- for crates above: a CPU that was taken is let go
use Rattle.std.proofs.Common.{◌≡◌, inl, inr, ℕ, ◌<◌, true, true≢false, cond, Some, None}
use Rattle.std.proofs.Common.{length, refl, sym, ap, ◌∙◌, subst, arith}
use Rattle.std.specs.Prelude.{◌&&◌, ◌==◌, is_some}
use Rattle.std.proofs.lemmas.Bool.{and_from, cases_lt, cond-false, cond-true, eq-eqb, ne_eqb}
use Rattle.std.proofs.lemmas.List.{get_or_past}
use Rattle.tm_base.specs.declared.names.TheConstants.{NEVER}
use Rattle.cpu_bases.specs.CpuBases.{events_of}
use Rattle.tree_plan.specs.Paths.{group_at_of}
use Rattle.play_rules.specs.State.{Cpu, State, cpu_at, has_group}
use Rattle.play_rules.specs.Hierarchy.{next_of, told_again}
use Rattle.walk_rules.specs.declared.walk.WalkKind.{WalkKind}
use Rattle.walk_rules.specs.declared.walk.WalkKind.TheVariants as kinds
use Rattle.walk_rules.specs.declared.walk.Stage.TheVariants as stages
use Rattle.core_facts.specs.core_laws.Laws.{StepsStayLawful}
use Rattle.core_world.specs.declared.step.Step.TheVariants as steps
use Rattle.core_world.specs.Enabled.{MayCarry}
use Rattle.core_world.specs.Steps.{begins, marker_of, stepped, with_walk}
use Rattle.core_world.specs.World.{CpuRecord, World, cpu_of, no_cpu, own}
use Rattle.step_play.specs.Rules.Alike.{LetsGoAlike, Plays}
use Rattle.step_play.specs.Rules.Alone.{walked_out}
use Rattle.step_play.specs.Rules.Seen.{InPlay, InRun, inside, serving, state_of}
use Rattle.step_play.specs.Rules.StepRules.{let_go_by_steps}
use Rattle.step_play.proofs.Activation.Seeing.{cpus_seen, seen_at, with_same}
use Rattle.step_play.proofs.Telling.Ending.{IsDone}
use Rattle.step_play.proofs.Telling.Playing.{done, made_once, no_walk, seen_kept, stays_in_play}
use Rattle.step_play.proofs.Telling.Playing.{told_is}
use Rattle.step_play.proofs.Telling.Seeing.{IsMade}

-- who may carry
module _ (w : World) (r c : ℕ) (i : InRun (serving r c) w)
    (online : (cpu_of w c).online ≡ true) (idle : (cpu_of w c).idle ≡ true) where
  low : c < length w.cpus
  low = elim (cases_lt c (length w.cpus)) [
    | inl there ↦ there
    | inr past ↦ absurd (true≢false (sym online
        ∙ ap (λ (x : CpuRecord). x.online) (get_or_past w.cpus c no_cpu past)))
  ]

  pub may_carry : MayCarry w c
  may_carry = record {
    is_free = record {
      in_range = low;
      free = no_walk (serving r c) c (cpu_of w c).walk refl (i.walks c);
    };
    marked = (r, i.marks c ∙ cond-true (c == c) (Some r) None (eq-eqb c c refl));
    online = online;
    idle = idle;
  }

module _ (laws : StepsStayLawful) (w : World) (r c : ℕ) (i : InPlay (serving r c) w)
    (online : (cpu_of w c).online ≡ true) (idle : (cpu_of w c).idle ≡ true) where
  abbrev kind : WalkKind
  kind = kinds.Remote (marker_of (cpu_of w c))

  abbrev z : CpuRecord
  z = with_walk (cpu_of w c) (begins w c kind stages.LockGroup)

  abbrev v : World
  v = walked_out c (own w c z)

  there : c < length w.cpus
  there = low w r c i.in_run online idle

  e : IsDone w c z kind v
  e =
      let events = events_of (cpu_of w c).bases in
      let may = may_carry w r c i.in_run online idle in
      let began = laws w (steps.Carry (record { 0 = c })) i.in_run.lawful may in
      done i (λ d. refl) laws c there z began kind (λ act. cc) stages.LockGroup (inr refl)
      events.pin events.next refl

  in_play : InPlay (inside r) v
  in_play = stays_in_play i (λ d. refl) e (inside r) (record {
    told = λ off. absurd (true≢false (sym (λ j. online j && idle j) ∙ off));
    bases = refl;
    inside = i.in_run.inside c;
    mark = refl;
    walk = refl;
    insides = λ d ne. refl;
    marks = λ d ne. cond-false (d == c) (Some r) None (ne_eqb d c ne);
    hands = λ d ne. refl;
  })

  -- what Play makes of the CPU
  abbrev y : Cpu
  y = record (cpu_at (state_of w) c) {
    told = cond (has_group (state_of w) c) (next_of (state_of w) c) NEVER;
  }

  abbrev s : State
  s = told_again (state_of w) c

  made : IsMade w v c s
  made =
      let is = seen_at w c there in
      let next = ap (λ (x : Cpu). (events_of x.bases).next) is ∙ sym e.next in
      made_once e y (record {
        online = ap (λ (x : Cpu). x.online) is;
        idle = ap (λ (x : Cpu). x.idle) is;
        told = ap (λ n. cond (is_some (group_at_of w.tree c 0)) n NEVER) next ∙ sym (told_is e);
        bases = ap (λ (x : Cpu). x.bases) is;
      })

  wakeup_is : (cpu_at s c).wakeup ≡ (cpu_of w c).wakeup
  wakeup_is =
      let count = cpus_seen w in
      let low = there in
      ap (λ (x : Cpu). x.wakeup) (with_same (state_of w) c y (omega (arith, low, count)))
      ∙ ap (λ (x : Cpu). x.wakeup) (seen_at w c there)

  let_go : Plays (inside r) v s
  let_go = record { in_play = in_play; state = seen_kept e made refl wakeup_is }

  pub let_go_plays : Plays (inside r) (let_go_by_steps w c) (told_again (state_of w) c)
  let_go_plays =
      let idles = and_from (cpu_of w c).online (cpu_of w c).idle online idle in
      subst (λ u. Plays (inside r) u s)
      (sym (cond-true ((cpu_of w c).online && (cpu_of w c).idle) v
      (stepped w (steps.Release (record { 0 = c }))) idles)) let_go

pub lets_go : StepsStayLawful → LetsGoAlike
lets_go laws w r d i online idle = let_go_plays laws w r d i online idle
