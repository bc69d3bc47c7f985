-- a CPU goes offline
use Rattle.std.proofs.Common.{◌≡◌, ◌≢◌, inl, inr, ℕ, ◌<◌, ◌≤◌, Bool, true, false, cond, List, []}
use Rattle.std.proofs.Common.{◌∷◌}
use Rattle.std.proofs.Common.{Option, Some, None, length, min, refl, sym, ap, ◌∙◌, subst, arith}
use Rattle.std.specs.Prelude.{◌&&◌, ◌==◌, if◌then◌else◌, is_none, is_some, nat_lt, not}
use Rattle.std.specs.List.{fold}
use Rattle.std.proofs.lemmas.Bool.{cases_Bool, eq-eqb, eqb-false, eqb-true, le-ltb, lt-ltb, ne_eqb}
use Rattle.std.proofs.lemmas.Option.{none-some}
use Rattle.tm_base.specs.declared.names.TheConstants.{NEVER}
use Rattle.cpu_bases.specs.CpuBases.{events_of}
use Rattle.tree_plan.specs.Paths.{group_at_of}
use Rattle.play_rules.specs.State.{Cpu, State, all_cpus, cpu_at, has_group, with_cpu}
use Rattle.play_rules.specs.Hierarchy as play
use Rattle.play_rules.specs.Hierarchy.{common_duty, gone_offline, least_told, next_of}
use Rattle.play_rules.specs.Hierarchy.{some_placed_active}
use Rattle.walk_rules.specs.declared.walk.Walk.{Walk}
use Rattle.walk_rules.specs.declared.walk.WalkKind.TheVariants as kinds
use Rattle.walk_rules.specs.declared.walk.Stage.TheVariants as stages
use Rattle.walk_rules.specs.Hierarchy.{HasGroup}
use Rattle.walk_rules.specs.Stages.{at_stage}
use Rattle.core_facts.specs.core_laws.Laws.{StepsStayLawful}
use Rattle.core_world.specs.declared.step.Step.TheVariants as steps
use Rattle.core_world.specs.Enabled.{MayGoOffline}
use Rattle.core_world.specs.Steps.{begins_with}
use Rattle.core_world.specs.World.{CpuRecord, World, cpu_of, own}
use Rattle.step_play.specs.Rules.Alike.{GoesAlike, OfflinesAlike, Plays}
use Rattle.step_play.specs.Rules.Alone.{goes_on, walked_out}
use Rattle.step_play.specs.Rules.Live.{told_by}
use Rattle.step_play.specs.Rules.Seen.{InPlay, Phase, WalkFits, handing, hands_in, is_inside}
use Rattle.step_play.specs.Rules.Seen.{marker_in}
use Rattle.step_play.specs.Rules.Seen.{resting, state_of}
use Rattle.step_play.specs.Rules.StepRules.{is_waiting}
use Rattle.step_play.specs.Queues.AtRest.{AtRest}
use Rattle.step_play.proofs.Activation.Seeing.{cpus_seen, seen_at, with_count, with_same}
use Rattle.step_play.proofs.Telling.Ending.{IsDone}
use Rattle.step_play.proofs.Telling.Playing.{at_rest, done, made_again, seen_rested, stays_in_play}
use Rattle.step_play.proofs.Telling.Playing.{told_is}
use Rattle.step_play.proofs.Telling.Seeing.{IsMade, common_is}

-- the least is never past where it begins
least_low : (f : ℕ → ℕ) (top : ℕ) (xs : List ℕ) → fold (λ least c. min least (f c)) top xs ≤ top
least_low f top [] = omega arith
least_low f top (x ∷ xs) =
    let rest = least_low f (min top (f x)) xs in
    omega (arith, rest)

duty_low : (s : State) → common_duty s ≤ NEVER
duty_low s = by_active (some_placed_active s)
  where
    by_active : (b : Bool) → cond b NEVER (least_told s (all_cpus s)) ≤ NEVER
    by_active true = omega arith
    by_active false = least_low (λ c. (cpu_at s c).told) NEVER (all_cpus s)

-- what isn't past a bound is below it or at it
below_is : (n top : ℕ) → n ≤ top → nat_lt n top ≡ not (n == top)
below_is n top low = elim (cases_Bool (n == top)) [
  | inl at ↦
      (let same = eqb-true n top at in
      le-ltb n top (omega arith)) ∙ sym (ap not at)
  | inr off ↦
      (let ne = eqb-false n top off in
      lt-ltb n top (omega (arith, ne, low))) ∙ sym (ap not off)
]

always : (b : Bool) → cond b NEVER NEVER ≡ NEVER
always true = refl
always false = refl

module _ (laws : StepsStayLawful) (w : World) (c : ℕ) (i : InPlay resting w)
    (may : MayGoOffline w c) where
  low : c < length w.cpus
  low = may.is_free.in_range

  abbrev z : CpuRecord
  z = record (cpu_of w c) {
    online = false;
    idle = true;
    walk = begins_with w c kinds.Offline stages.Read NEVER;
  }

  abbrev v : World
  v = walked_out c (own w c z)

  e : IsDone w c z kinds.Offline v
  e =
      let began = laws w (steps.Offline (record { 0 = c })) i.in_run.lawful may in
      done i (λ d. refl) laws c low z began kinds.Offline (λ act. cc) stages.Read (inl refl)
      (events_of (cpu_of w c).bases).pin NEVER refl

  -- what is left of its walk, by whether it found nothing
  abbrev none : Bool
  none = e.last.first == NEVER

  abbrev left : Bool → Option Walk
  left b = cond b None (Some (at_stage e.last stages.Handing))

  waiting_by : (b : Bool) → (if is_none (left b) then false else not (goes_on (left b))) ≡ not b
  waiting_by true = refl
  waiting_by false = refl

  waiting : is_waiting v c ≡ not none
  waiting =
      ap (λ m. if is_none m then false else not (goes_on m))
      (ap (λ (x : CpuRecord). x.walk) e.itself) ∙ waiting_by none

  told_none : told_by v c ≡ NEVER
  told_none =
      told_is e
      ∙ (ap (λ n. cond (is_some (group_at_of w.tree c 0)) n NEVER) e.next
      ∙ always (is_some (group_at_of w.tree c 0)))

  -- THE PHASE, by whether the walk waits
  abbrev now : Bool → Phase
  now waits = if waits then handing c else resting

  fits : (b : Bool) → WalkFits (now (not b)) c (left b)
  fits true = refl
  fits false = (eq-eqb c c refl, refl)

  still_inside : (b : Bool) (d : ℕ) → is_inside resting d ≡ is_inside (now b) d
  still_inside true d = refl
  still_inside false d = refl

  still_marked : (b : Bool) (d : ℕ) → marker_in resting d ≡ marker_in (now b) d
  still_marked true d = refl
  still_marked false d = refl

  no_hands : (b : Bool) (d : ℕ) → d ≢ c → hands_in (now b) d ≡ false
  no_hands true d ne = ne_eqb d c ne
  no_hands false d ne = refl

  in_play : InPlay (now (is_waiting v c)) v
  in_play = stays_in_play i (λ d. refl) e (now (is_waiting v c)) (record {
    told = λ off. told_none;
    bases = refl;
    inside = i.in_run.inside c ∙ still_inside (is_waiting v c) c;
    mark = i.in_run.marks c ∙ still_marked (is_waiting v c) c;
    walk = subst (λ b. WalkFits (now b) c (left none)) (sym waiting) (fits none);
    insides = λ d ne. still_inside (is_waiting v c) d;
    marks = λ d ne. still_marked (is_waiting v c) d;
    hands = no_hands (is_waiting v c);
  })

  rest : AtRest v
  rest = at_rest (now (is_waiting v c)) v in_play

  -- what Play makes of the CPU
  abbrev x : Cpu
  x = record (cpu_at (state_of w) c) { online = false; wakeup = NEVER }

  abbrev off : State
  off = with_cpu (state_of w) c x

  abbrev y : Cpu
  y = record (cpu_at off c) { idle = true; told = cond (has_group off c) NEVER NEVER }

  abbrev s : State
  s = play.resting off c NEVER

  off_is : cpu_at off c ≡ x
  off_is = with_same (state_of w) c x (let count = cpus_seen w in omega (arith, low, count))

  made : IsMade w v c s
  made = made_again e x y (record {
    online = ap (λ (u : Cpu). u.online) off_is;
    idle = refl;
    told = always (has_group off c) ∙ sym told_none;
    bases = ap (λ (u : Cpu). u.bases) off_is ∙ ap (λ (u : Cpu). u.bases) (seen_at w c low);
  })

  -- an active CPU had no wakeup
  wakeup_is : (cpu_at s c).wakeup ≡ (cpu_of w c).wakeup
  wakeup_is =
      let count = cpus_seen w in
      let more = with_count (state_of w) c x in
      ap (λ (u : Cpu). u.wakeup) (with_same off c y (omega (arith, low, count, more)))
      ∙ (ap (λ (u : Cpu). u.wakeup) off_is ∙ sym (i.in_run.lawful.no_wakeup c (inr may.active)))

  plays : Plays (now (is_waiting v c)) v (gone_offline (state_of w) c)
  plays = record { in_play = in_play; state = seen_rested e made rest wakeup_is }

  -- IT WAITS exactly where Play's CPU has a duty to hand on
  abbrev hands : Option ℕ → Bool
  hands o = is_some o && nat_lt (cond (is_some o) (common_duty s) (next_of s c)) NEVER

  by_leaf : (o : Option ℕ) → group_at_of w.tree c 0 ≡ o → not none ≡ hands o
  by_leaf None at =
      let alone : HasGroup v.tree c → ⊥ = λ has. none-some has.0
      (sym at ∙ (ap (λ t. group_at_of t c 0) (sym e.tree) ∙ has.1)) in
      ap not (eq-eqb e.last.first NEVER (e.alone alone ∙ e.next))
  by_leaf (Some leaf) at =
      let has : HasGroup v.tree c = (leaf, ap (λ t. group_at_of t c 0) e.tree ∙ at) in
      sym (below_is (common_duty s) NEVER (duty_low s)
      ∙ ap (λ n. not (n == NEVER)) (common_is e made rest refl has))

  pub offline_plays : GoesAlike w c
  offline_plays = record { waits = waiting ∙ by_leaf (group_at_of w.tree c 0) refl; plays = plays }

pub offlines : StepsStayLawful → OfflinesAlike
offlines laws w c i may = offline_plays laws w c i may
