-- what the calls between interrupts leave
use Rattle.std.proofs.Common.{◌≡◌, ◌≢◌, ℕ, ◌<◌, Bool, true, false, Some, None, length}
use Rattle.std.proofs.Common.{refl, sym, ap, ◌∙◌, subst, arith, inl, inr}
use Rattle.std.specs.Prelude.{◌&&◌, ◌==◌, find, if◌then◌else◌, not}
use Rattle.std.specs.List.{range_with_len}
use Rattle.std.proofs.lemmas.Bool.{and_from, and_parts, cases_eq, cases_lt, eq-eqb, ne_eqb}
use Rattle.std.proofs.lemmas.List.{get_or_past}
use Rattle.tm_base.specs.declared.names.TheConstants.{NEVER}
use Rattle.tree_plan.specs.Paths.{is_placed_in}
use Rattle.walk_rules.specs.declared.walk.WalkKind.TheVariants as kinds
use Rattle.walk_rules.specs.declared.walk.Stage.TheVariants as stages
use Rattle.play_rules.specs.Hierarchy.{is_placed}
use Rattle.play_rules.specs.Interrupts.{cpu_id}
use Rattle.play_rules.specs.Phases.{IsUp, after_offline}
use Rattle.play_rules.specs.Play.{successor}
use Rattle.play_rules.specs.State.{Cpu, State, cpu_at, cpu_count, new_cpu}
use Rattle.play_rules.specs.Timers.{controller}
use Rattle.core_steps.specs.core_laws.Laws.{StepsStayLawful}
use Rattle.core_world.specs.declared.step.Step.TheVariants as steps
use Rattle.core_world.specs.Enabled.{MayComeOnline, MayGoOffline, MayHandOn, MayIdle, MayWake}
use Rattle.core_world.specs.Steps.{begins, begins_with, with_walk}
use Rattle.core_world.specs.World.{CpuRecord, World, cpu_of, is_active}
use Rattle.step_play.specs.Rules.Alike.{ComesAlike, IdlesAlike, OfflinesAlike, WakesAlike}
use Rattle.step_play.specs.Rules.Alone.{goes_on}
use Rattle.step_play.specs.Rules.Seen.{InPlay, InRun, Phase, WalkFits, handing, hands_in, is_inside}
use Rattle.step_play.specs.Rules.Seen.{marker_in, resting, state_of}
use Rattle.step_play.specs.Rules.StepRules.{come_by_steps, gone_by_steps, handed_on_by_steps}
use Rattle.step_play.specs.Rules.StepRules.{idled_by_steps, is_waiting, made_active, step_rules}
use Rattle.step_play.specs.Rules.StepRules.{woken_by_steps}
use Rattle.step_play.proofs.Hotplug.{head_is, may_wake, next_is, read, runs}
use Rattle.step_play.proofs.Lone.{run_lone}
use Rattle.step_play.proofs.Queues.Sights.{count_seen}
use Rattle.step_play.proofs.Takes as turns
use Rattle.step_play.proofs.Takes.{hand_plays, may_hand_on}
use Rattle.step_play.proofs.Worlds.{free_in}
use Rattle.core_machine.proofs.Alone.Kinds.{IsWalked, begins_so, is_walked}
use Rattle.core_machine.proofs.Calls.Leaves.{Leaves, LeavesOnline, own_same, walk_gone, walk_waits}
use Rattle.core_machine.proofs.Calls.Leaves.{walked_online, walked_runs, walked_same}

module _ (law : StepsStayLawful) (w : World) (c : ℕ) where
  -- IDLE
  module _ (i : InRun resting w) (alike : IdlesAlike) (may : MayIdle w c) where
    abbrev idle_cpu : CpuRecord
    idle_cpu = record (cpu_of w c) { idle = true; walk = begins w c kinds.Deactivate stages.Read }

    abbrev idle_world : World
    idle_world = idled_by_steps w c

    pub idles : goes_on (cpu_of idle_world c).walk ≡ false → Leaves resting resting w idle_world
    idles stop =
        let began = law w (steps.Idle (cpu_id c)) i.lawful may in
        let e : IsWalked w c kinds.Deactivate idle_cpu idle_world =
        is_walked law w c may.is_free.in_range (run_lone resting w c i) kinds.Deactivate idle_cpu
        began (begins_so _ kinds.Deactivate stages.Read _ _ idle_cpu refl) stop in
        record {
          fit = walked_runs e resting resting i (record {
            bases = refl;
            inside = i.inside c;
            mark = i.marks c;
            insides = λ d ne. refl;
            marks = λ d ne. refl;
            hands = λ d ne. refl;
          }) (walk_gone resting c kinds.Deactivate (λ off. cc) refl (cpu_of idle_world c).walk
              e.walk);
          play = λ p. (alike w c p may).in_play;
          same = walked_same e;
        }

  -- WAKE: between operations, or beside a walk that waits to hand on
  module _ (ph : Phase) (i : InRun ph w) (may : MayWake w c)
      (stop : goes_on (cpu_of (woken_by_steps w c) c).walk ≡ false) where
    abbrev woken_cpu : CpuRecord
    woken_cpu = record (cpu_of w c) {
      idle = false;
      wakeup = NEVER;
      walk = begins w c kinds.Activate stages.Own;
    }

    woken_is : IsWalked w c kinds.Activate woken_cpu (woken_by_steps w c)
    woken_is =
        is_walked law w c may.is_free.in_range (run_lone ph w c i) kinds.Activate woken_cpu
        (law w (steps.Wake (cpu_id c)) i.lawful may)
        (begins_so _ kinds.Activate stages.Own _ _ woken_cpu refl) stop

    pub wakes : WakesAlike → LeavesOnline ph ph w (woken_by_steps w c)
    wakes alike =
        let e = woken_is in
        let off = subst (WalkFits ph c) may.is_free.free (i.walks c) in
        record {
          left = record {
            fit = walked_runs e ph ph i (record {
              bases = refl;
              inside = i.inside c;
              mark = i.marks c;
              insides = λ d ne. refl;
              marks = λ d ne. refl;
              hands = λ d ne. refl;
            }) (walk_gone ph c kinds.Activate (λ away. cc) off
                (cpu_of (woken_by_steps w c) c).walk e.walk);
            play = λ p. (alike ph w c p may).in_play;
            same = walked_same e;
          };
          online = walked_online e refl;
        }

    pub woken_active : is_active (cpu_of (woken_by_steps w c) c) ≡ true
    woken_active = let e = woken_is in
        and_from _ _ (e.framed.itself.online ∙ may.online) (ap not e.framed.itself.idle)

  -- ONLINE
  module _ (i : InRun resting w) where
    pub may_come : c < length w.cpus → (cpu_of w c).online ≡ false → MayComeOnline w c
    may_come low off = record { is_free = free_in resting w c i refl low; offline = off }

    abbrev new_cpu_of : CpuRecord
    new_cpu_of = record (cpu_of w c) {
      online = true;
      idle = false;
      walk = begins w c kinds.Activate stages.Own;
    }

    pub comes : ComesAlike → MayComeOnline w c →
        goes_on (cpu_of (come_by_steps w c) c).walk ≡ false →
        Leaves resting resting w (come_by_steps w c)
    comes alike may stop =
        let e : IsWalked w c kinds.Activate new_cpu_of (come_by_steps w c) =
        is_walked law w c may.is_free.in_range (run_lone resting w c i) kinds.Activate new_cpu_of
        (law w (steps.Online (cpu_id c)) i.lawful may)
        (begins_so _ kinds.Activate stages.Own _ _ new_cpu_of refl) stop in
        record {
          fit = walked_runs e resting resting i (record {
            bases = refl;
            inside = i.inside c;
            mark = i.marks c;
            insides = λ d ne. refl;
            marks = λ d ne. refl;
            hands = λ d ne. refl;
          }) (walk_gone resting c kinds.Activate (λ away. cc) refl
              (cpu_of (come_by_steps w c) c).walk e.walk);
          play = λ p. (alike w c p may).in_play;
          same = walked_same e;
        }

  -- OFFLINE
  module _ (i : InRun resting w) (may : MayGoOffline w c)
      (stop : goes_on (cpu_of (gone_by_steps w c) c).walk ≡ false) where
    abbrev v : World
    v = gone_by_steps w c

    abbrev off_cpu : CpuRecord
    off_cpu = record (cpu_of w c) {
      online = false;
      idle = true;
      walk = begins_with w c kinds.Offline stages.Read NEVER;
    }

    gone_is : IsWalked w c kinds.Offline off_cpu v
    gone_is =
        is_walked law w c may.is_free.in_range (run_lone resting w c i) kinds.Offline off_cpu
        (law w (steps.Offline (cpu_id c)) i.lawful may)
        (begins_so _ kinds.Offline stages.Read _ _ off_cpu refl) stop

    phase_is : (b : Bool) → (if b then handing c else resting) ≡ after_offline b c
    phase_is true = refl
    phase_is false = refl

    outside : (b : Bool) (d : ℕ) → is_inside (after_offline b c) d ≡ false
    outside true d = refl
    outside false d = refl

    unmarked : (b : Bool) (d : ℕ) → marker_in (after_offline b c) d ≡ marker_in resting d
    unmarked true d = refl
    unmarked false d = refl

    no_hands : (b : Bool) (d : ℕ) → d ≢ c → hands_in (after_offline b c) d ≡ false
    no_hands true d ne = ne_eqb d c ne
    no_hands false d ne = refl

    pub goes : OfflinesAlike → Leaves resting (after_offline (is_waiting v c) c) w v
    goes alike =
        let e = gone_is in
        let b = is_waiting v c in
        record {
          fit = walked_runs e resting (after_offline b c) i (record {
            bases = refl;
            inside = i.inside c ∙ sym (outside b c);
            mark = i.marks c ∙ sym (unmarked b c);
            insides = λ d ne. outside b d;
            marks = λ d ne. unmarked b d;
            hands = λ d ne. no_hands b d ne;
          }) (walk_waits c (cpu_of v c).walk e.walk);
          play = λ p. subst (λ ph. InPlay ph v) (phase_is b) (alike w c p may).plays.in_play;
          same = walked_same e;
        }

    -- who may succeed is online, and isn't the CPU that left
    abbrev may_succeed : State → ℕ → Bool
    may_succeed t d = not (d == c) && (is_placed t d && (cpu_at t d).online)

    abbrev s : State
    s = state_of w

    many : cpu_count (state_of v) ≡ cpu_count s
    many = count_seen v ∙ (gone_is.framed.cpus ∙ sym (count_seen w))

    online_else : (d : ℕ) → d ≢ c → (cpu_at (state_of v) d).online ≡ (cpu_at s d).online
    online_else d ne = elim (cases_lt d (length w.cpus)) [
      | inl low ↦
          let same = gone_is.framed.cpus in
          read v (λ x. x.online) d (omega (arith, low, same))
          ∙ (ap (λ (y : CpuRecord). y.online) (gone_is.framed.others d ne)
          ∙ sym (read w (λ x. x.online) d low))
      | inr high ↦
          let count = count_seen w in
          let seen = many in
          ap (λ (x : Cpu). x.online)
          (get_or_past (state_of v).cpus d new_cpu (omega (arith, high, count, seen)))
          ∙ sym (ap (λ (x : Cpu). x.online)
          (get_or_past s.cpus d new_cpu (omega (arith, high, count))))
    ]

    not_itself : (t : State) → may_succeed t c ≡ false
    not_itself t = ap (λ b. not b && (is_placed t c && (cpu_at t c).online)) (eq-eqb c c refl)

    succeeds_alike : (d : ℕ) → may_succeed (state_of v) d ≡ may_succeed s d
    succeeds_alike d = elim (cases_eq d c) [
      | inl same ↦
          ap (may_succeed (state_of v)) same ∙ not_itself (state_of v)
          ∙ sym (not_itself s) ∙ ap (may_succeed s) (sym same)
      | inr ne ↦
          λ j. not (d == c) && (is_placed_in (gone_is.framed.tree j) d && online_else d ne j)
    ]

    pub succeeds : successor (state_of v) c ≡ successor s c
    succeeds = λ j. find (λ d. succeeds_alike d j) (range_with_len 0 (many j))

-- A CPU IS MADE ACTIVE, in a core that the call is seen to begin with as w and to end with as v
pub stops_at : (core w v : World) (d : ℕ) → core ≡ w → v ≡ made_active w d →
    ((cpu_of core d).idle ≡ true → goes_on (cpu_of v d).walk ≡ false) → (cpu_of w d).idle ≡ true →
    goes_on (cpu_of (made_active w d) d).walk ≡ false
stops_at core w v d came is ends idle =
    subst (λ (x : World). goes_on (cpu_of x d).walk ≡ false) is
    (ends (subst (λ (x : World). (cpu_of x d).idle ≡ true) (sym came) idle))

module _ (law : StepsStayLawful) (ph : Phase) (w : World) (i : InRun ph w) (d : ℕ)
    (low : d < length w.cpus) (other : hands_in ph d ≡ false) (online : (cpu_of w d).online ≡ true)
    (stops : (cpu_of w d).idle ≡ true → goes_on (cpu_of (made_active w d) d).walk ≡ false) where
  abbrev made_by : Bool → World
  made_by b = if b then woken_by_steps w d else w

  stop_by : (b : Bool) → (cpu_of w d).idle ≡ b → (cpu_of w d).idle ≡ true →
      goes_on (cpu_of (made_by b) d).walk ≡ false
  stop_by b is idle = subst (λ a. goes_on (cpu_of (made_by a) d).walk ≡ false) is (stops idle)

  active_by : (b : Bool) → (cpu_of w d).idle ≡ b → is_active (cpu_of (made_by b) d) ≡ true
  active_by true idle =
      woken_active law w d ph i (may_wake ph w i d low other online idle)
      (stop_by true idle idle)
  active_by false busy = runs w d online busy

  pub active : is_active (cpu_of (made_active w d) d) ≡ true
  active = active_by (cpu_of w d).idle refl

  made_as : WakesAlike → (b : Bool) → (cpu_of w d).idle ≡ b → LeavesOnline ph ph w (made_by b)
  made_as alike true idle =
      wakes law w d ph i (may_wake ph w i d low other online idle) (stop_by true idle idle) alike
  made_as alike false busy = record {
    left = record {
      fit = i;
      play = λ p. p;
      same = record {
        clock = refl;
        timers = refl;
        cpus = refl;
        levels = refl;
        placed = λ e. refl;
      };
    };
    online = record { online = λ e. refl };
  }

  pub made : WakesAlike → LeavesOnline ph ph w (made_active w d)
  made alike = made_as alike (cpu_of w d).idle refl

not_true : (b : Bool) → not b ≡ true → b ≡ false
not_true true is = cc
not_true false is = refl

-- THE CONTROLLER
module _ (w : World) (i : InRun resting w) (d : ℕ) (is : controller (state_of w) ≡ Some d) where
  pub may_control : (cpu_of w d).idle ≡ true → MayWake w d
  may_control idle =
      let to = head_is w d is in may_wake resting w i d to.low refl to.online idle

  module _ (law : StepsStayLawful)
      (stops : (cpu_of w d).idle ≡ true → goes_on (cpu_of (made_active w d) d).walk ≡ false) where
    controls : WakesAlike → LeavesOnline resting resting w (made_active w d)
    controls alike =
        let to = head_is w d is in made law resting w i d to.low refl to.online stops alike

    control_placed : WakesAlike → is_placed_in (made_active w d).tree d ≡ true
    control_placed alike =
        let to = head_is w d is in (controls alike).left.same.placed d ∙ to.placed

    control_up : IsUp step_rules (made_active w d) d false
    control_up =
        let to = head_is w d is in
        let y = cpu_of (made_active w d) d in
        let parts = and_parts y.online (not y.idle)
        (active law resting w i d to.low refl to.online stops) in
        record { online = parts.0; idles = not_true y.idle parts.1 }

-- what making it active leaves
pub record LeavesControlled (w : World) (d : ℕ) (v : World) : Type 0 where
  pub left : LeavesOnline resting resting w v
  pub placed : is_placed_in v.tree d ≡ true
  pub up : IsUp step_rules v d false

pub controlled : (law : StepsStayLawful) (core w v : World) (d : ℕ) → InRun resting w →
    controller (state_of w) ≡ Some d → WakesAlike → core ≡ w → v ≡ made_active w d →
    ((cpu_of core d).idle ≡ true → goes_on (cpu_of v d).walk ≡ false) → LeavesControlled w d v
controlled law core w v d i is alike came made ends =
    let stops = stops_at core w v d came made ends in
    subst (LeavesControlled w d) (sym made) (record {
      left = controls w i d is law stops alike;
      placed = control_placed w i d is law stops alike;
      up = control_up w i d is law stops;
    })

-- HANDING ON
module _ (w : World) (c d : ℕ) (i : InRun (handing c) w) (is : successor (state_of w) c ≡ Some d)
  where
    other : hands_in (handing c) d ≡ false
    other = let to = next_is w c d is in ne_eqb d c to.another

    pub may_hand_over : (cpu_of w d).idle ≡ true → MayWake w d
    may_hand_over idle =
        let to = next_is w c d is in may_wake (handing c) w i d to.low other to.online idle

    module _ (law : StepsStayLawful) (alike : WakesAlike)
        (stops : (cpu_of w d).idle ≡ true → goes_on (cpu_of (made_active w d) d).walk ≡ false)
        (low : c < length w.cpus) where
      up : is_active (cpu_of (made_active w d) d) ≡ true
      up =
          let to = next_is w c d is in active law (handing c) w i d to.low other to.online stops

      ready : Leaves (handing c) (handing c) w (made_active w d)
      ready =
          let to = next_is w c d is in
          (made law (handing c) w i d to.low other to.online stops alike).left

      placed : is_placed_in (made_active w d).tree d ≡ true
      placed = let to = next_is w c d is in ready.same.placed d ∙ to.placed

      within : c < length (made_active w d).cpus
      within = let same = ready.same.cpus in omega (arith, low, same)

      pub may_hand : MayHandOn (made_active w d) c d
      may_hand =
          let to = next_is w c d is in
          may_hand_on (made_active w d) c d ready.fit within to.another placed up

      pub hands : Leaves (handing c) resting w (handed_on_by_steps w c d)
      hands =
          let to = next_is w c d is in
          let v = made_active w d in
          let last = own_same v c (with_walk (cpu_of v c) None) within in
          record {
            fit = turns.hands law v c d within to.another placed up ready.fit;
            play = λ p. (hand_plays law v c d within to.another placed up (ready.play p)).in_play;
            same = record {
              clock = last.clock ∙ ready.same.clock;
              timers = last.timers ∙ ready.same.timers;
              cpus = last.cpus ∙ ready.same.cpus;
              levels = last.levels ∙ ready.same.levels;
              placed = λ e. last.placed e ∙ ready.same.placed e;
            };
          }
