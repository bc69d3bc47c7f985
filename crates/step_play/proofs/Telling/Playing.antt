-- a walk that tells leaves a core in play
use Rattle.std.proofs.Common.{◌≡◌, ◌≢◌, inl, inr, ℕ, ◌<◌, Bool, true, false, true≢false, cond}
use Rattle.std.proofs.Common.{Option, Some, None, length, min, map, refl, sym, ap, ◌∙◌, subst}
use Rattle.std.proofs.Common.{arith}
use Rattle.std.specs.Prelude.{◌&&◌, is_some}
use Rattle.std.specs.List.{range_with_len}
use Rattle.std.proofs.lemmas.Bool.{cases_eq, cases_lt}
use Rattle.std.proofs.lemmas.List.{set-get_or}
use Rattle.walk_rules.specs.Standing.{is_leaving}
use Rattle.std.proofs.lemmas.Option.{none-some, same_Some}
use Rattle.tm_base.specs.declared.names.TheConstants.{NEVER}
use Rattle.wheel_core.specs.PlainBase.{NoneBehind}
use Rattle.cpu_bases.specs.CpuBases.{base_of, events_of}
use Rattle.tree_plan.specs.Paths.{group_at_of, group_count_of, level_count_of}
use Rattle.tree_plan.specs.Shape.{IsPlanned, Shape}
use Rattle.tree_plan.specs.Laws.{PathLaws}
use Rattle.tree_plan.proofs.Below.{paths}
use Rattle.play_rules.specs.State.{Cpu, State, cpu_at, migrator_at, new_cpu, with_cpu}
use Rattle.play_rules.specs.Hierarchy.{duty, pin_of, programmed, rested_migrator, with_migrators}
use Rattle.walk_rules.specs.declared.walk.Walk.{Walk}
use Rattle.walk_rules.specs.declared.walk.WalkKind.{WalkKind}
use Rattle.walk_rules.specs.declared.walk.WalkKind.TheVariants as kinds
use Rattle.walk_rules.specs.declared.walk.Stage.{Stage}
use Rattle.walk_rules.specs.declared.walk.Stage.TheVariants as stages
use Rattle.core_facts.specs.core_laws.Laws.{StepsStayLawful}
use Rattle.core_world.specs.Lawful.{IsLawful}
use Rattle.core_world.specs.Steps.{finished}
use Rattle.walk_rules.specs.Stages.{begun_where}
use Rattle.core_world.specs.Wakeups.{next_for}
use Rattle.walk_rules.specs.Stages.{is_remote}
use Rattle.core_world.specs.World.{CpuRecord, World, cpu_of, group_of, own}
use Rattle.step_play.specs.Rules.Alone.{walked_out}
use Rattle.step_play.specs.Rules.Live.{told_by, told_in}
use Rattle.step_play.specs.Rules.Seen.{InPlay, Phase, WalkFits, hands_in, is_inside, marker_in}
use Rattle.step_play.specs.Rules.Seen.{state_of}
use Rattle.step_play.specs.Queues.AtRest.{AtRest}
use Rattle.step_play.proofs.Activation.Seeing.{cpus_seen, groups_seen, rule_at, rule_count}
use Rattle.step_play.proofs.Activation.Seeing.{with_count}
use Rattle.step_play.proofs.Activation.Seeing.{with_else, with_same}
use Rattle.step_play.proofs.Telling.Ending.{IsDone, is_done}
use Rattle.step_play.proofs.Telling.Seeing.{IsMade, duty_is, keeps, rests, seen, seen_programmed}
use Rattle.step_play.proofs.Telling.Starting.{Begins, ends, made_where}

-- where no phase lets a CPU hand on it has no walk
pub no_walk : (ph : Phase) (d : ℕ) (m : Option Walk) → hands_in ph d ≡ false → WalkFits ph d m →
    m ≡ None
no_walk ph d None off fits = refl
no_walk ph d (Some k) off fits = absurd (true≢false (sym fits.0 ∙ off))

waits : (ph : Phase) (d : ℕ) (m : Option Walk) (k : Walk) → m ≡ Some k → WalkFits ph d m →
    k.stage ≡ stages.Handing
waits ph d None k is fits = absurd (none-some k is)
waits ph d (Some j) k is fits = ap (λ (x : Walk). x.stage) (sym (same_Some _ _ is)) ∙ fits.1

pub at_rest : (ph : Phase) (w : World) → InPlay ph w → AtRest w
at_rest ph w i = record {
  lawful = i.in_run.lawful;
  planned = i.in_run.planned;
  exact = i.exact;
  told = i.told;
  walks = λ d k is. waits ph d (cpu_of w d).walk k is (i.in_run.walks d);
}

pub fits_none : (ph : Phase) (c : ℕ) (m : Option Walk) → m ≡ None → hands_in ph c ≡ false →
    WalkFits ph c m
fits_none ph c m none off = subst (WalkFits ph c) (sym none) off

-- a path has no group at the number of levels or above
below_count : (t : Shape) → PathLaws t → (c l g : ℕ) → group_at_of t c l ≡ Some g →
    l < level_count_of t
below_count t laws c l g at = elim (cases_lt l (level_count_of t)) [
  | inl low ↦ low
  | inr high ↦ absurd (none-some g (sym (laws.beyond c l high) ∙ at))
]

bases_stay : (z : CpuRecord) (k : Walk) (kind : WalkKind) → (finished z k kind).bases ≡ z.bases
bases_stay z k kinds.Activate = refl
bases_stay z k kinds.Deactivate = refl
bases_stay z k kinds.Offline = refl
bases_stay z k kinds.Reeval = refl
bases_stay z k (kinds.Remote by) = refl

made_kind : (b : Bool) (kind : WalkKind) (stage : Stage) (pin next : ℕ) →
    (made_where b kind stage pin next).kind ≡ kind
made_kind true kind stage pin next = refl
made_kind false kind stage pin next = refl

-- a CPU set to what it is
with_itself : (s : State) (c : ℕ) → with_cpu s c (cpu_at s c) ≡ s
with_itself s c = λ i. record s { cpus = set-get_or s.cpus c new_cpu i }

module _ {ph : Phase} {w : World} (i : InPlay ph w) (none : (d : ℕ) → hands_in ph d ≡ false) where
  free : (d : ℕ) → (cpu_of w d).walk ≡ None
  free d = no_walk ph d (cpu_of w d).walk (none d) (i.in_run.walks d)

  -- THE WALK, from the step that began it to its end
  pub done : StepsStayLawful → (c : ℕ) → c < length w.cpus → (z : CpuRecord) →
      IsLawful (own w c z) → (kind : WalkKind) → (kind ≡ kinds.Activate → ⊥) → (stage : Stage) →
      Begins stage → (pin next : ℕ) →
      z.walk ≡ begun_where (is_some (group_at_of w.tree c 0)) kind stage pin next →
      IsDone w c z kind (walked_out c (own w c z))
  done laws c low z began kind tells stage start pin next walk =
      let b = is_some (group_at_of w.tree c 0) in
      let is = made_kind b kind stage pin next in
      let made = made_where b kind stage pin next in
      subst (λ n. IsDone w c z n (walked_out c (own w c z))) is
      (is_done laws w c z low made (λ act. tells (sym is ∙ act)) (walked_out c (own w c z))
      (ends laws w c z low began i.exact (λ d ne. free d) kind tells stage start pin next walk
      (λ l g at. below_count w.tree (paths w.tree i.in_run.planned) c l g at)))

  -- what CPU c, that is y now and told this time, is in the phase that it is now
  pub record IsNow (now : Phase) (c : ℕ) (y : CpuRecord) (time : ℕ) : Type 0 where
    pub told : (y.online && y.idle) ≡ false → time ≡ NEVER
    pub bases : y.bases ≡ (cpu_of w c).bases
    pub inside : y.inside ≡ is_inside now c
    pub mark : y.mark ≡ marker_in now c
    pub walk : WalkFits now c y.walk
    -- and what others are
    pub insides : (d : ℕ) → d ≢ c → is_inside ph d ≡ is_inside now d
    pub marks : (d : ℕ) → d ≢ c → marker_in ph d ≡ marker_in now d
    pub hands : (d : ℕ) → d ≢ c → hands_in now d ≡ false

  -- A CORE IN PLAY
  module _ {c : ℕ} {z : CpuRecord} {kind : WalkKind} {v : World} (e : IsDone w c z kind v) where
    -- what is so of CPU c, and of each other as it was, is so of all
    of_all : (P : ℕ → CpuRecord → Type 0) → P c (finished z e.last kind) →
        ((d : ℕ) → d ≢ c → P d (cpu_of w d)) → (d : ℕ) → P d (cpu_of v d)
    of_all P own other d = elim (cases_eq d c) [
      | inl is ↦ subst (λ n. P n (cpu_of v n)) (sym is) (subst (P c) (sym e.itself) own)
      | inr ne ↦ subst (P d) (sym (e.others d ne)) (other d ne)
    ]

    pub stays_in_play : (now : Phase) → IsNow now c (finished z e.last kind) (told_by v c) →
        InPlay now v
    stays_in_play now n = record {
      in_run = record {
        lawful = e.lawful;
        planned = subst IsPlanned (sym e.tree) i.in_run.planned;
        whole = λ d class. of_all (λ d y. NoneBehind (base_of class y.bases))
            (subst (λ b. NoneBehind (base_of class b)) (sym n.bases) (i.in_run.whole c class))
            (λ d ne. i.in_run.whole d class) d;
        inside = of_all (λ d y. y.inside ≡ is_inside now d) n.inside
            (λ d ne. i.in_run.inside d ∙ n.insides d ne);
        marks = of_all (λ d y. y.mark ≡ marker_in now d) n.mark
            (λ d ne. i.in_run.marks d ∙ n.marks d ne);
        walks = of_all (λ d y. WalkFits now d y.walk) n.walk
            (λ d ne. fits_none now d (cpu_of w d).walk (free d) (n.hands d ne));
      };
      exact = e.exact;
      told = λ d. of_all (λ d y. (y.online && y.idle) ≡ false → told_by v d ≡ NEVER) n.told
          (λ d ne awake. e.told d ne ∙ i.told d awake) d;
    }

module _ {w : World} {c : ℕ} {z : CpuRecord} {kind : WalkKind} {v : World}
    (e : IsDone w c z kind v) where
  -- what it told its leaf
  pub told_is : told_by v c ≡ cond (is_some (group_at_of w.tree c 0)) e.last.next NEVER
  told_is = by_leaf (group_at_of v.tree c 0) refl
      ∙ ap (λ t. cond (is_some (group_at_of t c 0)) e.last.next NEVER) e.tree
    where
      by_leaf : (o : Option ℕ) → group_at_of v.tree c 0 ≡ o →
          told_in v c o ≡ cond (is_some o) e.last.next NEVER
      by_leaf None at = refl
      by_leaf (Some leaf) at = ap (told_in v c) (sym at) ∙ e.own (leaf, at)

  -- PLAY'S STATE where Play makes CPU c this one
  pub record IsCpu (y : Cpu) : Type 0 where
    pub online : y.online ≡ (finished z e.last kind).online
    pub idle : y.idle ≡ (finished z e.last kind).idle
    pub told : y.told ≡ told_by v c
    pub bases : y.bases ≡ z.bases

  -- in two steps
  pub made_again : (x y : Cpu) → IsCpu y → IsMade w v c (with_cpu (with_cpu (state_of w) c x) c y)
  made_again x y p =
      let s = with_cpu (state_of w) c x in
      let count : length s.cpus ≡ length w.cpus = with_count (state_of w) c x ∙ cpus_seen w in
      let low = e.low in
      let there : c < length s.cpus = omega (arith, count, low) in
      let is = with_same s c y there in
      record {
        clock = refl;
        timers = refl;
        tree = refl;
        count = with_count s c y ∙ count;
        migrators = refl;
        others = λ d ne. with_else s c y d ne ∙ with_else (state_of w) c x d ne;
        online = ap (λ (u : Cpu). u.online) is
            ∙ (p.online ∙ sym (ap (λ (u : CpuRecord). u.online) e.itself));
        idle = ap (λ (u : Cpu). u.idle) is
            ∙ (p.idle ∙ sym (ap (λ (u : CpuRecord). u.idle) e.itself));
        told = ap (λ (u : Cpu). u.told) is ∙ p.told;
        bases = ap (λ (u : Cpu). u.bases) is
            ∙ (p.bases ∙ sym (ap (λ (u : CpuRecord). u.bases) e.itself ∙ bases_stay z e.last kind));
      }

  -- and in one, which makes it what it is first
  pub made_once : (y : Cpu) → IsCpu y → IsMade w v c (with_cpu (state_of w) c y)
  made_once y p =
      let same = with_itself (state_of w) c in
      subst (λ s. IsMade w v c (with_cpu s c y)) same (made_again (cpu_at (state_of w) c) y p)

  module _ {s : State} (m : IsMade w v c s) where
    bases_are : (cpu_at s c).bases ≡ z.bases
    bases_are = m.bases ∙ (ap (λ (u : CpuRecord). u.bases) e.itself ∙ bases_stay z e.last kind)

    module _ (r : AtRest v) where
      abbrev rule : ℕ → Option ℕ
      rule = rested_migrator s c

      count : group_count_of s.tree ≡ length v.groups
      count = ap group_count_of (m.tree ∙ sym e.tree) ∙ sym r.lawful.sized.groups

      roles : (g : ℕ) → g < length v.groups →
          migrator_at (with_migrators s rule) g ≡ (group_of v g).migrator
      roles g there = rule_at s rule g (omega (arith, there, count)) ∙ rests e m r g

      -- the wakeup is the one that Play programs
      pub record IsWoken : Type 0 where
        pub own : is_remote kind ≡ false
        pub next : next_for kind (events_of z.bases).next ≡ (events_of z.bases).next
        pub wakeup : (finished z e.last kind).wakeup ≡ min e.last.pin e.last.first

      programs : IsWoken → (cpu_of v c).wakeup ≡ min (pin_of s c) (duty s c)
      programs p =
          let pin : e.last.pin ≡ pin_of s c = e.pin ∙ ap (λ b. (events_of b).pin) (sym bases_are) in
          let first : e.last.first ≡ duty s c = sym (duty_is e m r p.own bases_are p.next) in
          ap (λ (u : CpuRecord). u.wakeup) e.itself ∙ (p.wakeup ∙ (λ i. min (pin i) (first i)))

      pub seen_rested : (cpu_at s c).wakeup ≡ (finished z e.last kind).wakeup →
          state_of v ≡ with_migrators s rule
      seen_rested wakeup =
          seen e m (map rule (range_with_len 0 (group_count_of s.tree)))
          (rule_count s rule ∙ count) roles
          (wakeup ∙ sym (ap (λ (u : CpuRecord). u.wakeup) e.itself))

      pub seen_rested_programmed : IsWoken → state_of v ≡ programmed (with_migrators s rule) c
      seen_rested_programmed p =
          seen_programmed e m (map rule (range_with_len 0 (group_count_of s.tree)))
          (rule_count s rule ∙ count) roles (programs p)

      -- of a walk that stays
      pub seen_kept_programmed : is_leaving kind ≡ false → IsWoken → state_of v ≡ programmed s c
      seen_kept_programmed stays p =
          seen_programmed e m s.migrators (ap length m.migrators ∙ (groups_seen w ∙ sym e.groups))
          (λ g there. keeps e m stays g) (programs p)

    pub seen_kept : is_leaving kind ≡ false →
        (cpu_at s c).wakeup ≡ (finished z e.last kind).wakeup → state_of v ≡ s
    seen_kept stays wakeup =
        seen e m s.migrators (ap length m.migrators ∙ (groups_seen w ∙ sym e.groups))
        (λ g there. keeps e m stays g)
        (wakeup ∙ sym (ap (λ (u : CpuRecord). u.wakeup) e.itself))
