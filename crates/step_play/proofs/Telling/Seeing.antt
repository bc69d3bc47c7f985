-- Play's state of the world that a walk leaves
use Rattle.std.proofs.Common.{◌≡◌, ◌≢◌, ◌⊎◌, inl, inr, ℕ, suc, ◌<◌, false, true≢false, cond, List}
use Rattle.std.proofs.Common.{Option, Some, None, length, min, refl, sym, ap, ◌∙◌, subst, arith}
use Rattle.std.specs.Prelude.{is_some, slice_index_or}
use Rattle.std.proofs.lemmas.Bool.{cases_eq}
use Rattle.std.proofs.lemmas.Option.{none-some}
use Rattle.cpu_bases.specs.CpuBases.{events_of}
use Rattle.tree_plan.specs.Paths.{group_at_of}
use Rattle.play_rules.specs.State.{Cpu, State, cpu_at, migrator_at}
use Rattle.play_rules.specs.Hierarchy.{common_duty, duty, next_of, pin_of, programmed}
use Rattle.play_rules.specs.Hierarchy.{rested_migrator}
use Rattle.walk_rules.specs.declared.walk.WalkKind.{WalkKind}
use Rattle.walk_rules.specs.Hierarchy.{HasGroup}
use Rattle.walk_rules.specs.Stages.{is_remote}
use Rattle.walk_rules.specs.Standing.{is_leaving}
use Rattle.core_world.specs.Wakeups.{next_for}
use Rattle.core_world.specs.World.{CpuRecord, World, cpu_of, group_of}
use Rattle.step_play.specs.Rules.Live.{told_by}
use Rattle.step_play.specs.Rules.Seen.{cpu_seen, state_of}
use Rattle.step_play.specs.Queues.AtRest.{AtRest}
use Rattle.step_play.proofs.Activation.Seeing.{migrator_seen, seen_as, seen_at, with_count, with_else}
use Rattle.step_play.proofs.Activation.Seeing.{with_same}
use Rattle.step_play.proofs.Telling.Duties.{IsLike, child_on, found, same_duty}
use Rattle.step_play.proofs.Telling.Ending.{IsDone}
use Rattle.step_play.proofs.Telling.Roles.{role}
use Rattle.step_play.proofs.Telling.Telling.{IsLeft, Stays}

-- a state that is as w is seen, but for CPU c, which is as Play makes it, in the world v after a
-- walk
pub record IsMade (w v : World) (c : ℕ) (s : State) : Type 0 where
  pub clock : s.clock ≡ w.clock
  pub timers : s.timers ≡ w.timers
  pub tree : s.tree ≡ w.tree
  pub count : length s.cpus ≡ length w.cpus
  pub migrators : s.migrators ≡ (state_of w).migrators
  pub others : (d : ℕ) → d ≢ c → cpu_at s d ≡ cpu_at (state_of w) d
  pub online : (cpu_at s c).online ≡ (cpu_of v c).online
  pub idle : (cpu_at s c).idle ≡ (cpu_of v c).idle
  pub told : (cpu_at s c).told ≡ told_by v c
  pub bases : (cpu_at s c).bases ≡ (cpu_of v c).bases

module _ {w : World} {c : ℕ} {z : CpuRecord} {kind : WalkKind} {v : World} (e : IsDone w c z kind v)
    {s : State} (m : IsMade w v c s) where
  -- another CPU
  else_seen : (d : ℕ) → d ≢ c → d < length v.cpus → cpu_at s d ≡ cpu_seen v d
  else_seen d ne there =
      let count = e.cpus in
      m.others d ne
      ∙ (seen_at w d (omega (arith, there, count))
      ∙ (λ i. record {
        online = (sym (e.others d ne) i).online;
        idle = (sym (e.others d ne) i).idle;
        wakeup = (sym (e.others d ne) i).wakeup;
        told = sym (e.told d ne) i;
        bases = (sym (e.others d ne) i).bases;
      }))

  -- in what duty and activity go by the state is alike
  part : {X : Type 0} (f : Cpu → X) → f (cpu_at s c) ≡ f (cpu_seen v c) → (d : ℕ) →
      d < length v.cpus → f (cpu_at s d) ≡ f (cpu_seen v d)
  part f own d there = elim (cases_eq d c) [
    | inl same ↦ subst (λ n. f (cpu_at s n) ≡ f (cpu_seen v n)) (sym same) own
    | inr ne ↦ ap f (else_seen d ne there)
  ]

  pub like : IsLike s v
  like = record {
    tree = m.tree ∙ sym e.tree;
    count = m.count ∙ sym e.cpus;
    online = part (λ y. y.online) m.online;
    idle = part (λ y. y.idle) m.idle;
    told = part (λ y. y.told) m.told;
  }

  -- THE MIGRATORS
  before : (g : ℕ) → migrator_at s g ≡ (group_of w g).migrator
  before g = ap (λ ms. slice_index_or ms g None) m.migrators ∙ migrator_seen w g

  -- of a walk that goes away
  pub rests : AtRest v → (g : ℕ) → rested_migrator s c g ≡ (group_of v g).migrator
  rests r g =
      let here : State = record s { tree = v.tree } in
      let same : s ≡ here = λ i. record s { tree = (m.tree ∙ sym e.tree) i } in
      let like_here : IsLike here v =
      record {
        tree = refl;
        count = like.count;
        online = like.online;
        idle = like.idle;
        told = like.told;
      } in
      ap (λ x. rested_migrator x c g) same
      ∙ role r s.clock s.timers s.cpus s.migrators w c (child_on like_here r) before
      (suc e.last.level) (is_leaving kind) g (e.words g)

  -- and of one that stays
  pub keeps : is_leaving kind ≡ false → (g : ℕ) → migrator_at s g ≡ (group_of v g).migrator
  keeps stays g = before g ∙ by_word (e.words g)
    where
      by_word : Stays w v g ⊎ IsLeft w v c (suc e.last.level) (is_leaving kind) g →
          (group_of w g).migrator ≡ (group_of v g).migrator
      by_word (inl t) = sym t.migrator
      by_word (inr l) = absurd (true≢false (sym l.leaving ∙ stays))

  -- DUTY
  pub common_is : AtRest v → is_remote kind ≡ false → HasGroup v.tree c →
      common_duty s ≡ e.last.first
  common_is r own has = same_duty like
      ∙ sym (found r c e.last (ap is_remote e.sort ∙ own) (e.found has))

  pub duty_is : AtRest v → is_remote kind ≡ false → (cpu_at s c).bases ≡ z.bases →
      next_for kind (events_of z.bases).next ≡ (events_of z.bases).next → duty s c ≡ e.last.first
  duty_is r own bases next = by_leaf (group_at_of s.tree c 0) refl
    where
      tree : s.tree ≡ v.tree
      tree = m.tree ∙ sym e.tree

      by_leaf : (o : Option ℕ) → group_at_of s.tree c 0 ≡ o →
          cond (is_some o) (common_duty s) (next_of s c) ≡ e.last.first
      by_leaf (Some leaf) at =
          let has : HasGroup v.tree c = (leaf, ap (λ t. group_at_of t c 0) (sym tree) ∙ at) in
          common_is r own has
      by_leaf None at =
          let none : HasGroup v.tree c → ⊥ = λ has. none-some has.0
          (sym at ∙ (ap (λ t. group_at_of t c 0) tree ∙ has.1)) in
          ap (λ b. (events_of b).next) bases ∙ sym (e.alone none ∙ (e.next ∙ next))

  -- THE STATE, with migrators of its own
  module _ (ms : List (Option ℕ)) (long : length ms ≡ length v.groups)
      (roles : (g : ℕ) → g < length v.groups →
      slice_index_or ms g None ≡ (group_of v g).migrator) where
    abbrev t : State
    t = record s { migrators = ms }

    pub seen : (cpu_at s c).wakeup ≡ (cpu_of v c).wakeup → state_of v ≡ t
    seen wakeup = seen_as v t (m.clock ∙ sym e.clock) (m.timers ∙ sym e.timers)
        (m.tree ∙ sym e.tree) (m.count ∙ sym e.cpus) cpu long roles
      where
        own : cpu_at s c ≡ cpu_seen v c
        own = λ i. record {
          online = m.online i;
          idle = m.idle i;
          wakeup = wakeup i;
          told = m.told i;
          bases = m.bases i;
        }

        cpu : (d : ℕ) → d < length v.cpus → cpu_at s d ≡ cpu_seen v d
        cpu d there = elim (cases_eq d c) [
          | inl same ↦ subst (λ n. cpu_at s n ≡ cpu_seen v n) (sym same) own
          | inr ne ↦ else_seen d ne there
        ]

    pub seen_programmed : (cpu_of v c).wakeup ≡ min (pin_of s c) (duty s c) →
        state_of v ≡ programmed t c
    seen_programmed wakeup =
        seen_as v (programmed t c) (m.clock ∙ sym e.clock) (m.timers ∙ sym e.timers)
        (m.tree ∙ sym e.tree) (with_count t c set ∙ (m.count ∙ sym e.cpus)) cpu long roles
      where
        set : Cpu
        set = record (cpu_at t c) { wakeup = min (pin_of t c) (duty t c) }

        own : set ≡ cpu_seen v c
        own = λ i. record {
          online = m.online i;
          idle = m.idle i;
          wakeup = sym wakeup i;
          told = m.told i;
          bases = m.bases i;
        }

        there : c < length s.cpus
        there = let count = m.count in let low = e.low in omega (arith, low, count)

        cpu : (d : ℕ) → d < length v.cpus → cpu_at (programmed t c) d ≡ cpu_seen v d
        cpu d inside = elim (cases_eq d c) [
          | inl same ↦ subst (λ n. cpu_at (programmed t c) n ≡ cpu_seen v n) (sym same)
              (with_same t c set there ∙ own)
          | inr ne ↦ with_else t c set d ne ∙ else_seen d ne inside
        ]
