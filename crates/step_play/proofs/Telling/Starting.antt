-- a walk that tells begins
use Rattle.std.proofs.Common.{◌≡◌, ◌≢◌, ◌⊎◌, inl, inr, ℕ, ◌<◌, Bool, true, false, Option, Some}
use Rattle.std.proofs.Common.{None, length, refl, sym, ap, ◌∙◌, subst, arith}
use Rattle.std.specs.Prelude.{is_some}
use Rattle.std.proofs.lemmas.Option.{none-some}
use Rattle.tm_base.specs.declared.names.TheConstants.{NEVER}
use Rattle.tree_plan.specs.Paths.{group_at_of, level_count_of}
use Rattle.walk_rules.specs.declared.walk.Walk.{Walk}
use Rattle.walk_rules.specs.declared.walk.WalkKind.{WalkKind}
use Rattle.walk_rules.specs.declared.walk.WalkKind.TheVariants as kinds
use Rattle.walk_rules.specs.declared.walk.Stage.{Stage}
use Rattle.walk_rules.specs.declared.walk.Stage.TheVariants as stages
use Rattle.walk_rules.specs.Stages.{started}
use Rattle.core_facts.specs.core_laws.Laws.{StepsStayLawful}
use Rattle.core_world.specs.Lawful.{IsLawful}
use Rattle.core_world.specs.Steps.{with_walk}
use Rattle.walk_rules.specs.Stages.{begun_where}
use Rattle.core_world.specs.World.{CpuRecord, World, cpu_of, group_of, own}
use Rattle.core_world.proofs.Moves.{cpu_else, cpu_same, moved_laws}
use Rattle.step_play.specs.Rules.Alone.{walked_out}
use Rattle.step_play.specs.Rules.Live.{Exact}
use Rattle.step_play.proofs.Activation.Touches.{own_exact}
use Rattle.step_play.proofs.Telling.Running.{HasEnded, ends_at_once, runs_out}
use Rattle.step_play.proofs.Telling.Telling.{Begun, Fields, Tells}

-- the walk that begins, by whether its CPU has a group
abbrev pub made_where : Bool → WalkKind → Stage → (pin next : ℕ) → Walk
made_where true kind stage pin next = started kind stage pin next NEVER
made_where false kind stage pin next = started kind stages.Finish pin next next

pub begun_is : (b : Bool) (kind : WalkKind) → (kind ≡ kinds.Activate → ⊥) →
    (stage : Stage) (pin next : ℕ) →
    begun_where b kind stage pin next ≡ Some (made_where b kind stage pin next)
begun_is true kind tells stage pin next = refl
begun_is false kinds.Activate tells stage pin next = absurd (tells refl)
begun_is false kinds.Deactivate tells stage pin next = refl
begun_is false kinds.Offline tells stage pin next = refl
begun_is false kinds.Reeval tells stage pin next = refl
begun_is false (kinds.Remote by) tells stage pin next = refl

-- where a walk that tells begins
abbrev pub Begins : Stage → Type 0
Begins stage = (stage ≡ stages.Read) ⊎ (stage ≡ stages.LockGroup)

begun_fields : (w : World) (c : ℕ) (k : Walk) (stage : Stage) → Begins stage → Begun k →
    Fields w c k stage
begun_fields w c k stage (inl read) b = subst (Fields w c k) (sym read) b
begun_fields w c k stage (inr lock) b = subst (Fields w c k) (sym lock) b

module _ (laws : StepsStayLawful) (w : World) (c : ℕ) (z : CpuRecord) (low : c < length w.cpus)
    (lawful : IsLawful (own w c z)) (exact : Exact w)
    (free : (d : ℕ) → d ≢ c → (cpu_of w d).walk ≡ None) where
  abbrev old : World
  old = own w c z

  module _ (made : Walk) (walk : z.walk ≡ Some made) (level : made.level ≡ 0)
      (fields : Fields old c made made.stage) where
    pub begins : Tells old c made old made
    begins = record {
      frame = record {
        lawful = lawful;
        tree = refl;
        clock = refl;
        timers = refl;
        cpus = refl;
        groups = refl;
        in_range = subst (λ n. c < n) (sym (moved_laws w 0 (group_of w 0) c z false).cpus) low;
        own = λ i. with_walk (cpu_of old c) (mine i);
        others = λ d ne. refl;
        free = λ d ne. ap (λ (y : CpuRecord). y.walk) (cpu_else w 0 (group_of w 0) c z false d ne)
            ∙ free d ne;
        kind = refl;
      };
      words = λ g. inl (record { active = refl; migrator = refl });
      told = λ d ne. refl;
      edges = λ x. inr (own_exact w c z x (λ p up. exact x p up));
      below = λ on l e. absurd (omega (arith, level, e));
      fields = fields;
    }
      where
        mine : (cpu_of old c).walk ≡ Some made
        mine = ap (λ (y : CpuRecord). y.walk) (cpu_same w 0 (group_of w 0) c z false low) ∙ walk

  module _ (kind : WalkKind) (tells : kind ≡ kinds.Activate → ⊥) (stage : Stage)
      (start : Begins stage) (pin next : ℕ)
      (walk : z.walk ≡ begun_where (is_some (group_at_of w.tree c 0)) kind stage pin next)
      (deep : (l g : ℕ) → group_at_of w.tree c l ≡ Some g → l < level_count_of w.tree) where
    abbrev made : Walk
    made = made_where (is_some (group_at_of w.tree c 0)) kind stage pin next

    -- A WALK THAT TELLS ENDS
    pub ends : HasEnded old c made (walked_out c old)
    ends = by_group (group_at_of w.tree c 0) refl
      where
        by_group : (m : Option ℕ) → group_at_of w.tree c 0 ≡ m →
            HasEnded old c made (walked_out c old)
        by_group None none =
            let k : Walk = made_where false kind stage pin next in
            let is : made ≡ k = ap (λ m. made_where (is_some m) kind stage pin next) none in
            subst (λ n. HasEnded old c n (walked_out c old)) (sym is)
            (ends_at_once laws old c k
            (begins k (walk ∙ (ap (λ m. begun_where (is_some m) kind stage pin next) none
            ∙ begun_is false kind tells stage pin next)) refl
            (λ has. absurd (none-some has.0 (sym none ∙ has.1)))) refl)
        by_group (Some g) there =
            let k : Walk = made_where true kind stage pin next in
            let is : made ≡ k = ap (λ m. made_where (is_some m) kind stage pin next) there in
            subst (λ n. HasEnded old c n (walked_out c old)) (sym is)
            (runs_out laws old c k (g, there) deep
            (begins k (walk ∙ (ap (λ m. begun_where (is_some m) kind stage pin next) there
            ∙ begun_is true kind tells stage pin next)) refl
            (begun_fields old c k stage start (record { first = refl; best = refl }))))
