-- a walk gives its locks back, and goes one level higher or comes to its end
use Rattle.std.proofs.Common.{◌≡◌, ◌⊎◌, inl, inr, ℕ, zero, suc, ◌<◌, ◌≤◌, Bool, true}
use Rattle.std.proofs.Common.{false, true≢false, cond, Option, Some, None, refl, sym, ap, ◌∙◌}
use Rattle.std.proofs.Common.{arith}
use Rattle.std.specs.Prelude.{◌&&◌, ◌||◌, is_none, is_some, not}
use Rattle.std.proofs.lemmas.Bool.{and_left, cond-false, or_parts}
use Rattle.std.proofs.lemmas.Option.{same_Some}
use Rattle.tm_base.specs.declared.names.TheConstants.{NEVER}
use Rattle.tm_base.specs.Children.{of_group}
use Rattle.tree_plan.specs.Paths.{group_at_of, parent_of}
use Rattle.walk_rules.specs.declared.walk.Walk.{Walk}
use Rattle.walk_rules.specs.declared.walk.WalkKind.{WalkKind}
use Rattle.walk_rules.specs.declared.walk.WalkKind.TheVariants as kinds
use Rattle.walk_rules.specs.declared.walk.Stage.{Stage}
use Rattle.walk_rules.specs.declared.walk.Stage.TheVariants as stages
use Rattle.walk_rules.specs.Hierarchy.{at_top, group_on}
use Rattle.walk_rules.specs.Scene.{Group}
use Rattle.walk_rules.specs.Stages.{at_stage, first_stage, free_group_next, freed_next, higher}
use Rattle.walk_rules.specs.Stages.{is_remote, with_lock}
use Rattle.walk_rules.specs.Standing.{is_leaving}
use Rattle.core_facts.specs.core_laws.Laws.{StepsStayLawful}
use Rattle.core_world.specs.Lawful.{IsLawful}
use Rattle.core_world.specs.Steps.{child_here, here, walked, with_walk}
use Rattle.core_world.specs.Wakeups.{is_past_store}
use Rattle.core_world.specs.World.{World, cpu_of, group_of}
use Rattle.core_facts.proofs.core_laws.Edges.Facts.{through_group}
use Rattle.step_play.specs.Rules.Live.{told_by}
use Rattle.step_play.proofs.Activation.Touches.{ExactAt, touch_none, word_told}
use Rattle.step_play.proofs.Telling.Slots.{least_live}
use Rattle.step_play.proofs.Telling.Looking.{calm}
use Rattle.step_play.proofs.Telling.Standing.{fits, sees_on, there}
use Rattle.step_play.proofs.Telling.Staying.{IsSame, edges_at, events_same, fields_at, framed}
use Rattle.step_play.proofs.Telling.Staying.{further}
use Rattle.step_play.proofs.Telling.Staying.{lawful_after, migrator_same, stepping, words_at}
use Rattle.step_play.proofs.Telling.Staying.{words_same}
use Rattle.step_play.proofs.Telling.Telling.{Begun, Fields, IsFound, IsFurther, Open, Tells}
use Rattle.step_play.proofs.Telling.Telling.{Words, is_under_way, left_levels, looks, place}
use Rattle.step_play.proofs.Telling.Telling.Open.{lower, upper}

none_of : (m : Option ℕ) → is_some m ≡ false → m ≡ None
none_of None e = refl
none_of (Some n) e = absurd (true≢false e)

-- where a level begins
left_there : (kind : WalkKind) (l : ℕ) → l ≤ left_levels l (first_stage kind)
left_there kinds.Activate l = omega arith
left_there kinds.Deactivate l = omega arith
left_there kinds.Offline l = omega arith
left_there kinds.Reeval l = omega arith
left_there (kinds.Remote by) l = omega arith

stored_there : (kind : WalkKind) → is_past_store (first_stage kind) ≡ false
stored_there kinds.Activate = refl
stored_there kinds.Deactivate = refl
stored_there kinds.Offline = refl
stored_there kinds.Reeval = refl
stored_there (kinds.Remote by) = refl

begins : (w : World) (c : ℕ) (k : Walk) (kind : WalkKind) → (kind ≡ kinds.Activate → ⊥) →
    Begun k → Fields w c k (first_stage kind)
begins w c k kinds.Activate tells b = absurd (tells refl)
begins w c k kinds.Deactivate tells b = b
begins w c k kinds.Offline tells b = b
begins w c k kinds.Reeval tells b = b
begins w c k (kinds.Remote by) tells b = b

-- what it found stays
found_same : (w : World) (c : ℕ) (k : Walk) (g : ℕ) (x : Group) → IsSame x (group_of w g) →
    (st : Stage) → IsFound w c k →
    IsFound (stepping w c g x (at_stage k st) false) c (at_stage k st)
found_same w c k g x same st f = record {
  sees = record {
    on = sees_on w c k g x (at_stage k st) same.migrator f.sees;
    over = f.sees.over;
  };
  first = f.first ∙ ap (λ es. cond (looks w c k) (least_live es) NEVER)
      (sym (events_same w c g x (at_stage k st) false same.events (here w c k)));
}

module _ (laws : StepsStayLawful) {old w : World} {c : ℕ} {made k : Walk}
    (t : Tells old c made w k) where
  module _ (st : Stage) (at : k.stage ≡ st) (on : is_under_way st ≡ true)
      (past : is_past_store st ≡ true) (early : place st < 26)
      (left : left_levels k.level st ≡ suc k.level) (tells : k.kind ≡ kinds.Activate → ⊥)
      (f : IsFound w c k) (g : ℕ) (x : Group) (same : IsSame x (group_of w g)) where
    abbrev Freed : Bool → World
    Freed o = stepping w c g x (freed_next o k) false

    parts : k.over ≡ false → (k.on ≡ false) × (at_top w.tree c k.level ≡ false)
    parts e = or_parts k.on (at_top w.tree c k.level) (sym f.sees.over ∙ e)

    here_off : k.over ≡ false → (group_of w (here w c k)).migrator ≡ None
    here_off e = none_of (group_of w (here w c k)).migrator (sym f.sees.on ∙ (parts e).0)

    -- a group that is inactive and isn't the top has its edge left to tell
    closed : k.over ≡ true → (y p : ℕ) → parent_of w.tree (of_group y) ≡ Some p →
        Open w c k.level st y → ⊥
    closed o y p parent (lower l e before path) = true≢false (sym past ∙ before)
    closed o y p parent (upper under path off) =
        let up : group_at_of w.tree c (suc k.level) ≡ Some p =
        t.frame.lawful.hierarchy.onwards c (suc k.level) (of_group y)
        (through_group w.tree c k.level y path) ∙ parent in
        let one : here w c k ≡ y = same_Some _ _ (sym (there t st at on) ∙ path) in
        let no_on : k.on ≡ false =
        f.sees.on ∙ ap is_some (ap (λ h. (group_of w h).migrator) one ∙ off) in
        let no_top : at_top w.tree c k.level ≡ false = ap is_none up in
        true≢false (sym o ∙ (f.sees.over ∙ (λ i. no_on i || no_top i)))

    kept : (o : Bool) (y : ℕ) → ExactAt w y → ExactAt (Freed o) y
    kept o y e = touch_none w g x c (with_walk (cpu_of w c) (Some (freed_next o k))) false
        same.events same.migrator y e

    told : (o : Bool) (d : ℕ) → told_by (Freed o) d ≡ told_by w d
    told o d = word_told w g x c
        (with_walk (cpu_of w c) (Some (freed_next o k))) false same.events d

    role : (o : Bool) (h : ℕ) → (group_of (Freed o) h).migrator ≡ (group_of w h).migrator
    role o h = migrator_same w c g x (freed_next o k) false same.migrator h

    words : (o : Bool) (m : ℕ) → suc k.level ≤ m →
        Words old (Freed o) c m (is_leaving made.kind)
    words o m up = words_same w c g x (freed_next o k) false old same.active same.migrator
        (left_levels k.level st) m (omega (arith, left, up)) (is_leaving made.kind)
        (words_at t st at)

    -- THE END
    over_edge : k.over ≡ true → (y : ℕ) → Open w c k.level st y ⊎ ExactAt w y →
        Open (Freed true) c k.level stages.Finish y ⊎ ExactAt (Freed true) y
    over_edge o y (inl opened) = inr (λ p parent. absurd (closed o y p parent opened))
    over_edge o y (inr e) = inr (kept true y e)

    -- OR ONE LEVEL HIGHER
    higher_edge : (y : ℕ) → Open w c k.level st y ⊎ ExactAt w y →
        Open (Freed false) c (suc k.level) (first_stage k.kind) y ⊎ ExactAt (Freed false) y
    higher_edge y (inl (lower l e before path)) = absurd (true≢false (sym past ∙ before))
    higher_edge y (inl (upper under path off)) =
        inl (lower k.level refl (stored_there k.kind) path)
    higher_edge y (inr e) = inr (kept false y e)

    pub freed : (o : Bool) → k.over ≡ o → IsLawful (Freed o) → IsFurther old c made k (Freed o)
    freed true o lawful =
        let j = at_stage k stages.Finish in
        further t st at (Freed true) j (record {
          frame = framed t g x j false lawful refl;
          words = words true (suc k.level) (omega arith);
          told = λ d ne. told true d ∙ t.told d ne;
          edges = λ y. over_edge o y (edges_at t st at y);
          below = λ under l e. absurd (true≢false (sym under));
          fields = λ has. found_same w c k g x same stages.Finish f;
        }) (omega (arith, early))
    freed false o lawful =
        let j = higher k (first_stage k.kind) in
        let sees : looks w c k ≡ false = and_left (at_top w.tree c k.level)
        (not k.on && not (is_remote k.kind)) (parts o).1 in
        further t st at (Freed false) j (record {
          frame = framed t g x j false lawful refl;
          words = words false (left_levels (suc k.level) (first_stage k.kind))
              (left_there k.kind (suc k.level));
          told = λ d ne. told false d ∙ t.told d ne;
          edges = λ y. higher_edge y (edges_at t st at y);
          below = λ under l e.
              let one : l ≡ k.level = omega (arith, e) in
              role false (group_on w.tree c l)
              ∙ (ap (λ n. (group_of w (group_on w.tree c n)).migrator) one ∙ here_off o);
          fields = begins (Freed false) c j k.kind tells (record {
            first = f.first ∙ cond-false (looks w c k)
                (least_live (group_of w (here w c k)).events) NEVER sees;
            best = refl;
          });
        }) (omega (arith, early))

  pub free_child : k.stage ≡ stages.FreeChild →
      IsFurther old c made k (walked w c k stages.FreeChild)
  free_child at =
      freed stages.FreeChild at refl refl (omega arith) refl
      (fits t stages.FreeChild at refl).0
      (fields_at t stages.FreeChild at) (child_here w c k)
      (with_lock (group_of w (child_here w c k)) None)
      (record { active = refl; migrator = refl; events = refl }) k.over refl
      (lawful_after t laws stages.FreeChild at tt)

  pub free_group : k.stage ≡ stages.FreeGroup →
      IsFurther old c made k (walked w c k stages.FreeGroup)
  free_group at =
      by_level k.level (lawful_after t laws stages.FreeGroup at tt)
    where
      f : IsFound w c k
      f = fields_at t stages.FreeGroup at

      x : Group
      x = with_lock (group_of w (here w c k)) None

      same : IsSame x (group_of w (here w c k))
      same = record { active = refl; migrator = refl; events = refl }

      by_level : (n : ℕ) →
          IsLawful (stepping w c (here w c k) x (free_group_next n k) false) →
          IsFurther old c made k (stepping w c (here w c k) x (free_group_next n k) false)
      by_level zero l =
          freed stages.FreeGroup at refl refl (omega arith) refl
          (fits t stages.FreeGroup at refl) f (here w c k) x same k.over refl l
      by_level (suc n) l =
          calm laws t stages.FreeGroup at refl (here w c k) x same
          (at_stage k stages.FreeChild)
          (record {
            level = refl;
            kind = refl;
            left = omega arith;
            stored = λ e. e;
            under = refl;
            further = omega arith;
          })
          l (found_same w c k (here w c k) x same stages.FreeChild f)
