-- steps of a walk that change no word and no event
use Rattle.std.proofs.Common.{◌≡◌, ◌≢◌, inl, inr, ◌⊎◌, ℕ, suc, ◌<◌, ◌≤◌, Bool, true, false, Some}
use Rattle.std.proofs.Common.{None, refl, sym, ap, ◌∙◌, subst, arith}
use Rattle.std.specs.Prelude.{option_map}
use Rattle.tree_plan.specs.Shape.{Shape}
use Rattle.tree_plan.specs.Paths.{group_at_of}
use Rattle.walk_rules.specs.declared.walk.Walk.{Walk}
use Rattle.walk_rules.specs.declared.walk.Stage.{Stage}
use Rattle.walk_rules.specs.Hierarchy.{group_on}
use Rattle.walk_rules.specs.Scene.{Group}
use Rattle.walk_rules.specs.Standing.{is_leaving}
use Rattle.core_world.specs.declared.step.Step.TheVariants as steps
use Rattle.core_world.specs.Enabled.{MayGoOn, MayWalk}
use Rattle.core_world.specs.Lawful.{IsLawful}
use Rattle.core_world.specs.Steps.{walk_made, walked, with_walk}
use Rattle.core_facts.specs.core_laws.Laws.{StepsStayLawful}
use Rattle.core_world.specs.Wakeups.{is_past_store}
use Rattle.core_world.specs.World.{CpuRecord, World, cpu_of, group_of, moved, stale_walk}
use Rattle.core_world.specs.Frames.{MovedLaws}
use Rattle.core_world.proofs.Moves.{beside, cpu_else, moved_laws}
use Rattle.core_world.proofs.Quiet.{moved_group_field}
use Rattle.step_play.proofs.Activation.Touches.{ExactAt, touch_none, word_told}
use Rattle.step_play.proofs.Telling.Telling.{Edges, Fields, Framed, IsFurther, Open, Tells, Words}
use Rattle.step_play.proofs.Telling.Telling.{is_under_way, left_levels, way}
use Rattle.step_play.proofs.Telling.Telling.Open.{lower, upper}

-- who has no walk is left as he is by an exchange
unread : (t : Shape) (r : Bool) (g d : ℕ) (y : CpuRecord) → y.walk ≡ None → beside t r g d y ≡ y
unread t true g d y none =
    let same : option_map (stale_walk t g d) y.walk ≡ y.walk =
    ap (option_map (stale_walk t g d)) none ∙ sym none in
    λ i. record y { walk = same i }
unread t false g d y none = refl

-- A STEP that makes group g this one and c's walk that one
abbrev pub stepping : World → (c g : ℕ) → Group → Walk → (exchanges : Bool) → World
stepping w c g x j r = moved w g x c (with_walk (cpu_of w c) (Some j)) r

-- a group that has the word and the events that another had
pub record IsSame (x y : Group) : Type 0 where
  pub active : x.active ≡ y.active
  pub migrator : x.migrator ≡ y.migrator
  pub events : x.events ≡ y.events

-- walk j is what k becomes at stage st, further on at the same level
pub record IsWithin (k : Walk) (st : Stage) (j : Walk) : Type 0 where
  pub level : j.level ≡ k.level
  pub kind : j.kind ≡ k.kind
  pub left : left_levels k.level st ≤ left_levels j.level j.stage
  pub stored : is_past_store st ≡ false → is_past_store j.stage ≡ false
  pub under : is_under_way j.stage ≡ true
  pub further : way k.level st < way j.level j.stage

module _ (w : World) (c g : ℕ) (x : Group) (j : Walk) (r : Bool) where
  abbrev new : World
  new = stepping w c g x j r

  abbrev mine : CpuRecord
  mine = with_walk (cpu_of w c) (Some j)

  pub migrator_same : x.migrator ≡ (group_of w g).migrator → (h : ℕ) →
      (group_of new h).migrator ≡ (group_of w h).migrator
  migrator_same e h = moved_group_field w g x c mine r (λ (z : Group). z.migrator) e h

  pub active_same : x.active ≡ (group_of w g).active → (h : ℕ) →
      (group_of new h).active ≡ (group_of w h).active
  active_same e h = moved_group_field w g x c mine r (λ (z : Group). z.active) e h

  pub events_same : x.events ≡ (group_of w g).events → (h : ℕ) →
      (group_of new h).events ≡ (group_of w h).events
  events_same e h = moved_group_field w g x c mine r (λ (z : Group). z.events) e h

  pub words_same : (old : World) → x.active ≡ (group_of w g).active →
      x.migrator ≡ (group_of w g).migrator → (n m : ℕ) → n ≤ m → (leaves : Bool) →
      Words old w c n leaves → Words old new c m leaves
  words_same old active migrator n m up leaves all h = elim (all h) [
    | inl s ↦ inl (record {
      active = active_same active h ∙ s.active;
      migrator = migrator_same migrator h ∙ s.migrator;
    })
    | inr l ↦ inr (record {
      level = l.level;
      low = omega (arith, up, l.low);
      there = l.there;
      leaving = l.leaving;
      active = active_same active h ∙ l.active;
      migrator = migrator_same migrator h ∙ l.migrator;
    })
  ]

module _ {old w : World} {c : ℕ} {made k : Walk} (t : Tells old c made w k) where
  pub walk_is : (cpu_of w c).walk ≡ Some k
  walk_is = ap (λ (y : CpuRecord). y.walk) t.frame.own

  -- the world after a step that is enabled is lawful
  pub lawful_after : StepsStayLawful → (st : Stage) → k.stage ≡ st → MayGoOn w c k st →
      IsLawful (walked w c k st)
  lawful_after laws st at may =
      let enabled : MayWalk w c =
      record {
        in_range = t.frame.in_range;
        made = k;
        walk = walk_is;
        may_go_on = subst (MayGoOn w c k) (sym at) may;
      } in
      let lawful = laws w (steps.Walk (record { 0 = c })) t.frame.lawful enabled in
      subst (λ s. IsLawful (walked w c k s)) at
      (subst (λ m. IsLawful (walk_made w c m)) walk_is lawful)

  -- what is so at the walk's stage, said of a stage that it is
  module _ (st : Stage) (at : k.stage ≡ st) where
    pub words_at : Words old w c (left_levels k.level st) (is_leaving made.kind)
    words_at = subst (λ s. Words old w c (left_levels k.level s) (is_leaving made.kind)) at t.words

    pub edges_at : Edges w c k.level st
    edges_at = subst (Edges w c k.level) at t.edges

    pub fields_at : Fields w c k st
    fields_at = subst (Fields w c k) at t.fields

    pub below_at : is_under_way st ≡ true → (l : ℕ) → k.level ≡ suc l →
        (group_of w (group_on w.tree c l)).migrator ≡ None
    below_at on = t.below (ap is_under_way at ∙ on)

    -- a step brings it further
    pub further : (w' : World) (j : Walk) → Tells old c made w' j →
        way k.level st < way j.level j.stage → IsFurther old c made k w'
    further w' j tells more = record {
      next = j;
      tells = tells;
      further = subst (λ s. way k.level s < way j.level j.stage) (sym at) more;
    }

  module _ (g : ℕ) (x : Group) (j : Walk) (r : Bool) where
    abbrev changed : World
    changed = stepping w c g x j r

    pub framed : IsLawful changed → j.kind ≡ k.kind → Framed old changed c made j
    framed lawful kind = record {
      lawful = lawful;
      tree = t.frame.tree;
      clock = t.frame.clock;
      timers = t.frame.timers;
      cpus = laws.cpus ∙ t.frame.cpus;
      groups = laws.groups ∙ t.frame.groups;
      in_range = subst (λ n. c < n) (sym laws.cpus) t.frame.in_range;
      own = laws.cpu t.frame.in_range ∙ ap (λ y. with_walk y (Some j)) t.frame.own;
      others = λ d ne. other d ne ∙ t.frame.others d ne;
      free = λ d ne. ap (λ (y : CpuRecord). y.walk) (other d ne) ∙ t.frame.free d ne;
      kind = kind ∙ t.frame.kind;
    }
      where
        laws : MovedLaws w g x c (with_walk (cpu_of w c) (Some j)) r
        laws = moved_laws w g x c (with_walk (cpu_of w c) (Some j)) r

        other : (d : ℕ) → d ≢ c → cpu_of changed d ≡ cpu_of w d
        other d ne = cpu_else w g x c (with_walk (cpu_of w c) (Some j)) r d ne
            ∙ unread w.tree r g d (cpu_of w d) (t.frame.free d ne)

    -- A STEP WITHIN A LEVEL that changes no word and no event
    pub stays : (st : Stage) → k.stage ≡ st → is_under_way st ≡ true → IsSame x (group_of w g) →
        IsWithin k st j → IsLawful changed → Fields changed c j j.stage →
        Tells old c made changed j
    stays st at on same within lawful fields = record {
      frame = framed lawful within.kind;
      words = words_same w c g x j r old same.active same.migrator (left_levels k.level st)
          (left_levels j.level j.stage) within.left (is_leaving made.kind) (words_at st at);
      told = λ d ne. word_told w g x c (with_walk (cpu_of w c) (Some j)) r same.events d
          ∙ t.told d ne;
      edges = λ y. edge y (edges_at st at y);
      below = λ under l e. kept (group_on w.tree c l)
          ∙ below_at st at on l (sym within.level ∙ e);
      fields = fields;
    }
      where
        kept : (h : ℕ) → (group_of changed h).migrator ≡ (group_of w h).migrator
        kept h = migrator_same w c g x j r same.migrator h

        edge : (y : ℕ) → Open w c k.level st y ⊎ ExactAt w y →
            Open changed c j.level j.stage y ⊎ ExactAt changed y
        edge y (inl (lower l e before path)) =
            inl (lower l (within.level ∙ e) (within.stored before) path)
        edge y (inl (upper under path off)) = inl (upper within.under
            (ap (group_at_of w.tree c) within.level ∙ path) (kept y ∙ off))
        edge y (inr e) = inr (touch_none w g x c (with_walk (cpu_of w c) (Some j)) r same.events
            same.migrator y e)
