-- an activation that is made alone, from its start to its end
use Rattle.std.proofs.Common.{◌≡◌, ◌≢◌, ◌⊎◌, inl, inr, ℕ, suc, ◌+◌, ◌*◌, ◌<◌, ◌≤◌}
use Rattle.std.proofs.Common.{cond, true, false, true≢false, length, Option, Some, None}
use Rattle.std.proofs.Common.{refl, sym, ap, ◌∙◌, subst, arith}
use Rattle.std.specs.Prelude.{is_some}
use Rattle.std.proofs.lemmas.Bool.{cases_lt}
use Rattle.std.proofs.lemmas.Option.{none-some}
use Rattle.tm_base.specs.declared.names.TheConstants.{NEVER}
use Rattle.tm_base.specs.Children.{of_group}
use Rattle.cpu_bases.specs.CpuBases.{events_of}
use Rattle.tree_plan.specs.Shape.{Shape}
use Rattle.tree_plan.specs.Paths.{group_at_of, level_count_of}
use Rattle.tree_plan.specs.Laws.{PathLaws}
use Rattle.walk_rules.specs.declared.walk.Walk.{Walk}
use Rattle.walk_rules.specs.declared.walk.WalkKind.TheVariants as kinds
use Rattle.walk_rules.specs.declared.walk.Stage.{Stage}
use Rattle.walk_rules.specs.declared.walk.Stage.TheVariants as stages
use Rattle.walk_rules.specs.Scene.{Group}
use Rattle.walk_rules.specs.Stages.{started}
use Rattle.core_world.specs.Lawful.{IsLawful}
use Rattle.core_world.specs.Steps.{begins, with_walk}
use Rattle.walk_rules.specs.Stages.{begun_where}
use Rattle.core_world.specs.World.{CpuRecord, World, cpu_of, group_of, own}
use Rattle.core_world.proofs.Moves.{cpu_else, cpu_same, moved_laws}
use Rattle.core_world.proofs.Quiet.{own_group}
use Rattle.core_facts.proofs.Cover.Climbing.{parent_next}
use Rattle.core_facts.specs.core_laws.Laws.{StepsStayLawful}
use Rattle.step_play.specs.Rules.Alone.{goes_on, is_handing, most_steps, walked_out}
use Rattle.step_play.specs.Rules.Live.{Exact, told_in}
use Rattle.step_play.proofs.Activation.Alongside.{Alongside}
use Rattle.step_play.proofs.Activation.Ascents.{Arrived, AtMark, AtOwn, AtUp, none_above}
use Rattle.step_play.proofs.Activation.Calm.{IsCalm, above}
use Rattle.step_play.proofs.Activation.Climbing.{passes}
use Rattle.step_play.proofs.Activation.Made.{Made}
use Rattle.step_play.proofs.Activation.Rising.{owned, risen}
use Rattle.step_play.proofs.Activation.Touches.{own_exact, own_told}
use Rattle.step_play.proofs.Activation.Walking.{onwards, stays, walks_out}

-- a path has no group at the number of levels or above
below_count : (t : Shape) → PathLaws t → (c l g : ℕ) → group_at_of t c l ≡ Some g →
    l < level_count_of t
below_count t paths c l g at = elim (cases_lt l (level_count_of t)) [
  | inl low ↦ low
  | inr high ↦ absurd (none-some g (sym (paths.beyond c l (omega arith)) ∙ at))
]

module _ (law : StepsStayLawful) (old : World) (c : ℕ) (y : CpuRecord) where
  -- what holds of a world from which the walk makes at most n steps
  pub data Climbs (n : ℕ) (w : World) : Type 0 where
    owning : AtOwn old c y n w → Climbs n w
    rising : AtUp old c y n w → Climbs n w
    marking : AtMark old c y n w → Climbs n w
    arrived : Arrived old c y w → Climbs n w

  from_up : (n : ℕ) (w : World) → AtMark old c y n w ⊎ Arrived old c y w → Climbs n w
  from_up n w (inl m) = marking m
  from_up n w (inr e) = arrived e

  from_mark : (n : ℕ) (w : World) → AtUp old c y n w ⊎ Arrived old c y w → Climbs n w
  from_mark n w (inl u) = rising u
  from_mark n w (inr e) = arrived e

  climb : (n : ℕ) (w : World) → Climbs (suc n) w → goes_on (cpu_of w c).walk ≡ true →
      Climbs n (onwards c w)
  climb n w (owning o) on =
      rising (owned law old c y w o.along o.k o.walk o.g o.here n o.stage o.low o.made o.exact
      (let l = o.left in omega arith))
  climb n w (rising u) on = from_up n (onwards c w)
      (risen law old c y w u.along u.k u.walk u.g u.here u.made n u.stage u.exact u.own
      (let l = u.left in omega arith))
  climb n w (marking m) on = from_mark n (onwards c w)
      (passes law old c y w m.along m.k m.walk m.more m.g m.here m.p m.above m.on m.exact n m.stage
      m.made m.stop m.own m.left)
  climb n w (arrived e) on = absurd (true≢false (sym on ∙ ap goes_on e.stops))

  no_more : (w : World) → Climbs 0 w → goes_on (cpu_of w c).walk ≡ false
  no_more w (owning o) = let l = o.left in absurd (omega arith)
  no_more w (rising u) =
      let l = u.left in
      let low = below_count w.tree u.along.paths c u.k.level u.g u.here in absurd (omega arith)
  no_more w (marking m) =
      let l = m.left in
      let low = below_count w.tree m.along.paths c m.k.level m.g m.here in absurd (omega arith)
  no_more w (arrived e) = ap goes_on e.stops

  going : (w : World) (k : Walk) (st : Stage) → (cpu_of w c).walk ≡ Some k → k.stage ≡ st →
      is_handing st ≡ false → goes_on (cpu_of w c).walk ≡ false → ⊥
  going w k st walk at moves off = true≢false (sym (ap goes_on walk
      ∙ (ap (λ v. cond (is_handing v) false true) at
      ∙ ap (λ b. cond b false true) moves)) ∙ off)

  -- a walk that has stopped has arrived
  at_end : (n : ℕ) (w : World) → Climbs n w → goes_on (cpu_of w c).walk ≡ false →
      Arrived old c y w
  at_end n w (owning o) off = absurd (going w o.k stages.Own o.walk o.stage refl off)
  at_end n w (rising u) off = absurd (going w u.k stages.Up u.walk u.stage refl off)
  at_end n w (marking m) off =
      absurd (going w m.k (stages.Mark m.more) m.walk m.stage refl off)
  at_end n w (arrived e) off = e

  pub climbs_out : (n : ℕ) (w : World) → n ≤ most_steps w → Climbs n w →
      Arrived old c y (walked_out c w)
  climbs_out n w few h =
      let e = walks_out c Climbs climb no_more n w few h in
      at_end e.left (walked_out c w) e.holds e.stands

-- THE START: CPU c becomes z, which has an activation
module _ (law : StepsStayLawful) (old : World) (c : ℕ) (z : CpuRecord) (low : c < length old.cpus)
    (lawful : IsLawful old) (paths : PathLaws old.tree) (calm : IsCalm old) (exact : Exact old)
    (walk : z.walk ≡ begins old c kinds.Activate stages.Own)
    (began : IsLawful (own old c z)) where
  abbrev start : World
  start = own old c z

  abbrev rest : CpuRecord
  rest = with_walk z None

  begun_else : (d : ℕ) → d ≢ c → cpu_of start d ≡ cpu_of old d
  begun_else d ne = cpu_else old 0 (group_of old 0) c z false d ne

  begun_same : cpu_of start c ≡ z
  begun_same = cpu_same old 0 (group_of old 0) c z false low

  begun : Alongside old c rest start
  begun =
      let laws = moved_laws old 0 (group_of old 0) c z false in
      record {
        tree = refl;
        timers = refl;
        clock = refl;
        cpus = laws.cpus;
        groups = laws.groups;
        in_range = (let same = laws.cpus in omega (arith, low));
        lawful = began;
        paths = paths;
        others = begun_else;
        still = λ d ne. ap (λ (v : CpuRecord). goes_on v.walk) (begun_else d ne) ∙ calm d;
        itself = ap (λ (v : CpuRecord). with_walk v None) begun_same;
        told = λ d ne. own_told old c z d;
        upwards = λ i g p at up on. above old lawful calm (of_group g) p
            (parent_next old.tree c i g p at up) on;
      }

  none_made : Made old c 0 start
  none_made = record {
    was = λ i g less at. absurd (omega arith);
    now = λ i g less at. absurd (omega arith);
    rest = λ g none. ap (λ (x : Group). x.migrator) (own_group old c z g);
  }

  begun_walk : (m : Option ℕ) → group_at_of old.tree c 0 ≡ m → (cpu_of start c).walk
      ≡ begun_where (is_some m) kinds.Activate stages.Own (events_of (cpu_of old c).bases).pin
      (events_of (cpu_of old c).bases).next
  begun_walk m at = ap (λ (v : CpuRecord). v.walk) begun_same ∙ (walk
      ∙ ap (λ v. begun_where (is_some v) kinds.Activate stages.Own
      (events_of (cpu_of old c).bases).pin (events_of (cpu_of old c).bases).next) at)

  -- without a group it ends at once
  no_group : group_at_of old.tree c 0 ≡ None → Arrived old c rest start
  no_group at = record {
    along = begun;
    stops = begun_walk None at;
    count = 0;
    made = none_made;
    over = λ i g high there. absurd (none_above old.tree lawful.hierarchy c 0 i g at high there);
    exact = λ v. own_exact old c z v (exact v);
    own = ap (told_in start c) at;
  }

  at_leaf : (g : ℕ) → group_at_of old.tree c 0 ≡ Some g →
      AtOwn old c rest (2 * level_count_of old.tree + 1) start
  at_leaf g at = record {
    along = begun;
    k = started kinds.Activate stages.Own (events_of (cpu_of old c).bases).pin
        (events_of (cpu_of old c).bases).next NEVER;
    walk = begun_walk (Some g) at;
    stage = refl;
    low = refl;
    g = g;
    here = at;
    made = none_made;
    exact = λ v. own_exact old c z v (exact v);
    left = omega arith;
  }

  pub arrives : Arrived old c rest (walked_out c start)
  arrives = by_group (group_at_of old.tree c 0) refl
    where
      by_group : (m : Option ℕ) → group_at_of old.tree c 0 ≡ m →
          Arrived old c rest (walked_out c start)
      by_group None at = subst (Arrived old c rest)
          (sym (stays c (most_steps start) start (ap goes_on (begun_walk None at)))) (no_group at)
      by_group (Some g) at = climbs_out law old c rest (2 * level_count_of old.tree + 1) start
          (omega arith) (owning (at_leaf g at))
