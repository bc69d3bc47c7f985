-- an activation that is made alone: what it marks as ignored
use Rattle.std.proofs.Common.{◌≡◌, ◌≢◌, ◌⊎◌, inl, inr, ℕ, suc, ◌+◌, ◌*◌, ◌≤◌, Bool, true, false}
use Rattle.std.proofs.Common.{Some, refl, sym, ap, ◌∙◌, subst, arith}
use Rattle.std.specs.Prelude.{is_some, unwrap_or}
use Rattle.std.specs.Option.{option_map_or}
use Rattle.std.proofs.lemmas.Bool.{cases_eq}
use Rattle.std.proofs.lemmas.Option.{same_Some}
use Rattle.tm_base.specs.declared.names.TheConstants.{NEVER}
use Rattle.tm_base.specs.Children.{of_group}
use Rattle.event_queue.specs.EventMap.{event_at}
use Rattle.tree_plan.specs.Paths.{bit_of, group_at_of, level_count_of, parent_of}
use Rattle.walk_rules.specs.declared.walk.Walk.{Walk}
use Rattle.walk_rules.specs.declared.walk.Stage.TheVariants as stages
use Rattle.walk_rules.specs.Hierarchy.{side}
use Rattle.walk_rules.specs.Scene.{Group}
use Rattle.walk_rules.specs.Stages.{higher, mark_next, with_mark}
use Rattle.core_world.specs.Enabled.{MayGoOn}
use Rattle.core_world.specs.Lawful.{IsLawful}
use Rattle.core_world.specs.Steps.{walked, with_walk}
use Rattle.core_world.specs.World.{CpuRecord, World, cpu_of, group_of, moved}
use Rattle.core_facts.proofs.Cover.Climbing.{parent_next}
use Rattle.core_facts.proofs.core_laws.Edges.Facts.{through_group}
use Rattle.core_facts.specs.core_laws.Laws.{StepsStayLawful}
use Rattle.step_play.specs.Rules.Live.{live, told_by}
use Rattle.step_play.proofs.Activation.Alongside.{Alongside, alongside, now_walks, role}
use Rattle.step_play.proofs.Activation.Ascents.{Arrived, AtUp, active_tells, from_on, number_of}
use Rattle.step_play.proofs.Activation.Made.{Made, same_made}
use Rattle.step_play.proofs.Activation.Marking.{mark_dead, mark_else}
use Rattle.step_play.proofs.Activation.Rising.{group_low, made_step, still_lawful}
use Rattle.step_play.proofs.Activation.Touches.{ExactAt, ExactBut, tells_else, touch_slot}
use Rattle.step_play.proofs.Activation.Touches.{touch_slot_told, touch_told}
use Rattle.step_play.proofs.Activation.Walking.{onwards}

module _ (law : StepsStayLawful) (old : World) (c : ℕ) (y : CpuRecord) (w : World)
    (a : Alongside old c y w) (k : Walk) (walk : (cpu_of w c).walk ≡ Some k) (more : Bool)
    (g : ℕ) (here : group_at_of w.tree c k.level ≡ Some g)
    (p : ℕ) (above : group_at_of w.tree c (suc k.level) ≡ Some p) where
  abbrev b : ℕ
  b = side w.tree c (suc k.level)

  abbrev next : CpuRecord
  next = with_walk (cpu_of w c) (mark_next more k)

  abbrev x : Group
  x = with_mark (group_of w p) b

  abbrev passed : World
  passed = moved w p x c next false

  mark_step : k.stage ≡ stages.Mark more → onwards c w ≡ passed
  mark_step at = made_step law old c y w a k walk ∙ (ap (walked w c k) at
      ∙ ap (λ m. moved w (unwrap_or m 0) (with_mark (group_of w (unwrap_or m 0)) b) c next false)
      above)

  -- the slot is that of the group below, and of nothing else
  bit : b ≡ bit_of w.tree (of_group g)
  bit = ap (λ m. option_map_or (bit_of w.tree) m 0) (through_group w.tree c k.level g here)

  up : parent_of w.tree (of_group g) ≡ Some p
  up = parent_next w.tree c k.level g p here above

  apart : g ≢ p
  apart same =
      let one = a.lawful.hierarchy.one_level c c k.level (suc k.level) p (here ∙ ap Some same) above
      in omega (arith, one)

  slot_apart : (z : ℕ) → z ≢ g → parent_of w.tree (of_group z) ≡ Some p →
      bit_of w.tree (of_group z) ≢ b
  slot_apart z ne parent same =
      ne (ap number_of (a.lawful.hierarchy.apart (of_group z) (of_group g) p parent up
      (same ∙ bit)))

  no_leaf : (d : ℕ) → group_at_of w.tree d 0 ≡ Some p → side w.tree d 0 ≢ b
  no_leaf d at same =
      let one = a.lawful.hierarchy.one_level d c 0 (suc k.level) p at above in omega (arith, one)

  others : (j : ℕ) → j ≢ b → event_at x.events j ≡ event_at (group_of w p).events j
  others j ne = mark_else w p b c next false j ne

  told : (d : ℕ) → told_by passed d ≡ told_by w d
  told d = touch_told w p x c next false b others d (no_leaf d)

  along_mark : k.stage ≡ stages.Mark more → Alongside old c y passed
  along_mark at = alongside old c y w a p x (mark_next more k) false
      (subst IsLawful (mark_step at)
      (still_lawful law old c y w a k walk (subst (MayGoOn w c k) (sym at) tt)))
      (λ d ne. told d)

  walks_mark : (m : Bool) → more ≡ m → (cpu_of passed c).walk ≡ mark_next m k
  walks_mark m is = now_walks old c y w a p x (mark_next more k) false ∙ ap (λ v. mark_next v k) is

  module _ (on : is_some (role w g) ≡ true) (exact : ExactBut w (λ z. z ≡ g)) where
    -- the edge of the group below is closed
    closes : ExactAt passed g
    closes q parent =
        let one : p ≡ q = same_Some _ _ (sym up ∙ parent) in
        ap (λ v. live passed v (bit_of w.tree (of_group g))) (sym one)
        ∙ (ap (live passed p) (sym bit)
        ∙ (mark_dead w p b c next false (group_low w a.lawful c (suc k.level) p above)
        ∙ sym (tells_else w p x c next false g apart ∙ active_tells (group_of w g) on)))

    -- and that of the group may be open
    exact_but : ExactBut passed (λ z. z ≡ p)
    exact_but z ne = elim (cases_eq z g) [
      | inl same ↦ subst (ExactAt passed) (sym same) closes
      | inr other ↦ touch_slot w p x c next false b others z ne (slot_apart z other) (exact z other)
    ]

    -- unless it is active
    exact_all : is_some (role w p) ≡ true → (z : ℕ) → ExactAt passed z
    exact_all active z = elim (cases_eq z g) [
      | inl same ↦ subst (ExactAt passed) (sym same) closes
      | inr other ↦ touch_slot_told w p x c next false b others
          (active_tells x active ∙ sym (active_tells (group_of w p) active)) z (slot_apart z other)
          (exact z other)
    ]

    -- from Mark to the next level, or to the end
    module _ (n : ℕ) (at : k.stage ≡ stages.Mark more) (made : more ≡ true →
        Made old c (suc k.level) w) (stop : more ≡ false → Made old c k.level w
        × (is_some (role old g) ≡ true)) (own : told_by w c ≡ NEVER)
        (left : 2 * level_count_of w.tree ≤ suc (suc n + 2 * k.level)) where
      goes_up : more ≡ true → AtUp old c y n passed
      goes_up is = record {
        along = along_mark at;
        k = higher k stages.Up;
        walk = walks_mark true is;
        stage = refl;
        g = p;
        here = above;
        made = same_made old c (suc k.level) w (made is) p x next false refl;
        exact = exact_but;
        own = told c ∙ own;
        left = omega (arith, left);
      }

      ends : more ≡ false → Arrived old c y passed
      ends is =
          let was = stop is in
          let old_on = a.upwards k.level g p here above was.1 in
          let same = was.0.rest p (λ i low there.
          (let one = a.lawful.hierarchy.one_level c c i (suc k.level) p there above in
          omega (arith, one, low))) in
          record {
            along = along_mark at;
            stops = walks_mark false is;
            count = k.level;
            made = same_made old c k.level w was.0 p x next false refl;
            over = from_on w.tree a.lawful.hierarchy c (λ q. is_some (role old q) ≡ true) a.upwards
                k.level g here was.1;
            exact = exact_all (ap is_some same ∙ old_on);
            own = told c ∙ own;
          }

      pub passes : AtUp old c y n (onwards c w) ⊎ Arrived old c y (onwards c w)
      passes = subst (λ v. AtUp old c y n v ⊎ Arrived old c y v) (sym (mark_step at))
          (by_more more refl)
        where
          by_more : (m : Bool) → more ≡ m → AtUp old c y n passed ⊎ Arrived old c y passed
          by_more true is = inl (goes_up is)
          by_more false is = inr (ends is)
