-- an activation that is made alone: its own event, and the group of its level
use Rattle.std.proofs.Common.{◌≡◌, ◌≢◌, ◌⊎◌, inl, inr, ℕ, suc, ◌+◌, ◌*◌, ◌<◌, ◌≤◌}
use Rattle.std.proofs.Common.{Bool, true, false, length, Some, refl, sym, ap, ◌∙◌}
use Rattle.std.proofs.Common.{subst, arith}
use Rattle.std.specs.Prelude.{is_none, is_some, unwrap_or}
use Rattle.std.specs.Option.{option_map_or, option_or}
use Rattle.std.proofs.lemmas.Bool.{cases_eq}
use Rattle.std.proofs.lemmas.Option.{none-some}
use Rattle.tm_base.specs.Children.{of_cpu, of_group}
use Rattle.tm_base.specs.declared.names.TheConstants.{NEVER}
use Rattle.event_queue.specs.EventMap.{event_at}
use Rattle.tree_plan.specs.Paths.{bit_of, group_at_of, level_count_of, parent_of}
use Rattle.walk_rules.specs.declared.walk.Walk.{Walk}
use Rattle.walk_rules.specs.declared.walk.Stage.TheVariants as stages
use Rattle.walk_rules.specs.Hierarchy.{at_top, side}
use Rattle.walk_rules.specs.Scene.{Group}
use Rattle.walk_rules.specs.Stages.{at_stage, joined_by, up_next, with_mark}
use Rattle.core_world.specs.declared.step.Step.TheVariants as steps
use Rattle.core_world.specs.Enabled.{MayGoOn}
use Rattle.core_world.specs.Lawful.{IsLawful}
use Rattle.core_world.specs.Steps.{walk_made, walked, with_walk}
use Rattle.core_world.specs.World.{CpuRecord, World, cpu_of, group_of, moved}
use Rattle.core_world.proofs.Moves.{moved_laws}
use Rattle.core_facts.proofs.core_laws.Edges.Facts.{own_child}
use Rattle.core_facts.specs.core_laws.Laws.{StepsStayLawful}
use Rattle.step_play.specs.Rules.Live.{Exact, expiry_of, told_by, told_in}
use Rattle.step_play.proofs.Activation.Alongside.{Alongside, alongside, now_walks, role}
use Rattle.step_play.proofs.Activation.Ascents.{Arrived, AtMark, AtUp, from_on, none_above, none_of}
use Rattle.step_play.proofs.Activation.Ascents.{number_of, or_same, or_some, some_is, some_of}
use Rattle.step_play.proofs.Activation.Made.{Made, as_it_was, more_made, same_made}
use Rattle.step_play.proofs.Activation.Marking.{mark_dead, mark_else}
use Rattle.step_play.proofs.Activation.Touches.{ExactAt, ExactBut, touch_slot, touch_told}
use Rattle.step_play.proofs.Activation.Touches.{touch_word}
use Rattle.step_play.proofs.Activation.Touches.{word_told}
use Rattle.step_play.proofs.Activation.Walking.{onwards}

-- a group of a lawful world's path is there
pub group_low : (w : World) → IsLawful w → (c l g : ℕ) → group_at_of w.tree c l ≡ Some g →
    g < length w.groups
group_low w l c n g at =
    let low = l.hierarchy.within c n g at in
    let sized = l.sized.groups in
    omega (arith, low, sized)

module _ (law : StepsStayLawful) (old : World) (c : ℕ) (y : CpuRecord) (w : World)
    (a : Alongside old c y w) (k : Walk) (walk : (cpu_of w c).walk ≡ Some k) where
  pub still_lawful : MayGoOn w c k k.stage → IsLawful (onwards c w)
  still_lawful go = law w (steps.Walk (record { 0 = c })) a.lawful (record {
    in_range = a.in_range;
    made = k;
    walk = walk;
    may_go_on = go;
  })

  pub made_step : onwards c w ≡ walked w c k k.stage
  made_step = ap (walk_made w c) walk

  -- THE OWN EVENT
  module _ (g : ℕ) (here : group_at_of w.tree c 0 ≡ Some g) where
    abbrev up_now : CpuRecord
    up_now = with_walk (cpu_of w c) (Some (at_stage k stages.Up))

    abbrev marked : World
    marked = moved w g (with_mark (group_of w g) (side w.tree c 0)) c up_now false

    own_step : k.stage ≡ stages.Own → onwards c w ≡ marked
    own_step at = made_step ∙ (ap (walked w c k) at
        ∙ ap (λ m. moved w (unwrap_or m 0)
        (with_mark (group_of w (unwrap_or m 0)) (side w.tree c 0)) c
        (with_walk (cpu_of w c) (Some (at_stage k stages.Up))) false) here)

    own_side : (d : ℕ) → side w.tree d 0 ≡ bit_of w.tree (of_cpu d)
    own_side d = ap (λ m. option_map_or (bit_of w.tree) m 0) (own_child w.tree d)

    leaf : parent_of w.tree (of_cpu c) ≡ Some g
    leaf = sym (a.paths.leaf c) ∙ here

    -- no group has the CPU's slot, and no other CPU
    no_group_there : (z : ℕ) → parent_of w.tree (of_group z) ≡ Some g →
        bit_of w.tree (of_group z) ≢ side w.tree c 0
    no_group_there z up same =
        let one = a.lawful.hierarchy.apart (of_group z) (of_cpu c) g up leaf
        (same ∙ own_side c) in cc

    no_cpu_there : (d : ℕ) → d ≢ c → group_at_of w.tree d 0 ≡ Some g →
        side w.tree d 0 ≢ side w.tree c 0
    no_cpu_there d ne at same =
        let one = a.lawful.hierarchy.apart (of_cpu d) (of_cpu c) g (sym (a.paths.leaf d) ∙ at) leaf
        (sym (own_side d) ∙ (same ∙ own_side c)) in
        ne (ap number_of one)

    others : (j : ℕ) → j ≢ side w.tree c 0 →
        event_at (with_mark (group_of w g) (side w.tree c 0)).events j
        ≡ event_at (group_of w g).events j
    others j ne = mark_else w g (side w.tree c 0) c up_now false j ne

    own_told : told_by marked c ≡ NEVER
    own_told = ap (told_in marked c) here
        ∙ ap expiry_of (mark_dead w g (side w.tree c 0) c up_now false
        (group_low w a.lawful c 0 g here))

    pub owned : (n : ℕ) → k.stage ≡ stages.Own → k.level ≡ 0 → Made old c 0 w →
        ((z : ℕ) → ExactAt w z) → 2 * level_count_of w.tree ≤ n → AtUp old c y n (onwards c w)
    owned n at low made exact left = subst (AtUp old c y n) (sym (own_step at)) (record {
      along = alongside old c y w a g (with_mark (group_of w g) (side w.tree c 0))
          (Some (at_stage k stages.Up)) false
          (subst IsLawful (own_step at) (still_lawful (subst (MayGoOn w c k) (sym at) tt)))
          (λ d ne. touch_told w g (with_mark (group_of w g) (side w.tree c 0)) c up_now false
          (side w.tree c 0) others d (no_cpu_there d ne));
      k = at_stage k stages.Up;
      walk = now_walks old c y w a g (with_mark (group_of w g) (side w.tree c 0))
          (Some (at_stage k stages.Up)) false;
      stage = refl;
      g = g;
      here = ap (group_at_of w.tree c) low ∙ here;
      made = subst (λ l. Made old c l marked) (sym low)
          (same_made old c 0 w made g (with_mark (group_of w g) (side w.tree c 0))
          up_now false refl);
      exact = λ z ne. touch_slot w g (with_mark (group_of w g) (side w.tree c 0)) c up_now false
          (side w.tree c 0) others z ne (no_group_there z) (exact z);
      own = own_told;
      left = omega (arith, left, low);
    })

  -- THE GROUP OF THE LEVEL
  module _ (g : ℕ) (here : group_at_of w.tree c k.level ≡ Some g) where
    abbrev top : Bool
    top = at_top w.tree c k.level

    abbrev more : Bool
    more = is_none (role w g)

    abbrev with_it : Group
    with_it = joined_by (group_of w g) (side w.tree c k.level)

    abbrev next : CpuRecord
    next = with_walk (cpu_of w c) (up_next top more k)

    abbrev joined : World
    joined = moved w g with_it c next true

    up_step : k.stage ≡ stages.Up → onwards c w ≡ joined
    up_step at = made_step ∙ (ap (walked w c k) at
        ∙ ap (λ m. moved w (unwrap_or m 0)
        (joined_by (group_of w (unwrap_or m 0)) (side w.tree c k.level)) c
        (with_walk (cpu_of w c) (up_next top (is_none (role w (unwrap_or m 0))) k)) true) here)

    along_up : k.stage ≡ stages.Up → Alongside old c y joined
    along_up at = alongside old c y w a g with_it (up_next top more k) true
        (subst IsLawful (up_step at) (still_lawful (subst (MayGoOn w c k) (sym at) tt)))
        (λ d ne. word_told w g with_it c next true refl d)

    walks_up : (t m : Bool) → top ≡ t → more ≡ m → (cpu_of joined c).walk ≡ up_next t m k
    walks_up t m is_top is_more =
        now_walks old c y w a g with_it (up_next top more k) true
        ∙ λ i. up_next (is_top i) (is_more i) k

    exact_up : ExactBut w (λ z. z ≡ g) → ExactBut joined (λ z. z ≡ g)
    exact_up exact z ne = touch_word w g with_it c next true refl z ne (exact z ne)

    own_up : told_by w c ≡ NEVER → told_by joined c ≡ NEVER
    own_up own = word_told w g with_it c next true refl c ∙ own

    now_on : is_some (role joined g) ≡ true
    now_on = ap (λ (z : Group). is_some z.migrator)
        ((moved_laws w g with_it c next true).group
        (group_low w a.lawful c k.level g here))
        ∙ or_some (role w g) (side w.tree c k.level)

    module _ (made : Made old c k.level w) where
      made_more : more ≡ true → Made old c (suc k.level) joined
      made_more is = more_made old c k.level w made g with_it
          next true a.lawful.hierarchy here
          (none_of (role w g) is)
          (ap (λ m. option_or m (Some (side w.tree c k.level))) (none_of (role w g) is))
          (group_low w a.lawful c k.level g here)

      made_same : more ≡ false → Made old c k.level joined
      made_same is = same_made old c k.level w made g with_it
          next true
          (or_same (role w g) (side w.tree c k.level) is)

      was_on : more ≡ false → is_some (role old g) ≡ true
      was_on is = ap is_some (sym (as_it_was old c k.level w made g with_it
          next true a.lawful.hierarchy here))
          ∙ some_is (role w g) is

      all_exact : top ≡ true → ExactBut w (λ z. z ≡ g) → Exact joined
      all_exact is exact z = elim (cases_eq z g) [
        | inl same ↦ λ p up. absurd (none-some p
            (sym (none_of (group_at_of w.tree c (suc k.level)) is)
            ∙ (a.paths.climb c k.level g here
            ∙ (ap (λ v. parent_of w.tree (of_group v)) (sym same) ∙ up))))
        | inr ne ↦ exact_up exact z ne
      ]

      -- from Up to Mark, or to the end at the top
      pub risen : (n : ℕ) → k.stage ≡ stages.Up → ExactBut w (λ z. z ≡ g) → told_by w c ≡ NEVER →
          2 * level_count_of w.tree ≤ suc (n + 2 * k.level) →
          AtMark old c y n (onwards c w) ⊎ Arrived old c y (onwards c w)
      risen n at exact own left = subst (λ v. AtMark old c y n v ⊎ Arrived old c y v)
          (sym (up_step at)) (by_cases top more refl refl)
        where
          by_cases : (t m : Bool) → top ≡ t → more ≡ m →
              AtMark old c y n joined ⊎ Arrived old c y joined
          by_cases true true is_top is_more = inr (record {
            along = along_up at;
            stops = walks_up true true is_top is_more;
            count = suc k.level;
            made = made_more is_more;
            over = λ i q high there. absurd (none_above w.tree a.lawful.hierarchy c (suc k.level)
                i q (none_of (group_at_of w.tree c (suc k.level)) is_top) high there);
            exact = all_exact is_top exact;
            own = own_up own;
          })
          by_cases true false is_top is_more = inr (record {
            along = along_up at;
            stops = walks_up true false is_top is_more;
            count = k.level;
            made = made_same is_more;
            over = from_on w.tree a.lawful.hierarchy c (λ q. is_some (role old q) ≡ true) a.upwards
                k.level g here (was_on is_more);
            exact = all_exact is_top exact;
            own = own_up own;
          })
          by_cases false m is_top is_more =
              let p = some_of (group_at_of w.tree c (suc k.level)) is_top in
              inl (record {
                along = along_up at;
                k = at_stage k (stages.Mark m);
                walk = walks_up false m is_top is_more;
                more = m;
                stage = refl;
                g = g;
                here = here;
                p = p.0;
                above = p.1;
                on = now_on;
                made = λ e. made_more (is_more ∙ e);
                stop = λ e. (made_same (is_more ∙ e), was_on (is_more ∙ e));
                exact = exact_up exact;
                own = own_up own;
                left = left;
              })
