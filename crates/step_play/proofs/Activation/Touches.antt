-- for crates above: which edges a step opens that changes a group. The edge of a group is exact
-- where its parent has its first event, and nothing of an active group
use Rattle.std.proofs.Common.{◌≡◌, ◌≢◌, inl, inr, ℕ, cond, Bool, false}
use Rattle.std.proofs.Common.{Option, Some, None, refl, sym, ap, ◌∙◌}
use Rattle.std.specs.Prelude.{is_none}
use Rattle.std.proofs.lemmas.Bool.{cases_eq}
use Rattle.event_queue.specs.declared.event.Event.{Event}
use Rattle.event_queue.specs.EventMap.{event_at}
use Rattle.tm_base.specs.Children.{of_group}
use Rattle.tree_plan.specs.Paths.{bit_of, group_at_of, parent_of}
use Rattle.walk_rules.specs.Hierarchy.{side}
use Rattle.walk_rules.specs.Scene.{Group}
use Rattle.core_world.specs.World.{CpuRecord, World, group_of, moved, own}
use Rattle.core_world.proofs.Moves.{moved_laws}
use Rattle.core_world.proofs.Quiet.{moved_group_field}
use Rattle.step_play.specs.Rules.Live.{counting, expiry_of, first_in, live, told_by, told_in, told_of}

-- EXACT at the edge of one group
abbrev pub ExactAt : World → (x : ℕ) → Type 0
ExactAt w x = (p : ℕ) → parent_of w.tree (of_group x) ≡ Some p →
    live w p (bit_of w.tree (of_group x)) ≡ told_of w x

-- and at all but those that may be open
abbrev pub ExactBut : World → (ℕ → Type 0) → Type 0
ExactBut w Open = (x : ℕ) → (Open x → ⊥) → ExactAt w x

-- what a group tells its parent
abbrev pub tells : Group → Option Event
tells x = cond (is_none x.migrator) (first_in x.events) None

told_where : (old new : World) (d : ℕ) (m : Option ℕ) → ((leaf : ℕ) → m ≡ Some leaf →
    live new leaf (side new.tree d 0) ≡ live old leaf (side old.tree d 0)) →
    told_in new d m ≡ told_in old d m
told_where old new d None same = refl
told_where old new d (Some leaf) same = ap expiry_of (same leaf refl)

module _ (w : World) (g : ℕ) (x : Group) (c : ℕ) (y : CpuRecord) (r : Bool) where
  abbrev new : World
  new = moved w g x c y r

  pub group_else : (h : ℕ) → h ≢ g → group_of new h ≡ group_of w h
  group_else h ne = (moved_laws w g x c y r).changes.group h ne

  -- what a group has live
  pub live_kept : (k : ℕ) → counting (event_at x.events k) ≡ live w g k → (h : ℕ) →
      live new h k ≡ live w h k
  live_kept k e h = moved_group_field w g x c y r (λ z. counting (event_at z.events k)) e h

  pub live_else : (h k : ℕ) → h ≢ g → live new h k ≡ live w h k
  live_else h k ne = ap (λ z. counting (event_at z.events k)) (group_else h ne)

  pub tells_kept : tells x ≡ tells (group_of w g) → (h : ℕ) → told_of new h ≡ told_of w h
  tells_kept e h = moved_group_field w g x c y r tells e h

  pub tells_else : (h : ℕ) → h ≢ g → told_of new h ≡ told_of w h
  tells_else h ne = ap tells (group_else h ne)

  pub keeps_edge : (z : ℕ) → ((p : ℕ) → parent_of w.tree (of_group z) ≡ Some p →
      live new p (bit_of w.tree (of_group z)) ≡ live w p (bit_of w.tree (of_group z))) →
      told_of new z ≡ told_of w z → ExactAt w z → ExactAt new z
  keeps_edge z slot told e p up = slot p up ∙ (e p up ∙ sym told)

  pub keeps_told : (d : ℕ) → ((leaf : ℕ) → group_at_of w.tree d 0 ≡ Some leaf →
      live new leaf (side w.tree d 0) ≡ live w leaf (side w.tree d 0)) → told_by new d ≡ told_by w d
  keeps_told d same = told_where w new d (group_at_of w.tree d 0) same

  -- but for slot b the group has the same events
  module _ (b : ℕ) (others : (j : ℕ) → j ≢ b →
      event_at x.events j ≡ event_at (group_of w g).events j) where
    pub slot_stays : (p k : ℕ) → (p ≡ g → k ≢ b) → live new p k ≡ live w p k
    slot_stays p k apart = elim (cases_eq p g) [
      | inl same ↦ live_kept k (ap counting (others k (apart same))) p
      | inr ne ↦ live_else p k ne
    ]

    -- A SLOT: at most the edge of its child is open, and that of the group
    pub touch_slot : (z : ℕ) → z ≢ g →
        (parent_of w.tree (of_group z) ≡ Some g → bit_of w.tree (of_group z) ≢ b) →
        ExactAt w z → ExactAt new z
    touch_slot z ne apart = keeps_edge z
        (λ p up. slot_stays p (bit_of w.tree (of_group z)) (λ same. apart (up ∙ ap Some same)))
        (tells_else z ne)

    -- and that of its child alone where the group tells what it told
    pub touch_slot_told : tells x ≡ tells (group_of w g) → (z : ℕ) →
        (parent_of w.tree (of_group z) ≡ Some g → bit_of w.tree (of_group z) ≢ b) →
        ExactAt w z → ExactAt new z
    touch_slot_told told z apart = keeps_edge z
        (λ p up. slot_stays p (bit_of w.tree (of_group z)) (λ same. apart (up ∙ ap Some same)))
        (tells_kept told z)

    -- what a CPU told its leaf stays where its slot does
    pub touch_told : (d : ℕ) → (group_at_of w.tree d 0 ≡ Some g → side w.tree d 0 ≢ b) →
        told_by new d ≡ told_by w d
    touch_told d apart = keeps_told d
        (λ leaf at. slot_stays leaf (side w.tree d 0) (λ same. apart (at ∙ ap Some same)))

  -- the group has the same events
  module _ (events : x.events ≡ (group_of w g).events) where
    pub same_live : (h k : ℕ) → live new h k ≡ live w h k
    same_live h k = live_kept k (ap (λ es. counting (event_at es k)) events) h

    -- THE WORD: at most the edge of the group is open
    pub touch_word : (z : ℕ) → z ≢ g → ExactAt w z → ExactAt new z
    touch_word z ne = keeps_edge z (λ p up. same_live p (bit_of w.tree (of_group z)))
        (tells_else z ne)

    pub word_told : (d : ℕ) → told_by new d ≡ told_by w d
    word_told d = keeps_told d (λ leaf at. same_live leaf (side w.tree d 0))

    -- locks, CPUs and walks open none
    pub touch_none : x.migrator ≡ (group_of w g).migrator → (z : ℕ) → ExactAt w z → ExactAt new z
    touch_none migrator z = keeps_edge z (λ p up. same_live p (bit_of w.tree (of_group z)))
        (tells_kept (λ i. cond (is_none (migrator i)) (first_in (events i)) None) z)

-- a step that changes no group opens none, and leaves what each CPU told
module _ (w : World) (c : ℕ) (y : CpuRecord) where
  pub own_exact : (z : ℕ) → ExactAt w z → ExactAt (own w c y) z
  own_exact z = touch_none w 0 (group_of w 0) c y false refl refl z

  pub own_told : (d : ℕ) → told_by (own w c y) d ≡ told_by w d
  own_told d = word_told w 0 (group_of w 0) c y false refl d
