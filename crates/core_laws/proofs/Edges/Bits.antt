-- how claims on bits go on from step to step
use Rattle.std.proofs.Common.{◌≡◌, ◌≢◌, ◌⊎◌, inl, inr, ℕ, Bool, true, false, true≢false, cond, Option, Some, None, refl, sym, ap, ◌∙◌, subst}
use Rattle.std.specs.Prelude.{◌&&◌, option_map, option_and_then, if◌then◌else◌}
use Rattle.std.proofs.lemmas.Bool.{cases_eq}
use Rattle.std.proofs.lemmas.Option.{none-some}
use Rattle.tm_base.specs.declared.names.Child.TheVariants as sorts
use Rattle.tm_base.specs.declared.names.Child.{Child}
use Rattle.tree_plan.specs.Shape.{Shape}
use Rattle.tm_base.specs.Children.{of_cpu, of_group}
use Rattle.tree_plan.specs.Paths.{parent_of, group_at_of, child_towards}
use Rattle.walk_rules.specs.declared.walk.Walk.{Walk}
use Rattle.walk_rules.specs.Clearing.{BitsHold, IsSeenTo, NoneAtKnown, Side, StandsUnder, clears, clears_at, clears_by, side_of_exchange}
use Rattle.walk_rules.specs.Clearing.Side.{after, before, swapping}
use Rattle.walk_rules.specs.Edges.{edge_of, heading, stand}
use Rattle.walk_rules.specs.Scene.{HasBit, Scene, is_on}
use Rattle.walk_rules.specs.Standing.{is_leaving}
use Rattle.core_world.specs.Frames.{ChangesOnly}
use Rattle.core_laws.proofs.Edges.Facts.{own_edge, unpacked}

-- a reading that gets stale loses no claim
lose : {X : Type 0} (on b b' : Bool) (x : Option X) (z : X) → (b' ≡ true → b ≡ true) → cond (on && b) None x ≡ Some z → cond (on && b') None x ≡ Some z
lose true true b' x z h e = absurd (none-some z e)
lose true false true x z h e = absurd (true≢false (sym (h refl)))
lose true false false x z h e = e
lose false b b' x z h e = e

keeps_at : (t : Shape) (c level : ℕ) (on b b' over : Bool) (s : Option Side) (z : Child) → (b' ≡ true → b ≡ true) → clears_at t c level on b over s ≡ Some z → clears_at t c level on b' over s ≡ Some z
keeps_at t c level on b b' over None z h e = e
keeps_at t c level on b b' over (Some before) z h e = e
keeps_at t c level on b b' over (Some swapping) z h e = lose on b b' (child_towards t c level) z h e
keeps_at t c level on b b' over (Some after) z h e = e

keeps_if : (t : Shape) (c level : ℕ) (leaving on b b' over : Bool) (s : Option Side) (z : Child) → (b' ≡ true → b ≡ true)
    → cond leaving (clears_at t c level on b over s) None ≡ Some z → cond leaving (clears_at t c level on b' over s) None ≡ Some z
keeps_if t c level true on b b' over s z h e = keeps_at t c level on b b' over s z h e
keeps_if t c level false on b b' over s z h e = e

keeps_by : (t : Shape) (c : ℕ) (b b' : Bool) (m : Option Walk) (z : Child) → (b' ≡ true → b ≡ true) → clears_by t c b m ≡ Some z → clears_by t c b' m ≡ Some z
keeps_by t c b b' None z h e = e
keeps_by t c b b' (Some k) z h e = keeps_if t c k.level (is_leaving k.kind) k.child_on b b' k.over (side_of_exchange k.stage) z h e

-- a CPU's bit is cleared by its own walk alone
not_group : (m : Option ℕ) (a : ℕ) → option_map of_group m ≡ Some (of_cpu a) → ⊥
not_group None a e = none-some _ e
not_group (Some g) a e = cc

of_both : (t : Shape) (d level a : ℕ) (b : Bool) → cond b None (child_towards t d level) ≡ Some (of_cpu a) → d ≡ a
of_both t d level a true e = absurd (none-some _ e)
of_both t d level a false e = own_edge t d level a e

of_after : (t : Shape) (d level a : ℕ) (over : Bool) → cond over None (option_map of_group (group_at_of t d level)) ≡ Some (of_cpu a) → d ≡ a
of_after t d level a true e = absurd (none-some _ e)
of_after t d level a false e = absurd (not_group (group_at_of t d level) a e)

own_at : (t : Shape) (d level : ℕ) (on b over : Bool) (s : Option Side) (a : ℕ) → clears_at t d level on b over s ≡ Some (of_cpu a) → d ≡ a
own_at t d level on b over None a e = absurd (none-some _ e)
own_at t d level on b over (Some before) a e = own_edge t d level a e
own_at t d level on b over (Some swapping) a e = of_both t d level a (on && b) e
own_at t d level on b over (Some after) a e = of_after t d level a over e

own_if : (t : Shape) (d level : ℕ) (leaving on b over : Bool) (s : Option Side) (a : ℕ) → cond leaving (clears_at t d level on b over s) None ≡ Some (of_cpu a) → d ≡ a
own_if t d level true on b over s a e = own_at t d level on b over s a e
own_if t d level false on b over s a e = absurd (none-some _ e)

own_by : (t : Shape) (d : ℕ) (b : Bool) (m : Option Walk) (a : ℕ) → clears_by t d b m ≡ Some (of_cpu a) → d ≡ a
own_by t d b None a e = absurd (none-some _ e)
own_by t d b (Some k) a e = own_if t d k.level (is_leaving k.kind) k.child_on b k.over (side_of_exchange k.stage) a e

pub own_claim : (t : Shape) (s : Scene) (d a : ℕ) → clears t s d ≡ Some (of_cpu a) → d ≡ a
own_claim t s d a e = own_by t d (s.fresh d) (s.walk d) a e

module _ (t : Shape) (old new : Scene) (c g : ℕ) (r : Bool) (ch : ChangesOnly t old new c g r) where
  claims_else : (d : ℕ) (m : Child) → d ≢ c → clears t old d ≡ Some m → clears t new d ≡ Some m
  claims_else d m ne e = subst (λ k. clears_by t d (new.fresh d) k ≡ Some m) (sym (ch.walk d ne)) (keeps_by t d (old.fresh d) (new.fresh d) (old.walk d) m (ch.fresh d ne) e)

  heading_else : (d : ℕ) → d ≢ c → heading t new d ≡ heading t old d
  heading_else d ne = ap (λ m. option_and_then (group_at_of t d) (edge_of m)) (ch.walk d ne)

  -- an inactive child with its bit set is seen to as before, but for what the CPU that steps does
  pub bits_step : BitsHold t old
      → ((m : Child) (y : ℕ) → parent_of t m ≡ Some y → is_on new m ≡ false → HasBit t new m y → ((is_on old m ≡ false) × HasBit t old m y) ⊎ IsSeenTo t new m)
      → ((m : Child) (y : ℕ) → parent_of t m ≡ Some y → is_on new m ≡ false → HasBit t new m y → clears t old c ≡ Some m → IsSeenTo t new m)
      → ((x y : ℕ) → parent_of t (of_group x) ≡ Some y → is_on new (of_group x) ≡ false → heading t old c ≡ Some x → IsSeenTo t new (of_group x))
      → BitsHold t new
  bits_step f back own up m y parent off bit = elim (back m y parent off bit) [
    | inl was ↦ elim (f m y parent was.0 was.1) [
      | inl d ↦ elim (cases_eq d.0 c) [
        | inl same ↦ own m y parent off bit (subst (λ n. clears t old n ≡ Some m) same d.1)
        | inr ne ↦ inl (d.0, claims_else d.0 m ne d.1)
      ]
      | inr under ↦ by_child m parent off under
    ]
    | inr seen ↦ seen
  ]
    where
      by_child : (m : Child) → parent_of t m ≡ Some y → is_on new m ≡ false → StandsUnder t old m → IsSeenTo t new m
      by_child (sorts.Cpu a) parent off under = absurd under
      by_child (sorts.Group x) parent off under = elim (cases_eq under.0 c) [
        | inl same ↦ up x.0 y parent off (subst (λ n. heading t old n ≡ Some x.0) same under.1)
        | inr ne ↦ inr (under.0, heading_else under.0 ne ∙ under.1)
      ]

  -- and so with activations at the edges of active CPUs
  pub known_step : NoneAtKnown t old → ((a : ℕ) → a ≢ c → is_on new (of_cpu a) ≡ is_on old (of_cpu a))
      → ((a y : ℕ) → a ≢ c → parent_of t (of_cpu a) ≡ Some y → HasBit t new (of_cpu a) y → HasBit t old (of_cpu a) y)
      → ((y : ℕ) → parent_of t (of_cpu c) ≡ Some y → is_on new (of_cpu c) ≡ true → HasBit t new (of_cpu c) y → stand t new c ≡ Some (of_cpu c) → ⊥)
      → NoneAtKnown t new
  known_step f on bits own a d y parent is bit at =
      let p = unpacked t d (edge_of (new.walk d)) (of_cpu a) at in
      let same : d ≡ a = own_edge t d p.0 a p.2 in
      let at_a : stand t new a ≡ Some (of_cpu a) = subst (λ n. stand t new n ≡ Some (of_cpu a)) same at in
      elim (cases_eq a c) [
        | inl here ↦ own y (subst (λ n. parent_of t (of_cpu n) ≡ Some y) here parent) (subst (λ n. is_on new (of_cpu n) ≡ true) here is)
            (subst (λ n. HasBit t new (of_cpu n) y) here bit) (subst (λ n. stand t new n ≡ Some (of_cpu n)) here at_a)
        | inr ne ↦ f a a y parent (sym (on a ne) ∙ is) (bits a y ne parent bit) (sym (ap (λ m. option_and_then (child_towards t a) (edge_of m)) (ch.walk a ne)) ∙ at_a)
      ]

-- what a walk past its exchange claims: its group, unless it ends there
pub claim_after : (t : Shape) (c : ℕ) (fresh : Bool) (k : Walk) → side_of_exchange k.stage ≡ Some after
    → clears_by t c fresh (Some k) ≡ (if is_leaving k.kind then (if k.over then None else option_map of_group (group_at_of t c k.level)) else None)
claim_after t c fresh k e = ap (λ s. if is_leaving k.kind then clears_at t c k.level k.child_on fresh k.over s else None) e

pub claim_before : (t : Shape) (c : ℕ) (fresh : Bool) (k : Walk) → side_of_exchange k.stage ≡ Some before
    → clears_by t c fresh (Some k) ≡ (if is_leaving k.kind then child_towards t c k.level else None)
claim_before t c fresh k e = ap (λ s. if is_leaving k.kind then clears_at t c k.level k.child_on fresh k.over s else None) e

pub claim_swapping : (t : Shape) (c : ℕ) (fresh : Bool) (k : Walk) → side_of_exchange k.stage ≡ Some swapping
    → clears_by t c fresh (Some k) ≡ (if is_leaving k.kind then (if k.child_on && fresh then None else child_towards t c k.level) else None)
claim_swapping t c fresh k e = ap (λ s. if is_leaving k.kind then clears_at t c k.level k.child_on fresh k.over s else None) e
