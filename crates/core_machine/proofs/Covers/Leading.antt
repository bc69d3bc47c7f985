-- where the migrators lead, one level after another
use Rattle.std.proofs.Common.{◌≡◌, ℕ, zero, suc, ◌-◌, ◌<◌, Option, Some, None, sym, ap, ◌∙◌}
use Rattle.std.proofs.Common.{arith}
use Rattle.std.specs.Prelude.{IfSome, option_and_then}
use Rattle.tm_base.specs.declared.names.Child.{Child}
use Rattle.tm_base.specs.declared.names.Child.TheVariants as sorts
use Rattle.tree_plan.specs.Shape.{Shape, IsPlanned}
use Rattle.tree_plan.specs.Paths.{child_at}
use Rattle.tree_plan.proofs.Below.{placed_laws}
use Rattle.tree_plan.proofs.Trees.{edge_laws}
use Rattle.play_rules.specs.Covers.{led_from, led_through}
use Rattle.play_rules.specs.State.{State, migrator_at}
use Rattle.core_world.specs.Frames.{IsSized}
use Rattle.core_world.specs.World.{World, group_of}
use Rattle.step_play.specs.Rules.Seen.{state_of}
use Rattle.step_play.proofs.Queues.Sights.{migrator_seen}
use Rattle.core_machine.specs.Covers.Choice.{IsInWorld}

abbrev pub leading : State → ℕ → Option Child
leading s g = option_and_then (child_at s.tree g) (migrator_at s g)

module _ (s : State) where
  pub led_zero : (n g : ℕ) → n ≡ 0 → led_from s n g ≡ None
  unfolding led_from
  led_zero n g is = ap (λ m. led_from s m g) is

  pub led_step : (n g : ℕ) (m : Option Child) → 0 < n → leading s g ≡ m →
      led_from s n g ≡ led_through m (led_from s (n - 1))
  unfolding led_from
  led_step zero g m some is = absurd (omega (arith, some))
  led_step (suc n) g m some is =
      let same : n ≡ suc n - 1 = omega arith in
      ap (λ o. led_through o (led_from s n)) is ∙ ap (λ k. led_through m (led_from s k)) same

-- what the code reads of it
module _ (w : World) (g : ℕ) where
  pub none_led : (group_of w g).migrator ≡ None → leading (state_of w) g ≡ None
  none_led none = ap (option_and_then (child_at w.tree g)) (migrator_seen w g ∙ none)

  pub child_led : (t : Shape) (k : ℕ) (m : Option Child) → m ≡ child_at t g k → t ≡ w.tree →
      (group_of w g).migrator ≡ Some k → m ≡ leading (state_of w) g
  child_led t k m is same led =
      is
      ∙ (ap (λ u. child_at u g k) same
      ∙ sym (ap (option_and_then (child_at w.tree g)) (migrator_seen w g ∙ led)))

-- a child of a planned tree is there
module _ (w : World) (sized : IsSized w) (planned : IsPlanned w.tree) where
  child_in : (g k : ℕ) (m : Child) → child_at w.tree g k ≡ Some m → IsInWorld w m
  child_in g k (sorts.Cpu d) is =
      let low = (placed_laws w.tree planned).in_range d.0 ((edge_laws w.tree planned).cpu_placed d.0
      g ((edge_laws w.tree planned).parent g k (sorts.Cpu d) is)) in
      let count = sized.cpus in
      omega (arith, low, count)
  child_in g k (sorts.Group h) is =
      let low = (edge_laws w.tree planned).group_within h.0 g
      ((edge_laws w.tree planned).parent g k (sorts.Group h) is) in
      let count = sized.groups in
      omega (arith, low, count)

  each_in : (g k : ℕ) (o : Option Child) → child_at w.tree g k ≡ o → IfSome o (IsInWorld w)
  each_in g k None is = tt
  each_in g k (Some m) is = child_in g k m is

  pub child_there : (t : Shape) (g k : ℕ) (o : Option Child) → o ≡ child_at t g k → t ≡ w.tree →
      IfSome o (IsInWorld w)
  child_there t g k o is same = each_in g k o (sym (is ∙ ap (λ u. child_at u g k) same))
