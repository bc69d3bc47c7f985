-- where the migrators lead
use Rattle.std.proofs.Common.{◌≡◌, ℕ, ◌-◌, ◌<◌, true, Option, Some, None, length}
use Rattle.std.proofs.Common.{refl, sym, ap, ◌∙◌, subst, arith}
use Rattle.std.specs.Prelude.{IfNone, IfSome}
use Rattle.std.proofs.lemmas.Option.{same_Some}
use Rattle.tm_base.specs.Children.{of_cpu, of_group}
use Rattle.tm_base.specs.declared.names.Child.{Child}
use Rattle.tm_base.specs.declared.names.CpuId.{CpuId}
use Rattle.tm_base.specs.declared.names.GroupId.{GroupId}
use Rattle.tm_base.specs.declared.names.Child.TheVariants as sorts
use Rattle.tree_plan.specs.Shape.{IsPlanned}
use Rattle.tree_plan.specs.Paths.{child_at, level_count_of, level_of}
use Rattle.tree_plan.proofs.Below.{placed_laws}
use Rattle.tree_plan.proofs.Trees.{edge_laws, level_laws}
use Rattle.coverage.specs.Coverage.{Leads, to_cpu, to_group}
use Rattle.core_world.specs.Covered.{machine_of}
use Rattle.core_world.specs.Frames.{IsSized}
use Rattle.core_world.specs.World.{World, cpu_of, is_active}
use Rattle.trace_check.specs.Leading.{IsChildInWorld, IsMigrator}

module _ (w : World) where
  -- a group has one migrator
  one_child : (g : ℕ) (a b : Child) → IsMigrator w g a → IsMigrator w g b → a ≡ b
  one_child g a b one other =
      let same : one.number ≡ other.number =
      same_Some one.number other.number (sym one.named ∙ other.named) in
      same_Some a b (sym one.child ∙ (ap (child_at w.tree g) same ∙ other.child))

  -- what is led to is led to through it
  abbrev pub Through : ℕ → Child → Type 0
  Through m (sorts.Cpu d) = (is_active (cpu_of w d.0) ≡ true) × (m ≡ d.0)
  Through m (sorts.Group h) = Leads (machine_of w) m h.0

  pub led_through : (m g : ℕ) → Leads (machine_of w) m g → (z : Child) → IsMigrator w g z →
      Through m z
  led_through m g (to_cpu x k is at on) z migrator =
      subst (Through m)
      (one_child g (of_cpu m) z (record { number = k; named = is; child = at }) migrator) (on, refl)
  led_through m g (to_group x k h is at rest) z migrator =
      subst (Through m)
      (one_child g (of_group h) z (record { number = k; named = is; child = at }) migrator) rest

  pub some_migrator : (m g : ℕ) → Leads (machine_of w) m g → (z : Child) × IsMigrator w g z
  some_migrator m g (to_cpu x k is at on) =
      (of_cpu m, record { number = k; named = is; child = at })
  some_migrator m g (to_group x k h is at rest) =
      (of_group h, record { number = k; named = is; child = at })

  pub leads_by : (m g : ℕ) (z : Child) → IsMigrator w g z → Through m z → Leads (machine_of w) m g
  leads_by m g (sorts.Cpu d) migrator (on, same) =
      subst (λ n. Leads (machine_of w) n g) (sym same)
      (to_cpu g migrator.number migrator.named migrator.child on)
  leads_by m g (sorts.Group h) migrator rest =
      to_group g migrator.number h.0 migrator.named migrator.child rest

  -- where the migrator is a group, what it leads to
  pub some_above : (o : Option CpuId) (g : ℕ) (h : GroupId) → IsMigrator w g (sorts.Group h) →
      IfSome o (λ m. Leads (machine_of w) m.0 h.0) → IfSome o (λ m. Leads (machine_of w) m.0 g)
  some_above None g h migrator leads = tt
  some_above (Some m) g h migrator leads = leads_by m.0 g (sorts.Group h) migrator leads

  pub none_above : (o : Option CpuId) (g : ℕ) (h : GroupId) → IsMigrator w g (sorts.Group h) →
      IfNone o ((m : ℕ) → Leads (machine_of w) m h.0 → ⊥) →
      IfNone o ((m : ℕ) → Leads (machine_of w) m g → ⊥)
  none_above (Some m) g h migrator none = tt
  none_above None g h migrator none = λ m leads.
      none m (led_through m g leads (sorts.Group h) migrator)

module _ (w : World) (sized : IsSized w) (planned : IsPlanned w.tree) where
  -- a child of a planned tree is there
  pub child_in : (g k : ℕ) (m : Child) → child_at w.tree g k ≡ Some m → IsChildInWorld w m
  child_in g k (sorts.Cpu d) is =
      let low = (placed_laws w.tree planned).in_range d.0 ((edge_laws w.tree planned).cpu_placed d.0
      g ((edge_laws w.tree planned).parent g k (sorts.Cpu d) is)) in
      let count = sized.cpus in
      omega (arith, low, count)
  child_in g k (sorts.Group h) is =
      let low = (edge_laws w.tree planned).group_within h.0 g
      ((edge_laws w.tree planned).parent g k (sorts.Group h) is) in
      let count = sized.groups in
      omega (arith, low, count)

  -- a group that is migrator stands a level lower
  pub level_lower : (g h n : ℕ) → IsMigrator w g (of_group h) → level_of w.tree g < n →
      level_of w.tree h < n - 1
  level_lower g h n migrator low =
      let above = (level_laws w.tree planned).parent h g
      ((edge_laws w.tree planned).parent g migrator.number (of_group h) migrator.child) in
      omega (arith, above, low)

  pub level_low : (g : ℕ) → g < length w.groups → level_of w.tree g < level_count_of w.tree
  level_low g low =
      (level_laws w.tree planned).within g (let count = sized.groups in omega (arith, low, count))
