-- where the migrators lead
use Rattle.std.proofs.Common.{◌≡◌, ℕ, true, Option, Some, None}
use Rattle.std.proofs.Common.{refl, sym, ap, ◌∙◌, subst}
use Rattle.std.specs.Prelude.{IfSome}
use Rattle.std.proofs.lemmas.Option.{same_Some}
use Rattle.tm_base.specs.Children.{of_cpu, of_group}
use Rattle.tm_base.specs.declared.names.Child.{Child}
use Rattle.tm_base.specs.declared.names.Child.TheVariants as sorts
use Rattle.tm_base.specs.declared.names.CpuId.{CpuId}
use Rattle.tree_plan.specs.Paths.{child_at}
use Rattle.coverage.specs.Coverage.{Leads, to_cpu, to_group}
use Rattle.core_world.specs.Covered.{machine_of}
use Rattle.core_world.specs.World.{World, cpu_of, is_active}
use Rattle.orders_world.specs.Seeking.{LooksAfter}

module _ (w : World) where
  -- a group has one migrator
  one_child : (g : ℕ) (a b : Child) → LooksAfter w g a → LooksAfter w g b → a ≡ b
  one_child g a b one other =
      let same : one.number ≡ other.number =
      same_Some one.number other.number (sym one.named ∙ other.named) in
      same_Some a b (sym one.child ∙ (ap (child_at w.tree g) same ∙ other.child))

  -- what a child leads to
  abbrev pub LeadsOn : ℕ → Child → Type 0
  LeadsOn m (sorts.Cpu d) = (is_active (cpu_of w d.0) ≡ true) × (m ≡ d.0)
  LeadsOn m (sorts.Group h) = Leads (machine_of w) m h.0

  pub some_child : (m g : ℕ) → Leads (machine_of w) m g → (z : Child) × LooksAfter w g z
  some_child m g (to_cpu x k is at on) =
      (of_cpu m, record { number = k; named = is; child = at })
  some_child m g (to_group x k h is at rest) =
      (of_group h, record { number = k; named = is; child = at })

  -- a group leads to what its migrator leads to
  pub leads_on : (m g : ℕ) → Leads (machine_of w) m g → (z : Child) → LooksAfter w g z →
      LeadsOn m z
  leads_on m g (to_cpu x k is at on) z after =
      subst (LeadsOn m)
      (one_child g (of_cpu m) z (record { number = k; named = is; child = at }) after) (on, refl)
  leads_on m g (to_group x k h is at rest) z after =
      subst (LeadsOn m)
      (one_child g (of_group h) z (record { number = k; named = is; child = at }) after) rest

  pub leads_by : (m g : ℕ) (z : Child) → LooksAfter w g z → LeadsOn m z → Leads (machine_of w) m g
  leads_by m g (sorts.Cpu d) after (on, same) =
      subst (λ n. Leads (machine_of w) n g) (sym same)
      (to_cpu g after.number after.named after.child on)
  leads_by m g (sorts.Group h) after rest =
      to_group g after.number h.0 after.named after.child rest

  pub some_by : (o : Option CpuId) (g h : ℕ) → LooksAfter w g (of_group h) →
      IfSome o (λ m. Leads (machine_of w) m.0 h) → IfSome o (λ m. Leads (machine_of w) m.0 g)
  some_by None g h after leads = tt
  some_by (Some m) g h after leads = leads_by m.0 g (of_group h) after leads
