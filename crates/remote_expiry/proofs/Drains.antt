-- for crates above: what a whole drain is made of
use Rattle.std.proofs.Common.{◌≡◌, ℕ, List, [], ◌∷◌, ◌++◌, Contains, sym, subst}
use Rattle.std.proofs.lemmas.List.Elements.{Contains-append_left}
use Rattle.std.specs.List.{AllByRecursion}
use Rattle.tm_base.specs.declared.names.Class.{Class}
use Rattle.wheel_core.specs.declared.item.Item.{Item}
use Rattle.cpu_bases.specs.declared.entry.Act.TheVariants.{Armed}
use Rattle.walk_inactive.specs.shared_rule.declared.parts.Receipt.{Receipt}
use Rattle.shared_acts.specs.Interrupts.{HasTicked}
use Rattle.shared_acts.specs.Pieces.{HandsOutItems}
use Rattle.shared_acts.proofs.OwnDrains.{tick_of}
use Rattle.remote_expiry.specs.Order.{AreArmings, IsWholeDrain}

-- each receipt is that of an arming, or is of the base
module _ (home runner : ℕ) (class : Class) (P : Receipt → Type 0)
    (armed : (r : Receipt) → r.entry.act ≡ Armed → P r)
    (of_base : (r : Receipt) → r.cpu.0 ≡ home → r.entry.class ≡ class → P r) where
  each_arming : (rs : List Receipt) → AreArmings rs → AllByRecursion P rs
  each_arming [] h = tt
  each_arming (r ∷ rs) h = (armed r h.0, each_arming rs h.1)

  each_out : (items : List Item) (outs rs : List Receipt)
      → HandsOutItems home runner class items outs → AreArmings rs → AllByRecursion P (outs ++ rs)
  unfolding HandsOutItems
  each_out [] outs rs h more =
      subst (λ (l : List Receipt). AllByRecursion P (l ++ rs)) (sym h.1)
      (of_base h.0 h.2.cpu h.2.of_class, each_arming rs more)
  each_out (i ∷ is) [] rs h more = absurd h
  each_out (i ∷ is) (r ∷ outs) rs h more =
      (of_base r h.0.cpu h.0.of_class, each_out is outs rs h.1 more)

  pub drained_each : (rs : List Receipt) → IsWholeDrain home runner class rs → AllByRecursion P rs
  drained_each rs h =
      subst (AllByRecursion P) (sym h.receipts_are) (each_out h.items h.outs h.armings h.hands h.armed)

-- and that the base was drained is among them
pub drained_ticked : (cpu : ℕ) (class : Class) (rs : List Receipt)
    → IsWholeDrain cpu cpu class rs → HasTicked cpu class rs
drained_ticked cpu class rs h =
    let t = tick_of cpu cpu class h.items h.outs h.hands in
    record {
      receipt = t.0;
      has =
          subst (λ (l : List Receipt). Contains l t.0) (sym h.receipts_are)
          (Contains-append_left h.outs h.armings t.0 t.1);
      home = t.2.cpu;
      by = t.2.by;
      act = t.2.act;
      of_class = t.2.of_class;
    }
