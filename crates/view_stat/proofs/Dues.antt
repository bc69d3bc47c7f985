-- a base hands something out exactly where its first timer is due
use Rattle.std.proofs.Common.{◌≡◌, ℕ, zero, suc, List, [], ◌∷◌, Bool, true, false, Option}
use Rattle.std.proofs.Common.{Some, None, length, refl, arith}
use Rattle.std.specs.Prelude.{if◌then◌else◌, nat_le}
use Rattle.std.specs.Option.{option_map_or}
use Rattle.std.proofs.lemmas.Option.{none-some}
use Rattle.tm_base.specs.declared.names.Class.{Class}
use Rattle.wheel_core.specs.declared.item.Item.{Item}
use Rattle.wheel_core.specs.PlainBase.{PlainBase, first_out, least}
use Rattle.wheel_core.proofs.HandOut.{no_bucket}
use Rattle.wheel_core.proofs.Leasts.{least_attained}
use Rattle.cpu_bases.specs.CpuBases.{base_of}
use Rattle.play_rules.specs.Timers.{due_items, item_then}
use Rattle.core_world.specs.World.{World, cpu_of}
use Rattle.core_machine.specs.step_play.Rules.StepRules.{items_due}
use Rattle.view_stat.specs.Stats.{is_due}
use Rattle.view_stat.specs.Watched.{hands_out}

no_first : (items : List Item) (wheel : ℕ) → least items ≡ Some wheel → 0 ≡ length items → ⊥
no_first [] wheel is few = none-some wheel is
no_first (item ∷ items) wheel is few = omega (arith, few)

module _ (now : ℕ) (base : PlainBase) where
  first_is_out : (wheel : ℕ) → least base.items ≡ Some wheel → (o : Option Item)
      → first_out wheel base.items ≡ o → (rest : List Item) → true ≡ hands_out (item_then o rest)
  first_is_out wheel is None none rest =
      absurd (least_attained base.items wheel is (no_bucket wheel base.items none))
  first_is_out wheel is (Some item) there rest = refl

  by_time : (due : Bool) (wheel : ℕ) → least base.items ≡ Some wheel → (rest : List Item)
      → due ≡ hands_out (item_then (if due then first_out wheel base.items else None) rest)
  by_time true wheel is rest = first_is_out wheel is (first_out wheel base.items) refl rest
  by_time false wheel is rest = refl

  by_first : (n : ℕ) (o : Option ℕ) → least base.items ≡ o → n ≡ length base.items
      → option_map_or (λ first. nat_le first now) o false ≡ hands_out (due_items n now base)
  unfolding due_items
  by_first zero None is few = refl
  by_first zero (Some wheel) is few = absurd (no_first base.items wheel is few)
  by_first (suc n) None is few = rw is refl
  by_first (suc n) (Some wheel) is few =
      let due = by_time (nat_le wheel now) wheel is in rw is (due _)

pub due_hands_out : (w : World) (c : ℕ) (class : Class) → is_due w c class ≡ hands_out (items_due w c class)
due_hands_out w c class =
    let base = base_of class (cpu_of w c).bases in
    by_first w.clock base (length base.items) (least base.items) refl refl
